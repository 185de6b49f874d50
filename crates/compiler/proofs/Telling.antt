-- Places aside, equal code and equal tables are the same thing.
use Rattle.std.proofs.Common.{◌≡◌, ℕ, ◌+◌, List, [], ◌∷◌, ◌++◌, Result, sym, refl, ap, ◌∙◌}
use Rattle.faults.specs.declared.fault.Fault.{Fault}
use Rattle.instructions.specs.declared.instruction.Instruction.{Instruction}
use Rattle.tables.specs.declared.row.Row.{Row}
use Rattle.tables.specs.Trees.{Sum, number, name, work, Condition, truth, compare, negate, connect, Command, set, when, choose, while, Sheet, only, joint}
use Rattle.tables.specs.Rows.{row, sum_rows, condition_rows, command_rows, sheet_rows, sum_size, condition_size, command_size, sheet_size}
use Rattle.tables.proofs.OneTree.{one_tree}
use Rattle.folds.specs.CodeLengths.{sum_length, condition_length, command_length, sheet_length}
use Rattle.compiler.specs.Code.{sum_code, condition_code, command_code, sheet_code, instructions_of}
use Rattle.compiler.specs.Bare.{bare_sum, bare_condition, bare_command, bare_sheet, bare_rows}
use Rattle.compiler.specs.Back.{sheet_back}
use Rattle.compiler.specs.Laws.{LaysCode, OneCode}
use Rattle.compiler.proofs.Overs.{instructions-append}
use Rattle.compiler.proofs.Returning.{sheet-back}

-- sizes and lengths do not hang on places

size-sum : (t : Sum) → sum_size (bare_sum t) ≡ sum_size t
size-sum (number q v) = refl
size-sum (name q p) = refl
size-sum (work q o l r) = rw (size-sum l, size-sum r)

size-condition : (t : Condition) → condition_size (bare_condition t) ≡ condition_size t
size-condition (truth q b) = refl
size-condition (compare q k l r) = rw (size-sum l, size-sum r)
size-condition (negate q c) = rw (size-condition c)
size-condition (connect q j c d) = rw (size-condition c, size-condition d)

mutual
  size-command : (t : Command) → command_size (bare_command t) ≡ command_size t
  size-command (set q p e) = rw (size-sum e)
  size-command (when q c t) = rw (size-condition c, size-sheet t)
  size-command (choose q c t u) = rw (size-condition c, size-sheet t, size-sheet u)
  size-command (while q c t) = rw (size-condition c, size-sheet t)

  size-sheet : (t : Sheet) → sheet_size (bare_sheet t) ≡ sheet_size t
  size-sheet (only c) = size-command c
  size-sheet (joint q c t) = rw (size-command c, size-sheet t)

length-sum : (t : Sum) → sum_length (bare_sum t) ≡ sum_length t
length-sum (number q v) = refl
length-sum (name q p) = refl
length-sum (work q o l r) = rw (length-sum l, length-sum r)

length-condition : (t : Condition) → condition_length (bare_condition t) ≡ condition_length t
length-condition (truth q b) = refl
length-condition (compare q k l r) = rw (length-sum l, length-sum r)
length-condition (negate q c) = rw (length-condition c)
length-condition (connect q j c d) = rw (length-condition c, length-condition d)

mutual
  length-command : (t : Command) → command_length (bare_command t) ≡ command_length t
  length-command (set q p e) = rw (length-sum e)
  length-command (when q c t) = rw (length-condition c, length-sheet t)
  length-command (choose q c t u) = rw (length-condition c, length-sheet t, length-sheet u)
  length-command (while q c t) = rw (length-condition c, length-sheet t)

  length-sheet : (t : Sheet) → sheet_length (bare_sheet t) ≡ sheet_length t
  length-sheet (only c) = length-command c
  length-sheet (joint q c t) = rw (length-command c, length-sheet t)

-- the rows of a bare sheet are bare

rows_append : (xs ys : List Row) → bare_rows (xs ++ ys) ≡ bare_rows xs ++ bare_rows ys
rows_append [] ys = refl
rows_append (x ∷ xs) ys = ap (λ (l : List Row). row x.kind x.value x.size 0 ∷ l) (rows_append xs ys)

rows-sum : (t : Sum) → sum_rows (bare_sum t) ≡ bare_rows (sum_rows t)
rows-sum (number q v) = refl
rows-sum (name q p) = refl
rows-sum (work q o l r) = simp (rows_append, size-sum l, size-sum r, rows-sum l, rows-sum r)

rows-condition : (t : Condition) → condition_rows (bare_condition t) ≡ bare_rows (condition_rows t)
rows-condition (truth q b) = refl
rows-condition (compare q k l r) = simp (rows_append, size-sum l, size-sum r, rows-sum l, rows-sum r)
rows-condition (negate q c) = simp (rows_append, size-condition c, rows-condition c)
rows-condition (connect q j c d) = simp (rows_append, size-condition c, size-condition d, rows-condition c, rows-condition d)

mutual
  rows-command : (t : Command) → command_rows (bare_command t) ≡ bare_rows (command_rows t)
  rows-command (set q p e) = simp (rows_append, size-sum e, rows-sum e)
  rows-command (when q c t) = simp (rows_append, size-condition c, size-sheet t, rows-condition c, rows-sheet t)
  rows-command (choose q c t u) =
      simp (rows_append, size-condition c, size-sheet t, size-sheet u, rows-condition c, rows-sheet t, rows-sheet u)
  rows-command (while q c t) = simp (rows_append, size-condition c, size-sheet t, rows-condition c, rows-sheet t)

  pub rows-sheet : (t : Sheet) → sheet_rows (bare_sheet t) ≡ bare_rows (sheet_rows t)
  rows-sheet (only c) = rows-command c
  rows-sheet (joint q c t) = simp (rows_append, size-command c, size-sheet t, rows-command c, rows-sheet t)

-- the instructions of a sheet are those of the bare sheet

code_sum : (t : Sum) → instructions_of (sum_code (bare_sum t)) ≡ instructions_of (sum_code t)
code_sum (number q v) = refl
code_sum (name q p) = refl
code_sum (work q o l r) = simp (instructions-append, code_sum l, code_sum r)

code-condition : (t : Condition) → instructions_of (condition_code (bare_condition t)) ≡ instructions_of (condition_code t)
code-condition (truth q b) = refl
code-condition (compare q k l r) = simp (instructions-append, code_sum l, code_sum r)
code-condition (negate q c) = simp (instructions-append, code-condition c)
code-condition (connect q j c d) = simp (instructions-append, code-condition c, code-condition d)

mutual
  code-command : (a : ℕ) (t : Command) → instructions_of (command_code a (bare_command t)) ≡ instructions_of (command_code a t)
  code-command a (set q p e) = simp (instructions-append, code_sum e)
  code-command a (when q c t) =
      simp (instructions-append, code-condition c, length-condition c, length-sheet t, code-sheet (a + condition_length c + 1) t)
  code-command a (choose q c t u) =
      simp (instructions-append, code-condition c, length-condition c, length-sheet t, length-sheet u, code-sheet (a + condition_length c + 1) t, code-sheet (a + condition_length c + 1 + sheet_length t + 1) u)
  code-command a (while q c t) =
      simp (instructions-append, code-condition c, length-condition c, length-sheet t, code-sheet (a + condition_length c + 1) t)

  code-sheet : (a : ℕ) (t : Sheet) → instructions_of (sheet_code a (bare_sheet t)) ≡ instructions_of (sheet_code a t)
  code-sheet a (only c) = code-command a c
  code-sheet a (joint q c t) = simp (instructions-append, length-command c, code-command a c, code-sheet (a + command_length c) t)

-- equal tables, equal sheets

bare-same : (t u : Sheet) → bare_rows (sheet_rows t) ≡ bare_rows (sheet_rows u) → bare_sheet t ≡ bare_sheet u
bare-same t u e = one_tree (bare_rows (sheet_rows u)) (bare_sheet t) (bare_sheet u) (rows-sheet t ∙ e) (rows-sheet u)

pub one_code_lem : (rows : List Row) (r : Result ℕ Fault) (instructions : List Instruction) (places : List ℕ) (t : Sheet) → sheet_rows t ≡ rows → LaysCode rows r instructions places → OneCode rows r instructions
one_code_lem rows r instructions places t listed laid n is =
    let L = laid t n listed is in
    let code = L.listed in
    record {
      back = λ u f. ap sheet_back (laid u n f is).listed ∙ sheet-back u;
      only = λ u f.
          let same : bare_sheet u ≡ bare_sheet t = sym (sheet-back u) ∙ ap sheet_back (f ∙ code) ∙ sheet-back t in
          sym (rows-sheet u) ∙ ap sheet_rows same ∙ rows-sheet t ∙ ap bare_rows listed;
      each = λ u f.
          let same = bare-same u t (f ∙ sym (ap bare_rows listed)) in
          sym (code-sheet 0 u) ∙ ap (λ (w : Sheet). instructions_of (sheet_code 0 w)) same ∙ code-sheet 0 t ∙ sym code;
    }
