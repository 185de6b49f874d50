-- Every sheet comes back from its code.
use Rattle.std.proofs.Common.{◌≡◌, ℕ, ◌+◌, ◌<◌, ◌≤◌, Bool, cond, List, [], ◌∷◌, ◌++◌, Some, None, Option, sym, refl, ap, ◌∙◌, arith}
use Rattle.std.proofs.lemmas.Bool.{eq-eqb, ne_eqb, lt-ltb, le-ltb}
use Rattle.arith.specs.declared.operator.Operator.{Operator}
use Rattle.instructions.specs.declared.instruction.Instruction.TheVariants.{Save, Pop, Cmp, Inv, JumpF, Jump}
use Rattle.tables.specs.Trees.{Sum, number, name, work, Connective, Condition, truth, compare, negate, connect, Command, set, when, choose, while, Sheet, only, joint}
use Rattle.tables.specs.Rows.{bit}
use Rattle.folds.specs.CodeLengths.{sum_length, condition_length, command_length, sheet_length}
use Rattle.compiler.specs.Code.{Line, operator_instruction, connective_instruction, sum_code, condition_code, command_code, sheet_code, instructions_of}
use Rattle.compiler.specs.Bare.{bare_sum, bare_condition, bare_command, bare_sheet}
use Rattle.compiler.specs.Back.{Value, plain, of_sum, of_condition, value_sum, value_condition, Body, Reading, reading, before, gathered, closed_by, settle, settled, read_one, read_all, sheet_back}

-- reading lines

abbrev reads : List Line → Reading → Reading
reads xs s = read_all (instructions_of xs) s

reads_then : (xs ys : List Line) (s : Reading) → reads (xs ++ ys) s ≡ reads ys (reads xs s)
reads_then [] ys s = refl
reads_then (x ∷ xs) ys s = reads_then xs ys (read_one x.0 s)

-- the value that a sum or a condition leaves

abbrev sum_left : Sum → Value
sum_left (number q v) = plain v
sum_left (name q p) = of_sum (name 0 p)
sum_left (work q o l r) = of_sum (work 0 o (bare_sum l) (bare_sum r))

abbrev condition_left : Condition → Value
condition_left (truth q b) = plain (bit b)
condition_left (compare q k l r) = of_condition (compare 0 k (bare_sum l) (bare_sum r))
condition_left (negate q c) = of_condition (negate 0 (bare_condition c))
condition_left (connect q j c d) = of_condition (connect 0 j (bare_condition c) (bare_condition d))

sum_left_lem : (e : Sum) → value_sum (sum_left e) ≡ bare_sum e
sum_left_lem e = grind arith

condition-left : (c : Condition) → value_condition (condition_left c) ≡ bare_condition c
condition-left c = grind arith

operator-read : (o : Operator) (a : ℕ) (x y : Value) (vs : List Value) (cs : List Command) (bs : List Body) → read_one (operator_instruction o) (reading a (y ∷ (x ∷ vs)) cs bs) ≡ reading (a + 1) (of_sum (work 0 o (value_sum x) (value_sum y)) ∷ vs) cs bs
operator-read o a x y vs cs bs = grind arith

connective-read : (j : Connective) (a : ℕ) (x y : Value) (vs : List Value) (cs : List Command) (bs : List Body) → read_one (connective_instruction j) (reading a (y ∷ (x ∷ vs)) cs bs) ≡ reading (a + 1) (of_condition (connect 0 j (value_condition x) (value_condition y)) ∷ vs) cs bs
connective-read j a x y vs cs bs = grind arith

module _ (cs : List Command) (bs : List Body) where
  sum-read : (e : Sum) (a b : ℕ) (vs : List Value) → b ≡ a + sum_length e → reads (sum_code e) (reading a vs cs bs) ≡ reading b (sum_left e ∷ vs) cs bs
  sum-read (number q v) a b vs f = ap (λ (n : ℕ). reading n (plain v ∷ vs) cs bs) (sym f)
  sum-read (name q p) a b vs f = ap (λ (n : ℕ). reading n (of_sum (name 0 p) ∷ vs) cs bs) (sym f)
  sum-read (work q o l r) a b vs f =
      let g : a + sum_length l + sum_length r + 1 ≡ b = omega arith in
      rw (
        reads_then (sum_code l) (sum_code r ++ (operator_instruction o, q) ∷ []) (reading a vs cs bs),
        sum-read l a (a + sum_length l) vs refl,
        reads_then (sum_code r) ((operator_instruction o, q) ∷ []) (reading (a + sum_length l) (sum_left l ∷ vs) cs bs),
        sum-read r (a + sum_length l) (a + sum_length l + sum_length r) (sum_left l ∷ vs) refl,
        operator-read o (a + sum_length l + sum_length r) (sum_left l) (sum_left r) vs cs bs,
        g,
        sum_left_lem l,
        sum_left_lem r,
      )

  condition-read : (c : Condition) (a b : ℕ) (vs : List Value) → b ≡ a + condition_length c → reads (condition_code c) (reading a vs cs bs) ≡ reading b (condition_left c ∷ vs) cs bs
  condition-read (truth q v) a b vs f = ap (λ (n : ℕ). reading n (plain (bit v) ∷ vs) cs bs) (sym f)
  condition-read (compare q k l r) a b vs f =
      let g : a + sum_length l + sum_length r + 1 ≡ b = omega arith in
      rw (
        reads_then (sum_code l) (sum_code r ++ (Cmp k, q) ∷ []) (reading a vs cs bs),
        sum-read l a (a + sum_length l) vs refl,
        reads_then (sum_code r) ((Cmp k, q) ∷ []) (reading (a + sum_length l) (sum_left l ∷ vs) cs bs),
        sum-read r (a + sum_length l) (a + sum_length l + sum_length r) (sum_left l ∷ vs) refl,
        g,
        sum_left_lem l,
        sum_left_lem r,
      )
  condition-read (negate q c) a b vs f =
      let g : a + condition_length c + 1 ≡ b = omega arith in
      rw (reads_then (condition_code c) ((Inv, q) ∷ []) (reading a vs cs bs), condition-read c a (a + condition_length c) vs refl, g, condition-left c)
  condition-read (connect q j c d) a b vs f =
      let g : a + condition_length c + condition_length d + 1 ≡ b = omega arith in
      rw (
        reads_then (condition_code c) (condition_code d ++ (connective_instruction j, q) ∷ []) (reading a vs cs bs),
        condition-read c a (a + condition_length c) vs refl,
        reads_then (condition_code d) ((connective_instruction j, q) ∷ []) (reading (a + condition_length c) (condition_left c ∷ vs) cs bs),
        condition-read d (a + condition_length c) (a + condition_length c + condition_length d) (condition_left c ∷ vs) refl,
        connective-read j (a + condition_length c + condition_length d) (condition_left c) (condition_left d) vs cs bs,
        g,
        condition-left c,
        condition-left d,
      )

-- the commands of a sheet, newest first, after others

abbrev commands_of : Sheet → List Command → List Command
commands_of (only c) cs = bare_command c ∷ cs
commands_of (joint q c t) cs = commands_of t (bare_command c ∷ cs)

gathered-after : (t : Sheet) (cs : List Command) → gathered (commands_of t cs) ≡ before cs (bare_sheet t)
gathered-after (only c) cs = refl
gathered-after (joint q c t) cs = gathered-after t (bare_command c ∷ cs)

gathered-sheet : (t : Sheet) → gathered (commands_of t []) ≡ bare_sheet t
gathered-sheet t = gathered-after t []

-- the body opened last ends at n or later
abbrev Until : ℕ → List Body → Type 0
Until n [] = Unit {0}
Until n (b ∷ bs) = n ≤ b.end

settle-none : (m n : ℕ) (cs : List Command) (bs : List Body) → Until n bs → m < n → settle m cs bs ≡ (cs, bs)
settle-none m n cs [] h l = refl
settle-none m n cs (b ∷ bs) h l =
    ap (λ (x : Bool). cond x (settle m (closed_by b.first b.test (gathered cs) ∷ b.before) bs) (cs, b ∷ bs)) (ne_eqb b.end m (λ (e : b.end ≡ m). omega arith))

settled-none : (m n : ℕ) (vs : List Value) (cs : List Command) (bs : List Body) → Until n bs → m < n → settled m vs cs bs ≡ reading m vs cs bs
settled-none m n vs cs bs h l = ap (λ (x : List Command × List Body). reading m vs x.0 x.1) (settle-none m n cs bs h l)

settle-closed : (n : ℕ) (cs : List Command) (b : Body) (bs : List Body) → b.end ≡ n → settle n cs (b ∷ bs) ≡ settle n (closed_by b.first b.test (gathered cs) ∷ b.before) bs
settle-closed n cs b bs e =
    ap (λ (x : Bool). cond x (settle n (closed_by b.first b.test (gathered cs) ∷ b.before) bs) (cs, b ∷ bs)) (eq-eqb b.end n e)

settled-closed : (n : ℕ) (vs : List Value) (cs : List Command) (b : Body) (bs : List Body) → b.end ≡ n → settled n vs cs (b ∷ bs) ≡ settled n vs (closed_by b.first b.test (gathered cs) ∷ b.before) bs
settled-closed n vs cs b bs e = ap (λ (x : List Command × List Body). reading n vs x.0 x.1) (settle-closed n cs b bs e)

abbrev body : Condition → Option Sheet → ℕ → List Command → Body
body c o n cs = record { test = c; first = o; end = n; before = cs }

some-length : (t : Sheet) → 1 ≤ sheet_length t
some-length (only (set q p e)) = omega arith
some-length (only (when q c t)) = omega arith
some-length (only (choose q c t u)) = omega arith
some-length (only (while q c t)) = omega arith
some-length (joint q c t) = omega (arith, some-length t)

-- a backward jump, and a forward one
back_read : (d a : ℕ) (vs : List Value) (cs : List Command) (b : Body) (bs : List Body) → d < a → read_one (Jump d) (reading a vs cs (b ∷ bs)) ≡ settled (a + 1) vs (while 0 b.test (gathered cs) ∷ b.before) bs
back_read d a vs cs b bs l =
    ap (λ (x : Bool). cond x (settled (a + 1) vs (while 0 b.test (gathered cs) ∷ b.before) bs) (reading (a + 1) vs [] (body b.test (Some (gathered cs)) d b.before ∷ bs))) (lt-ltb d a l)

forward-read : (d a : ℕ) (vs : List Value) (cs : List Command) (b : Body) (bs : List Body) → a ≤ d → read_one (Jump d) (reading a vs cs (b ∷ bs)) ≡ reading (a + 1) vs [] (body b.test (Some (gathered cs)) d b.before ∷ bs)
forward-read d a vs cs b bs l =
    ap (λ (x : Bool). cond x (settled (a + 1) vs (while 0 b.test (gathered cs) ∷ b.before) bs) (reading (a + 1) vs [] (body b.test (Some (gathered cs)) d b.before ∷ bs))) (le-ltb d a l)

-- a condition and the jump behind it
test_read : (c : Condition) (q a m d : ℕ) (vs : List Value) (cs : List Command) (bs : List Body) (xs : List Line) → m ≡ a + condition_length c → reads (condition_code c ++ (JumpF d, q) ∷ xs) (reading a vs cs bs) ≡ reads xs (reading (m + 1) vs [] (body (bare_condition c) None d cs ∷ bs))
test_read c q a m d vs cs bs xs f =
    reads_then (condition_code c) _ (reading a vs cs bs)
    ∙ ap (reads ((JumpF d, q) ∷ xs)) (condition-read cs bs c a m vs f)
    ∙ ap (λ (t : Condition). reads xs (reading (m + 1) vs [] (body t None d cs ∷ bs))) (condition-left c)

mutual
  command-read : (c : Command) (a b : ℕ) (vs : List Value) (cs : List Command) (bs : List Body) → b ≡ a + command_length c → reads (command_code a c) (reading a vs cs bs) ≡ settled b vs (bare_command c ∷ cs) bs
  command-read (set q p e) a b vs cs bs f =
      let g : a + sum_length e + 1 + 1 ≡ b = omega arith in
      reads_then (sum_code e) _ (reading a vs cs bs)
      ∙ ap (reads ((Save p, q) ∷ (Pop, q) ∷ [])) (sum-read cs bs e a (a + sum_length e) vs refl)
      ∙ rw (g, sum_left_lem e)
  command-read (when q c t) a b vs cs bs f =
      let g : a + condition_length c + 1 + sheet_length t ≡ b = omega arith in
      let B = body (bare_condition c) None (a + condition_length c + 1 + sheet_length t) cs in
      test_read c q a (a + condition_length c) _ vs cs bs (sheet_code (a + condition_length c + 1) t) refl
      ∙ sheet-read t (a + condition_length c + 1) (a + condition_length c + 1 + sheet_length t) vs [] (B ∷ bs) refl (omega arith)
      ∙ settled-closed (a + condition_length c + 1 + sheet_length t) vs (commands_of t []) B bs refl
      ∙ rw (g, gathered-sheet t)
  command-read (choose q c t u) a b vs cs bs f =
      let g : a + condition_length c + 1 + sheet_length t + 1 + sheet_length u ≡ b = omega arith in
      let B = body (bare_condition c) None (a + condition_length c + 1 + sheet_length t + 1) cs in
      let D = body (bare_condition c) (Some (gathered (commands_of t []))) (a + condition_length c + 1 + sheet_length t + 1 + sheet_length u) cs in
      test_read c q a (a + condition_length c) _ vs cs bs _ refl
      ∙ reads_then (sheet_code (a + condition_length c + 1) t) _ (reading (a + condition_length c + 1) vs [] (B ∷ bs))
      ∙ ap (reads ((Jump (a + condition_length c + 1 + sheet_length t + 1 + sheet_length u), q) ∷ sheet_code (a + condition_length c + 1 + sheet_length t + 1) u)) (sheet-read t (a + condition_length c + 1) (a + condition_length c + 1 + sheet_length t) vs [] (B ∷ bs) refl (omega arith) ∙ settled-none (a + condition_length c + 1 + sheet_length t) (a + condition_length c + 1 + sheet_length t + 1) vs (commands_of t []) (B ∷ bs) (omega arith) (omega arith))
      ∙ ap (reads (sheet_code (a + condition_length c + 1 + sheet_length t + 1) u)) (forward-read (a + condition_length c + 1 + sheet_length t + 1 + sheet_length u) (a + condition_length c + 1 + sheet_length t) vs (commands_of t []) B bs (omega arith))
      ∙ sheet-read u (a + condition_length c + 1 + sheet_length t + 1) (a + condition_length c + 1 + sheet_length t + 1 + sheet_length u) vs [] (D ∷ bs) refl (omega arith)
      ∙ settled-closed (a + condition_length c + 1 + sheet_length t + 1 + sheet_length u) vs (commands_of u []) D bs refl
      ∙ rw (g, gathered-sheet t, gathered-sheet u)
  command-read (while q c t) a b vs cs bs f =
      let g : a + condition_length c + 1 + sheet_length t + 1 ≡ b = omega arith in
      let B = body (bare_condition c) None (a + condition_length c + 1 + sheet_length t + 1) cs in
      test_read c q a (a + condition_length c) _ vs cs bs _ refl
      ∙ reads_then (sheet_code (a + condition_length c + 1) t) _ (reading (a + condition_length c + 1) vs [] (B ∷ bs))
      ∙ ap (read_one (Jump a)) (sheet-read t (a + condition_length c + 1) (a + condition_length c + 1 + sheet_length t) vs [] (B ∷ bs) refl (omega arith) ∙ settled-none (a + condition_length c + 1 + sheet_length t) (a + condition_length c + 1 + sheet_length t + 1) vs (commands_of t []) (B ∷ bs) (omega arith) (omega arith))
      ∙ back_read a (a + condition_length c + 1 + sheet_length t) vs (commands_of t []) B bs (omega arith)
      ∙ rw (g, gathered-sheet t)

  sheet-read : (t : Sheet) (a b : ℕ) (vs : List Value) (cs : List Command) (bs : List Body) → b ≡ a + sheet_length t → Until b bs → reads (sheet_code a t) (reading a vs cs bs) ≡ settled b vs (commands_of t cs) bs
  sheet-read (only c) a b vs cs bs f h = command-read c a b vs cs bs f
  sheet-read (joint q c t) a b vs cs bs f h =
      let l = some-length t in
      reads_then (command_code a c) (sheet_code (a + command_length c) t) (reading a vs cs bs)
      ∙ ap (reads (sheet_code (a + command_length c) t)) (command-read c a (a + command_length c) vs cs bs refl ∙ settled-none (a + command_length c) b vs (bare_command c ∷ cs) bs h (omega arith))
      ∙ sheet-read t (a + command_length c) b vs (bare_command c ∷ cs) bs (omega arith) h

pub sheet-back : (t : Sheet) → sheet_back (instructions_of (sheet_code 0 t)) ≡ bare_sheet t
unfolding sheet_back
sheet-back t =
    ap (λ (s : Reading). gathered s.commands) (sheet-read t 0 (0 + sheet_length t) [] [] [] refl tt)
    ∙ gathered-sheet t
