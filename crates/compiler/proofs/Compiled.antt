-- What is laid of a table that is not refused is its sheet's code; and the laws of compiling follow from its value.
use Rattle.std.proofs.Common.{◌≡◌, ℕ, ◌≤◌, min, List, [], ◌∷◌, length, take, is_ok, Some, None, Ok, Err, Option, Result, sym, refl, ap, ◌∙◌, subst, zero-add, arith}
use Rattle.std.proofs.lemmas.Bool.{false≢true}
use Rattle.faults.specs.declared.fault.Fault.{Fault}
use Rattle.instructions.specs.declared.instruction.Instruction.{Instruction}
use Rattle.tables.specs.declared.row.Row.{Row}
use Rattle.tables.specs.Trees.{Sum, number, name, work, Condition, truth, compare, negate, connect, Command, set, when, choose, while, Sheet, only, joint}
use Rattle.tables.specs.Rows.{sheet_rows, sheet_size}
use Rattle.tables.specs.Tables.{SumOver, ConditionOver, CommandOver, SheetOver}
use Rattle.folds.specs.CodeLengths.{sheet_length}
use Rattle.compiler.specs.declared.measure.Measure.{Measure}
use Rattle.compiler.specs.declared.node.Node.{Node}
use Rattle.compiler.specs.Nodes.{StandsBefore}
use Rattle.compiler.specs.Code.{Line, sheet_code, instructions_of, places_of}
use Rattle.compiler.specs.Depths.{first_deep, sheet_depths}
use Rattle.compiler.specs.Sheets.{sheet_of}
use Rattle.compiler.specs.Lists.{over}
use Rattle.compiler.specs.Parts.{Room, LaidPart}
use Rattle.compiler.specs.Compiles.{refusal, Outcome, outcome, compiled}
use Rattle.compiler.specs.Laws.{LaysCode, Takes, OneCode}
use Rattle.compiler.proofs.Telling.{one_code_lem}
use Rattle.compiler.proofs.Overs.{length-instructions, length-places}
use Rattle.compiler.proofs.Parting.{long}
use Rattle.compiler.proofs.Laying.{room-at}
use Rattle.compiler.proofs.Sheeting.{sheet-of}
use Rattle.compiler.proofs.Measured.{sheet_measure}
use Rattle.compiler.proofs.Standing.{Standing, sheet-stands}
use Rattle.compiler.proofs.Refusing.{Passed, passed, not_refused}
use Rattle.compiler.proofs.Shallow.{shallow-sheet}

-- over fewer points, so over more

sum_more : (c d : ℕ) → c ≤ d → (t : Sum) → SumOver c t → SumOver d t
sum_more c d l (number q v) h = h
sum_more c d l (name q p) h = omega arith
sum_more c d l (work q o t u) h = (sum_more c d l t h.0, sum_more c d l u h.1)

condition-more : (c d : ℕ) → c ≤ d → (t : Condition) → ConditionOver c t → ConditionOver d t
condition-more c d l (truth q b) h = tt
condition-more c d l (compare q k t u) h = (sum_more c d l t h.0, sum_more c d l u h.1)
condition-more c d l (negate q t) h = condition-more c d l t h
condition-more c d l (connect q j t u) h = (condition-more c d l t h.0, condition-more c d l u h.1)

mutual
  command-more : (c d : ℕ) → c ≤ d → (t : Command) → CommandOver c t → CommandOver d t
  command-more c d l (set q p e) h = (omega (arith, h.0), sum_more c d l e h.1)
  command-more c d l (when q e t) h = (condition-more c d l e h.0, sheet-more c d l t h.1)
  command-more c d l (choose q e t u) h = (condition-more c d l e h.0, sheet-more c d l t h.1, sheet-more c d l u h.2)
  command-more c d l (while q e t) h = (condition-more c d l e h.0, sheet-more c d l t h.1)

  sheet-more : (c d : ℕ) → c ≤ d → (t : Sheet) → SheetOver c t → SheetOver d t
  sheet-more c d l (only e) h = command-more c d l e h
  sheet-more c d l (joint q e t) h = (command-more c d l e h.0, sheet-more c d l t h.1)

-- the code of a table's sheet is as long as the folds say

pub code-long : (t : Sheet) → SheetOver 64 t → length (sheet_code 0 t) ≡ sheet_length t
code-long t o =
    let S = sheet-stands t (sheet_rows t) refl in
    ap length (sym (S.code o 0)) ∙ long (sheet_rows t) (length (sheet_rows t)) S.part S.stands 0 ∙ ap (λ (m : Measure). m.length) S.measure

module _ (c : ℕ) (rows : List Row) (I : List Instruction) (P : List ℕ) (slots : ℕ) (min-is : slots ≡ min (length I) (length P)) (free : refusal c rows slots ≡ None) where
  pub pass : Passed c slots rows
  pass = passed c slots rows free

  pub whole : Standing rows (length rows) (sheet_size pass.table.tree) (sheet_measure pass.table.tree) (SheetOver 64 pass.table.tree) (λ a. sheet_code a pass.table.tree)
  whole = sheet-stands pass.table.tree rows pass.table.listed

  pub whole_room : Room rows (length rows) 0 (length I) (length P) whole.part
  whole_room =
      let n = ap (λ (m : Measure). m.length) whole.measure in
      let l = pass.slots-enough in
      record {
        stands = whole.stands;
        slots = omega (arith, n);
        places = omega (arith, n);
        short = omega (arith, n, pass.short);
      }

  pub whole-laid : {n : Node} {r : ℕ} {I1 : List Instruction} {P1 : List ℕ} → StandsBefore rows (length rows) n → LaidPart n.rows.now n.end 0 I P r I1 P1 → (Ok r, I1, P1) ≡ compiled c rows I P
  whole-laid {r = r} {I1 = I1} {P1 = P1} at laid =
      let t = pass.table.tree in
      let o = sheet-more c 64 pass.few t pass.table.over in
      let code = whole.code o 0 in
      let l = laid whole.part (room-at at whole_room) in
      let n : r ≡ sheet_length t = l.next ∙ zero-add (length (whole.part.code 0)) ∙ ap length code ∙ code-long t o in
      let i : I1 ≡ over (instructions_of (sheet_code 0 t)) I = l.instructions ∙ ap (λ (xs : List Line). over (instructions_of xs) I) code in
      let p : P1 ≡ over (places_of (sheet_code 0 t)) P = l.places ∙ ap (λ (xs : List Line). over (places_of xs) P) code in
      let free' : refusal c rows (min (length I) (length P)) ≡ None = ap (refusal c rows) (sym min-is) ∙ free in
      ap (λ (k : ℕ). (Ok k, I1, P1)) n
      ∙ ap (λ (xs : List Instruction). (Ok (sheet_length t), xs, P1)) i
      ∙ ap (λ (xs : List ℕ). (Ok (sheet_length t), over (instructions_of (sheet_code 0 t)) I, xs)) p
      ∙ ap (λ (u : Sheet). outcome None u I P) (sym pass.same)
      ∙ ap (λ (f : Option Fault). outcome f (sheet_of rows) I P) (sym free')

-- and stands in the lists that were lent
pub laid-there : {r : Result ℕ Fault} {I I1 : List Instruction} {P P1 : List ℕ} {o : Outcome} → I1 ≡ I → P1 ≡ P → (r, I, P) ≡ o → (r, I1, P1) ≡ o
laid-there {r} {I} {I1} {P} {P1} f g h = ap (λ (xs : List Instruction). (r, xs, P1)) f ∙ ap (λ (xs : List ℕ). (r, I, xs)) g ∙ h

-- the laws

take-over : {X : Type 0} (xs zs : List X) → length xs ≤ length zs → take (length xs) (over xs zs) ≡ xs
take-over [] zs l = refl
take-over (x ∷ xs) [] l = absurd (omega arith)
take-over (x ∷ xs) (z ∷ zs) l = ap (λ (ys : List _). x ∷ ys) (take-over xs zs (omega arith))

module _ (c : ℕ) (rows : List Row) (I : List Instruction) (P : List ℕ) (r : Result ℕ Fault) (I1 : List Instruction) (P1 : List ℕ) where
  lays-at : (o : Option Fault) → refusal c rows (min (length I) (length P)) ≡ o → (r, I1, P1) ≡ outcome o (sheet_of rows) I P → LaysCode rows r I1 P1
  lays-at (Some f) e g t n listed is =
      let h : r ≡ Err f = ap (λ (x : Outcome). x.0) g in
      cc
  lays-at None e g t n listed is =
      let S = passed c (min (length I) (length P)) rows e in
      let same : sheet_of rows ≡ t = sheet-of t rows listed in
      let tree : S.table.tree ≡ t = sym S.same ∙ same in
      let g' : (r, I1, P1) ≡ outcome None t I P = g ∙ ap (λ (u : Sheet). outcome None u I P) same in
      let r-is : r ≡ Ok (sheet_length t) = ap (λ (x : Outcome). x.0) g' in
      let i-is : I1 ≡ over (instructions_of (sheet_code 0 t)) I = ap (λ (x : Outcome). x.1) g' in
      let p-is : P1 ≡ over (places_of (sheet_code 0 t)) P = ap (λ (x : Outcome). x.2) g' in
      let o : SheetOver 64 t = subst (SheetOver 64) tree (sheet-more c 64 S.few S.table.tree S.table.over) in
      let long = code-long t o in
      let n-is : n ≡ sheet_length t = cc in
      let li = length-instructions (sheet_code 0 t) in
      let lp = length-places (sheet_code 0 t) in
      let room : sheet_length t ≤ min (length I) (length P) = subst (λ (u : Sheet). sheet_length u ≤ min (length I) (length P)) tree S.slots-enough in
      let ni : n ≡ length (instructions_of (sheet_code 0 t)) = n-is ∙ sym long ∙ sym li in
      let np : n ≡ length (places_of (sheet_code 0 t)) = n-is ∙ sym long ∙ sym lp in
      record {
        counted = n-is;
        long = long;
        listed =
            ap (take n) i-is
            ∙ ap (λ (k : ℕ). take k (over (instructions_of (sheet_code 0 t)) I)) ni
            ∙ take-over (instructions_of (sheet_code 0 t)) I (omega arith);
        placed =
            ap (take n) p-is
            ∙ ap (λ (k : ℕ). take k (over (places_of (sheet_code 0 t)) P)) np
            ∙ take-over (places_of (sheet_code 0 t)) P (omega arith);
        shallow = shallow-sheet t (subst (λ (u : Sheet). first_deep (sheet_depths u) ≡ None) tree S.shallow);
        short = omega (arith, subst (λ (u : Sheet). sheet_length u ≤ 1024) tree S.short);
      }

  pub lays : (r, I1, P1) ≡ compiled c rows I P → LaysCode rows r I1 P1
  lays g = lays-at (refusal c rows (min (length I) (length P))) refl g

  takes_at : (o : Option Fault) → refusal c rows (min (length I) (length P)) ≡ o → r ≡ (outcome o (sheet_of rows) I P).0 → Takes c rows (min (length I) (length P)) r
  takes_at (Some f) e g =
      record {
        only = λ h. absurd (false≢true (sym (ap is_ok g) ∙ h));
        each = λ k. let free = not_refused c (min (length I) (length P)) rows k in cc;
      }
  takes_at None e g =
      let S = passed c (min (length I) (length P)) rows e in
      record {
        only = λ h.
            record {
              table = S.table;
              few = S.few;
              shallow = shallow-sheet S.table.tree S.shallow;
              short = S.short;
              room = S.slots-enough;
            };
        each = λ k. ap is_ok g;
      }

  pub takes : (r, I1, P1) ≡ compiled c rows I P → Takes c rows (min (length I) (length P)) r
  takes g = takes_at (refusal c rows (min (length I) (length P))) refl (ap (λ (x : Outcome). x.0) g)

  tells_at : (o : Option Fault) → refusal c rows (min (length I) (length P)) ≡ o → (r, I1, P1) ≡ outcome o (sheet_of rows) I P → LaysCode rows r I1 P1 → OneCode rows r I1
  tells_at (Some f) e g l n is =
      let h : r ≡ Err f = ap (λ (x : Outcome). x.0) g in
      cc
  tells_at None e g l n is =
      let S = passed c (min (length I) (length P)) rows e in
      one_code_lem rows r I1 P1 S.table.tree S.table.listed l n is

  pub tells : (r, I1, P1) ≡ compiled c rows I P → OneCode rows r I1
  tells g = tells_at (refusal c rows (min (length I) (length P))) refl g (lays g)
