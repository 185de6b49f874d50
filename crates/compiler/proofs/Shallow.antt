-- A sheet is at most 64 deep exactly if none of its rows is too deep.
use Rattle.std.proofs.Common.{◌≡◌, ℕ, ◌≤◌, List, [], ◌∷◌, ◌++◌, None, refl, arith}
use Rattle.std.proofs.lemmas.Bool.Decides.{nat_tests}
use Rattle.tables.specs.Trees.{Sum, number, name, work, Condition, truth, compare, negate, connect, Command, set, when, choose, while, Sheet, only, joint}
use Rattle.folds.specs.StackDepths.{sum_depth, condition_depth, command_depth, sheet_depth}
use Rattle.compiler.specs.Depths.{Depth, first_deep, sum_depths, condition_depths, command_depths, sheet_depths}
use Rattle.compiler.proofs.Measured.{deep-append}

-- the last row's depth is the tree's

ending : (xs ys : List Depth) → first_deep (xs ++ ys) ≡ None → first_deep ys ≡ None
ending xs ys e = grind (arith, deep-append xs ys)

last_row : (d q : ℕ) → first_deep ((d, q) ∷ []) ≡ None → d ≤ 64
last_row d q e = grind (arith, nat_tests)

shallow-command : (t : Command) → first_deep (command_depths t) ≡ None → command_depth t ≤ 64
shallow-command (set q p t) e = last_row _ q (ending (sum_depths t) _ e)
shallow-command (when q c t) e = last_row _ q (ending (sheet_depths t) _ (ending (condition_depths c) _ e))
shallow-command (choose q c t u) e = last_row _ q (ending (sheet_depths u) _ (ending (sheet_depths t) _ (ending (condition_depths c) _ e)))
shallow-command (while q c t) e = last_row _ q (ending (sheet_depths t) _ (ending (condition_depths c) _ e))

pub shallow-sheet : (t : Sheet) → first_deep (sheet_depths t) ≡ None → sheet_depth t ≤ 64
shallow-sheet (only c) e = shallow-command c e
shallow-sheet (joint q c t) e = last_row _ q (ending (sheet_depths t) _ (ending (command_depths c) _ e))

-- and no row is deeper than the whole

then : (xs ys : List Depth) → first_deep xs ≡ None → first_deep ys ≡ None → first_deep (xs ++ ys) ≡ None
then xs ys e f = rw (deep-append xs ys, e) f

row : (d q : ℕ) → d ≤ 64 → first_deep ((d, q) ∷ []) ≡ None
row d q l = grind (arith, nat_tests)

none-sum : (t : Sum) → sum_depth t ≤ 64 → first_deep (sum_depths t) ≡ None
none-sum (number q v) l = refl
none-sum (name q p) l = refl
none-sum (work q o t u) l = then (sum_depths t) _ (none-sum t (omega arith)) (then (sum_depths u) _ (none-sum u (omega arith)) (row _ q l))

none-condition : (t : Condition) → condition_depth t ≤ 64 → first_deep (condition_depths t) ≡ None
none-condition (truth q b) l = refl
none-condition (compare q k t u) l = then (sum_depths t) _ (none-sum t (omega arith)) (then (sum_depths u) _ (none-sum u (omega arith)) (row _ q l))
none-condition (negate q c) l = then (condition_depths c) _ (none-condition c l) (row _ q l)
none-condition (connect q j c d) l =
    then (condition_depths c) _ (none-condition c (omega arith)) (then (condition_depths d) _ (none-condition d (omega arith)) (row _ q l))

mutual
  none-command : (t : Command) → command_depth t ≤ 64 → first_deep (command_depths t) ≡ None
  none-command (set q p t) l = then (sum_depths t) _ (none-sum t l) (row _ q l)
  none-command (when q c t) l = then (condition_depths c) _ (none-condition c (omega arith)) (then (sheet_depths t) _ (none-sheet t (omega arith)) (row _ q l))
  none-command (choose q c t u) l =
      then (condition_depths c) _ (none-condition c (omega arith)) (then (sheet_depths t) _ (none-sheet t (omega arith)) (then (sheet_depths u) _ (none-sheet u (omega arith)) (row _ q l)))
  none-command (while q c t) l = then (condition_depths c) _ (none-condition c (omega arith)) (then (sheet_depths t) _ (none-sheet t (omega arith)) (row _ q l))

  pub none-sheet : (t : Sheet) → sheet_depth t ≤ 64 → first_deep (sheet_depths t) ≡ None
  none-sheet (only c) l = none-command c l
  none-sheet (joint q c t) l = then (command_depths c) _ (none-command c (omega arith)) (then (sheet_depths t) _ (none-sheet t (omega arith)) (row _ q l))
