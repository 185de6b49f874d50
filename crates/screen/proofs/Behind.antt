-- The tree behind the rows of a sheet is that sheet.
use Rattle.std.proofs.Common.{◌≡◌, true, false, List, [], Some, Option, sym, refl, ap, ◌∙◌}
use Rattle.std.proofs.lemmas.List.{append-nil}
use Rattle.arith.specs.declared.operator.Operator.TheVariants.{Add, Sub, Mul, Div}
use Rattle.arith.specs.declared.comparison.Comparison.{Comparison}
use Rattle.tables.specs.declared.row.Row.{Row}
use Rattle.tables.specs.Trees.{Sum, number, name, work, both, either, Condition, truth, compare, negate, connect, Command, set, when, choose, while, Sheet, only, joint}
use Rattle.tables.specs.Rows.{sheet_rows}
use Rattle.tables.specs.Values.{sum_value, condition_value, command_value, sheet_value}
use Rattle.tables.specs.Passes.{passes}
use Rattle.tables.proofs.Passing.{pass-sheet}
use Rattle.screen.proofs.Conditions.{names}
use Rattle.screen.specs.Behind.{Node, of_sum, of_condition, of_sheet, sheet_in, comparison_in, sum_nodes, rest_nodes, left, tree_of}

sum-node : (t : Sum) → sum_value sum_nodes t ≡ of_sum t
sum-node (number q v) = refl
sum-node (name q p) = refl
sum-node (work q Add l r) = rw (sum-node l, sum-node r)
sum-node (work q Sub l r) = rw (sum-node l, sum-node r)
sum-node (work q Mul l r) = rw (sum-node l, sum-node r)
sum-node (work q Div l r) = rw (sum-node l, sum-node r)

condition-node : (t : Condition) → condition_value sum_nodes rest_nodes t ≡ of_condition t
condition-node (truth q true) = refl
condition-node (truth q false) = refl
condition-node (compare q k l r) = rw (sum-node l, sum-node r) (ap (λ (x : Option Comparison). of_condition (compare q (comparison_in x) l r)) (names k))
condition-node (negate q c) = rw (condition-node c)
condition-node (connect q both c d) = rw (condition-node c, condition-node d)
condition-node (connect q either c d) = rw (condition-node c, condition-node d)

mutual
  command-node : (t : Command) → command_value sum_nodes rest_nodes t ≡ of_sheet (only t)
  command-node (set q p e) = rw (sum-node e)
  command-node (when q c t) = rw (condition-node c, sheet-node t)
  command-node (choose q c t u) = rw (condition-node c, sheet-node t, sheet-node u)
  command-node (while q c t) = rw (condition-node c, sheet-node t)

  sheet-node : (t : Sheet) → sheet_value sum_nodes rest_nodes t ≡ of_sheet t
  sheet-node (only c) = command-node c
  sheet-node (joint q c t) = rw (command-node c, sheet-node t)

pub tree-of : (t : Sheet) → tree_of (sheet_rows t) ≡ Some t
tree-of t =
    ap (λ (rows : List Row). left (passes sum_nodes rest_nodes rows [])) (sym (append-nil (sheet_rows t)))
    ∙ ap left (pass-sheet sum_nodes rest_nodes t [] [])
    ∙ ap (λ (n : Node). Some (sheet_in n)) (sheet-node t)
