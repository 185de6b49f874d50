-- The sheet put together from a table's rows is the sheet that has them.
use Rattle.std.proofs.Common.{◌≡◌, Bool, List, [], pos, sym, refl, ap, ◌∙◌, append-nil, arith}
use Rattle.arith.specs.declared.operator.Operator.TheVariants as operator
use Rattle.arith.specs.declared.comparison.Comparison.{Comparison}
use Rattle.arith.specs.Comparisons.{comparison_number}
use Rattle.tables.specs.declared.row.Row.{Row}
use Rattle.tables.specs.Trees.{Sum, number, name, work, both, either, Condition, truth, compare, negate, connect, Command, set, when, choose, while, Sheet, only, joint}
use Rattle.tables.specs.Rows.{bit, sheet_rows}
use Rattle.tables.specs.Values.{sum_value, condition_value, command_value, sheet_value}
use Rattle.tables.specs.Passes.{passes}
use Rattle.tables.proofs.Passing.{pass-sheet}
use Rattle.compiler.specs.Sheets.{sum, condition, command, as_sheet, truth_of, comparison_of, tree_sums, tree_rest, left_tree, sheet_of}

pub comparison-back : (k : Comparison) → comparison_of (pos (comparison_number k)) ≡ k
comparison-back k = grind arith

truth-back : (b : Bool) → truth_of (bit b) ≡ b
truth-back b = grind arith

sum_back : (t : Sum) → sum_value tree_sums t ≡ sum t
sum_back (number q v) = refl
sum_back (name q p) = refl
sum_back (work q operator.Add l r) = rw (sum_back l, sum_back r)
sum_back (work q operator.Sub l r) = rw (sum_back l, sum_back r)
sum_back (work q operator.Mul l r) = rw (sum_back l, sum_back r)
sum_back (work q operator.Div l r) = rw (sum_back l, sum_back r)

condition-back : (t : Condition) → condition_value tree_sums tree_rest t ≡ condition t
condition-back (truth q b) = ap (λ (x : Bool). condition (truth q x)) (truth-back b)
condition-back (compare q k l r) = rw (sum_back l, sum_back r) (ap (λ (x : Comparison). condition (compare q x l r)) (comparison-back k))
condition-back (negate q c) = rw (condition-back c)
condition-back (connect q both c d) = rw (condition-back c, condition-back d)
condition-back (connect q either c d) = rw (condition-back c, condition-back d)

mutual
  command-back : (t : Command) → command_value tree_sums tree_rest t ≡ command t
  command-back (set q p e) = rw (sum_back e)
  command-back (when q c t) = rw (condition-back c, sheet-back t)
  command-back (choose q c t u) = rw (condition-back c, sheet-back t, sheet-back u)
  command-back (while q c t) = rw (condition-back c, sheet-back t)

  sheet-back : (t : Sheet) → as_sheet (sheet_value tree_sums tree_rest t) ≡ t
  sheet-back (only c) = rw (command-back c)
  sheet-back (joint q c t) = rw (command-back c, sheet-back t)

pub sheet-of : (t : Sheet) (rows : List Row) → sheet_rows t ≡ rows → sheet_of rows ≡ t
unfolding sheet_of
sheet-of t rows e =
    ap (λ (l : List Row). left_tree (passes tree_sums tree_rest l [])) (sym e ∙ sym (append-nil (sheet_rows t)))
    ∙ ap left_tree (pass-sheet tree_sums tree_rest t [] [])
    ∙ sheet-back t
