-- No two sheets have the same rows: a pass over rows in the algebra of trees themselves gives the tree back.
use Rattle.std.proofs.Common.{◌≡◌, zero, suc, Bool, true, false, List, [], ◌∷◌, ℤ, pos, negsuc, nat_abs, Some, None, Option, sym, refl, ap, ◌∙◌, append-nil}
use Rattle.arith.specs.declared.operator.Operator.TheVariants as operator
use Rattle.arith.specs.declared.comparison.Comparison.{Comparison}
use Rattle.arith.specs.declared.comparison.Comparison.TheVariants.{Less, LessOrEqual, Greater, GreaterOrEqual, Equal, NotEqual}
use Rattle.arith.specs.Comparisons.{comparison_number, comparison_at}
use Rattle.arith.proofs.Numbered.{numbered-back}
use Rattle.tables.specs.declared.row.Row.{Row}
use Rattle.tables.specs.Trees.{Sum, number, name, work, both, either, Condition, truth, compare, negate, connect, Command, set, when, choose, while, Sheet, only, joint}
use Rattle.tables.specs.Rows.{bit, sheet_rows}
use Rattle.tables.specs.Tables.{OneTree}
use Rattle.tables.specs.Values.{Sums, Rest, sum_value, condition_value, command_value, sheet_value}
use Rattle.tables.specs.Passes.{passes}
use Rattle.tables.proofs.Passing.{pass-sheet}

data Node : Type 0 where
  a_sum : Sum → Node
  a_condition : Condition → Node
  a_command : Command → Node
  a_sheet : Sheet → Node

-- a node of another sort never comes up in a table, so what stands for it here is of no account

abbrev as_sum : Node → Sum
as_sum (a_sum t) = t
as_sum (a_condition t) = number 0 (pos 0)
as_sum (a_command t) = number 0 (pos 0)
as_sum (a_sheet t) = number 0 (pos 0)

abbrev as_condition : Node → Condition
as_condition (a_sum t) = truth 0 true
as_condition (a_condition t) = t
as_condition (a_command t) = truth 0 true
as_condition (a_sheet t) = truth 0 true

abbrev as_command : Node → Command
as_command (a_sum t) = set 0 0 t
as_command (a_condition t) = set 0 0 (number 0 (pos 0))
as_command (a_command t) = t
as_command (a_sheet t) = set 0 0 (number 0 (pos 0))

abbrev as_sheet : Node → Sheet
as_sheet (a_sum t) = only (set 0 0 t)
as_sheet (a_condition t) = only (set 0 0 (number 0 (pos 0)))
as_sheet (a_command t) = only t
as_sheet (a_sheet t) = t

abbrev unbit : ℤ → Bool
unbit (pos zero) = false
unbit (pos (suc n)) = true
unbit (negsuc n) = false

bit-back : (b : Bool) → unbit (bit b) ≡ b
bit-back true = refl
bit-back false = refl

abbrev or_less : Option Comparison → Comparison
or_less None = Less
or_less (Some c) = c

comparison-back : (c : Comparison) → or_less (comparison_at (comparison_number c)) ≡ c
comparison-back c = ap or_less (numbered-back c)

abbrev tree_sums : Sums Node
tree_sums = record {
  at_number = λ r. a_sum (number r.place r.value);
  at_name = λ r. a_sum (name r.place (nat_abs r.value));
  at_add = λ r x y. a_sum (work r.place operator.Add (as_sum x) (as_sum y));
  at_sub = λ r x y. a_sum (work r.place operator.Sub (as_sum x) (as_sum y));
  at_mul = λ r x y. a_sum (work r.place operator.Mul (as_sum x) (as_sum y));
  at_div = λ r x y. a_sum (work r.place operator.Div (as_sum x) (as_sum y));
}

abbrev tree_rest : Rest Node
tree_rest = record {
  at_truth = λ r. a_condition (truth r.place (unbit r.value));
  at_compare = λ r x y. a_condition (compare r.place (or_less (comparison_at (nat_abs r.value))) (as_sum x) (as_sum y));
  at_not = λ r x. a_condition (negate r.place (as_condition x));
  at_and = λ r x y. a_condition (connect r.place both (as_condition x) (as_condition y));
  at_or = λ r x y. a_condition (connect r.place either (as_condition x) (as_condition y));
  at_set = λ r x. a_command (set r.place (nat_abs r.value) (as_sum x));
  at_if = λ r x y. a_command (when r.place (as_condition x) (as_sheet y));
  at_if_else = λ r x y z. a_command (choose r.place (as_condition x) (as_sheet y) (as_sheet z));
  at_while = λ r x y. a_command (while r.place (as_condition x) (as_sheet y));
  at_joint = λ r x y. a_sheet (joint r.place (as_command x) (as_sheet y));
}

abbrev sheet_node : Sheet → Node
sheet_node (only c) = a_command c
sheet_node (joint q c t) = a_sheet (joint q c t)

node-sheet : (t : Sheet) → as_sheet (sheet_node t) ≡ t
node-sheet (only c) = refl
node-sheet (joint q c t) = refl

itself-sum : (t : Sum) → sum_value tree_sums t ≡ a_sum t
itself-sum (number q v) = refl
itself-sum (name q p) = refl
itself-sum (work q operator.Add l r) = rw (itself-sum l, itself-sum r)
itself-sum (work q operator.Sub l r) = rw (itself-sum l, itself-sum r)
itself-sum (work q operator.Mul l r) = rw (itself-sum l, itself-sum r)
itself-sum (work q operator.Div l r) = rw (itself-sum l, itself-sum r)

itself-condition : (t : Condition) → condition_value tree_sums tree_rest t ≡ a_condition t
itself-condition (truth q b) = rw (bit-back b)
itself-condition (compare q c l r) = rw (itself-sum l, itself-sum r, comparison-back c)
itself-condition (negate q c) = rw (itself-condition c)
itself-condition (connect q both c d) = rw (itself-condition c, itself-condition d)
itself-condition (connect q either c d) = rw (itself-condition c, itself-condition d)

mutual
  itself-command : (t : Command) → command_value tree_sums tree_rest t ≡ a_command t
  itself-command (set q p e) = rw (itself-sum e)
  itself-command (when q c t) = rw (itself-condition c, itself-sheet t, node-sheet t)
  itself-command (choose q c t u) = rw (itself-condition c, itself-sheet t, itself-sheet u, node-sheet t, node-sheet u)
  itself-command (while q c t) = rw (itself-condition c, itself-sheet t, node-sheet t)

  itself-sheet : (t : Sheet) → sheet_value tree_sums tree_rest t ≡ sheet_node t
  itself-sheet (only c) = itself-command c
  itself-sheet (joint q c t) = rw (itself-command c, itself-sheet t, node-sheet t)

back : (t : Sheet) → passes tree_sums tree_rest (sheet_rows t) [] ≡ Some (sheet_node t ∷ [])
back t =
    ap (λ (l : List Row). passes tree_sums tree_rest l []) (sym (append-nil (sheet_rows t)))
    ∙ pass-sheet tree_sums tree_rest t [] []
    ∙ ap (λ (n : Node). Some (n ∷ [])) (itself-sheet t)

pub one_tree : (rows : List Row) → OneTree rows
one_tree rows t u e f =
    let h : Some (sheet_node t ∷ []) ≡ Some (sheet_node u ∷ []) = sym (back t) ∙ ap (λ (l : List Row). passes tree_sums tree_rest l []) (e ∙ sym f) ∙ back u in
    let n : sheet_node t ≡ sheet_node u = cc in
    sym (node-sheet t) ∙ ap as_sheet n ∙ node-sheet u
