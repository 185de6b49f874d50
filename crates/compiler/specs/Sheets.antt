-- The sheet that rows are a table of, put together by one pass over them: each row makes its tree of its parts' trees.
-- Of rows that are no table it says nothing of use, and nobody asks it; of a table's rows it is the sheet that has them,
-- which is a law of compiling.
use Rattle.std.specs.Prelude.{zero, suc, Bool, true, false, List, [], ◌∷◌, ℤ, pos, negsuc, Some, None, Option, unsigned_abs}
use Rattle.arith.specs.declared.operator.Operator.TheVariants as operator
use Rattle.arith.specs.declared.comparison.Comparison.{Comparison}
use Rattle.arith.specs.declared.comparison.Comparison.TheVariants.{Less, LessOrEqual, Greater, GreaterOrEqual, Equal, NotEqual}
use Rattle.tables.specs.declared.row.Row.{Row}
use Rattle.tables.specs.Trees.{Sum, number, name, work, both, either, Condition, truth, compare, negate, connect, Command, set, when, choose, while, Sheet, only, joint}
use Rattle.tables.specs.Values.{Sums, Rest}
use Rattle.tables.specs.Passes.{passes}

-- a tree of any sort
pub data Tree : Type 0 where
  sum : Sum → Tree
  condition : Condition → Tree
  command : Command → Tree
  sheet : Sheet → Tree

abbrev pub no_sum : Sum
no_sum = number 0 (pos 0)

abbrev pub no_condition : Condition
no_condition = truth 0 false

abbrev pub no_command : Command
no_command = set 0 0 no_sum

abbrev pub as_sum : Tree → Sum
as_sum (sum t) = t
as_sum (condition t) = no_sum
as_sum (command t) = no_sum
as_sum (sheet t) = no_sum

abbrev pub as_condition : Tree → Condition
as_condition (sum t) = no_condition
as_condition (condition t) = t
as_condition (command t) = no_condition
as_condition (sheet t) = no_condition

abbrev pub as_command : Tree → Command
as_command (sum t) = no_command
as_command (condition t) = no_command
as_command (command t) = t
as_command (sheet t) = no_command

-- one command is a sheet too
abbrev pub as_sheet : Tree → Sheet
as_sheet (sum t) = only no_command
as_sheet (condition t) = only no_command
as_sheet (command t) = only t
as_sheet (sheet t) = t

-- true is 1, false is 0
abbrev pub truth_of : ℤ → Bool
truth_of (pos zero) = false
truth_of (pos (suc n)) = true
truth_of (negsuc n) = false

-- the comparison that a row's value names
abbrev pub comparison_of : ℤ → Comparison
comparison_of (pos zero) = Less
comparison_of (pos (suc zero)) = LessOrEqual
comparison_of (pos (suc (suc zero))) = Greater
comparison_of (pos (suc (suc (suc zero)))) = GreaterOrEqual
comparison_of (pos (suc (suc (suc (suc zero))))) = Equal
comparison_of (pos (suc (suc (suc (suc (suc n)))))) = NotEqual
comparison_of (negsuc n) = NotEqual

abbrev pub tree_sums : Sums Tree
tree_sums = record {
  at_number = λ r. sum (number r.place r.value);
  at_name = λ r. sum (name r.place (unsigned_abs r.value));
  at_add = λ r x y. sum (work r.place operator.Add (as_sum x) (as_sum y));
  at_sub = λ r x y. sum (work r.place operator.Sub (as_sum x) (as_sum y));
  at_mul = λ r x y. sum (work r.place operator.Mul (as_sum x) (as_sum y));
  at_div = λ r x y. sum (work r.place operator.Div (as_sum x) (as_sum y));
}

abbrev pub tree_rest : Rest Tree
tree_rest = record {
  at_truth = λ r. condition (truth r.place (truth_of r.value));
  at_compare = λ r x y. condition (compare r.place (comparison_of r.value) (as_sum x) (as_sum y));
  at_not = λ r x. condition (negate r.place (as_condition x));
  at_and = λ r x y. condition (connect r.place both (as_condition x) (as_condition y));
  at_or = λ r x y. condition (connect r.place either (as_condition x) (as_condition y));
  at_set = λ r x. command (set r.place (unsigned_abs r.value) (as_sum x));
  at_if = λ r x y. command (when r.place (as_condition x) (as_sheet y));
  at_if_else = λ r x y z. command (choose r.place (as_condition x) (as_sheet y) (as_sheet z));
  at_while = λ r x y. command (while r.place (as_condition x) (as_sheet y));
  at_joint = λ r x y. sheet (joint r.place (as_command x) (as_sheet y));
}

-- what a pass leaves on top
abbrev pub top_tree : List Tree → Sheet
top_tree [] = only no_command
top_tree (x ∷ xs) = as_sheet x

abbrev pub left_tree : Option (List Tree) → Sheet
left_tree None = only no_command
left_tree (Some st) = top_tree st

unfoldable pub sheet_of : List Row → Sheet
sheet_of rows = left_tree (passes tree_sums tree_rest rows [])
