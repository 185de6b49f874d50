-- The tree behind rows: a pass over the rows in the algebra whose values are trees, so a row becomes the tree that has it
-- last. A part of another sort than its row wants stands for some tree of the right sort; no table has such a part, and of
-- the rows of a sheet the pass gives just that sheet.
use Rattle.std.specs.Prelude.{zero, suc, Bool, true, false, List, [], ◌∷◌, ℤ, pos, negsuc, Some, None, Option, unsigned_abs}
use Rattle.arith.specs.declared.operator.Operator.{Operator}
use Rattle.arith.specs.declared.operator.Operator.TheVariants.{Add, Sub, Mul, Div}
use Rattle.arith.specs.declared.comparison.Comparison.{Comparison}
use Rattle.arith.specs.declared.comparison.Comparison.TheVariants.{Less}
use Rattle.arith.specs.Comparisons.{comparison_at}
use Rattle.tables.specs.declared.row.Row.{Row}
use Rattle.tables.specs.Trees.{Sum, number, name, work, Connective, both, either, Condition, truth, compare, negate, connect, Command, set, when, choose, while, Sheet, only, joint}
use Rattle.tables.specs.Values.{Sums, Rest}
use Rattle.tables.specs.Passes.{passes}

pub data Node : Type 0 where
  of_sum : Sum → Node
  of_condition : Condition → Node
  of_sheet : Sheet → Node

abbrev pub sum_in : Node → Sum
sum_in (of_sum e) = e
sum_in (of_condition h) = number 0 (pos 0)
sum_in (of_sheet t) = number 0 (pos 0)

abbrev pub condition_in : Node → Condition
condition_in (of_sum e) = truth 0 true
condition_in (of_condition h) = h
condition_in (of_sheet t) = truth 0 true

abbrev pub sheet_in : Node → Sheet
sheet_in (of_sum e) = only (set 0 0 e)
sheet_in (of_condition h) = only (set 0 0 (number 0 (pos 0)))
sheet_in (of_sheet t) = t

abbrev pub command_of : Sheet → Command
command_of (only c) = c
command_of (joint q c t) = c

abbrev pub comparison_in : Option Comparison → Comparison
comparison_in (Some k) = k
comparison_in None = Less

abbrev pub truth_in : ℤ → Bool
truth_in (pos zero) = false
truth_in (pos (suc n)) = true
truth_in (negsuc n) = false

abbrev pub operated : Operator → Row → Node → Node → Node
operated o r x y = of_sum (work r.place o (sum_in x) (sum_in y))

abbrev pub sum_nodes : Sums Node
sum_nodes =
    record {
      at_number = λ r. of_sum (number r.place r.value);
      at_name = λ r. of_sum (name r.place (unsigned_abs r.value));
      at_add = operated Add;
      at_sub = operated Sub;
      at_mul = operated Mul;
      at_div = operated Div;
    }

abbrev pub joined : Connective → Row → Node → Node → Node
joined j r x y = of_condition (connect r.place j (condition_in x) (condition_in y))

abbrev pub rest_nodes : Rest Node
rest_nodes =
    record {
      at_truth = λ r. of_condition (truth r.place (truth_in r.value));
      at_compare = λ r x y. of_condition (compare r.place (comparison_in (comparison_at (unsigned_abs r.value))) (sum_in x) (sum_in y));
      at_not = λ r x. of_condition (negate r.place (condition_in x));
      at_and = joined both;
      at_or = joined either;
      at_set = λ r x. of_sheet (only (set r.place (unsigned_abs r.value) (sum_in x)));
      at_if = λ r x y. of_sheet (only (when r.place (condition_in x) (sheet_in y)));
      at_if_else = λ r x y z. of_sheet (only (choose r.place (condition_in x) (sheet_in y) (sheet_in z)));
      at_while = λ r x y. of_sheet (only (while r.place (condition_in x) (sheet_in y)));
      at_joint = λ r x y. of_sheet (joint r.place (command_of (sheet_in x)) (sheet_in y));
    }

-- the one sheet that a pass leaves
abbrev pub lone_sheet : List Node → Option Sheet
lone_sheet [] = None
lone_sheet (n ∷ []) = Some (sheet_in n)
lone_sheet (n ∷ (m ∷ more)) = None

abbrev pub left : Option (List Node) → Option Sheet
left None = None
left (Some st) = lone_sheet st

abbrev pub tree_of : List Row → Option Sheet
tree_of rows = left (passes sum_nodes rest_nodes rows [])
