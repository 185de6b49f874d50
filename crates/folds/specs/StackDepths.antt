-- How deep the stack becomes when a tree's code runs: 1 for number, name and truth; for two-part rows of sums and
-- conditions the larger of left and one more than right, since the right part is worked out above the left one's
-- value; otherwise the greatest of the parts, since commands leave nothing behind. The algebra counts in 32 bits and
-- stops at the largest number; on a table it never comes there, which is the law `exact` of the measure.
use Rattle.std.specs.Prelude.{ℕ, ◌+◌, min, max}
use Rattle.tables.specs.Trees.{Sum, number, name, work, Condition, truth, compare, negate, connect, Command, set, when, choose, while, Sheet, only, joint}
use Rattle.tables.specs.Values.{Sums, Rest}

abbrev pub sum_depth : Sum → ℕ
sum_depth (number q v) = 1
sum_depth (name q p) = 1
sum_depth (work q o l r) = max (sum_depth l) (sum_depth r + 1)

abbrev pub condition_depth : Condition → ℕ
condition_depth (truth q b) = 1
condition_depth (compare q k l r) = max (sum_depth l) (sum_depth r + 1)
condition_depth (negate q c) = condition_depth c
condition_depth (connect q j c d) = max (condition_depth c) (condition_depth d + 1)

abbrev mutual
  pub command_depth : Command → ℕ
  command_depth (set q p e) = sum_depth e
  command_depth (when q c t) = max (condition_depth c) (sheet_depth t)
  command_depth (choose q c t u) = max (condition_depth c) (max (sheet_depth t) (sheet_depth u))
  command_depth (while q c t) = max (condition_depth c) (sheet_depth t)

  pub sheet_depth : Sheet → ℕ
  sheet_depth (only c) = command_depth c
  sheet_depth (joint q c t) = max (command_depth c) (sheet_depth t)

abbrev pub above : ℕ → ℕ → ℕ
above l r = max l (min (r + 1) 4294967295)

abbrev pub depth_sums : Sums ℕ
depth_sums = record {
  at_number = λ r. 1;
  at_name = λ r. 1;
  at_add = λ r x y. above x y;
  at_sub = λ r x y. above x y;
  at_mul = λ r x y. above x y;
  at_div = λ r x y. above x y;
}

abbrev pub depth_rest : Rest ℕ
depth_rest = record {
  at_truth = λ r. 1;
  at_compare = λ r x y. above x y;
  at_not = λ r x. x;
  at_and = λ r x y. above x y;
  at_or = λ r x y. above x y;
  at_set = λ r x. x;
  at_if = λ r x y. max x y;
  at_if_else = λ r x y z. max x (max y z);
  at_while = λ r x y. max x y;
  at_joint = λ r x y. max x y;
}
