-- The points that a tree uses, those of its names and of its set commands, as a number whose bit p is point p's. The
-- algebra has no bit for a value that is no point below 64; in a table there is none, which is the law `exact` of the
-- measure.
use Rattle.std.specs.Prelude.{ℕ, ◌^◌, cond, ℤ, pos, negsuc, bit_or, nat_lt}
use Rattle.tables.specs.Trees.{Sum, number, name, work, Condition, truth, compare, negate, connect, Command, set, when, choose, while, Sheet, only, joint}
use Rattle.tables.specs.Values.{Sums, Rest}

abbrev pub sum_points : Sum → ℕ
sum_points (number q v) = 0
sum_points (name q p) = 2 ^ p
sum_points (work q o l r) = bit_or (sum_points l) (sum_points r)

abbrev pub condition_points : Condition → ℕ
condition_points (truth q b) = 0
condition_points (compare q k l r) = bit_or (sum_points l) (sum_points r)
condition_points (negate q c) = condition_points c
condition_points (connect q j c d) = bit_or (condition_points c) (condition_points d)

abbrev mutual
  pub command_points : Command → ℕ
  command_points (set q p e) = bit_or (sum_points e) (2 ^ p)
  command_points (when q c t) = bit_or (condition_points c) (sheet_points t)
  command_points (choose q c t u) = bit_or (bit_or (condition_points c) (sheet_points t)) (sheet_points u)
  command_points (while q c t) = bit_or (condition_points c) (sheet_points t)

  pub sheet_points : Sheet → ℕ
  sheet_points (only c) = command_points c
  sheet_points (joint q c t) = bit_or (command_points c) (sheet_points t)

abbrev pub bit_of : ℤ → ℕ
bit_of (pos p) = cond (nat_lt p 64) (2 ^ p) 0
bit_of (negsuc n) = 0

abbrev pub point_sums : Sums ℕ
point_sums = record {
  at_number = λ r. 0;
  at_name = λ r. bit_of r.value;
  at_add = λ r x y. bit_or x y;
  at_sub = λ r x y. bit_or x y;
  at_mul = λ r x y. bit_or x y;
  at_div = λ r x y. bit_or x y;
}

abbrev pub point_rest : Rest ℕ
point_rest = record {
  at_truth = λ r. 0;
  at_compare = λ r x y. bit_or x y;
  at_not = λ r x. x;
  at_and = λ r x y. bit_or x y;
  at_or = λ r x y. bit_or x y;
  at_set = λ r x. bit_or x (bit_of r.value);
  at_if = λ r x y. bit_or x y;
  at_if_else = λ r x y z. bit_or (bit_or x y) z;
  at_while = λ r x y. bit_or x y;
  at_joint = λ r x y. bit_or x y;
}
