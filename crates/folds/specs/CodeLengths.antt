-- How many instructions a tree's code has: set, if-else and while have two of their own, joint none, every other row
-- one. The algebra counts in 32 bits and stops at the largest number, so that it has an answer for any values; on a
-- table it never stops there, which is the law `exact` of the measure.
use Rattle.std.specs.Prelude.{ℕ, ◌+◌, min}
use Rattle.tables.specs.Trees.{Sum, number, name, work, Condition, truth, compare, negate, connect, Command, set, when, choose, while, Sheet, only, joint}
use Rattle.tables.specs.Values.{Sums, Rest}

abbrev pub sum_length : Sum → ℕ
sum_length (number q v) = 1
sum_length (name q p) = 1
sum_length (work q o l r) = sum_length l + sum_length r + 1

abbrev pub condition_length : Condition → ℕ
condition_length (truth q b) = 1
condition_length (compare q k l r) = sum_length l + sum_length r + 1
condition_length (negate q c) = condition_length c + 1
condition_length (connect q j c d) = condition_length c + condition_length d + 1

abbrev mutual
  pub command_length : Command → ℕ
  command_length (set q p e) = sum_length e + 2
  command_length (when q c t) = condition_length c + sheet_length t + 1
  command_length (choose q c t u) = condition_length c + sheet_length t + 2 + sheet_length u
  command_length (while q c t) = condition_length c + sheet_length t + 2

  pub sheet_length : Sheet → ℕ
  sheet_length (only c) = command_length c
  sheet_length (joint q c t) = command_length c + sheet_length t

-- a sum in 32 bits that stops at the largest number
abbrev pub plus : ℕ → ℕ → ℕ
plus m n = min (m + n) 4294967295

abbrev pub length_sums : Sums ℕ
length_sums = record {
  at_number = λ r. 1;
  at_name = λ r. 1;
  at_add = λ r x y. plus (plus x y) 1;
  at_sub = λ r x y. plus (plus x y) 1;
  at_mul = λ r x y. plus (plus x y) 1;
  at_div = λ r x y. plus (plus x y) 1;
}

abbrev pub length_rest : Rest ℕ
length_rest = record {
  at_truth = λ r. 1;
  at_compare = λ r x y. plus (plus x y) 1;
  at_not = λ r x. plus x 1;
  at_and = λ r x y. plus (plus x y) 1;
  at_or = λ r x y. plus (plus x y) 1;
  at_set = λ r x. plus x 2;
  at_if = λ r x y. plus (plus x y) 1;
  at_if_else = λ r x y z. plus (plus (plus x y) 2) z;
  at_while = λ r x y. plus (plus x y) 2;
  at_joint = λ r x y. plus (plus x y) 0;
}
