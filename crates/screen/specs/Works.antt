-- Values of sums and conditions, with what they cost in steps. Number, name and truth cost 1; every other row costs its
-- parts and 1. Both sides of a connective are worked out, left first, so nothing is saved where the left side already
-- decides. An operator that stops, stops the whole with its place, and its own step is counted.
use Rattle.std.specs.Prelude.{ℕ, ◌+◌, Bool, ◌&&◌, ◌||◌, List, ℤ, pos, Ok, Err, Result, slice_index_or}
use Rattle.std.proofs.Math.Bool as bool
use Rattle.faults.specs.declared.causes.RunCause.{RunCause}
use Rattle.arith.specs.Operators.{worked}
use Rattle.arith.specs.Comparisons.{holds}
use Rattle.tables.specs.Trees.{Sum, number, name, work, Connective, both, either, Condition, truth, compare, negate, connect}

abbrev pub Points : Type 0
Points = List ℤ

-- done with a value, or stopped for a cause at a place, each at a cost; or lost, which only a count of rounds can be
pub data Out (A : Type 0) : Type 0 where
  done : ℕ → A → Out A
  stop : ℕ → RunCause → ℕ → Out A
  lost : Out A

-- so many steps before
abbrev pub after : {A : Type 0} → ℕ → Out A → Out A
after k (done c v) = done (k + c) v
after k (stop c x q) = stop (k + c) x q
after k lost = lost

abbrev pub then : {A B : Type 0} → Out A → (A → Out B) → Out B
then (done c v) f = after c (f v)
then (stop c x q) f = stop c x q
then lost f = lost

-- only an outcome that is known has a cost
abbrev pub cost : {A : Type 0} → Out A → ℕ
cost (done c v) = c
cost (stop c x q) = c
cost lost = 0

-- an operator's own step
abbrev pub step : ℕ → Result ℤ RunCause → Out ℤ
step q (Ok v) = done 1 v
step q (Err x) = stop 1 x q

abbrev pub sum_work : Sum → Points → Out ℤ
sum_work (number q v) p = done 1 v
sum_work (name q x) p = done 1 (slice_index_or p x (pos 0))
sum_work (work q o l r) p = then (sum_work l p) (λ x. then (sum_work r p) (λ y. step q (worked o x y)))

abbrev pub connected : Connective → Bool → Bool → Bool
connected both x y = x && y
connected either x y = x || y

abbrev pub condition_work : Condition → Points → Out Bool
condition_work (truth q b) p = done 1 b
condition_work (compare q k l r) p = then (sum_work l p) (λ x. then (sum_work r p) (λ y. done 1 (holds k x y)))
condition_work (negate q c) p = then (condition_work c p) (λ x. done 1 (bool.not x))
condition_work (connect q j c d) p = then (condition_work c p) (λ x. then (condition_work d p) (λ y. done 1 (connected j x y)))
