use Rattle.std.proofs.Common.{◌≡◌, ℕ, suc, ◌/◌, ℤ, pos, negsuc, neg_ℤ, sym, ap, ◌∙◌, arith, w32, SFits, to_z, of_z, rules}
use lib.Signed.{quot_z}
use Rattle.std.proofs.lemmas.Int.{wraps, to_z-of_z}
use Rattle.arith.proofs.operator.divide.Goals as goal

by_one : (a : ℕ) → a / 1 ≡ a
by_one a = omega arith

quot-minus-one : (x : ℤ) → quot_z x (negsuc 0) ≡ neg_ℤ x
quot-minus-one (pos a) = ap (λ k. neg_ℤ (pos k)) (by_one a)
quot-minus-one (negsuc a) = ap pos (by_one (suc a))

is-minus-one : (y : ℤ) → SFits w32 y → of_z w32 y ≡ 4294967295 → y ≡ negsuc 0
is-minus-one y f e = sym (to_z-of_z w32 y f) ∙ ap (to_z w32) e

pub returns-then-right-eqminus1 : goal.returns-then-right-eqminus1
returns-then-right-eqminus1 c =
    let y = is-minus-one c.args.right c.ranges.right c.if-right-eqminus1.true in
    rw (y, quot-minus-one c.args.left) (search (rules, wraps))
