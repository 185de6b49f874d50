-- Every stop of the state model has the number 20: only a zero divisor stops a run.
use Rattle.std.proofs.Common.{◌≡◌, ℕ, ◌+◌, Bool, true, false, cond, ℤ, Ok, Err, refl, subst, w32}
use mathlib.Core.Bool as bool
use Rattle.std.specs.Int.{int_wrap}
use Rattle.faults.specs.declared.causes.Layer.TheVariants as layer
use Rattle.faults.specs.declared.causes.RunCause.TheVariants.{ZeroDivisor}
use Rattle.faults.specs.Numbers.{number_of}
use Rattle.arith.specs.Operators.{whole, zero_divisor, worked}
use Rattle.arith.specs.Comparisons.{holds}
use Rattle.tables.specs.Trees.{Sum, number, name, work, Condition, truth, compare, negate, connect, Command, Sheet}
use Rattle.screen.specs.Works.{Points, Out, done, stop, lost, after, then, step, connected, sum_work, condition_work}
use Rattle.screen.specs.Model.{Does, set-ends, set-stops, when-stops, when-not, when-holds, choose-stops, choose-not, choose-holds, while-stops, while-not, while-body-stops, while-again, Ends, only-ends, joint-stops, joint-ends}
use Rattle.screen.specs.Laws.{StopsByNumber}

abbrev Twenty : {A : Type 0} → Out A → Type 0
Twenty (done c v) = Unit {0}
Twenty (stop c x q) = number_of (layer.Run x) ≡ 20
Twenty lost = Unit {0}

after-twenty : {A : Type 0} (k : ℕ) (o : Out A) → Twenty o → Twenty (after k o)
after-twenty k (done c v) h = tt
after-twenty k (stop c x q) h = h
after-twenty k lost h = tt

then-twenty : {A B : Type 0} (o : Out A) (f : A → Out B) → Twenty o → ((v : A) → Twenty (f v)) → Twenty (then o f)
then-twenty (done c v) f h g = after-twenty c (f v) (g v)
then-twenty (stop c x q) f h g = h
then-twenty lost f h g = tt

step-twenty : (q : ℕ) (zero : Bool) (v : ℤ) → Twenty (step q (cond zero (Err ZeroDivisor) (Ok v)))
step-twenty q true v = refl
step-twenty q false v = tt

sum-twenty : (e : Sum) (p : Points) → Twenty (sum_work e p)
sum-twenty (number q v) p = tt
sum-twenty (name q x) p = tt
sum-twenty (work q o l r) p =
    then-twenty (sum_work l p) (λ x. then (sum_work r p) (λ y. step q (worked o x y))) (sum-twenty l p)
    (λ x. then-twenty (sum_work r p) (λ y. step q (worked o x y)) (sum-twenty r p) (λ y. step-twenty q (zero_divisor o y) (int_wrap w32 (whole o x y))))

condition-twenty : (h : Condition) (p : Points) → Twenty (condition_work h p)
condition-twenty (truth q b) p = tt
condition-twenty (compare q k l r) p =
    then-twenty (sum_work l p) (λ x. then (sum_work r p) (λ y. done 1 (holds k x y))) (sum-twenty l p)
    (λ x. then-twenty (sum_work r p) (λ y. done 1 (holds k x y)) (sum-twenty r p) (λ y. tt))
condition-twenty (negate q c) p = then-twenty (condition_work c p) (λ x. done 1 (bool.not x)) (condition-twenty c p) (λ x. tt)
condition-twenty (connect q j c d) p =
    then-twenty (condition_work c p) (λ x. then (condition_work d p) (λ y. done 1 (connected j x y))) (condition-twenty c p)
    (λ x. then-twenty (condition_work d p) (λ y. done 1 (connected j x y)) (condition-twenty d p) (λ y. tt))

mutual
  does-twenty : {t : Command} {p : Points} {o : Out Points} → Does t p o → Twenty o
  does-twenty (set-ends e) = tt
  does-twenty {p = p} (set-stops {e = s} e) = subst Twenty e (sum-twenty s p)
  does-twenty {p = p} (when-stops {h = h} e) = subst Twenty e (condition-twenty h p)
  does-twenty (when-not e) = tt
  does-twenty (when-holds {c = c} {o = o} e d) = after-twenty (c + 1) o (ends-twenty d)
  does-twenty {p = p} (choose-stops {h = h} e) = subst Twenty e (condition-twenty h p)
  does-twenty (choose-not {c = c} {o = o} e d) = after-twenty (c + 1) o (ends-twenty d)
  does-twenty (choose-holds {c = c} {o = o} e d) = after-twenty (c + 1) (then o (done 1)) (then-twenty o (done 1) (ends-twenty d) (λ v. tt))
  does-twenty {p = p} (while-stops {h = h} e) = subst Twenty e (condition-twenty h p)
  does-twenty (while-not e) = tt
  does-twenty (while-body-stops e d) = ends-twenty d
  does-twenty (while-again {c = c} {d = d} {o = o} e b r) = after-twenty (c + 1 + d + 1) o (does-twenty r)

  ends-twenty : {t : Sheet} {p : Points} {o : Out Points} → Ends t p o → Twenty o
  ends-twenty (only-ends d) = does-twenty d
  ends-twenty (joint-stops d) = does-twenty d
  ends-twenty (joint-ends {n = n} {o = o} b d) = after-twenty n o (ends-twenty d)

pub stops-by-number : StopsByNumber
stops-by-number t p c x q e = ends-twenty e
