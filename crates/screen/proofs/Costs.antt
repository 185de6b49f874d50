-- Steps so far, one thing after another; and what a sum or a condition costs that is not stopped.
use Rattle.std.proofs.Common.{◌≡◌, ℕ, ◌+◌, Bool, ℤ, Ok, Err, Result, sym, refl, ap, ◌∙◌, arith}
use Rattle.faults.specs.declared.causes.RunCause.{RunCause}
use Rattle.arith.specs.Operators.{worked}
use Rattle.arith.specs.Comparisons.{holds}
use mathlib.Core.Bool as bool
use Rattle.tables.specs.Trees.{Sum, number, name, work, Condition, truth, compare, negate, connect}
use Rattle.tables.specs.Rows.{sum_size, condition_size}
use Rattle.screen.specs.Works.{Points, Out, done, stop, lost, after, then, step, connected, sum_work, condition_work}
use Rattle.screen.proofs.Modelling.{after-after}

-- what something came to, from the steps so far

pub record Gave {A : Type 0} (w : Out A) (k n : ℕ) (v : A) : Type 0 where
  pub steps : ℕ
  pub made : n ≡ k + steps
  pub came : w ≡ done steps v

pub gave : {A : Type 0} (w : Out A) (k n : ℕ) (v : A) → done n v ≡ after k w → Gave w k n v
gave (done c x) k n v e =
    let a : n ≡ k + c = cc in
    let b : x ≡ v = cc in
    record { steps = c; made = a; came = ap (done c) b }
gave (stop c x q) k n v e = absurd cc
gave lost k n v e = absurd cc

pub record Broke {A : Type 0} (w : Out A) (k n : ℕ) (x : RunCause) (q : ℕ) : Type 0 where
  pub steps : ℕ
  pub made : n ≡ k + steps
  pub came : w ≡ stop steps x q

pub broke : {A : Type 0} (w : Out A) (k n : ℕ) (x : RunCause) (q : ℕ) → stop n x q ≡ after k w → Broke w k n x q
broke (done c v) k n x q e = absurd cc
broke (stop c y r) k n x q e =
    let a : n ≡ k + c = cc in
    let b : y ≡ x = cc in
    let d : r ≡ q = cc in
    record { steps = c; made = a; came = ap (λ (z : RunCause). stop c z r) b ∙ ap (stop c x) d }
broke lost k n x q e = absurd cc

-- how it goes on

pub then-done : {A B : Type 0} (k n : ℕ) (v : A) (o : Out A) (f : A → Out B) → done n v ≡ after k o → after k (then o f) ≡ after n (f v)
then-done k n v o f e =
    let G = gave o k n v e in
    rw G.came (after-after k G.steps (f v) ∙ ap (λ (m : ℕ). after m (f v)) (sym G.made))

pub then-stop : {A B : Type 0} (k n : ℕ) (x : RunCause) (q : ℕ) (o : Out A) (f : A → Out B) → stop n x q ≡ after k o → stop n x q ≡ after k (then o f)
then-stop k n x q o f e =
    let B = broke o k n x q e in
    rw B.came (ap (λ (m : ℕ). stop m x q) B.made)

-- and the same of two things, one after the other

pub two-done : {A B C : Type 0} (k n m : ℕ) (v : A) (x : B) (o : Out A) (w : Out B) (f : A → B → Out C) → done n v ≡ after k o → done m x ≡ after n w → after m (f v x) ≡ after k (then o (λ y. then w (f y)))
two-done k n m v x o w f e g = sym (then-done k n v o (λ y. then w (f y)) e ∙ then-done n m x w (f v) g)

pub two-stop : {A B C : Type 0} (k n m : ℕ) (v : A) (x : RunCause) (q : ℕ) (o : Out A) (w : Out B) (f : A → B → Out C) → done n v ≡ after k o → stop m x q ≡ after n w → stop m x q ≡ after k (then o (λ y. then w (f y)))
two-stop k n m v x q o w f e g = then-stop n m x q w (f v) g ∙ sym (then-done k n v o (λ y. then w (f y)) e)

-- a value has been had by its parts' values

record Had {A B : Type 0} (o : Out A) (f : A → Out B) (c : ℕ) (v : B) : Type 0 where
  first : ℕ
  value : A
  second : ℕ
  had : o ≡ done first value
  then' : f value ≡ done second v
  sum : c ≡ first + second

had : {A B : Type 0} (o : Out A) (f : A → Out B) (c : ℕ) (v : B) → then o f ≡ done c v → Had o f c v
had (done n x) f c v e = more n x (f x) refl e
  where
    more : (n : ℕ) (x : _) (w : Out _) → f x ≡ w → after n w ≡ done c v → Had (done n x) f c v
    more n x (done m y) g e =
        let a : n + m ≡ c = cc in
        let b : y ≡ v = cc in
        record { first = n; value = x; second = m; had = refl; then' = g ∙ ap (done m) b; sum = sym a }
    more n x (stop m y q) g e = absurd cc
    more n x lost g e = absurd cc
had (stop n x q) f c v e = absurd cc
had lost f c v e = absurd cc

one-step : (q c : ℕ) (v : ℤ) (r : Result ℤ RunCause) → step q r ≡ done c v → c ≡ 1
one-step q c v (Ok w) e = let a : 1 ≡ c = cc in sym a
one-step q c v (Err x) e = absurd cc

one-done : {A : Type 0} (c : ℕ) (v w : A) → ◌≡◌ {A = Out A} (done 1 w) (done c v) → c ≡ 1
one-done c v w e = let a : 1 ≡ c = cc in sym a

sum-cost : (t : Sum) (p : Points) (c : ℕ) (v : ℤ) → sum_work t p ≡ done c v → c ≡ sum_size t
sum-cost (number q x) p c v e = one-done c v _ e
sum-cost (name q x) p c v e = one-done c v _ e
sum-cost (work q o l r) p c v e =
    let H = had (sum_work l p) (λ x. then (sum_work r p) (λ y. step q (worked o x y))) c v e in
    let K = had (sum_work r p) (λ y. step q (worked o H.value y)) H.second v H.then' in
    let a = sum-cost l p H.first H.value H.had in
    let b = sum-cost r p K.first K.value K.had in
    let d = one-step q K.second v _ K.then' in
    omega (arith, H.sum, K.sum)

pub spent-sum : (t : Sum) (p : Points) (k n : ℕ) (v : ℤ) → done n v ≡ after k (sum_work t p) → n ≡ k + sum_size t
spent-sum t p k n v e = let G = gave (sum_work t p) k n v e in omega (arith, G.made, sum-cost t p G.steps v G.came)

condition-cost : (t : Condition) (p : Points) (c : ℕ) (v : Bool) → condition_work t p ≡ done c v → c ≡ condition_size t
condition-cost (truth q x) p c v e = one-done c v _ e
condition-cost (compare q k l r) p c v e =
    let H = had (sum_work l p) (λ x. then (sum_work r p) (λ y. done 1 (holds k x y))) c v e in
    let K = had (sum_work r p) (λ y. done 1 (holds k H.value y)) H.second v H.then' in
    let a = sum-cost l p H.first H.value H.had in
    let b = sum-cost r p K.first K.value K.had in
    let d = one-done K.second v _ K.then' in
    omega (arith, H.sum, K.sum)
condition-cost (negate q d) p c v e =
    let H = had (condition_work d p) (λ x. done 1 (bool.not x)) c v e in
    let a = condition-cost d p H.first H.value H.had in
    let b = one-done H.second v _ H.then' in
    omega (arith, H.sum)
condition-cost (connect q j l r) p c v e =
    let H = had (condition_work l p) (λ x. then (condition_work r p) (λ y. done 1 (connected j x y))) c v e in
    let K = had (condition_work r p) (λ y. done 1 (connected j H.value y)) H.second v H.then' in
    let a = condition-cost l p H.first H.value H.had in
    let b = condition-cost r p K.first K.value K.had in
    let d = one-done K.second v _ K.then' in
    omega (arith, H.sum, K.sum)

pub spent-condition : (t : Condition) (p : Points) (k n : ℕ) (v : Bool) → done n v ≡ after k (condition_work t p) → n ≡ k + condition_size t
spent-condition t p k n v e = let G = gave (condition_work t p) k n v e in omega (arith, G.made, condition-cost t p G.steps v G.came)
