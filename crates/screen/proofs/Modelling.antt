-- The rounds and the state model say the same.
use Rattle.std.proofs.Common.{◌≡◌, ℕ, zero, suc, ◌+◌, ◌≤◌, Bool, true, false, set as put, ℤ, sym, refl, ap, ◌∙◌, subst, arith}
use Rattle.tables.specs.Trees.{Sum, Condition, Command, set, when, choose, while, Sheet, only, joint}
use Rattle.screen.specs.Works.{Points, Out, done, stop, lost, after, then, sum_work, condition_work, cost}
use Rattle.screen.specs.Model.{Does, set-ends, set-stops, when-stops, when-not, when-holds, choose-stops, choose-not, choose-holds, while-stops, while-not, while-body-stops, while-again, Ends, only-ends, joint-stops, joint-ends}
use Rattle.screen.specs.Rounds.{fork, round_of, round, rounds_of, rounds}

abbrev pub Known : {A : Type 0} → Out A → Type 0
Known (done c v) = Unit {0}
Known (stop c x q) = Unit {0}
Known lost = ⊥

pub after-after : {A : Type 0} (j k : ℕ) (o : Out A) → after j (after k o) ≡ after (j + k) o
after-after j k (done c v) = ap (λ n. done n v) (omega arith)
after-after j k (stop c x q) = ap (λ n. stop n x q) (omega arith)
after-after j k lost = refl

after-four : {A : Type 0} (c d : ℕ) (o : Out A) → after c (after 1 (after d (after 1 o))) ≡ after (c + 1 + d + 1) o
after-four c d o = simp after-after (ap (λ n. after n o) (omega arith))

pub known-after : {A : Type 0} (k : ℕ) (o : Out A) → Known o → Known (after k o)
known-after k (done c v) h = tt
known-after k (stop c x q) h = tt
known-after k lost h = h

pub after-known : {A : Type 0} (k : ℕ) (o : Out A) → Known (after k o) → Known o
after-known k (done c v) h = tt
after-known k (stop c x q) h = tt
after-known k lost h = h

pub cost-after : {A : Type 0} (k : ℕ) (o : Out A) → Known o → cost (after k o) ≡ k + cost o
cost-after k (done c v) h = refl
cost-after k (stop c x q) h = refl
cost-after k lost h = absurd h

known-one : (o : Out Points) → Known o → Known (then o (done 1))
known-one (done c v) h = tt
known-one (stop c x q) h = tt
known-one lost h = h

one_known : (o : Out Points) → Known (then o (done 1)) → Known o
one_known (done c v) k = tt
one_known (stop c x r) k = tt
one_known lost k = k

pub cost-one : (o : Out Points) → cost o ≤ cost (then o (done 1))
cost-one (done c v) = omega arith
cost-one (stop c x q) = omega arith
cost-one lost = omega arith

mutual
  pub known_of : {t : Command} {p : Points} {o : Out Points} → Does t p o → Known o
  known_of (set-ends e) = tt
  known_of (set-stops e) = tt
  known_of (when-stops e) = tt
  known_of (when-not e) = tt
  known_of (when-holds {c = c} {o = o} e d) = known-after (c + 1) o (known d)
  known_of (choose-stops e) = tt
  known_of (choose-not {c = c} {o = o} e d) = known-after (c + 1) o (known d)
  known_of (choose-holds {c = c} {o = o} e d) = known-after (c + 1) (then o (done 1)) (known-one o (known d))
  known_of (while-stops e) = tt
  known_of (while-not e) = tt
  known_of (while-body-stops e d) = tt
  known_of (while-again {c = c} {d = d} {o = o} e b r) = known-after (c + 1 + d + 1) o (known_of r)

  pub known : {t : Sheet} {p : Points} {o : Out Points} → Ends t p o → Known o
  known (only-ends d) = known_of d
  known (joint-stops d) = tt
  known (joint-ends {n = n} {o = o} b d) = known-after n o (known d)

-- more rounds than the cost are enough
mutual
  complete-of : {t : Command} {p : Points} {o : Out Points} → Does t p o → (m : ℕ) → cost o ≤ m → rounds_of (suc m) t p ≡ o
  complete-of (set-ends e) m h = rw e
  complete-of (set-stops e) m h = rw e
  complete-of (when-stops e) m h = rw e
  complete-of (when-not e) m h = rw e
  complete-of (when-holds {c = c} {o = o} e d) m h =
      rw (e, complete d m (omega (arith, cost-after (c + 1) o (known d))), after-after c 1 o)
  complete-of (choose-stops e) m h = rw e
  complete-of (choose-not {c = c} {o = o} e d) m h =
      rw (e, complete d m (omega (arith, cost-after (c + 1) o (known d))), after-after c 1 o)
  complete-of (choose-holds {c = c} {o = o} e d) m h =
      rw (e, complete d m (omega (arith, cost-after (c + 1) (then o (done 1)) (known-one o (known d)), cost-one o)), after-after c 1 (then o (done 1)))
  complete-of (while-stops e) m h = rw e
  complete-of (while-not e) m h = rw e
  complete-of (while-body-stops {c = c} {d = d} {x = x} {r = r} e b) m h = rw (e, complete b m (omega arith), after-after c 1 (stop d x r))
  complete-of (while-again {c = c} {d = d} {o = o} e b r) zero h = absurd (omega (arith, cost-after (c + 1 + d + 1) o (known_of r)))
  complete-of (while-again {c = c} {d = d} {o = o} e b r) (suc m) h =
      rw (e, complete b (suc m) (omega (arith, cost-after (c + 1 + d + 1) o (known_of r))), complete-of r m (omega (arith, cost-after (c + 1 + d + 1) o (known_of r))), after-four c d o)

  pub complete : {t : Sheet} {p : Points} {o : Out Points} → Ends t p o → (m : ℕ) → cost o ≤ m → rounds (suc m) t p ≡ o
  complete (only-ends d) m h = complete-of d m h
  complete (joint-stops d) m h = rw (complete-of d m h)
  complete (joint-ends {n = n} {o = o} b d) m h =
      rw (complete-of b m (omega (arith, cost-after n o (known d))), complete d m (omega (arith, cost-after n o (known d))))

-- a sheet has one outcome
pub unique : {t : Sheet} {p : Points} (o o' : Out Points) → Ends t p o → Ends t p o' → o ≡ o'
unique o o' e e' = sym (complete e (cost o + cost o') (omega arith)) ∙ complete e' (cost o + cost o') (omega arith)

pub unique-of : {t : Command} {p : Points} (o o' : Out Points) → Does t p o → Does t p o' → o ≡ o'
unique-of o o' e e' = sym (complete-of e (cost o + cost o') (omega arith)) ∙ complete-of e' (cost o + cost o') (omega arith)

-- what the rounds find, the state model has

abbrev SoundOf : (Command → Points → Out Points) → Type 0
SoundOf again = (t : Command) (p : Points) → Known (again t p) → Does t p (again t p)

abbrev Sound : (Sheet → Points → Out Points) → Type 0
Sound again = (t : Sheet) (p : Points) → Known (again t p) → Ends t p (again t p)

set-sound : (q x : ℕ) (e : Sum) (p : Points) (o : Out ℤ) → sum_work e p ≡ o → Known (then o (λ v. done 2 (put p x v))) → Does (set q x e) p (then o (λ v. done 2 (put p x v)))
set-sound q x e p (done c v) f k = set-ends f
set-sound q x e p (stop c y r) f k = set-stops f
set-sound q x e p lost f k = absurd k

when-sound : (q : ℕ) (h : Condition) (t : Sheet) (p : Points) (run : Sheet → Points → Out Points) → (Known (run t p) → Ends t p (run t p)) → (o : Out Bool) → condition_work h p ≡ o → Known (then o (λ b. after 1 (fork b (run t) (done 0) p))) → Does (when q h t) p (then o (λ b. after 1 (fork b (run t) (done 0) p)))
when-sound q h t p run s (done c true) f k =
    rw (after-after c 1 (run t p)) (when-holds f (s (after-known 1 (run t p) (after-known c _ k))))
when-sound q h t p run s (done c false) f k = when-not f
when-sound q h t p run s (stop c x r) f k = when-stops f
when-sound q h t p run s lost f k = absurd k

choose-sound : (q : ℕ) (h : Condition) (t u : Sheet) (p : Points) (run : Sheet → Points → Out Points) → (Known (run t p) → Ends t p (run t p)) → (Known (run u p) → Ends u p (run u p)) → (o : Out Bool) → condition_work h p ≡ o → Known (then o (λ b. after 1 (fork b (λ p'. then (run t p') (done 1)) (run u) p))) → Does (choose q h t u) p (then o (λ b. after 1 (fork b (λ p'. then (run t p') (done 1)) (run u) p)))
choose-sound q h t u p run s s' (done c true) f k =
    rw (after-after c 1 (then (run t p) (done 1))) (choose-holds f (s (one_known (run t p) (after-known 1 _ (after-known c _ k)))))
choose-sound q h t u p run s s' (done c false) f k =
    rw (after-after c 1 (run u p)) (choose-not f (s' (after-known 1 (run u p) (after-known c _ k))))
choose-sound q h t u p run s s' (stop c x r) f k = choose-stops f
choose-sound q h t u p run s s' lost f k = absurd k

body-sound : (q : ℕ) (h : Condition) (t : Sheet) (p : Points) (again : Command → Points → Out Points) → SoundOf again → (c : ℕ) → condition_work h p ≡ done c true → (o : Out Points) → (Known o → Ends t p o) → Known (after c (after 1 (then o (λ p''. after 1 (again (while q h t) p''))))) → Does (while q h t) p (after c (after 1 (then o (λ p''. after 1 (again (while q h t) p'')))))
body-sound q h t p again ih c f (done d p') s k =
    rw (after-four c d (again (while q h t) p'))
    (while-again f (s tt) (ih (while q h t) p' (after-known 1 _ (after-known d _ (after-known 1 _ (after-known c _ k))))))
body-sound q h t p again ih c f (stop d x r) s k =
    subst (λ (n : ℕ). Does (while q h t) p (stop n x r)) (omega arith) (while-body-stops f (s tt))
body-sound q h t p again ih c f lost s k = absurd k

while-sound : (q : ℕ) (h : Condition) (t : Sheet) (p : Points) (again : Command → Points → Out Points) → SoundOf again → (run : Sheet → Points → Out Points) → (Known (run t p) → Ends t p (run t p)) → (o : Out Bool) → condition_work h p ≡ o → Known (then o (λ b. after 1 (fork b (λ p'. then (run t p') (λ p''. after 1 (again (while q h t) p''))) (done 0) p))) → Does (while q h t) p (then o (λ b. after 1 (fork b (λ p'. then (run t p') (λ p''. after 1 (again (while q h t) p''))) (done 0) p)))
while-sound q h t p again ih run s (done c true) f k = body-sound q h t p again ih c f (run t p) s k
while-sound q h t p again ih run s (done c false) f k = while-not f
while-sound q h t p again ih run s (stop c x r) f k = while-stops f
while-sound q h t p again ih run s lost f k = absurd k

joint-sound : (q : ℕ) (c : Command) (t : Sheet) (p : Points) (run : Sheet → Points → Out Points) → (o : Out Points) → (Known o → Does c p o) → ((p' : Points) → Known (run t p') → Ends t p' (run t p')) → Known (then o (run t)) → Ends (joint q c t) p (then o (run t))
joint-sound q c t p run (done n p') s s' k = joint-ends (s tt) (s' p' (after-known n _ k))
joint-sound q c t p run (stop n x r) s s' k = joint-stops (s tt)
joint-sound q c t p run lost s s' k = absurd k

module _ (again : Command → Points → Out Points) (ih : SoundOf again) where
  mutual
    round-sound-of : SoundOf (round_of again)
    round-sound-of (set q x e) p = set-sound q x e p (sum_work e p) refl
    round-sound-of (when q h t) p = when-sound q h t p (round again) (round-sound t p) (condition_work h p) refl
    round-sound-of (choose q h t u) p = choose-sound q h t u p (round again) (round-sound t p) (round-sound u p) (condition_work h p) refl
    round-sound-of (while q h t) p = while-sound q h t p again ih (round again) (round-sound t p) (condition_work h p) refl

    round-sound : Sound (round again)
    round-sound (only c) p = λ k. only-ends (round-sound-of c p k)
    round-sound (joint q c t) p = joint-sound q c t p (round again) (round_of again c p) (round-sound-of c p) (round-sound t)

sound-of : (n : ℕ) → SoundOf (rounds_of n)
sound-of zero t p k = absurd k
sound-of (suc n) t p k = round-sound-of (rounds_of n) (sound-of n) t p k

pub sound : (n : ℕ) → Sound (rounds n)
sound zero t p k = absurd k
sound (suc n) t p k = round-sound (rounds_of n) (sound-of n) t p k
