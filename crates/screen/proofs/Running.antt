-- How the commands run within an allowance, from how their parts do.
use Rattle.std.proofs.Common.{◌≡◌, ℕ, ◌+◌, ◌<◌, ◌≤◌, Bool, true, false, cond, leb, Ok, Err, Result, sym, refl, ap, ◌∙◌, subst, arith}
use Rattle.std.proofs.lemmas.Bool.{leb-true, leb-false}
use Rattle.faults.specs.declared.causes.RunCause.{RunCause}
use Rattle.tables.specs.Trees.{Condition, Command, when, choose, while, Sheet, only, joint}
use Rattle.screen.specs.declared.halt.Halt.{Halt}
use Rattle.screen.specs.declared.halt.Halt.TheVariants.{Stopped, Spent}
use Rattle.screen.specs.Works.{Points, Out, done, stop, lost, after, then, condition_work, cost}
use Rattle.screen.specs.Model.{Does, when-stops, when-not, when-holds, choose-stops, choose-not, choose-holds, while-stops, while-not, while-body-stops, while-again, Ends, only-ends, joint-stops, joint-ends}
use Rattle.screen.specs.Equations.{Onward, Tested, Untouched, FirstBody, OneAnd, Round}
use Rattle.screen.specs.Runs.{Ran, RanAndOne}
use Rattle.screen.specs.OneMore.{one_more}
use Rattle.screen.specs.Judging.{least, JudgedAs}
use Rattle.screen.proofs.Modelling.{Known, known, after-known, cost-after, cost-one, unique, unique-of}
use Rattle.screen.proofs.Equations.{sequence, conditional, alternative, unfolding-loop, three-afters}

does : {c : Command} {p : Points} {o : Out Points} → Ends (only c) p o → Does c p o
does (only-ends d) = d

cost-of : (n : ℕ) (o o' : Out Points) → Known o → o ≡ after n o' → (cost o ≡ n + cost o') × Known o'
cost-of n o o' k e = let k' = after-known n o' (subst Known e k) in (ap cost e ∙ cost-after n o' k', k')

-- A run goes on as one does that begins so many steps later: what that one's outcomes are, these are after the steps.

abbrev RanBy : (Out Points → Type 0) → ℕ → ℕ → Result ℕ Halt → Points → Type 0
RanBy E k a (Ok n) p' = (c : ℕ) × (n ≡ k + c) × (n ≤ a) × E (done c p')
RanBy E k a (Err (Stopped s)) p' = (c : ℕ) × (s.spent ≡ k + c) × (s.spent ≤ a) × E (stop c s.cause s.place)
RanBy E k a (Err Spent) p' = (o : Out Points) → E o → a < k + cost o

ran-by : (p : Points) (t : Sheet) (k a : ℕ) (out : Result ℕ Halt) (p' : Points) → Ran p t k a out p' → RanBy (Ends t p) k a out p'
ran-by p t k a (Ok n) p' r = r
ran-by p t k a (Err (Stopped s)) p' r = r
ran-by p t k a (Err Spent) p' r = r

one-by : (p : Points) (t : Sheet) (k a : ℕ) (out : Result ℕ Halt) (p' : Points) → RanAndOne p t k a out p' → RanBy (FirstBody t p) k a out p'
one-by p t k a (Ok n) p' r = (r.0 + 1, r.1, r.2, (done r.0 p', r.3, refl))
one-by p t k a (Err (Stopped s)) p' r = (r.0, r.1, r.2, (stop r.0 s.cause s.place, r.3, refl))
one-by p t k a (Err Spent) p' r = λ o f. subst (λ (w : Out Points). a < k + cost w) (sym f.2) (r f.0 f.1)

goes-on : (E : Out Points → Type 0) (t : Sheet) (p : Points) (k n d a : ℕ) → n ≡ k + d → ((o : Out Points) → E o → Ends t p (after d o)) → ((o : Out Points) → Ends t p o → (o' : Out Points) × E o' × (o ≡ after d o')) → (out : Result ℕ Halt) (p' : Points) → RanBy E n a out p' → Ran p t k a out p'
goes-on E t p k n d a i to back (Ok m) p' r = let j = r.1 in (d + r.0, omega arith, r.2, to _ r.3)
goes-on E t p k n d a i to back (Err (Stopped s)) p' r = let j = r.1 in (d + r.0, omega arith, r.2, to _ r.3)
goes-on E t p k n d a i to back (Err Spent) p' r =
    λ o e. let B = back o e in omega (arith, (cost-of d o B.0 (known e) B.2).0, r B.0 B.1)

-- A command whose condition does not come to its end costs no less than the condition and the step after it.

tested-least : (w : Out Bool) (F G : Out Points → Type 0) (o : Out Points) → Known o → Tested w F G o → least w ≤ cost o
tested-least (done n true) F G o k h = omega (arith, (cost-of (n + 1) o h.0 k h.2).0)
tested-least (done n false) F G o k h = omega (arith, (cost-of (n + 1) o h.0 k h.2).0)
tested-least (stop n x q) F G o k h = omega (arith, ap cost h)
tested-least lost F G o k h = absurd h

test-halted : (h : Condition) (t : Sheet) (p : Points) (k a : ℕ) (F G : Out Points → Type 0) → ((c : ℕ) (x : RunCause) (q : ℕ) → condition_work h p ≡ stop c x q → Ends t p (stop c x q)) → ((o : Out Points) → Ends t p o → Tested (condition_work h p) F G o) → (x : Halt) (p' : Points) → JudgedAs h p k a (Err x) → Ran p t k a (Err x) p'
test-halted h t p k a F G to back (Stopped s) p' j = (j.0, j.1, j.2, to _ _ _ j.3)
test-halted h t p k a F G to back Spent p' j =
    λ o e. omega (arith, tested-least (condition_work h p) F G o (known e) (back o e), j)

-- if

module _ (q : ℕ) (h : Condition) (t : Sheet) (p : Points) (k a : ℕ) where
  if-tested : (o : Out Points) → Ends (only (when q h t)) p o → Tested (condition_work h p) (Ends t p) (Untouched p) o
  if-tested o e = (conditional q h t p o).0 (does e)

  pub when-ran : (n : ℕ) (out : Result ℕ Halt) (p' : Points) → JudgedAs h p k a (Ok (true, n)) → Ran p t n a out p' → Ran p (only (when q h t)) k a out p'
  when-ran n out p' j r =
      goes-on (Ends t p) (only (when q h t)) p k n (j.0 + 1) a j.1 (λ o e. only-ends (when-holds j.3 e))
      (λ o e. subst (λ (w : Out Bool). Tested w (Ends t p) (Untouched p) o) j.3 (if-tested o e)) out p' (ran-by p t n a out p' r)

  pub when-failed : (n : ℕ) → JudgedAs h p k a (Ok (false, n)) → Ran p (only (when q h t)) k a (Ok n) p
  when-failed n j = (j.0 + 1, j.1, j.2, only-ends (when-not j.3))

  pub when-halted : (x : Halt) (p' : Points) → JudgedAs h p k a (Err x) → Ran p (only (when q h t)) k a (Err x) p'
  when-halted = test-halted h (only (when q h t)) p k a (Ends t p) (Untouched p) (λ c x r e. only-ends (when-stops e)) if-tested

-- a sheet and one step more

more-ran : (p : Points) (t : Sheet) (k a n : ℕ) (p' : Points) (b : Bool) → leb a n ≡ b → Ran p t k a (Ok n) p' → RanAndOne p t k a (cond b (Err Spent) (Ok (n + 1))) p'
more-ran p t k a n p' true e r =
    λ o d.
    let i = r.1 in
    let s = ap (λ (w : Out Points). cost (then w (done 1))) (unique o (done r.0 p') d r.3) in
    omega (arith, leb-true a n e, s)
more-ran p t k a n p' false e r =
    let i = r.1 in
    (r.0, omega arith, omega (arith, leb-false a n e), r.3)

one-more-ran : (p : Points) (t : Sheet) (k a : ℕ) (out : Result ℕ Halt) (p' : Points) → Ran p t k a out p' → RanAndOne p t k a (one_more out a) p'
one-more-ran p t k a (Ok n) p' r = more-ran p t k a n p' (leb a n) refl r
one-more-ran p t k a (Err (Stopped s)) p' r = r
one-more-ran p t k a (Err Spent) p' r = λ o d. omega (arith, r o d, cost-one o)

pub one-more-is : (p : Points) (t : Sheet) (k a : ℕ) (run out : Result ℕ Halt) (p' : Points) → out ≡ one_more run a → Ran p t k a run p' → RanAndOne p t k a out p'
one-more-is p t k a run out p' e r = subst (λ (x : Result ℕ Halt). RanAndOne p t k a x p') (sym e) (one-more-ran p t k a run p' r)

-- if-else

module _ (q : ℕ) (h : Condition) (t u : Sheet) (p : Points) (k a : ℕ) where
  choice-tested : (o : Out Points) → Ends (only (choose q h t u)) p o → Tested (condition_work h p) (FirstBody t p) (Ends u p) o
  choice-tested o e = (alternative q h t u p o).0 (does e)

  pub choose-first : (n : ℕ) (out : Result ℕ Halt) (p' : Points) → JudgedAs h p k a (Ok (true, n)) → RanAndOne p t n a out p' → Ran p (only (choose q h t u)) k a out p'
  choose-first n out p' j r =
      goes-on (FirstBody t p) (only (choose q h t u)) p k n (j.0 + 1) a j.1
      (λ o f. subst (λ (w : Out Points). Ends (only (choose q h t u)) p (after (j.0 + 1) w)) (sym f.2) (only-ends (choose-holds j.3 f.1)))
      (λ o e. subst (λ (w : Out Bool). Tested w (FirstBody t p) (Ends u p) o) j.3 (choice-tested o e)) out p' (one-by p t n a out p' r)

  pub choose-second : (n : ℕ) (out : Result ℕ Halt) (p' : Points) → JudgedAs h p k a (Ok (false, n)) → Ran p u n a out p' → Ran p (only (choose q h t u)) k a out p'
  choose-second n out p' j r =
      goes-on (Ends u p) (only (choose q h t u)) p k n (j.0 + 1) a j.1 (λ o e. only-ends (choose-not j.3 e))
      (λ o e. subst (λ (w : Out Bool). Tested w (FirstBody t p) (Ends u p) o) j.3 (choice-tested o e)) out p' (ran-by p u n a out p' r)

  pub choose-halted : (x : Halt) (p' : Points) → JudgedAs h p k a (Err x) → Ran p (only (choose q h t u)) k a (Err x) p'
  choose-halted = test-halted h (only (choose q h t u)) p k a (FirstBody t p) (Ends u p) (λ c x r e. only-ends (choose-stops e)) choice-tested

-- while

module _ (q : ℕ) (h : Condition) (t : Sheet) (p : Points) (k a : ℕ) where
  loop-tested : (o : Out Points) → Ends (only (while q h t)) p o → Tested (condition_work h p) (Round (while q h t) t p) (Untouched p) o
  loop-tested o e = (unfolding-loop q h t p o).0 (does e)

  pub while-failed : (n : ℕ) → JudgedAs h p k a (Ok (false, n)) → Ran p (only (while q h t)) k a (Ok n) p
  while-failed n j = (j.0 + 1, j.1, j.2, only-ends (while-not j.3))

  pub while-halted : (x : Halt) (p' : Points) → JudgedAs h p k a (Err x) → Ran p (only (while q h t)) k a (Err x) p'
  while-halted = test-halted h (only (while q h t)) p k a (Round (while q h t) t p) (Untouched p) (λ c x r e. only-ends (while-stops e)) loop-tested

  -- a round of the loop costs at least its body and one step
  round-cost : (o : Out Points) (w : Out Points) → Known o → Onward w (OneAnd (while q h t)) o → cost (then w (done 1)) ≤ cost o
  round-cost o (done d p') m g =
      let C = cost-of d o g.0 m g.2 in
      let D = cost-of 1 g.0 g.1.0 C.1 g.1.2 in
      omega (arith, C.0, D.0)
  round-cost o (stop d x r) m g = omega (arith, ap cost g)
  round-cost o lost m g = absurd g

  round-of : (n : ℕ) (j : JudgedAs h p k a (Ok (true, n))) (o : Out Points) → Ends (only (while q h t)) p o → (o' : Out Points) × Round (while q h t) t p o' × (o ≡ after (j.0 + 1) o')
  round-of n j o e = subst (λ (w : Out Bool). Tested w (Round (while q h t) t p) (Untouched p) o) j.3 (loop-tested o e)

  pub while-body-halted : (n : ℕ) (x : Halt) (p' p'' : Points) → JudgedAs h p k a (Ok (true, n)) → RanAndOne p t n a (Err x) p' → Ran p (only (while q h t)) k a (Err x) p''
  while-body-halted n (Stopped s) p' p'' j r =
      let i = j.1 in
      let i' = r.1 in
      (j.0 + 1 + r.0, omega arith, r.2, only-ends (while-body-stops j.3 r.3))
  while-body-halted n Spent p' p'' j r =
      λ o e.
      let i = j.1 in
      let T = round-of n j o e in
      let C = cost-of (j.0 + 1) o T.0 (known e) T.2 in
      let B = T.1 in
      omega (arith, C.0, round-cost T.0 B.0 C.1 B.2, r B.0 B.1)

  pub while-more : (n m : ℕ) (p' : Points) → JudgedAs h p k a (Ok (true, n)) → RanAndOne p t n a (Ok m) p' → (out : Result ℕ Halt) (p'' : Points) → Ran p' (only (while q h t)) m a out p'' → Ran p (only (while q h t)) k a out p''
  while-more n m p' j b out p'' r =
      goes-on (Ends (only (while q h t)) p') (only (while q h t)) p k m (j.0 + 1 + b.0 + 1) a (omega (arith, j.1, b.1))
      (λ o e. only-ends (while-again j.3 b.3 (does e)))
      (λ o e.
      let T = round-of n j o e in
      let B = T.1 in
      let g = subst (λ (w : Out Points). Onward w (OneAnd (while q h t)) T.0) (unique B.0 (done b.0 p') B.1 b.3) B.2 in
      (g.1.0, only-ends g.1.1, T.2 ∙ ap (after (j.0 + 1)) (g.2 ∙ ap (after b.0) g.1.2) ∙ sym (three-afters j.0 b.0 g.1.0)))
      out p'' (ran-by p' (only (while q h t)) m a out p'' r)

-- joint

module _ (q : ℕ) (c : Command) (t : Sheet) (p : Points) (k a : ℕ) where
  pub joint-ran : (n : ℕ) (p' : Points) → Ran p (only c) k a (Ok n) p' → (out : Result ℕ Halt) (p'' : Points) → Ran p' t n a out p'' → Ran p (joint q c t) k a out p''
  joint-ran n p' b out p'' r =
      goes-on (Ends t p') (joint q c t) p k n b.0 a b.1 (λ o e. joint-ends (does b.3) e)
      (λ o e.
      let S = (sequence q c t p o).0 e in
      subst (λ (w : Out Points). Onward w (Ends t) o) (unique-of S.0 (done b.0 p') S.1 (does b.3)) S.2)
      out p'' (ran-by p' t n a out p'' r)

  first-cost : (o w : Out Points) → Known o → Onward w (Ends t) o → cost w ≤ cost o
  first-cost o (done n p') m g = omega (arith, (cost-of n o g.0 m g.2).0)
  first-cost o (stop n x r) m g = omega (arith, ap cost g)
  first-cost o lost m g = absurd g

  pub joint-halted : (x : Halt) (p' p'' : Points) → Ran p (only c) k a (Err x) p' → Ran p (joint q c t) k a (Err x) p''
  joint-halted (Stopped s) p' p'' b = (b.0, b.1, b.2, joint-stops (does b.3))
  joint-halted Spent p' p'' b =
      λ o e.
      let S = (sequence q c t p o).0 e in
      omega (arith, first-cost o S.0 (known e) S.2, b S.0 (only-ends S.1))
