-- The rules of the state model give its equations, and the equations all that the rules give.
use Rattle.std.proofs.Common.{◌≡◌, ℕ, ◌+◌, Bool, true, false, set as put, ℤ, Ok, Err, Result, sym, refl, ap, ◌∙◌, subst, arith}
use Rattle.faults.specs.declared.causes.RunCause.{RunCause}
use Rattle.arith.specs.Operators.{worked}
use Rattle.tables.specs.Trees.{Sum, number, name, work, Condition, Command, set, when, choose, while, Sheet, joint}
use Rattle.screen.specs.Works.{Points, Out, done, stop, lost, after, then, step, sum_work, condition_work}
use Rattle.screen.specs.Model.{Does, set-ends, set-stops, when-stops, when-not, when-holds, choose-stops, choose-not, choose-holds, while-stops, while-not, while-body-stops, while-again, Ends, joint-stops, joint-ends}
use Rattle.screen.specs.Equations.{Onward, Tested, Untouched, FirstBody, OneAnd, Round, Sequence, Assignment, If, IfElse, Unfolding, StateModel}
use Rattle.screen.proofs.Modelling.{after-after, unique, Known, known-after}

done-plus : (n : ℕ) (p : Points) → done (n + 1) p ≡ after (n + 1) (done 0 p)
done-plus n p = ap (λ k. done k p) (omega arith)

-- sequence

sequence-to : (q : ℕ) (c : Command) (t : Sheet) (p : Points) (o : Out Points) → Ends (joint q c t) p o → (o' : Out Points) × Does c p o' × Onward o' (Ends t) o
sequence-to q c t p o (joint-stops {n = n} {x = x} {r = r} d) = (stop n x r, d, refl)
sequence-to q c t p o (joint-ends {p' = p'} {n = n} {o = w} b d) = (done n p', b, (w, d, refl))

sequence-from : (q : ℕ) (c : Command) (t : Sheet) (p : Points) (o o' : Out Points) → Does c p o' → Onward o' (Ends t) o → Ends (joint q c t) p o
sequence-from q c t p o (done n p') d h = subst (Ends (joint q c t) p) (sym h.2) (joint-ends d h.1)
sequence-from q c t p o (stop n x r) d h = subst (Ends (joint q c t) p) (sym h) (joint-stops d)
sequence-from q c t p o lost d h = absurd h

pub sequence : Sequence
sequence q c t p o = (sequence-to q c t p o, λ h. sequence-from q c t p o h.0 h.1 h.2)

-- assignment

assignment-to : (q x : ℕ) (e : Sum) (p : Points) (o : Out Points) → Does (set q x e) p o → o ≡ then (sum_work e p) (λ v. done 2 (put p x v))
assignment-to q x e p o (set-ends f) = rw f
assignment-to q x e p o (set-stops f) = rw f

-- a sum is never lost

known-then : {A B : Type 0} (o : Out A) (f : A → Out B) → Known o → ((v : A) → Known (f v)) → Known (then o f)
known-then (done c v) f k g = known-after c (f v) (g v)
known-then (stop c x q) f k g = tt
known-then lost f k g = absurd k

step-known : (q : ℕ) (r : Result ℤ RunCause) → Known (step q r)
step-known q (Ok v) = tt
step-known q (Err x) = tt

sum-known : (e : Sum) (p : Points) → Known (sum_work e p)
sum-known (number q v) p = tt
sum-known (name q x) p = tt
sum-known (work q o l r) p =
    known-then (sum_work l p) _ (sum-known l p) (λ x. known-then (sum_work r p) _ (sum-known r p) (λ y. step-known q (worked o x y)))

assignment-from : (q x : ℕ) (e : Sum) (p : Points) (o : Out Points) (w : Out ℤ) → sum_work e p ≡ w → o ≡ then w (λ v. done 2 (put p x v)) → Does (set q x e) p o
assignment-from q x e p o (done c v) f h = subst (Does (set q x e) p) (sym h) (set-ends f)
assignment-from q x e p o (stop c y r) f h = subst (Does (set q x e) p) (sym h) (set-stops f)
assignment-from q x e p o lost f h = absurd (subst Known f (sum-known e p))

pub assignment : Assignment
assignment q x e p o = (assignment-to q x e p o, λ h. assignment-from q x e p o (sum_work e p) refl h)

-- conditions

if-to : (q : ℕ) (h : Condition) (t : Sheet) (p : Points) (o : Out Points) → Does (when q h t) p o → Tested (condition_work h p) (Ends t p) (Untouched p) o
if-to q h t p o (when-stops e) = rw e
if-to q h t p o (when-not {c = c} e) = rw e (done 0 p, refl, done-plus c p)
if-to q h t p o (when-holds {o = w} e d) = rw e (w, d, refl)

if-from : (q : ℕ) (h : Condition) (t : Sheet) (p : Points) (o : Out Points) (w : Out Bool) → condition_work h p ≡ w → Tested w (Ends t p) (Untouched p) o → Does (when q h t) p o
if-from q h t p o (done n true) e f = subst (Does (when q h t) p) (sym f.2) (when-holds e f.1)
if-from q h t p o (done n false) e f = subst (Does (when q h t) p) (sym (f.2 ∙ ap (after (n + 1)) f.1 ∙ sym (done-plus n p))) (when-not e)
if-from q h t p o (stop n x r) e f = subst (Does (when q h t) p) (sym f) (when-stops e)
if-from q h t p o lost e f = absurd f

pub conditional : If
conditional q h t p o = (if-to q h t p o, λ f. if-from q h t p o (condition_work h p) refl f)

alternative-to : (q : ℕ) (h : Condition) (t u : Sheet) (p : Points) (o : Out Points) → Does (choose q h t u) p o → Tested (condition_work h p) (FirstBody t p) (Ends u p) o
alternative-to q h t u p o (choose-stops e) = rw e
alternative-to q h t u p o (choose-not {o = w} e d) = rw e (w, d, refl)
alternative-to q h t u p o (choose-holds {o = w} e d) = rw e (then w (done 1), (w, d, refl), refl)

alternative-from : (q : ℕ) (h : Condition) (t u : Sheet) (p : Points) (o : Out Points) (w : Out Bool) → condition_work h p ≡ w → Tested w (FirstBody t p) (Ends u p) o → Does (choose q h t u) p o
alternative-from q h t u p o (done n true) e f =
    subst (Does (choose q h t u) p) (sym (f.2 ∙ ap (after (n + 1)) f.1.2)) (choose-holds e f.1.1)
alternative-from q h t u p o (done n false) e f = subst (Does (choose q h t u) p) (sym f.2) (choose-not e f.1)
alternative-from q h t u p o (stop n x r) e f = subst (Does (choose q h t u) p) (sym f) (choose-stops e)
alternative-from q h t u p o lost e f = absurd f

pub alternative : IfElse
alternative q h t u p o = (alternative-to q h t u p o, λ f. alternative-from q h t u p o (condition_work h p) refl f)

-- the loop

pub three-afters : (c d : ℕ) (o : Out Points) → after (c + 1 + d + 1) o ≡ after (c + 1) (after d (after 1 o))
three-afters c d o = sym (simp after-after (ap (λ n. after n o) (omega arith)))

unfolding-to : (q : ℕ) (h : Condition) (t : Sheet) (p : Points) (o : Out Points) → Does (while q h t) p o → Tested (condition_work h p) (Round (while q h t) t p) (Untouched p) o
unfolding-to q h t p o (while-stops e) = rw e
unfolding-to q h t p o (while-not {c = c} e) = rw e (done 0 p, refl, done-plus c p)
unfolding-to q h t p o (while-body-stops {d = d} {x = x} {r = r} e b) = rw e (stop d x r, (stop d x r, b, refl), refl)
unfolding-to q h t p o (while-again {p' = p'} {c = c} {d = d} {o = w} e b r) =
    rw e (after d (after 1 w), (done d p', b, (after 1 w, (w, r, refl), refl)), three-afters c d w)

round-from : (q : ℕ) (h : Condition) (t : Sheet) (p : Points) (o o' : Out Points) (n : ℕ) → condition_work h p ≡ done n true → o ≡ after (n + 1) o' → (w : Out Points) → Ends t p w → Onward w (OneAnd (while q h t)) o' → Does (while q h t) p o
round-from q h t p o o' n e f (done d p') b g =
    subst (Does (while q h t) p) (sym (f ∙ ap (after (n + 1)) (g.2 ∙ ap (after d) g.1.2) ∙ sym (three-afters n d g.1.0))) (while-again e b g.1.1)
round-from q h t p o o' n e f (stop d x r) b g = subst (Does (while q h t) p) (sym (f ∙ ap (after (n + 1)) g)) (while-body-stops e b)
round-from q h t p o o' n e f lost b g = absurd g

unfolding-from : (q : ℕ) (h : Condition) (t : Sheet) (p : Points) (o : Out Points) (w : Out Bool) → condition_work h p ≡ w → Tested w (Round (while q h t) t p) (Untouched p) o → Does (while q h t) p o
unfolding-from q h t p o (done n true) e f = round-from q h t p o f.0 n e f.2 f.1.0 f.1.1 f.1.2
unfolding-from q h t p o (done n false) e f = subst (Does (while q h t) p) (sym (f.2 ∙ ap (after (n + 1)) f.1 ∙ sym (done-plus n p))) (while-not e)
unfolding-from q h t p o (stop n x r) e f = subst (Does (while q h t) p) (sym f) (while-stops e)
unfolding-from q h t p o lost e f = absurd f

pub unfolding-loop : Unfolding
unfolding-loop q h t p o = (unfolding-to q h t p o, λ f. unfolding-from q h t p o (condition_work h p) refl f)

pub state-model : StateModel
state-model =
    record {
      sequence = sequence;
      assignment = assignment;
      conditional = conditional;
      alternative = alternative;
      unfolding-loop = unfolding-loop;
      outcome = λ t p o o' e e'. unique o o' e e';
    }
