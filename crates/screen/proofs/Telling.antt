-- What is told is what the state model says, and its laws.
use Rattle.std.proofs.Common.{◌≡◌, ℕ, suc, ◌+◌, ◌-◌, ◌<◌, ◌≤◌, Bool, true, false, cond, leb, List, length, get_or, take, is_ok, Ok, Err, Option, Result, sym, refl, ap, ◌∙◌, subst, arith}
use Rattle.std.proofs.lemmas.Bool.{leb-true, le-leb, lt-leb}
use Rattle.faults.specs.declared.fault.Fault.{Fault}
use Rattle.tables.specs.declared.row.Row.{Row}
use Rattle.tables.specs.Trees.{Sheet}
use Rattle.tables.specs.Rows.{blank, sheet_rows}
use Rattle.tables.specs.Tables.{SheetOver, Table}
use Rattle.tables.specs.Checks.{is_table, table_checked, no_table_fault, too_many_points}
use Rattle.tables.proofs.Standing.{accepts-table}
use Rattle.tables.proofs.Growing.{only-tables}
use Rattle.tables.proofs.TableLaws.{accepts}
use Rattle.screen.specs.declared.answer.Outcome.{Outcome}
use Rattle.screen.specs.declared.halt.Halt.{Halt}
use Rattle.screen.specs.declared.halt.Halt.TheVariants.{Stopped, Spent}
use Rattle.screen.specs.Works.{Points, Out, done, stop, lost, cost}
use Rattle.screen.specs.Model.{Ends}
use Rattle.screen.specs.Rounds.{rounds}
use Rattle.screen.specs.Runs.{Ran}
use Rattle.screen.specs.Within.{Within}
use Rattle.screen.specs.Parts.{SheetAt}
use Rattle.screen.specs.Screens.{Told, ended_at, stopped_at, spent_of, too_dear, told, outcome_of, on_checked, worked_out, settled}
use Rattle.screen.specs.Laws.{TableOf, Tells, Answers}
use Rattle.screen.proofs.Modelling.{Known, known, complete, sound, unique}
use Rattle.screen.specs.Behind.{tree_of}
use Rattle.screen.proofs.Behind.{tree-of}

-- the whole table, at its end
pub whole-at : (rows : List Row) (count : ℕ) (t : Sheet) → sheet_rows t ≡ rows → SheetOver count t → SheetAt rows (length rows) count t
whole-at rows count t e over =
    let n = ap length e in
    record {
      stands =
          record {
            fits = omega arith;
            within = omega arith;
            same = λ j l.
                let at : length rows - length (sheet_rows t) + j ≡ j = omega arith in
                ap (λ (k : ℕ). get_or rows k blank) at ∙ ap (λ (r : List Row). get_or r j blank) (sym e);
          };
      over = over;
    }

pub within-run : (p : Points) (t : Sheet) (k a : ℕ) (run : Result ℕ Halt) (p' : Points) → Ran p t k a run p' → Within run a
within-run p t k a (Ok n) p' r = r.2
within-run p t k a (Err (Stopped s)) p' r = r.2
within-run p t k a (Err Spent) p' r = tt

-- what is told of an outcome that is known, and the points it leaves

abbrev tell : Out Points → Outcome
tell (done c p') = ended_at c
tell (stop c x q) = stopped_at c x q
tell lost = ended_at 0

abbrev left_by : Out Points → Points → Points
left_by (done c p') p = p'
left_by (stop c x q) p = p
left_by lost p = p

tells : (o : Out Points) (p : Points) → Known o → Tells o p (tell o) (left_by o p)
tells (done c p') p k = (refl, refl)
tells (stop c x q) p k = (refl, refl)
tells lost p k = absurd k

told-is : (o : Out Points) (p : Points) (a : ℕ) → Known o → told o p a ≡ cond (leb (cost o) a) (Ok (tell o), left_by o p) (too_dear a p)
told-is (done c p') p a k = refl
told-is (stop c x q) p a k = refl
told-is lost p a k = absurd k

told-cheap : (o : Out Points) (p : Points) (a : ℕ) → Known o → cost o ≤ a → told o p a ≡ (Ok (tell o), left_by o p)
told-cheap o p a k h = told-is o p a k ∙ ap (λ (b : Bool). cond b (Ok (tell o), left_by o p) (too_dear a p)) (le-leb (cost o) a h)

told-dear : (o : Out Points) (p : Points) (a : ℕ) → Known o → a < cost o → told o p a ≡ too_dear a p
told-dear o p a k h = told-is o p a k ∙ ap (λ (b : Bool). cond b (Ok (tell o), left_by o p) (too_dear a p)) (lt-leb (cost o) a h)

-- an outcome that so many rounds find is the sheet's, and whatever is known of it then makes it dear

found : (t : Sheet) (p : Points) (a : ℕ) (o : Out Points) → rounds (suc a) t p ≡ o → Known o → Ends t p o
found t p a o e k = subst (Ends t p) e (sound (suc a) t p (subst Known (sym e) k))

dear-at : (t : Sheet) (p : Points) (a : ℕ) (o : Out Points) → rounds (suc a) t p ≡ o → ((o' : Out Points) → Ends t p o' → a < cost o') → told o p a ≡ too_dear a p
dear-at t p a (done c v) e h = told-dear (done c v) p a tt (h (done c v) (found t p a _ e tt))
dear-at t p a (stop c x q) e h = told-dear (stop c x q) p a tt (h (stop c x q) (found t p a _ e tt))
dear-at t p a lost e h = refl

pub ran-told : (t : Sheet) (p : Points) (a : ℕ) (run : Result ℕ Halt) (p' : Points) → Ran p t 0 a run p' → settled run p' p a ≡ told (rounds (suc a) t p) p a
ran-told t p a (Ok n) p' r =
    let i = r.1 in
    let m : r.0 ≡ n = omega arith in
    let le : r.0 ≤ a = omega (arith, r.2) in
    sym (ap (λ (o : Out Points). told o p a) (complete r.3 a le) ∙ told-cheap (done r.0 p') p a tt le ∙ ap (λ (k : ℕ). (Ok (ended_at k), p')) m)
ran-told t p a (Err (Stopped s)) p' r =
    let i = r.1 in
    let m : r.0 ≡ s.spent = omega arith in
    let le : r.0 ≤ a = omega (arith, r.2) in
    sym (ap (λ (o : Out Points). told o p a) (complete r.3 a le) ∙ told-cheap (stop r.0 s.cause s.place) p a tt le ∙ ap (λ (k : ℕ). (Ok (stopped_at k s.cause s.place), p)) m)
ran-told t p a (Err Spent) p' r = sym (dear-at t p a (rounds (suc a) t p) refl (λ o e. omega (arith, r o e)))

-- the defined value of a table

checked-ok : (c : ℕ) (rows : List Row) → Table c rows → c ≤ 64 → table_checked c rows ≡ Ok rows
checked-ok c rows T l = rw (accepts-table c rows T, le-leb c 64 l)

pub worked-table : (t : Sheet) (rows : List Row) (p : Points) (a : ℕ) → TableOf t rows p → worked_out rows p a ≡ told (rounds (suc a) t p) p a
worked-table t rows p a T =
    let table : Table (length p) rows = record { tree = t; over = T.over; listed = T.listed; few = T.few } in
    ap (λ (r : Result (List Row) Fault). on_checked r p a) (checked-ok (length p) rows table T.narrow)
    ∙ ap (λ (z : Option Sheet). told (outcome_of z p (suc a)) p a) (ap tree_of (sym T.listed) ∙ tree-of t)

table_of : (rows : List Row) (p : Points) (T : Table (length p) rows) → length p ≤ 64 → TableOf T.tree rows p
table_of rows p T l = record { listed = T.listed; over = T.over; few = T.few; narrow = l }

-- the run over the table, settled against the points from before
pub run-told : (rows : List Row) (p p₁ b : Points) (a : ℕ) (run : Result ℕ Halt) (T : Table (length p) rows) → length p ≤ 64 → length p₁ ≡ length p → take (length p) b ≡ p → Ran p T.tree 0 a run p₁ → settled run p₁ (take (length p₁) b) a ≡ worked_out rows p a
run-told rows p p₁ b a run T l m f r =
    let g : take (length p₁) b ≡ p = ap (λ (k : ℕ). take k b) m ∙ f in
    ap (λ (q : Points). settled run p₁ q a) g ∙ ran-told T.tree p a run p₁ r ∙ sym (worked-table T.tree rows p a (table_of rows p T l))

-- the laws

module _ (rows : List Row) (p : Points) (a : ℕ) (r : Result Outcome Fault) (p' : Points) (value : (r, p') ≡ worked_out rows p a) where
  to-told : (t : Sheet) → TableOf t rows p → (r, p') ≡ told (rounds (suc a) t p) p a
  to-told t T = value ∙ worked-table t rows p a T

  apart : (s : Result Outcome Fault) (q : Points) → ◌≡◌ {A = Told} (r, p') (s, q) → (r ≡ s) × (p' ≡ q)
  apart s q e = (ap (λ (z : Told). z.0) e, ap (λ (z : Told). z.1) e)

  law-within : (t : Sheet) → TableOf t rows p → (o : Out Points) → Ends t p o → cost o ≤ a → (x : Outcome) × (r ≡ Ok x) × Tells o p x p'
  law-within t T o e h =
      let k = apart _ _ (to-told t T ∙ ap (λ (w : Out Points). told w p a) (complete e a h) ∙ told-cheap o p a (known e) h) in
      (tell o, k.0, subst (Tells o p (tell o)) (sym k.1) (tells o p (known e)))

  law-beyond : (t : Sheet) → TableOf t rows p → (o : Out Points) → Ends t p o → a < cost o → (r ≡ Err (spent_of a)) × (p' ≡ p)
  law-beyond t T o e h =
      apart (Err (spent_of a)) p
      (to-told t T ∙ dear-at t p a (rounds (suc a) t p) refl (λ o' e'. subst (λ (w : Out Points). a < cost w) (unique o o' e e') h))

  law-never : (t : Sheet) → TableOf t rows p → ((o : Out Points) → Ends t p o → ⊥) → (r ≡ Err (spent_of a)) × (p' ≡ p)
  law-never t T n = apart (Err (spent_of a)) p (to-told t T ∙ dear-at t p a (rounds (suc a) t p) refl (λ o' e'. absurd (n o' e')))

  -- an answer was earned by an outcome

  earned-known : (x : Outcome) → r ≡ Ok x → (t : Sheet) → TableOf t rows p → (o : Out Points) → Known o → Ends t p o → (b : Bool) → leb (cost o) a ≡ b → (r, p') ≡ cond b (Ok (tell o), left_by o p) (too_dear a p) → (t : Sheet) × TableOf t rows p × (o : Out Points) × Ends t p o × (cost o ≤ a) × Tells o p x p'
  earned-known x e t T o k d true l f =
      let m = apart _ _ f in
      let y : x ≡ tell o = cc (e, m.0) in
      (t, T, o, d, leb-true (cost o) a l, rw (y, m.1) (tells o p k))
  earned-known x e t T o k d false l f = let m = apart _ _ f in absurd (cc (e, m.0))

  earned-at : (x : Outcome) → r ≡ Ok x → (t : Sheet) → TableOf t rows p → (o : Out Points) → rounds (suc a) t p ≡ o → (r, p') ≡ told o p a → (t : Sheet) × TableOf t rows p × (o : Out Points) × Ends t p o × (cost o ≤ a) × Tells o p x p'
  earned-at x e t T (done c v) f k = earned-known x e t T (done c v) tt (found t p a _ f tt) (leb c a) refl k
  earned-at x e t T (stop c y q) f k = earned-known x e t T (stop c y q) tt (found t p a _ f tt) (leb c a) refl k
  earned-at x e t T lost f k = let m = apart _ _ k in absurd (cc (e, m.0))

  law-earned : (x : Outcome) → r ≡ Ok x → (t : Sheet) × TableOf t rows p × (o : Out Points) × Ends t p o × (cost o ≤ a) × Tells o p x p'
  law-earned x e = go (table_checked (length p) rows) refl
    where
      go : (k : Result (List Row) Fault) → table_checked (length p) rows ≡ k → (t : Sheet) × TableOf t rows p × (o : Out Points) × Ends t p o × (cost o ≤ a) × Tells o p x p'
      go (Ok rows') f =
          let A = (accepts (length p) rows _ refl).only (ap is_ok f) in
          let T = A.0 in
          let of = table_of rows p T A.1 in
          earned-at x e T.tree of (rounds (suc a) T.tree p) refl (to-told T.tree of)
      go (Err y) f =
          let m = apart (Err y) p (value ∙ ap (λ (k : Result (List Row) Fault). on_checked k p a) f) in
          absurd (cc (e, m.0))

  -- a refusal leaves the points

  kept-known : (f : Fault) → r ≡ Err f → (o : Out Points) (b : Bool) → (r, p') ≡ cond b (Ok (tell o), left_by o p) (too_dear a p) → p' ≡ p
  kept-known f e o true k = let m = apart _ _ k in absurd (cc (e, m.0))
  kept-known f e o false k = (apart _ _ k).1

  kept_at : (f : Fault) → r ≡ Err f → (o : Out Points) → (r, p') ≡ told o p a → p' ≡ p
  kept_at f e (done c v) k = kept-known f e (done c v) (leb c a) k
  kept_at f e (stop c y q) k = kept-known f e (stop c y q) (leb c a) k
  kept_at f e lost k = (apart _ _ k).1

  law-kept : (f : Fault) → r ≡ Err f → p' ≡ p
  law-kept f e = go (table_checked (length p) rows) refl
    where
      go : (k : Result (List Row) Fault) → table_checked (length p) rows ≡ k → p' ≡ p
      go (Ok rows') g = kept_at f e (outcome_of (tree_of rows') p (suc a)) (value ∙ ap (λ (k : Result (List Row) Fault). on_checked k p a) g)
      go (Err y) g = (apart (Err y) p (value ∙ ap (λ (k : Result (List Row) Fault). on_checked k p a) g)).1

  refused-at : (b : Bool) → is_table (length p) rows ≡ b → (Table (length p) rows → ⊥) → table_checked (length p) rows ≡ Err no_table_fault
  refused-at true e n = absurd (n (only-tables (length p) rows e))
  refused-at false e n = rw e

  law-no-table : (Table (length p) rows → ⊥) → (r ≡ Err no_table_fault) × (p' ≡ p)
  law-no-table n =
      apart (Err no_table_fault) p (value ∙ ap (λ (k : Result (List Row) Fault). on_checked k p a) (refused-at (is_table (length p) rows) refl n))

  law-too-many : Table (length p) rows → 64 < length p → (r ≡ Err (too_many_points (length p))) × (p' ≡ p)
  law-too-many T l =
      let e : table_checked (length p) rows ≡ Err (too_many_points (length p)) = rw (accepts-table (length p) rows T, lt-leb (length p) 64 l) in
      apart (Err (too_many_points (length p))) p (value ∙ ap (λ (k : Result (List Row) Fault). on_checked k p a) e)

  pub answers : Answers rows p a r p'
  answers =
      record {
        within = law-within;
        beyond = law-beyond;
        never = law-never;
        earned = law-earned;
        kept = law-kept;
        no_table = law-no-table;
        too_many = law-too-many;
      }
