-- A command that sets a point: its parts, from where its rows stand, and how it runs within an allowance.
use Rattle.std.proofs.Common.{◌≡◌, ℕ, ◌+◌, ◌-◌, ◌<◌, ◌≤◌, List, length, get_or, set as put, ℤ, pos, Ok, Err, ap, arith}
use Rattle.tables.specs.declared.row.Row.{Row}
use Rattle.tables.specs.declared.sort.Sort.TheVariants as sort
use Rattle.tables.specs.Trees.{Sum, set, only}
use Rattle.tables.specs.Rows.{blank, sum_size}
use Rattle.tables.proofs.OfSort.{length-in}
use Rattle.screen.specs.declared.halt.Halt.{Halt}
use Rattle.screen.specs.declared.halt.Stop.{Stop}
use Rattle.screen.specs.Allowing.{allowed, halted}
use Rattle.screen.specs.Works.{Points, Out, done, stop, after, sum_work, cost}
use Rattle.screen.specs.Model.{set-ends, set-stops, Ends, only-ends}
use Rattle.screen.specs.Runs.{Ran}
use Rattle.screen.specs.Parts.{SumAt, SheetAt}
use Rattle.screen.proofs.Allowing.{allowed-ok, allowed-err, halted-by}
use Rattle.screen.proofs.Costs.{gave, broke}
use Rattle.screen.proofs.Parting.{size_in_lem, end-in, one_in}

pub record Setting (R : List Row) (end count x : ℕ) (e : Sum) : Type 0 where
  pub some : 1 ≤ end
  pub within : end ≤ length R
  pub value : (get_or R (end - 1) blank).value ≡ pos x
  pub below : x < count
  pub part : SumAt R (end - 1) count e
  pub part-size : (get_or R (end - 1 - 1) blank).size ≡ sum_size e
  pub part-few : sum_size e ≤ length R

pub setting : {R : List Row} {end count q x : ℕ} {e : Sum} → SheetAt R end count (only (set q x e)) → Setting R end count x e
setting {R} {end} {count} {q} {x} {e} at =
    let O = one_in sort.Sum R end e _ at.stands in
    let k = end-in sort.Sheet R end (only (set q x e)) at.stands in
    record {
      some = k.0;
      within = k.1;
      value = ap (λ (r : Row). r.value) O.own;
      below = at.over.0;
      part = record { stands = O.left; over = at.over.1 };
      part-size = size_in_lem sort.Sum R (end - 1) e O.left;
      part-few = let f = O.left.fits in let w = O.left.within in omega (arith, length-in sort.Sum e, w, f);
    }

-- whichever way its sum goes, from k steps within an allowance a
module _ (q x : ℕ) (e : Sum) (p : Points) (k a : ℕ) where
  late : (n : ℕ) (v : ℤ) → done n v ≡ after k (sum_work e p) → a < n + 2 → (o : Out Points) → Ends (only (set q x e)) p o → a < k + cost o
  late n v h l o (only-ends (set-ends {c = c} f)) =
      let g = rw f at h in
      let m : n ≡ k + c = cc in
      omega arith
  late n v h l o (only-ends (set-stops {c = c} f)) = let g : done n v ≡ stop (k + c) _ _ = rw f at h in absurd cc

  stopped-late : (s : Stop) → stop s.spent s.cause s.place ≡ after k (sum_work e p) → a < s.spent → (o : Out Points) → Ends (only (set q x e)) p o → a < k + cost o
  stopped-late s h l o (only-ends (set-ends {c = c} {v = v} f)) =
      let g : stop s.spent s.cause s.place ≡ done (k + c) v = rw f at h in
      absurd cc
  stopped-late s h l o (only-ends (set-stops {c = c} f)) =
      let g = rw f at h in
      let m : s.spent ≡ k + c = cc in
      omega arith

  pub set-ended : (n m : ℕ) (v : ℤ) → done n v ≡ after k (sum_work e p) → Ok m ≡ allowed a (n + 2) → Ran p (only (set q x e)) k a (Ok m) (put p x v)
  set-ended n m v h g =
      let G = gave (sum_work e p) k n v h in
      let made = G.made in
      let A = allowed-ok a (n + 2) g in
      (G.steps + 2, omega (arith, A.0), omega (arith, A.0, A.1), only-ends (set-ends G.came))

  pub set-spent : (n : ℕ) (v : ℤ) {x' : Halt} (p' : Points) → done n v ≡ after k (sum_work e p) → Err x' ≡ allowed a (n + 2) → Ran p (only (set q x e)) k a (Err x') p'
  set-spent n v p' h g = let A = allowed-err a (n + 2) g in rw A.0 (late n v h A.1)

  pub set-halted : (s : Stop) (p' : Points) → stop s.spent s.cause s.place ≡ after k (sum_work e p) → Ran p (only (set q x e)) k a (Err (halted a s)) p'
  set-halted s p' h =
      let B = broke (sum_work e p) k s.spent s.cause s.place h in
      halted-by a s (λ x'. Ran p (only (set q x e)) k a (Err x') p') (λ l. (B.steps, B.made, l, only-ends (set-stops B.came))) (stopped-late s h)
