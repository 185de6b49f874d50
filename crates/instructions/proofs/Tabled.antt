-- A rule of a table, proved at all of its entries by one test that antt computes.
use Rattle.std.proofs.Common.{◌≡◌, ℕ, zero, suc, ◌+◌, ◌<◌, Bool, true, ◌&&◌, List, [], ◌∷◌, length, get_or, sym, ◌∙◌, subst, le_of_suc-le-suc, not-suc-le-zero, add-zero, add-suc, suc-add, zero-add}
use Rattle.std.proofs.lemmas.Bool.{and_parts}

module _ {X : Type 0} (passes : ℕ → X → Bool) (d : X) where
  -- every entry passes at its place, places counted from i
  abbrev pub all_from : ℕ → List X → Bool
  all_from i [] = true
  all_from i (x ∷ xs) = passes i x && all_from (suc i) xs

  each_from : (xs : List X) (i : ℕ) → all_from i xs ≡ true → (k : ℕ) → k < length xs → passes (i + k) (get_or xs k d) ≡ true
  each_from [] i t k h = absurd (not-suc-le-zero h)
  each_from (x ∷ xs) i t zero h = subst (λ (m : ℕ). passes m x ≡ true) (sym (add-zero i)) (and_parts (passes i x) _ t).0
  each_from (x ∷ xs) i t (suc k) h =
      subst (λ (m : ℕ). passes m (get_or xs k d) ≡ true) (suc-add i k ∙ sym (add-suc i k))
      (each_from xs (suc i) (and_parts (passes i x) _ t).1 k (le_of_suc-le-suc h))

  pub each : (xs : List X) → all_from 0 xs ≡ true → (k : ℕ) → k < length xs → passes k (get_or xs k d) ≡ true
  each xs t k h = subst (λ (m : ℕ). passes m (get_or xs k d) ≡ true) (zero-add k) (each_from xs 0 t k h)
