-- What holds of each of a list, part by part, and from what holds at every index.
use Rattle.std.proofs.Common.{ℕ, suc, ◌<◌, List, [], ◌∷◌, length, get_or, arith}
use Rattle.station_file.specs.Rules.{Each}

module _ {X : Type 0} (P : X → Type 0) where
  pub each_none : Each P []
  unfolding Each
  each_none = tt

  pub each-cons : (x : X) (xs : List X) → P x → Each P xs → Each P (x ∷ xs)
  unfolding Each
  each-cons x xs p e = (p, e)

  pub each-parts : (x : X) (xs : List X) → Each P (x ∷ xs) → (P x) × (Each P xs)
  unfolding Each
  each-parts x xs e = (e.0, e.1)

  pub each_from : (xs : List X) (d : X) → ((i : ℕ) → i < length xs → P (get_or xs i d)) → Each P xs
  unfolding Each
  each_from [] d h = tt
  each_from (x ∷ xs) d h = (h 0 (omega arith), each_from xs d (λ i l. h (suc i) (omega arith)))
