-- Fields of one kind, read one after another into slots.
use Rattle.std.proofs.Common.{◌≡◌, ℕ, suc, ◌+◌, ◌-◌, ◌*◌, ◌<◌, List, [], ◌∷◌, ◌++◌, length, take, drop, set, Ok, Err, Result, refl, ap, arith}
use Rattle.std.proofs.lemmas.Grind.{common_steps}
use Rattle.faults.specs.declared.fault.Fault.{Fault}
use Rattle.station_file.specs.Reading.{then, fields}

module _ {X : Type 0} (field : ℕ → List ℕ → Result X Fault) (w : ℕ) where
  pub fields-on : (k : ℕ) (xs : List X) (at : ℕ) (bs : List ℕ) → fields field w (suc k) xs at bs ≡ then (field at bs) (λ x. fields field w k (xs ++ x ∷ []) (at + w) (drop w bs))
  unfolding fields
  fields-on k xs at bs = refl

  pub fields-done : (k : ℕ) (xs : List X) (at : ℕ) (bs : List ℕ) → k ≡ 0 → fields field w k xs at bs ≡ Ok xs
  unfolding fields
  fields-done k xs at bs e = ap (λ n. fields field w n xs at bs) e

  -- the field at hand is wrong, and so the whole is
  pub fields-wrong : (n i at : ℕ) (xs : List X) (bs : List ℕ) (f : Fault) → i < n → field at (drop at bs) ≡ Err f → fields field w (n - i) xs at (drop at bs) ≡ Err f
  unfolding fields
  fields-wrong n i at xs bs f h e = let k : n - i ≡ suc (n - (i + 1)) = omega arith in grind arith

  -- the field at hand was put into its slot
  pub fields-more : (n i at : ℕ) (slots : List X) (bs : List ℕ) (x : X) → i < n → i < length slots → field (at + w * i) (drop (at + w * i) bs) ≡ Ok x → fields field w (n - i) (take i slots) (at + w * i) (drop (at + w * i) bs) ≡ fields field w (n - (i + 1)) (take (i + 1) (set slots i x)) (at + w * (i + 1)) (drop (at + w * (i + 1)) bs)
  unfolding fields
  fields-more n i at slots bs x h l e = let k : n - i ≡ suc (n - (i + 1)) = omega arith in grind (arith, common_steps)
