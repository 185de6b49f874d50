-- Writes into the front of a list.
use Rattle.std.proofs.Common.{◌≡◌, ℕ, zero, suc, List, [], ◌∷◌, take, set, refl, ap}

pub take-set-in : {A : Type 0} (n : ℕ) (l : List A) (i : ℕ) (a : A) → take n (set l i a) ≡ set (take n l) i a
take-set-in zero l i a = refl
take-set-in (suc n) [] i a = refl
take-set-in (suc n) (x ∷ xs) zero a = refl
take-set-in (suc n) (x ∷ xs) (suc i) a = ap (λ t. x ∷ t) (take-set-in n xs i a)
