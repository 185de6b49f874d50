-- The laws of drafts: kept writes are direct writes, and two overlays are one.
use Rattle.std.proofs.Common.{◌≡◌, ℕ, ◌≤◌, List, [], ◌∷◌, length, ℤ, Some, None, Option, Result, refl, ap, ◌∙◌, arith, length-set, w32, SFits, to_z, of_z}
use Rattle.faults.specs.declared.fault.Fault.{Fault}
use Rattle.std.proofs.lemmas.Int.{to_z-of_z}
use Rattle.std.proofs.lemmas.Bool.Decides.{nat_tests}
use Rattle.banks.specs.Points.{wrote}
use Rattle.banks.specs.Overlay.{overlaid, top, blank, noted}
use Rattle.banks.specs.Laws.{written, scribbled, Direct, AsOne, both}
use Rattle.banks.proofs.Overlaid.{overlaid-blank, length-blank, length-overlaid, set-overlaid}

pub length-noted : (n : ℕ) (os : List (Option ℤ)) (p : ℕ) (v : ℤ) → length (noted n os p v).1 ≡ length os
length-noted n os p v = grind (arith, nat_tests, length-set)

-- a write by as many points as a bank counted, and of a number that was passed on
pub noted-as : (n m : ℕ) (os : List (Option ℤ)) (p : ℕ) (v : ℤ) (t : Result ℤ Fault × List (Option ℤ)) → SFits w32 v → t ≡ noted m os p (to_z w32 (of_z w32 v)) → m ≡ n → t ≡ noted n os p v
noted-as n m os p v t f e h = e ∙ ap (λ k. noted k os p (to_z w32 (of_z w32 v))) h ∙ ap (noted n os p) (to_z-of_z w32 v f)

-- one write on top, as it shows
pub noted-shows : (xs : List ℤ) (os : List (Option ℤ)) (p : ℕ) (v : ℤ) → length xs ≤ length os → overlaid xs (noted (length xs) os p v).1 ≡ (wrote (overlaid xs os) p v).1
noted-shows xs os p v h = grind (arith, nat_tests, length-overlaid, set-overlaid)

-- the same of the answer and the overlay together
pub write-shows : (xs : List ℤ) (os us : List (Option ℤ)) (p : ℕ) (v : ℤ) (r : Result ℤ Fault) → length xs ≤ length os → (r, us) ≡ noted (length xs) os p v → (r, overlaid xs us) ≡ wrote (overlaid xs os) p v
write-shows xs os us p v r h e = ap (λ t. (t.0, overlaid xs t.1)) e ∙ grind (arith, nat_tests, length-overlaid, set-overlaid)

scribbled-shows : (xs : List ℤ) (os : List (Option ℤ)) (ws : List (ℕ × ℤ)) → length xs ≤ length os → overlaid xs (scribbled (length xs) os ws) ≡ written (overlaid xs os) ws
scribbled-shows xs os [] h = refl
scribbled-shows xs os (w ∷ ws) h =
    let n = length-noted (length xs) os w.0 w.1 in
    scribbled-shows xs (noted (length xs) os w.0 w.1).1 ws (omega arith) ∙ ap (λ t. written t ws) (noted-shows xs os w.0 w.1 h)

pub is-direct : (xs : List ℤ) (os : List (Option ℤ)) → length xs ≤ 64 → Direct xs os (overlaid xs os)
is-direct xs os h ws e =
    let n = length-blank in
    ap (overlaid xs) e ∙ scribbled-shows xs blank ws (omega arith) ∙ ap (λ t. written t ws) (overlaid-blank xs)

overlaid-both : (zs : List ℤ) (os us : List (Option ℤ)) → overlaid (overlaid zs os) us ≡ overlaid zs (both os us)
unfolding overlaid both
overlaid-both [] os us = refl
overlaid-both (z ∷ zs) [] us = refl
overlaid-both (z ∷ zs) (o ∷ os) [] = refl
overlaid-both (z ∷ zs) (o ∷ os) (Some v ∷ us) = ap (λ t. v ∷ t) (overlaid-both zs os us)
overlaid-both (z ∷ zs) (o ∷ os) (None ∷ us) = ap (λ t. top o z ∷ t) (overlaid-both zs os us)

pub is_one : (xs : List ℤ) (us : List (Option ℤ)) → AsOne xs us (overlaid xs us)
is_one xs us zs os e = ap (λ t. overlaid t us) e ∙ overlaid-both zs os us
