-- A list with writes on top: its length, its numbers, one more write, and one more point written down.
use Rattle.std.proofs.Common.{◌≡◌, ℕ, zero, suc, ◌+◌, ◌<◌, ◌≤◌, List, [], ◌∷◌, length, get_or, take, set, replicate, ℤ, pos, Some, None, Option, sym, refl, ap, ◌∙◌, le_of_suc-le-suc, not-suc-le-zero, add-one, arith}
use Rattle.std.proofs.lemmas.List.{set_past}
use Rattle.std.proofs.lemmas.Bool.Decides.{nat_tests}
use Rattle.banks.specs.Points.{told, wrote}
use Rattle.banks.specs.Overlay.{overlaid, top, first, blank}

pub overlaid-nil : (xs : List ℤ) → overlaid xs [] ≡ xs
unfolding overlaid
overlaid-nil [] = refl
overlaid-nil (x ∷ xs) = refl

overlaid-none : (n : ℕ) (xs : List ℤ) → overlaid xs (replicate n None) ≡ xs
unfolding overlaid
overlaid-none zero xs = overlaid-nil xs
overlaid-none (suc n) [] = refl
overlaid-none (suc n) (x ∷ xs) = ap (λ t. x ∷ t) (overlaid-none n xs)

-- where nothing was written, the list shows
pub overlaid-blank : (xs : List ℤ) → overlaid xs blank ≡ xs
unfolding blank
overlaid-blank xs = overlaid-none 64 xs

pub length-blank : length blank ≡ 64
unfolding blank
length-blank = refl

pub length-overlaid : (xs : List ℤ) (os : List (Option ℤ)) → length (overlaid xs os) ≡ length xs
unfolding overlaid
length-overlaid [] os = refl
length-overlaid (x ∷ xs) [] = refl
length-overlaid (x ∷ xs) (o ∷ os) = ap suc (length-overlaid xs os)

pub get_or-overlaid : (xs : List ℤ) (os : List (Option ℤ)) (p : ℕ) → p < length xs → get_or (overlaid xs os) p (pos 0) ≡ top (get_or os p None) (get_or xs p (pos 0))
unfolding overlaid
get_or-overlaid [] os p h = absurd (not-suc-le-zero h)
get_or-overlaid (x ∷ xs) [] p h = refl
get_or-overlaid (x ∷ xs) (o ∷ os) zero h = refl
get_or-overlaid (x ∷ xs) (o ∷ os) (suc p) h = get_or-overlaid xs os p (le_of_suc-le-suc h)

-- what shows at a point is the number on top, else what the bank tells
pub told-overlaid : (xs : List ℤ) (os : List (Option ℤ)) (p : ℕ) → p < length xs → first (get_or os p None) (told xs p) ≡ told (overlaid xs os) p
told-overlaid xs os p h =
    let n = length-overlaid xs os in
    let e = get_or-overlaid xs os p h in
    elim (get_or os p None) as (λ o. top o (get_or xs p (pos 0)) ≡ get_or (overlaid xs os) p (pos 0) → first o (told xs p) ≡ told (overlaid xs os) p) [
      | Some v ↦ λ f. grind (arith, nat_tests)
      | None ↦ λ f. grind (arith, nat_tests)
    ] (sym e)

-- a write on top is a write to what shows
pub set-overlaid : (xs : List ℤ) (os : List (Option ℤ)) (p : ℕ) (v : ℤ) → p < length os → overlaid xs (set os p (Some v)) ≡ set (overlaid xs os) p v
unfolding overlaid
set-overlaid [] os p v h = refl
set-overlaid (x ∷ xs) [] p v h = absurd (not-suc-le-zero h)
set-overlaid (x ∷ xs) (o ∷ os) zero v h = refl
set-overlaid (x ∷ xs) (o ∷ os) (suc p) v h = ap (λ t. top o x ∷ t) (set-overlaid xs os p v (le_of_suc-le-suc h))

-- what the overlay holds past the end does not show
overlaid-take : (n : ℕ) (xs : List ℤ) (os : List (Option ℤ)) → length xs ≤ n → overlaid xs (take n os) ≡ overlaid xs os
unfolding overlaid
overlaid-take n [] os h = refl
overlaid-take zero (x ∷ xs) os h = absurd (not-suc-le-zero h)
overlaid-take (suc n) (x ∷ xs) [] h = refl
overlaid-take (suc n) (x ∷ xs) (o ∷ os) h = ap (λ t. top o x ∷ t) (overlaid-take n xs os (le_of_suc-le-suc h))

-- so when all points of a list are written down, the whole of it shows
pub overlaid-all : (ys xs : List ℤ) (os : List (Option ℤ)) (n : ℕ) → ys ≡ overlaid xs (take n os) → length xs ≤ n → ys ≡ overlaid xs os
overlaid-all ys xs os n e h = e ∙ overlaid-take n xs os h

-- one more point written down
abbrev pub with : List ℤ → ℕ → Option ℤ → List ℤ
with xs i None = xs
with xs i (Some v) = set xs i v

overlaid-suc : (xs : List ℤ) (os : List (Option ℤ)) (i : ℕ) → i < length os → overlaid xs (take (suc i) os) ≡ with (overlaid xs (take i os)) i (get_or os i None)
unfolding overlaid
overlaid-suc xs [] i h = absurd (not-suc-le-zero h)
overlaid-suc [] (None ∷ os) zero h = refl
overlaid-suc [] (Some v ∷ os) zero h = refl
overlaid-suc (x ∷ xs) (None ∷ os) zero h = ap (λ t. x ∷ t) (overlaid-nil xs)
overlaid-suc (x ∷ xs) (Some v ∷ os) zero h = ap (λ t. v ∷ t) (overlaid-nil xs)
overlaid-suc [] (o ∷ os) (suc i) h = elim (get_or os i None) as (λ g. [] ≡ with [] (suc i) g) [ None ↦ refl | Some v ↦ refl ]
overlaid-suc (x ∷ xs) (o ∷ os) (suc i) h = ap (λ t. top o x ∷ t) (overlaid-suc xs os i (le_of_suc-le-suc h)) ∙ elim (get_or os i None) as (λ g. top o x ∷ with (overlaid xs (take i os)) i g ≡ with (top o x ∷ overlaid xs (take i os)) (suc i) g) [ None ↦ refl | Some v ↦ refl ]

pub overlaid-more : (xs : List ℤ) (os : List (Option ℤ)) (i : ℕ) → i < length os → overlaid xs (take (i + 1) os) ≡ with (overlaid xs (take i os)) i (get_or os i None)
overlaid-more xs os i h = rw add-one (overlaid-suc xs os i h)

-- a write leaves what `set` leaves, past the end nothing
pub wrote-sets : (xs : List ℤ) (p : ℕ) (v : ℤ) → (wrote xs p v).1 ≡ set xs p v
wrote-sets xs p v = grind (arith, nat_tests, set_past)

-- so a bank that has the first points of an overlay has one more after the write of the next
pub one-down : (ys xs : List ℤ) (os : List (Option ℤ)) (i : ℕ) (v : ℤ) → i < length os → ys ≡ overlaid xs (take i os) → get_or os i None ≡ Some v → (wrote ys i v).1 ≡ overlaid xs (take (i + 1) os)
one-down ys xs os i v h e s =
    wrote-sets ys i v ∙ ap (λ (zs : List ℤ). set zs i v) e ∙ sym (overlaid-more xs os i h ∙ ap (with (overlaid xs (take i os)) i) s)
