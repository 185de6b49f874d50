-- What drafts are for, said of whole lists of writes: writes made on a draft and then kept are those writes made on the
-- bank itself, and two drafts, one over the other, are one. Nothing here knows how keeping goes about it.
use Rattle.std.specs.Prelude.{◌≡◌, ℕ, List, [], ◌∷◌, length, ℤ, Some, None, Option}
use Rattle.banks.specs.Points.{wrote}
use Rattle.banks.specs.Overlay.{overlaid, blank, noted}

-- one write after another, each with its point and its number, on a bank and on an overlay over n points; a refused
-- one changes nothing
abbrev pub written : List ℤ → List (ℕ × ℤ) → List ℤ
written xs [] = xs
written xs (w ∷ ws) = written (wrote xs w.0 w.1).1 ws

abbrev pub scribbled : ℕ → List (Option ℤ) → List (ℕ × ℤ) → List (Option ℤ)
scribbled n os [] = os
scribbled n os (w ∷ ws) = scribbled n (noted n os w.0 w.1).1 ws

-- xs became ys by keeping os: whichever writes made os out of a blank overlay, made directly they leave the same
abbrev pub Direct : List ℤ → List (Option ℤ) → List ℤ → Type 0
Direct xs os ys = (ws : List (ℕ × ℤ)) → os ≡ scribbled (length xs) blank ws → ys ≡ written xs ws

-- of two numbers for a point, the upper one
abbrev pub upper : Option ℤ → Option ℤ → Option ℤ
upper (Some v) o = Some v
upper None o = o

unfoldable pub both : List (Option ℤ) → List (Option ℤ) → List (Option ℤ)
both [] us = us
both (o ∷ os) [] = o ∷ os
both (o ∷ os) (u ∷ us) = upper u o ∷ both os us

-- xs became ys by keeping us: where xs was itself some zs with os on top, ys is zs with one overlay of both
abbrev pub AsOne : List ℤ → List (Option ℤ) → List ℤ → Type 0
AsOne xs us ys = (zs : List ℤ) (os : List (Option ℤ)) → xs ≡ overlaid zs os → ys ≡ overlaid zs (both os us)
