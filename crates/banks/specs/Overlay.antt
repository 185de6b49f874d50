-- Writes that lie on top of a bank. For each of 64 points an overlay holds a number, or none where nothing was
-- written; what the bank and the overlay show together is the number on top where there is one, else the one below.
-- To keep the writes is to make that list the bank's own.
use Rattle.std.specs.Prelude.{ℕ, cond, List, [], ◌∷◌, replicate, ℤ, Some, None, Ok, Err, Option, Result, nat_lt, slice_set}
use Rattle.faults.specs.declared.fault.Fault.{Fault}
use Rattle.banks.specs.Points.{no_point}

-- the number on top where there is one, else the one below
abbrev pub top : Option ℤ → ℤ → ℤ
top (Some v) x = v
top None x = x

abbrev pub first : Option ℤ → Option ℤ → Option ℤ
first (Some v) o = Some v
first None o = o

unfoldable pub overlaid : List ℤ → List (Option ℤ) → List ℤ
overlaid [] os = []
overlaid (x ∷ xs) [] = x ∷ xs
overlaid (x ∷ xs) (o ∷ os) = top o x ∷ overlaid xs os

-- nothing written yet
unfoldable pub blank : List (Option ℤ)
blank = replicate 64 None

-- the answer to a write on top of n points, and what the overlay holds after it
abbrev pub noted : ℕ → List (Option ℤ) → ℕ → ℤ → Result ℤ Fault × List (Option ℤ)
noted n os p v = cond (nat_lt p n) (Ok v, slice_set os p (Some v)) (Err (no_point p), os)

-- something, and nothing written on top of it
abbrev pub opened : {X : Type 0} → X → X × List (Option ℤ)
opened x = (x, blank)
