-- What no write through a bank changes. It is bookkeeping and no part of a bank's meaning: code over any bank says
-- only that all of this stays, and whoever put the bank together then knows what became of the memory he lent and of
-- the banks underneath. A bank that stands on nothing lists nothing.
use Rattle.std.specs.Prelude.{ℕ, List, [], ◌∷◌, ℤ}

pub data Fixed : Type 0 where
  -- a loan that the bank holds, by its name
  loan_of : ℕ → Fixed
  -- lent bytes that belong to no point
  unused : List ℕ → Fixed
  -- the points of a bank underneath that is only read
  beneath : List ℤ → Fixed

-- what a bank lists that stands in lent bytes
abbrev pub in_bytes : ℕ → List ℕ → List Fixed
in_bytes name spare = loan_of name ∷ unused spare ∷ []

-- what a bank lists that holds a loan of another one and only reads it
abbrev pub onto : ℕ → List ℤ → List Fixed → List Fixed
onto name points fixed = loan_of name ∷ beneath points ∷ fixed
