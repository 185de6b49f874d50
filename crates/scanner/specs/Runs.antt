-- Runs of bytes of one class: what is skipped before a token, and what a number and a word are made of. A class is the
-- test that its bytes pass.
use Rattle.std.specs.Prelude.{◌≡◌, ℕ, ◌+◌, Bool, List, drop}
use Rattle.scanner.specs.Tokens.{run_of}

abbrev pub Class : Type 0
Class = ℕ → Bool

abbrev pub belongs : Class → ℕ → Bool
belongs c b = c b

-- the first place from here on whose byte is of another class
abbrev pub run_end : Class → List ℕ → ℕ → ℕ
run_end c text at = at + run_of (belongs c) (drop at text)

-- calls that tell of each byte whether it is of a class
abbrev pub Tells : (ℕ → Bool → Type 0) → Class → Type 0
Tells post c = (b : ℕ) (r : Bool) → post b r → r ≡ belongs c b
