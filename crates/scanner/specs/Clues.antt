-- What the look is for, in the words of brackets: a clue stands before the partner of a `(` that is open already. The
-- partner is the first `)` with which more brackets are closed than opened, so "before the partner" says that the
-- tokens up to the clue never close more than they open. Nothing here walks or counts as the look does; that the
-- look answers just this is a law on its contract.
use Rattle.std.specs.Prelude.{◌≡◌, ℕ, ◌+◌, ◌≤◌, Bool, true, List, [], ◌∷◌, ◌++◌, take, ◌≢◌}
use Rattle.std.specs.List.{AllByRecursion}
use Rattle.scanner.specs.Looks.{sight_of}
use Rattle.scanner.specs.declared.token.Token.{Token}
use Rattle.scanner.specs.declared.look.Sight.{Sight}
use Rattle.scanner.specs.declared.look.Sight.TheVariants.{Clue, Opens, Closes, Stops, Passes}

abbrev pub opens_one : Sight → ℕ
opens_one Clue = 0
opens_one Opens = 1
opens_one Closes = 0
opens_one Stops = 0
opens_one Passes = 0

abbrev pub closes_one : Sight → ℕ
closes_one Clue = 0
closes_one Opens = 0
closes_one Closes = 1
closes_one Stops = 0
closes_one Passes = 0

-- how many brackets these tokens open, and how many they close
abbrev pub opened : List ℕ → List Token → ℕ
opened text [] = 0
opened text (t ∷ ts) = opens_one (sight_of text t) + opened text ts

abbrev pub closed : List ℕ → List Token → ℕ
closed text [] = 0
closed text (t ∷ ts) = closes_one (sight_of text t) + closed text ts

-- a clue stands before the bracket that closes one more than these
pub record ClueStands (text : List ℕ) (depth : ℕ) (ts : List Token) : Type 0 where
  pub before : List Token
  pub clue : Token
  pub behind : List Token
  pub split : ts ≡ before ++ clue ∷ behind
  pub is : sight_of text clue ≡ Clue
  pub unpartnered : (n : ℕ) → closed text (take n before) ≤ depth + opened text (take n before)
  pub tokens : AllByRecursion (λ t. sight_of text t ≢ Stops) before

-- the answer is that a clue stands before the partner
pub record OpensCondition (text : List ℕ) (ts : List Token) (r : Bool) : Type 0 where
  pub only : r ≡ true → ClueStands text 0 ts
  pub each : ClueStands text 0 ts → r ≡ true
