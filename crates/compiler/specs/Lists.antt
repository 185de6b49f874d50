-- A list written over another one: from its start, or from some place on. What is not written over stays, and nothing
-- is written past the end.
use Rattle.std.specs.Prelude.{ℕ, zero, suc, List, [], ◌∷◌}

abbrev pub over : {X : Type 0} → List X → List X → List X
over [] ys = ys
over (x ∷ xs) [] = []
over (x ∷ xs) (y ∷ ys) = x ∷ over xs ys

abbrev pub over_from : {X : Type 0} → ℕ → List X → List X → List X
over_from zero xs ys = over xs ys
over_from (suc a) xs [] = []
over_from (suc a) xs (y ∷ ys) = y ∷ over_from a xs ys
