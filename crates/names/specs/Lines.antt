-- The lines of a text: what stands before each byte 10, in order. What follows the last byte 10 is no line; it is
-- the rest.
use Rattle.std.specs.Prelude.{ℕ, suc, cond, List, [], ◌∷◌, ◌++◌, Some, None, Option, ◌==◌}
use Rattle.std.specs.Str.{bytes_eq}

-- the lines still to come, where the line begun so far is given
abbrev pub lines_from : List ℕ → List ℕ → List (List ℕ)
lines_from line [] = []
lines_from line (b ∷ bs) = cond (b == 10) (line ∷ lines_from [] bs) (lines_from (line ++ b ∷ []) bs)

abbrev pub lines_of : List ℕ → List (List ℕ)
lines_of text = lines_from [] text

abbrev pub rest_from : List ℕ → List ℕ → List ℕ
rest_from line [] = line
rest_from line (b ∷ bs) = cond (b == 10) (rest_from [] bs) (rest_from (line ++ b ∷ []) bs)

abbrev pub rest_of : List ℕ → List ℕ
rest_of text = rest_from [] text

-- the first line that is just this word, counted from n
abbrev pub position_from : ℕ → List ℕ → List (List ℕ) → Option ℕ
position_from n word [] = None
position_from n word (line ∷ lines) = cond (bytes_eq line word) (Some n) (position_from (suc n) word lines)

abbrev pub position : List ℕ → List (List ℕ) → Option ℕ
position word lines = position_from 0 word lines
