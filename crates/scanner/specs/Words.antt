-- What a word is: names, and the words of a sheet, are built alike, so this is said once. The bytes are ASCII's,
-- so no byte over 127 is part of a word.
use Rattle.std.specs.Prelude.{ℕ, Bool, false, ◌&&◌, ◌||◌, List, [], ◌∷◌, ◌==◌}
use Rattle.std.specs.List.{list_all}
use Rattle.std.specs.Char.{is_ascii_alphabetic, is_ascii_alphanumeric}

-- a letter or an underscore
abbrev pub begins_word : ℕ → Bool
begins_word b = is_ascii_alphabetic b || b == 95

-- a letter, a digit or an underscore
abbrev pub goes_on : ℕ → Bool
goes_on b = is_ascii_alphanumeric b || b == 95

abbrev pub all_go_on : List ℕ → Bool
all_go_on bs = list_all goes_on bs

abbrev pub is_word : List ℕ → Bool
is_word [] = false
is_word (b ∷ bs) = begins_word b && all_go_on bs
