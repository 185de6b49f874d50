-- Where a place stands, as people count: its line is one more than the newlines before it, its column one more than the
-- bytes since the last of them, and the line's text goes from there up to the next newline or the end. And what is
-- printed of it: the line, with a caret below the place.
use Rattle.std.specs.Prelude.{◌≡◌, ℕ, suc, ◌+◌, ◌-◌, min, cond, ◌&&◌, List, [], ◌∷◌, ◌++◌, length, take, drop, map, codes, decimal, ◌==◌, nat_le}
use Rattle.excerpts.specs.declared.excerpt.Excerpt.{Excerpt}

abbrev pub newlines : List ℕ → ℕ
newlines [] = 0
newlines (b ∷ bs) = cond (b == 10) (suc (newlines bs)) (newlines bs)

-- the bytes since the last newline, where n came before
abbrev pub since_from : ℕ → List ℕ → ℕ
since_from n [] = n
since_from n (b ∷ bs) = cond (b == 10) (since_from 0 bs) (since_from (suc n) bs)

abbrev pub since : List ℕ → ℕ
since bs = since_from 0 bs

-- how many bytes stand before the next newline
abbrev pub until_newline : List ℕ → ℕ
until_newline [] = 0
until_newline (b ∷ bs) = cond (b == 10) 0 (suc (until_newline bs))

abbrev pub line_end : List ℕ → ℕ → ℕ
line_end text start = start + until_newline (drop start text)

-- a place's line, from 1, and where that begins
pub record Spot (text : List ℕ) (place line start : ℕ) : Type 0 where
  pub lines : line ≡ suc (newlines (take place text))
  pub begins : start + since (take place text) ≡ place

pub record Shown : Type 0 where
  pub line : ℕ
  pub column : ℕ
  pub text : List ℕ

abbrev pub shown_by : Excerpt → Shown
shown_by e = record { line = e.line; column = e.column; text = e.text.now }

abbrev pub excerpt_at : List ℕ → ℕ → ℕ → Shown
excerpt_at text end back =
    record { line = suc (newlines (take end text)); column = suc back; text = take (until_newline (drop (end - back) text)) (drop (end - back) text) }

abbrev pub excerpt_of : List ℕ → ℕ → Shown
excerpt_of text place = excerpt_at text (min place (length text)) (since (take (min place (length text)) text))

-- what is printed for a byte of the line: a tab stays one, and a byte that has no sign in ASCII is a question mark
abbrev pub shown_as : ℕ → ℕ
shown_as b = cond (b == 9) 9 (cond (nat_le 32 b && nat_le b 126) b 63)

-- what stands below it, left of the caret
abbrev pub under : ℕ → ℕ
under b = cond (b == 9) 9 32

abbrev pub heading : ℕ → ℕ → List ℕ
heading line column = codes "line " ++ (decimal line ++ (codes ", column " ++ (decimal column ++ codes "\n")))

-- the heading, the line, and below it the caret under the place
abbrev pub excerpt_words : Excerpt → List ℕ
excerpt_words e =
    heading e.line e.column ++ (map shown_as e.text.now ++ (codes "\n" ++ (map under (take (e.column - 1) e.text.now) ++ codes "^")))
