-- The tokens of a text, with their places. The scanner goes over the bytes once, from left to right: a byte belongs to
-- the token that was told last, or is blank, or begins a token, or begins none. What it tells of a byte that begins
-- a token is one table of signs, the longer sign first, and two runs: digits for a number, letters, digits and
-- underscores for a word. So a reader has to believe that table and those runs, and no search.
use Rattle.std.specs.Prelude.{ℕ, zero, suc, ◌+◌, ◌-◌, ◌<◌, ◌≤◌, Bool, true, false, cond, ◌&&◌, ◌||◌, List, [], ◌∷◌, length, take, drop, Some, None, Option, ◌==◌, ◌≢◌}
use Rattle.std.specs.List.{prefix_len}
use Rattle.std.specs.Char.{is_ascii_digit}
use Rattle.scanner.specs.Words.{begins_word, goes_on}
use Rattle.arith.specs.declared.comparison.Comparison.TheVariants.{Less, LessOrEqual, Greater, GreaterOrEqual, Equal, NotEqual}
use Rattle.scanner.specs.declared.token.Symbol.{Symbol}
use Rattle.scanner.specs.declared.token.Symbol.TheVariants.{OpenBlock, CloseBlock, Open, Close, Semicolon, Becomes, Plus, Minus, Times, Over, Not, And, Or, Compare}
use Rattle.scanner.specs.declared.token.Kind.{Kind}
use Rattle.scanner.specs.declared.token.Kind.TheVariants.{Word, Number, Sign, End, Stray}
use Rattle.scanner.specs.declared.token.Token.{Token}

-- tab, newline, carriage return, space
abbrev pub is_blank : ℕ → Bool
is_blank b = b == 9 || (b == 10 || (b == 13 || b == 32))

-- how many bytes at the front pass a test
abbrev pub run_of : (ℕ → Bool) → List ℕ → ℕ
run_of test bs = prefix_len test bs

-- <= >= == != && ||
abbrev pub pair_sign : ℕ → ℕ → Option Symbol
pair_sign b c =
    cond (b == 60 && c == 61) (Some (Compare LessOrEqual))
    (cond (b == 62 && c == 61) (Some (Compare GreaterOrEqual))
    (cond (b == 61 && c == 61) (Some (Compare Equal))
    (cond (b == 33 && c == 61) (Some (Compare NotEqual))
    (cond (b == 38 && c == 38) (Some And)
    (cond (b == 124 && c == 124) (Some Or) None)))))

-- the sign of two bytes at the front
abbrev pub pair_front : List ℕ → Option Symbol
pair_front [] = None
pair_front (b ∷ []) = None
pair_front (b ∷ c ∷ bs) = pair_sign b c

-- { } ( ) ; = + - * / ! < >, and no other byte
abbrev pub single_sign : ℕ → Kind
single_sign b =
    cond (b == 123) (Sign OpenBlock)
    (cond (b == 125) (Sign CloseBlock)
    (cond (b == 40) (Sign Open)
    (cond (b == 41) (Sign Close)
    (cond (b == 59) (Sign Semicolon)
    (cond (b == 61) (Sign Becomes)
    (cond (b == 43) (Sign Plus)
    (cond (b == 45) (Sign Minus)
    (cond (b == 42) (Sign Times)
    (cond (b == 47) (Sign Over)
    (cond (b == 33) (Sign Not)
    (cond (b == 60) (Sign (Compare Less))
    (cond (b == 62) (Sign (Compare Greater)) Stray))))))))))))

abbrev pub sign_or : Option Symbol → Kind → Kind × ℕ
sign_or (Some s) short = (Sign s, 1)
sign_or None short = (short, 0)

-- the longer sign first
abbrev pub sign_front : ℕ → List ℕ → Kind × ℕ
sign_front b bs = sign_or (pair_front (b ∷ bs)) (single_sign b)

-- what the byte b begins that is not blank, and how many of the bytes bs behind it belong to that
abbrev pub front : ℕ → List ℕ → Kind × ℕ
front b bs =
    cond (is_ascii_digit b) (Number, run_of is_ascii_digit bs)
    (cond (begins_word b) (Word, run_of goes_on bs)
    (sign_front b bs))

abbrev pub token : Kind → ℕ → ℕ → Token
token k s e = record { kind = k; start = s; end = e }

-- what may follow: nothing behind the end, nor behind a byte that begins no token
abbrev pub after : Kind → List Token → List Token
after Word ts = ts
after Number ts = ts
after (Sign s) ts = ts
after End ts = []
after Stray ts = []

-- the token that stands at a place, whose bytes and all behind them are given
abbrev pub standing : ℕ → List ℕ → Token
standing s [] = token End s s
standing s (b ∷ bs) = token (front b bs).0 s (suc (s + (front b bs).1))

-- the same, where a byte begins neither a number nor a word
abbrev pub sign_standing : ℕ → List ℕ → Token
sign_standing s [] = token End s s
sign_standing s (b ∷ bs) = token (sign_front b bs).0 s (suc (s + (sign_front b bs).1))

-- a blank byte, or a token with the tokens behind it; `rest` scans the bytes behind this one, so many of which
-- belong to the token
abbrev pub tell : Bool → Kind × ℕ → ℕ → (ℕ → ℕ → List Token) → List Token
tell true w p rest = rest 0 (suc p)
tell false w p rest = token w.0 p (suc (p + w.1)) ∷ after w.0 (rest w.1 (suc p))

-- the tokens of the bytes from place p on, of which the first k belong to a token that was told
abbrev pub tokens_from : List ℕ → ℕ → ℕ → List Token
tokens_from [] k p = token End p p ∷ []
tokens_from (b ∷ bs) (suc k) p = tokens_from bs k (suc p)
tokens_from (b ∷ bs) zero p = tell (is_blank b) (front b bs) p (tokens_from bs)

-- the tokens of a text from a place on, as if the text began there
unfoldable pub tokens_at : List ℕ → ℕ → List Token
tokens_at text at = tokens_from (drop at text) 0 at

-- the tokens of a text
abbrev pub tokens : List ℕ → List Token
tokens text = tokens_at text 0

abbrev pub first_of : List Token → Token
first_of [] = token End 0 0
first_of (t ∷ ts) = t

-- the token at a place or after it
unfoldable pub token_at : List ℕ → ℕ → Token
token_at text at = first_of (tokens_at text at)

-- the bytes of a token, as far as the text has them
abbrev pub spelled : List ℕ → Token → List ℕ
spelled text t = take (t.end - t.start) (drop t.start text)

-- where the token found from a place on stands: at the place or after it, in the text, and all but the end have a byte
pub record Placed (text : List ℕ) (at : ℕ) (t : Token) : Type 0 where
  pub ahead : at ≤ t.start
  pub forward : t.start ≤ t.end
  pub within : at ≤ length text → t.end ≤ length text
  pub taken : (t.kind ≢ End) → (t.start < t.end) × (t.end ≤ length text)
