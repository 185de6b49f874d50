-- The tokens that are still to be read, as the grammar sees them, and the next of them.
use Rattle.std.specs.Prelude.{◌≡◌, ℕ, ◌<◌, ◌≤◌, List, [], ◌∷◌, length, ◌≢◌, Ok, Err, Result}
use Rattle.faults.specs.declared.causes.ReaderCause.{ReaderCause}
use Rattle.scanner.specs.Tokens.{tokens_at}
use Rattle.grammar.specs.declared.lexeme.Lexeme.{Lexeme}
use Rattle.grammar.specs.declared.lexeme.Lexeme.TheVariants as lexeme
use Rattle.grammar.specs.Choices.{refusal_of}
use Rattle.grammar.specs.Lexemes.{Tok, tok, lexed}
use Rattle.reader.specs.declared.seen.Seen.{Seen}
use Rattle.reader.specs.declared.seen.Refusal.{Refusal}

-- the tokens from a place on
unfoldable pub ahead : List (List ℕ) → List ℕ → ℕ → List Tok
ahead names text at = lexed names text (tokens_at text at)

-- nothing is behind the end, nor behind a byte that begins no token
abbrev pub follow : Lexeme → List Tok → List Tok
follow (lexeme.Number v) = λ ts. ts
follow lexeme.TooLarge = λ ts. ts
follow (lexeme.Name x) = λ ts. ts
follow lexeme.Unlisted = λ ts. ts
follow (lexeme.Truth b) = λ ts. ts
follow lexeme.If = λ ts. ts
follow lexeme.Else = λ ts. ts
follow lexeme.While = λ ts. ts
follow (lexeme.Additive o) = λ ts. ts
follow (lexeme.Multiplicative o) = λ ts. ts
follow (lexeme.Compare c) = λ ts. ts
follow lexeme.Not = λ ts. ts
follow lexeme.And = λ ts. ts
follow lexeme.Or = λ ts. ts
follow lexeme.Open = λ ts. ts
follow lexeme.Close = λ ts. ts
follow lexeme.OpenBlock = λ ts. ts
follow lexeme.CloseBlock = λ ts. ts
follow lexeme.Semicolon = λ ts. ts
follow lexeme.Becomes = λ ts. ts
follow lexeme.End = λ ts. []
follow lexeme.Stray = λ ts. []

-- what was seen is the next token, and behind it are those from its end on
pub record HereIs (names : List (List ℕ)) (text : List ℕ) (at : ℕ) (s : Seen) : Type 0 where
  pub tokens : ahead names text at ≡ tok s.place s.lexeme ∷ follow s.lexeme (ahead names text s.end)
  pub forward : at ≤ s.end
  pub placed : s.place ≤ s.end
  pub within : at ≤ length text → s.end ≤ length text
  pub moved : (s.lexeme ≢ lexeme.End) → at < s.end
  pub named : (x : ℕ) → s.lexeme ≡ lexeme.Name x → x < length names

abbrev pub refused_at : Seen → Refusal
refused_at s = record { cause = refusal_of s.lexeme; place = s.place }

-- a refusal of it, for a cause of its own
abbrev pub refused_for : Seen → ReaderCause → Refusal
refused_for s c = record { cause = c; place = s.place }

-- what it is where it is wanted as something, or the refusal of it
abbrev pub seen_as : {A : Type 0} → Seen → Result A ReaderCause → Result A Refusal
seen_as s (Ok x) = Ok x
seen_as s (Err c) = Err (refused_for s c)
