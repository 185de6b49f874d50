-- What each token of a sheet is to the grammar: a word is one of the five that the language keeps for itself, a listed
-- name, or neither; a run of digits is a number, or too large a one; a sign is itself. The place is the token's
-- first byte. Names are the lines of the list, so a name's point is its line.
use Rattle.std.specs.Prelude.{◌≡◌, ℕ, ◌+◌, ◌-◌, ◌*◌, true, false, cond, List, [], ◌∷◌, pos, Some, None, codes, Option, nat_le}
use Rattle.std.specs.Str.{bytes_eq}
use Rattle.arith.specs.declared.operator.Operator.TheVariants as operator
use Rattle.scanner.specs.declared.token.Symbol.{Symbol}
use Rattle.scanner.specs.declared.token.Symbol.TheVariants as symbol
use Rattle.scanner.specs.declared.token.Kind.{Kind}
use Rattle.scanner.specs.declared.token.Kind.TheVariants as kind
use Rattle.scanner.specs.declared.token.Token.{Token}
use Rattle.scanner.specs.Tokens.{spelled, tokens}
use Rattle.names.specs.Lines.{position}
use Rattle.grammar.specs.declared.lexeme.Lexeme.{Lexeme}
use Rattle.grammar.specs.declared.lexeme.Lexeme.TheVariants.{Number, TooLarge, Name, Unlisted, Truth, If, Else, While, Additive, Multiplicative, Compare, Not, And, Or, Open, Close, OpenBlock, CloseBlock, Semicolon, Becomes, End, Stray}

-- the number that digits write, behind digits that write so much
abbrev pub numeral_from : ℕ → List ℕ → ℕ
numeral_from n [] = n
numeral_from n (b ∷ bs) = numeral_from (n * 10 + (b - 48)) bs

abbrev pub numeral : List ℕ → ℕ
numeral digits = numeral_from 0 digits

abbrev pub number_lexeme : ℕ → Lexeme
number_lexeme n = cond (nat_le n 2147483647) (Number (pos n)) TooLarge

abbrev pub listed : Option ℕ → Lexeme
listed (Some x) = Name x
listed None = Unlisted

abbrev pub word_lexeme : List (List ℕ) → List ℕ → Lexeme
word_lexeme names w =
    cond (bytes_eq w (codes "if")) If
    (cond (bytes_eq w (codes "else")) Else
    (cond (bytes_eq w (codes "while")) While
    (cond (bytes_eq w (codes "true")) (Truth true)
    (cond (bytes_eq w (codes "false")) (Truth false)
    (listed (position w names))))))

abbrev pub sign_lexeme : Symbol → Lexeme
sign_lexeme symbol.OpenBlock = OpenBlock
sign_lexeme symbol.CloseBlock = CloseBlock
sign_lexeme symbol.Open = Open
sign_lexeme symbol.Close = Close
sign_lexeme symbol.Semicolon = Semicolon
sign_lexeme symbol.Becomes = Becomes
sign_lexeme symbol.Plus = Additive operator.Add
sign_lexeme symbol.Minus = Additive operator.Sub
sign_lexeme symbol.Times = Multiplicative operator.Mul
sign_lexeme symbol.Over = Multiplicative operator.Div
sign_lexeme symbol.Not = Not
sign_lexeme symbol.And = And
sign_lexeme symbol.Or = Or
sign_lexeme (symbol.Compare c) = Compare c

abbrev pub IsSignLexeme : Symbol → Lexeme → Type 0
IsSignLexeme symbol lexeme = lexeme ≡ sign_lexeme symbol

abbrev pub kind_lexeme : List (List ℕ) → Kind → List ℕ → Lexeme
kind_lexeme names kind.Word w = word_lexeme names w
kind_lexeme names kind.Number w = number_lexeme (numeral w)
kind_lexeme names (kind.Sign s) w = sign_lexeme s
kind_lexeme names kind.End w = End
kind_lexeme names kind.Stray w = Stray

abbrev pub lexeme_of : List (List ℕ) → List ℕ → Token → Lexeme
lexeme_of names text t = kind_lexeme names t.kind (spelled text t)

-- a lexeme and its place
pub record Tok : Type 0 where
  pub place : ℕ
  pub lexeme : Lexeme

abbrev pub tok : ℕ → Lexeme → Tok
tok p l = record { place = p; lexeme = l }

abbrev pub lexed : List (List ℕ) → List ℕ → List Token → List Tok
lexed names text [] = []
lexed names text (t ∷ ts) = tok t.start (lexeme_of names text t) ∷ lexed names text ts

-- a sheet as the grammar sees it; the last one is the end, or a byte that begins no token
abbrev pub lexemes : List (List ℕ) → List ℕ → List Tok
lexemes names sheet = lexed names sheet (tokens sheet)
