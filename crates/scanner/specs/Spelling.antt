-- How tokens are spelled, kind by kind, and what it is to be the token at the front of some bytes: of all fronts that
-- spell a token it is the longest. A byte begins no token if no front spells one. Nothing here scans; that the
-- scanner finds just these tokens is a law on its contract.
use Rattle.std.specs.Prelude.{◌≡◌, ℕ, ◌-◌, ◌≤◌, Bool, true, false, ◌&&◌, List, [], ◌∷◌, length, take, drop, codes}
use Rattle.std.specs.Char.{is_ascii_digit}
use Rattle.std.specs.List.{AllByRecursion, list_all}
use Rattle.scanner.specs.Words.{is_word}
use Rattle.scanner.specs.Tokens.{is_blank}
use Rattle.arith.specs.declared.comparison.Comparison.{Comparison}
use Rattle.arith.specs.Comparisons.{sign_of}
use Rattle.scanner.specs.declared.token.Symbol.{Symbol}
use Rattle.scanner.specs.declared.token.Symbol.TheVariants.{OpenBlock, CloseBlock, Open, Close, Semicolon, Becomes, Plus, Minus, Times, Over, Not, And, Or, Compare}
use Rattle.scanner.specs.declared.token.Kind.{Kind}
use Rattle.scanner.specs.declared.token.Kind.TheVariants.{Word, Number, Sign, End, Stray}
use Rattle.scanner.specs.declared.token.Token.{Token}

abbrev pub comparison_spelling : Comparison → List ℕ
comparison_spelling = sign_of

abbrev pub spelling : Symbol → List ℕ
spelling OpenBlock = codes "{"
spelling CloseBlock = codes "}"
spelling Open = codes "("
spelling Close = codes ")"
spelling Semicolon = codes ";"
spelling Becomes = codes "="
spelling Plus = codes "+"
spelling Minus = codes "-"
spelling Times = codes "*"
spelling Over = codes "/"
spelling Not = codes "!"
spelling And = codes "&&"
spelling Or = codes "||"
spelling (Compare c) = comparison_spelling c

abbrev pub all_digits : List ℕ → Bool
all_digits bs = list_all is_ascii_digit bs

abbrev pub is_number : List ℕ → Bool
is_number [] = false
is_number (b ∷ bs) = is_ascii_digit b && all_digits bs

-- these bytes are a token of a kind
abbrev pub Spells : Kind → List ℕ → Type 0
Spells Word w = is_word w ≡ true
Spells Number w = is_number w ≡ true
Spells (Sign s) w = w ≡ spelling s
Spells End w = ⊥
Spells Stray w = ⊥

-- no front of the bytes that spells a token is longer than n
abbrev pub NoLonger : ℕ → List ℕ → Type 0
NoLonger n bs = (k : Kind) (m : ℕ) → m ≤ length bs → Spells k (take m bs) → m ≤ n

-- what a kind says of the bytes at whose front its token stands, n bytes long
abbrev pub Fronts : Kind → ℕ → List ℕ → Type 0
Fronts Word n bs = Spells Word (take n bs) × NoLonger n bs
Fronts Number n bs = Spells Number (take n bs) × NoLonger n bs
Fronts (Sign s) n bs = Spells (Sign s) (take n bs) × NoLonger n bs
Fronts End n bs = bs ≡ []
Fronts Stray n bs = NoLonger 0 bs

-- blanks up to the token, no blank where it begins, and there the longest token
pub record Found (text : List ℕ) (at : ℕ) (t : Token) : Type 0 where
  pub blanks : AllByRecursion (λ b. is_blank b ≡ true) (take (t.start - at) (drop at text))
  pub begins : (b : ℕ) (bs : List ℕ) → drop t.start text ≡ b ∷ bs → is_blank b ≡ false
  pub longest : Fronts t.kind (t.end - t.start) (drop t.start text)
