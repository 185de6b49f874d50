-- The look ahead. A `(` that begins a literal opens a condition if a clue stands before the partner of that `(`: a
-- comparison, `!`, `&&`, `||`, `true` or `false`, which no sum has. Only `(` and `)` are counted. Without a partner
-- the look goes on to the end, or to a byte that begins no token.
use Rattle.std.specs.Prelude.{◌≡◌, ℕ, zero, suc, Bool, true, false, cond, ◌||◌, List, [], ◌∷◌, codes}
use Rattle.std.specs.Str.{bytes_eq}
use Rattle.scanner.specs.Tokens.{tokens_at, spelled}
use Rattle.scanner.specs.declared.token.Symbol.{Symbol}
use Rattle.scanner.specs.declared.token.Symbol.TheVariants.{OpenBlock, CloseBlock, Open, Close, Semicolon, Becomes, Plus, Minus, Times, Over, Not, And, Or, Compare}
use Rattle.scanner.specs.declared.token.Kind.{Kind}
use Rattle.scanner.specs.declared.token.Kind.TheVariants.{Word, Number, Sign, End, Stray}
use Rattle.scanner.specs.declared.token.Token.{Token}
use Rattle.scanner.specs.declared.look.Sight.{Sight}
use Rattle.scanner.specs.declared.look.Sight.TheVariants.{Clue, Opens, Closes, Stops, Passes}
use Rattle.scanner.specs.declared.position.Position.{Position}

abbrev pub is_truth : List ℕ → Bool
is_truth w = bytes_eq w (codes "true") || bytes_eq w (codes "false")

abbrev pub symbol_sight : Symbol → Sight
symbol_sight OpenBlock = Passes
symbol_sight CloseBlock = Passes
symbol_sight Open = Opens
symbol_sight Close = Closes
symbol_sight Semicolon = Passes
symbol_sight Becomes = Passes
symbol_sight Plus = Passes
symbol_sight Minus = Passes
symbol_sight Times = Passes
symbol_sight Over = Passes
symbol_sight Not = Clue
symbol_sight And = Clue
symbol_sight Or = Clue
symbol_sight (Compare c) = Clue

abbrev pub IsSymbolSight : Symbol → Sight → Type 0
IsSymbolSight symbol sight = sight ≡ symbol_sight symbol

-- what a token of a kind and with these bytes is to the look
abbrev pub kind_sight : Kind → List ℕ → Sight
kind_sight Word w = cond (is_truth w) Clue Passes
kind_sight Number w = Passes
kind_sight (Sign s) w = symbol_sight s
kind_sight End w = Stops
kind_sight Stray w = Stops

abbrev pub sight_of : List ℕ → Token → Sight
sight_of text t = kind_sight t.kind (spelled text t)

-- one token of the look, while so many brackets more are open; `rest` looks at the tokens behind
abbrev pub seen_by : Sight → ℕ → (ℕ → Bool) → Bool
seen_by Clue depth rest = true
seen_by Opens depth rest = rest (suc depth)
seen_by Closes zero rest = false
seen_by Closes (suc depth) rest = rest depth
seen_by Stops depth rest = false
seen_by Passes depth rest = rest depth

abbrev pub clue_ahead : List ℕ → List Token → ℕ → Bool
clue_ahead text [] depth = false
clue_ahead text (t ∷ ts) depth = seen_by (sight_of text t) depth (clue_ahead text ts)

-- what the look answers from a position just behind a bracket, and where it leaves the position
abbrev pub look_from : List ℕ → Position → Bool × Position
look_from text p = (clue_ahead text (tokens_at text p.at) 0, p)
