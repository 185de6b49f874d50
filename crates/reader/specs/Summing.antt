-- What reading a sum, a prod and a factor does, by the machine, whatever the sum is for: its tokens take the machine
-- to where the tree stands, and its rows are written; or the machine refuses, for the same cause at the same place.
use Rattle.std.specs.Prelude.{◌≡◌, ℕ, List, [], ◌∷◌, Some, None, Ok, Err, Option, Result}
use Rattle.tables.specs.declared.row.Row.{Row}
use Rattle.tables.specs.Trees.{Sum}
use Rattle.tables.specs.Rows.{sum_rows}
use Rattle.grammar.specs.declared.choice.Join.{Join}
use Rattle.grammar.specs.declared.choice.Join.TheVariants as join
use Rattle.grammar.specs.Choices.{join_of, depth_after}
use Rattle.grammar.specs.Lexemes.{Tok}
use Rattle.grammar.specs.Machine.{Left, none, onto, Use, State, want, have, refused, ended, run}
use Rattle.reader.specs.declared.seen.Refusal.{Refusal}
use Rattle.reader.specs.declared.progress.Progress.{Progress}
use Rattle.reader.specs.Ahead.{ahead}
use Rattle.reader.specs.Progressing.{Wrote, from}

-- behind a whole sum
abbrev pub behind_sum : Use → Sum → List Tok → ℕ → State
behind_sum k e [] d = have none e k
behind_sum k e (x ∷ xs) d = run xs (depth_after x.lexeme d) (ended k e x)

-- what goes on with a prod
abbrev pub NoFactor : Option Join → Type 0
NoFactor (Some (join.Additive o)) = Unit {0}
NoFactor (Some (join.Multiplicative o)) = ⊥
NoFactor None = Unit {0}

-- the next token goes on with no prod
abbrev pub NoProd : List Tok → Type 0
NoProd [] = Unit {0}
NoProd (x ∷ xs) = NoFactor (join_of x.lexeme)

pub record TookSum (names : List (List ℕ)) (text : List ℕ) (a : Progress) (old : List Row) (z : Progress) (new : List Row) : Type 0 where
  pub tree : Sum
  pub moves : (k : Use) → from names text a (want none none k) ≡ behind_sum k tree (ahead names text z.position.at) z.depth
  pub wrote : Wrote text a old z new (sum_rows tree)

-- prods so far: the left ones, joined, and the last
pub record SumSoFar (names : List (List ℕ)) (text : List ℕ) (a : Progress) (old : List Row) (z : Progress) (new : List Row) : Type 0 where
  pub before : Left
  pub last : Sum
  pub moves : (k : Use) → from names text a (want none none k) ≡ from names text z (have before last k)
  pub wrote : Wrote text a old z new (sum_rows (onto before last))
  pub no-prod : NoProd (ahead names text z.position.at)

pub record TookProd (names : List (List ℕ)) (text : List ℕ) (a : Progress) (old : List Row) (z : Progress) (new : List Row) : Type 0 where
  pub tree : Sum
  pub moves : (s : Left) (k : Use) → from names text a (want s none k) ≡ from names text z (have s tree k)
  pub wrote : Wrote text a old z new (sum_rows tree)

pub record TookFactor (names : List (List ℕ)) (text : List ℕ) (a : Progress) (old : List Row) (z : Progress) (new : List Row) : Type 0 where
  pub tree : Sum
  pub moves : (s m : Left) (k : Use) → from names text a (want s m k) ≡ from names text z (have s (onto m tree) k)
  pub wrote : Wrote text a old z new (sum_rows tree)

abbrev pub SumAnswer : List (List ℕ) → List ℕ → Progress → List Row → Progress → List Row → Result (Unit {0}) Refusal → Type 0
SumAnswer names text a old z new (Ok u) = TookSum names text a old z new
SumAnswer names text a old z new (Err r) = (k : Use) → from names text a (want none none k) ≡ refused r.cause r.place

abbrev pub ProdAnswer : List (List ℕ) → List ℕ → Progress → List Row → Progress → List Row → Result (Unit {0}) Refusal → Type 0
ProdAnswer names text a old z new (Ok u) = TookProd names text a old z new × NoProd (ahead names text z.position.at)
ProdAnswer names text a old z new (Err r) = (s : Left) (k : Use) → from names text a (want s none k) ≡ refused r.cause r.place

abbrev pub FactorAnswer : List (List ℕ) → List ℕ → Progress → List Row → Progress → List Row → Result (Unit {0}) Refusal → Type 0
FactorAnswer names text a old z new (Ok u) = TookFactor names text a old z new
FactorAnswer names text a old z new (Err r) = (s m : Left) (k : Use) → from names text a (want s m k) ≡ refused r.cause r.place
