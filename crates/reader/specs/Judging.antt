-- What reading a condition, a conjunct and a literal does, by the machine: as for sums, whatever the condition is for.
use Rattle.std.specs.Prelude.{◌≡◌, ℕ, List, [], ◌∷◌, Some, None, Ok, Err, Option, Result}
use Rattle.tables.specs.declared.row.Row.{Row}
use Rattle.tables.specs.Trees.{Condition, both, either}
use Rattle.tables.specs.Rows.{condition_rows}
use Rattle.grammar.specs.declared.choice.Link.{Link}
use Rattle.grammar.specs.declared.choice.Link.TheVariants as link
use Rattle.grammar.specs.Choices.{link_of, mark_of, depth_after}
use Rattle.grammar.specs.Lexemes.{Tok}
use Rattle.grammar.specs.Machine.{none, Pending, pending, joined, negated, Purpose, left_of, State, want, lit, had, opening, refused, behind, shut, if_close, refuse, run}
use Rattle.reader.specs.declared.seen.Refusal.{Refusal}
use Rattle.reader.specs.declared.progress.Progress.{Progress}
use Rattle.reader.specs.Ahead.{ahead}
use Rattle.reader.specs.Progressing.{Wrote, from}

-- behind a literal
abbrev pub behind_literal : Condition → List Pending → List Pending → Purpose → List Tok → ℕ → State
behind_literal c ands ors u [] d = had c ands ors u
behind_literal c ands ors u (x ∷ xs) d = run xs (depth_after x.lexeme d) (behind c ands ors u x)

-- behind a condition
abbrev pub closing : Condition → Purpose → Tok → State
closing c u x = if_close (mark_of x.lexeme) (shut c u) (refuse x)

abbrev pub behind_condition : Condition → Purpose → List Tok → ℕ → State
behind_condition c u [] d = had c [] [] u
behind_condition c u (x ∷ xs) d = run xs (depth_after x.lexeme d) (closing c u x)

-- behind a conjunct, which no && follows
abbrev pub linked_on : Option Link → Condition → List Pending → Purpose → Tok → State
linked_on (Some link.And) c ors u x = refuse x
linked_on (Some link.Or) c ors u x = lit [] [] (pending x.place c ∷ ors) u
linked_on None c ors u x = closing (joined either ors c) u x

abbrev pub behind_conjunct : Condition → List Pending → Purpose → List Tok → ℕ → State
behind_conjunct c ors u [] d = had c [] ors u
behind_conjunct c ors u (x ∷ xs) d = run xs (depth_after x.lexeme d) (linked_on (link_of x.lexeme) c ors u x)

pub record TookLiteral (names : List (List ℕ)) (text : List ℕ) (a : Progress) (old : List Row) (z : Progress) (new : List Row) : Type 0 where
  pub tree : Condition
  pub moves : (nots : List ℕ) (ands ors : List Pending) (u : Purpose) → from names text a (lit nots ands ors u) ≡ behind_literal (negated nots tree) ands ors u (ahead names text z.position.at) z.depth
  pub wrote : Wrote text a old z new (condition_rows tree)

pub record TookConjunct (names : List (List ℕ)) (text : List ℕ) (a : Progress) (old : List Row) (z : Progress) (new : List Row) : Type 0 where
  pub tree : Condition
  pub moves : (ands ors : List Pending) (u : Purpose) → from names text a (lit [] ands ors u) ≡ behind_conjunct (joined both ands tree) ors u (ahead names text z.position.at) z.depth
  pub wrote : Wrote text a old z new (condition_rows tree)

pub record TookCondition (names : List (List ℕ)) (text : List ℕ) (a : Progress) (old : List Row) (z : Progress) (new : List Row) : Type 0 where
  pub tree : Condition
  pub moves : (ors : List Pending) (u : Purpose) → from names text a (lit [] [] ors u) ≡ behind_condition (joined either ors tree) u (ahead names text z.position.at) z.depth
  pub wrote : Wrote text a old z new (condition_rows tree)

-- a comparison begins where its left sum does
pub record TookComparison (names : List (List ℕ)) (text : List ℕ) (a : Progress) (old : List Row) (z : Progress) (new : List Row) : Type 0 where
  pub tree : Condition
  pub moves : (nots : List ℕ) (ands ors : List Pending) (u : Purpose) → from names text a (want none none (left_of nots ands ors u)) ≡ behind_literal (negated nots tree) ands ors u (ahead names text z.position.at) z.depth
  pub wrote : Wrote text a old z new (condition_rows tree)

-- a condition in its brackets
pub record TookBracket (names : List (List ℕ)) (text : List ℕ) (a : Progress) (old : List Row) (z : Progress) (new : List Row) : Type 0 where
  pub tree : Condition
  pub moves : (u : Purpose) → from names text a (opening u) ≡ from names text z (shut tree u)
  pub wrote : Wrote text a old z new (condition_rows tree)

abbrev pub LiteralAnswer : List (List ℕ) → List ℕ → Progress → List Row → Progress → List Row → Result (Unit {0}) Refusal → Type 0
LiteralAnswer names text a old z new (Ok v) = TookLiteral names text a old z new
LiteralAnswer names text a old z new (Err r) =
    (nots : List ℕ) (ands ors : List Pending) (u : Purpose) → from names text a (lit nots ands ors u) ≡ refused r.cause r.place

abbrev pub ConjunctAnswer : List (List ℕ) → List ℕ → Progress → List Row → Progress → List Row → Result (Unit {0}) Refusal → Type 0
ConjunctAnswer names text a old z new (Ok v) = TookConjunct names text a old z new
ConjunctAnswer names text a old z new (Err r) =
    (ands ors : List Pending) (u : Purpose) → from names text a (lit [] ands ors u) ≡ refused r.cause r.place

abbrev pub ConditionAnswer : List (List ℕ) → List ℕ → Progress → List Row → Progress → List Row → Result (Unit {0}) Refusal → Type 0
ConditionAnswer names text a old z new (Ok v) = TookCondition names text a old z new
ConditionAnswer names text a old z new (Err r) =
    (ors : List Pending) (u : Purpose) → from names text a (lit [] [] ors u) ≡ refused r.cause r.place

abbrev pub ComparisonAnswer : List (List ℕ) → List ℕ → Progress → List Row → Progress → List Row → Result (Unit {0}) Refusal → Type 0
ComparisonAnswer names text a old z new (Ok v) = TookComparison names text a old z new
ComparisonAnswer names text a old z new (Err r) =
    (nots : List ℕ) (ands ors : List Pending) (u : Purpose) → from names text a (want none none (left_of nots ands ors u)) ≡ refused r.cause r.place

abbrev pub BracketAnswer : List (List ℕ) → List ℕ → Progress → List Row → Progress → List Row → Result (Unit {0}) Refusal → Type 0
BracketAnswer names text a old z new (Ok v) = TookBracket names text a old z new
BracketAnswer names text a old z new (Err r) = (u : Purpose) → from names text a (opening u) ≡ refused r.cause r.place
