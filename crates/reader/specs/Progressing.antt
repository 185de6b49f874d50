-- The small steps of reading, and what is left of each: the position behind a token, a bracket more, a row more.
use Rattle.std.specs.Prelude.{◌≡◌, ℕ, suc, ◌+◌, ◌-◌, ◌<◌, ◌≤◌, cond, List, [], ◌∷◌, length, ℤ, Some, Ok, Err, Option, Result, nat_lt, slice_set}
use Rattle.faults.specs.declared.causes.ReaderCause.TheVariants.{TooManyOpen}
use Rattle.tables.specs.declared.kind.Kind.{Kind}
use Rattle.tables.specs.declared.row.Row.{Row}
use Rattle.tables.specs.Rows.{row}
use Rattle.grammar.specs.declared.choice.Mark.{Mark}
use Rattle.grammar.specs.declared.choice.Mark.TheVariants.{Else, Open, Close, OpenBlock, Semicolon, Becomes}
use Rattle.grammar.specs.Choices.{mark_of}
use Rattle.grammar.specs.Machine.{State, run, if_else, if_open, if_close, if_open_block, if_semicolon, if_becomes}
use Rattle.reader.specs.declared.seen.Seen.{Seen}
use Rattle.reader.specs.declared.seen.Refusal.{Refusal}
use Rattle.reader.specs.declared.progress.Progress.{Progress}
use Rattle.reader.specs.Ahead.{ahead, HereIs, refused_at}

abbrev pub read_on : Progress → Seen → Progress
read_on a s = record { position = record { at = s.end }; count = a.count; depth = a.depth }

abbrev pub opened : Progress → Seen → Result (Unit {0}) Refusal × Progress
opened a s =
    cond (nat_lt a.depth 32)
    (Ok tt, record { position = record { at = s.end }; count = a.count; depth = suc a.depth })
    (Err (record { cause = TooManyOpen; place = s.place }), a)

abbrev pub outside : Progress → Progress
outside a = record { position = a.position; count = a.count; depth = a.depth - 1 }

-- a row behind the rows of its parts, which begin at `first`
abbrev pub told : List Row → Progress → Kind → ℤ → ℕ → ℕ → List Row × Progress
told rows a k v first q =
    (slice_set rows a.count (row k v (suc (a.count - first)) q), record { position = a.position; count = suc a.count; depth = a.depth })

abbrev pub told_leaf : List Row → Progress → Kind → ℤ → Seen → List Row × Progress
told_leaf rows a k v s =
    (slice_set rows a.count (row k v 1 s.place), record { position = record { at = s.end }; count = suc a.count; depth = a.depth })

-- by the sign or word that is wanted
abbrev pub if_mark : {A : Type 0} → Mark → Option Mark → A → A → A
if_mark Else m x y = if_else m x y
if_mark Open m x y = if_open m x y
if_mark Close m x y = if_close m x y
if_mark OpenBlock m x y = if_open_block m x y
if_mark Semicolon m x y = if_semicolon m x y
if_mark Becomes m x y = if_becomes m x y

-- the wanted one stood there, and was passed
pub record Passed (wanted : Mark) (names : List (List ℕ)) (text : List ℕ) (a z : Progress) (s : Seen) : Type 0 where
  pub here : HereIs names text a.position.at s
  pub is : mark_of s.lexeme ≡ Some wanted
  pub on : z ≡ read_on a s

pub record Missed (wanted : Mark) (names : List (List ℕ)) (text : List ℕ) (a : Progress) (r : Refusal) : Type 0 where
  pub seen : Seen
  pub here : HereIs names text a.position.at seen
  pub not : (x y : State) → if_mark wanted (mark_of seen.lexeme) x y ≡ y
  pub refusal : r ≡ refused_at seen

abbrev pub ExpectAnswer : Mark → List (List ℕ) → List ℕ → Progress → Progress → Result Seen Refusal → Type 0
ExpectAnswer wanted names text a z (Ok s) = Passed wanted names text a z s
ExpectAnswer wanted names text a z (Err r) = Missed wanted names text a r

-- rows written from a slot on, as far as there are slots
abbrev pub put : List Row → ℕ → List Row → List Row
put old i [] = old
put old i (r ∷ rs) = put (slice_set old i r) (suc i) rs

-- from one point of reading to a later one these rows were told, and every bracket opened between was closed
pub record Wrote (text : List ℕ) (a : Progress) (old : List Row) (z : Progress) (new rs : List Row) : Type 0 where
  pub rows : new ≡ put old a.count rs
  pub count : z.count ≡ a.count + length rs
  pub moved : a.position.at < z.position.at
  pub within : z.position.at ≤ length text
  pub few : z.count + a.position.at ≤ z.position.at + a.count
  pub depth : z.depth ≡ a.depth

-- the machine, from a point of reading on
abbrev pub from : List (List ℕ) → List ℕ → Progress → State → State
from names text a s = run (ahead names text a.position.at) a.depth s
