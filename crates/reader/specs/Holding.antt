-- What a method answers, in terms of its reader's parts, and what of them stays whatever it does: the names, the text, and
-- which rows they are that it writes to.
use Rattle.std.specs.Prelude.{◌≡◌, ℕ, List, Result}
use Rattle.tables.specs.declared.row.Row.{Row}
use Rattle.names.specs.Lines.{lines_of}
use Rattle.reader.specs.declared.seen.Refusal.{Refusal}
use Rattle.reader.specs.declared.progress.Progress.{Progress}
use Rattle.reader.specs.declared.reader.Reader.{Reader}

pub record Held : Type 0 where
  pub names : List ℕ
  pub text : List ℕ
  pub loan : ℕ

abbrev pub held : Reader → Held
held a = record { names = a.names.text.now; text = a.text.now; loan = a.rows.ghost_name }

-- an answer that is told of names, a text, and progress and rows before and after
abbrev pub Answer : Type 1
Answer = List (List ℕ) → List ℕ → Progress → List Row → Progress → List Row → Result (Unit {0}) Refusal → Type 0

pub record Reads (A : Answer) (old new : Reader) (r : Result (Unit {0}) Refusal) : Type 0 where
  pub answer : A (lines_of old.names.text.now) old.text.now old.progress old.rows.now new.progress new.rows.now r
  pub same : held new ≡ held old
