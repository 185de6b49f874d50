-- What reading a sheet, a command and a block does, by the machine: as for sums, whatever block they stand in.
use Rattle.std.specs.Prelude.{◌≡◌, ℕ, suc, ◌+◌, ◌≤◌, List, [], ◌∷◌, Ok, Err, Result}
use Rattle.faults.specs.declared.causes.ReaderCause.{ReaderCause}
use Rattle.tables.specs.declared.row.Row.{Row}
use Rattle.tables.specs.Trees.{Command, Sheet, only, joint}
use Rattle.tables.specs.Rows.{command_rows, sheet_rows}
use Rattle.grammar.specs.declared.choice.CommandStart.{CommandStart}
use Rattle.grammar.specs.declared.choice.CommandStart.TheVariants as command
use Rattle.grammar.specs.Choices.{command_of}
use Rattle.grammar.specs.Grammar.{command_place, first_place}
use Rattle.grammar.specs.Lexemes.{Tok}
use Rattle.grammar.specs.Machine.{Block, whole, if_body, else_body, while_body, cmd, blocking, refused, left-block}
use Rattle.reader.specs.declared.seen.Seen.{Seen}
use Rattle.reader.specs.declared.seen.Refusal.{Refusal}
use Rattle.reader.specs.declared.progress.Progress.{Progress}
use Rattle.reader.specs.Ahead.{ahead, HereIs}
use Rattle.reader.specs.Progressing.{Wrote, from}

-- the commands of a sheet upon those before them, the latest first
abbrev pub pushed : Sheet → List Command → List Command
pushed (only c) cs = c ∷ cs
pushed (joint p c t) cs = pushed t (c ∷ cs)

-- each joint has the place of the command behind its left part
abbrev pub JoinedInPlace : Sheet → Type 0
JoinedInPlace (only c) = Unit {0}
JoinedInPlace (joint p c t) = (p ≡ first_place t) × JoinedInPlace t

abbrev pub place_ahead : List Tok → ℕ
place_ahead [] = 0
place_ahead (x ∷ xs) = x.place

-- a sheet ends before the end of its block or of the text
abbrev pub EndsSheet : Result CommandStart ReaderCause → Type 0
EndsSheet (Ok (command.Set x)) = ⊥
EndsSheet (Ok command.If) = ⊥
EndsSheet (Ok command.While) = ⊥
EndsSheet (Ok command.CloseBlock) = Unit {0}
EndsSheet (Ok command.End) = Unit {0}
EndsSheet (Err c) = ⊥

abbrev pub EndAhead : List Tok → Type 0
EndAhead [] = ⊥
EndAhead (x ∷ xs) = EndsSheet (command_of x.lexeme)

-- a block that is not the whole sheet: the text cannot end in it
abbrev pub Inner : Block → Type 0
Inner whole = ⊥
Inner (if_body p c cs b) = Unit {0}
Inner (else_body p c t cs b) = Unit {0}
Inner (while_body p c cs b) = Unit {0}

-- a command has to follow: none stands before it, or the next token is not the end of the sheet
abbrev pub Wanting : List Command → List Tok → Type 0
Wanting [] ts = Unit {0}
Wanting (c ∷ cs) ts = EndAhead ts → ⊥

-- a command has a byte more than rows, which pays for a joint, and so has a block, by its brackets
pub record TookCommand (names : List (List ℕ)) (text : List ℕ) (a : Progress) (old : List Row) (z : Progress) (new : List Row) : Type 0 where
  pub tree : Command
  pub moves : (cs : List Command) (b : Block) → from names text a (cmd cs b) ≡ from names text z (cmd (tree ∷ cs) b)
  pub wrote : Wrote text a old z new (command_rows tree)
  pub spare : suc (z.count + a.position.at) ≤ z.position.at + a.count
  pub place : command_place tree ≡ place_ahead (ahead names text a.position.at)

pub record TookSheet (names : List (List ℕ)) (text : List ℕ) (a : Progress) (old : List Row) (z : Progress) (new : List Row) : Type 0 where
  pub tree : Sheet
  pub moves : (cs : List Command) (b : Block) → from names text a (cmd cs b) ≡ from names text z (cmd (pushed tree cs) b)
  pub wrote : Wrote text a old z new (sheet_rows tree)
  pub place : first_place tree ≡ place_ahead (ahead names text a.position.at)
  pub joints : JoinedInPlace tree
  pub ends : EndAhead (ahead names text z.position.at)

pub record TookBlock (names : List (List ℕ)) (text : List ℕ) (a : Progress) (old : List Row) (z : Progress) (new : List Row) : Type 0 where
  pub tree : Sheet
  pub close : ℕ
  pub moves : (b : Block) → from names text a (blocking b) ≡ from names text z (left-block close tree b)
  pub wrote : Wrote text a old z new (sheet_rows tree)
  pub spare : suc (z.count + a.position.at) ≤ z.position.at + a.count

-- the token just seen is the next one, and begins a command so
pub record Begins (start : CommandStart) (names : List (List ℕ)) (text : List ℕ) (a : Progress) (s : Seen) : Type 0 where
  pub here : HereIs names text a.position.at s
  pub is : command_of s.lexeme ≡ Ok start

abbrev pub CommandAnswer : List (List ℕ) → List ℕ → Progress → List Row → Progress → List Row → Result (Unit {0}) Refusal → Type 0
CommandAnswer names text a old z new (Ok u) = TookCommand names text a old z new
CommandAnswer names text a old z new (Err r) =
    (cs : List Command) (b : Block) → Wanting cs (ahead names text a.position.at) → from names text a (cmd cs b) ≡ refused r.cause r.place

abbrev pub SheetAnswer : List (List ℕ) → List ℕ → Progress → List Row → Progress → List Row → Result (Unit {0}) Refusal → Type 0
SheetAnswer names text a old z new (Ok u) = TookSheet names text a old z new
SheetAnswer names text a old z new (Err r) =
    (cs : List Command) (b : Block) → Wanting cs (ahead names text a.position.at) → from names text a (cmd cs b) ≡ refused r.cause r.place

abbrev pub BlockAnswer : List (List ℕ) → List ℕ → Progress → List Row → Progress → List Row → Result (Unit {0}) Refusal → Type 0
BlockAnswer names text a old z new (Ok u) = TookBlock names text a old z new
BlockAnswer names text a old z new (Err r) = (b : Block) → Inner b → from names text a (blocking b) ≡ refused r.cause r.place
