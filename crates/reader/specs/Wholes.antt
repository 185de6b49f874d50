-- What reading a whole sheet does, by the machine, before the slots are judged.
use Rattle.std.specs.Prelude.{◌≡◌, ℕ, ◌<◌, ◌≤◌, List, length, Ok, Err, Result}
use Rattle.faults.specs.declared.causes.ReaderCause.TheVariants.{SheetTooLong}
use Rattle.faults.specs.declared.fault.Fault.{Fault}
use Rattle.tables.specs.declared.row.Row.{Row}
use Rattle.tables.specs.Trees.{Sheet}
use Rattle.tables.specs.Rows.{sheet_size, sheet_rows}
use Rattle.grammar.specs.Lexemes.{lexemes}
use Rattle.grammar.specs.Machine.{State, done, refused, run, start}
use Rattle.reader.specs.declared.seen.Refusal.{Refusal}
use Rattle.reader.specs.Progressing.{put}
use Rattle.reader.specs.Reading.{reader_fault}

-- the machine is done with a tree, whose rows were put as far as there are slots
pub record AllRead (s : State) (old new : List Row) (n : ℕ) : Type 0 where
  pub tree : Sheet
  pub is : s ≡ done tree
  pub count : n ≡ sheet_size tree
  pub rows : new ≡ put old 0 (sheet_rows tree)

abbrev pub AllAnswer : State → List Row → List Row → Result ℕ Refusal → Type 0
AllAnswer s old new (Ok n) = AllRead s old new n
AllAnswer s old new (Err r) = s ≡ refused r.cause r.place

-- a sheet too long is not read; any other is refused as the machine refuses it
pub record UnderRead (names : List (List ℕ)) (sheet : List ℕ) (old new : List Row) (n : ℕ) : Type 0 where
  pub short : length sheet ≤ 8192
  pub all : AllRead (run (lexemes names sheet) 0 start) old new n

pub data UnderRefused (names : List (List ℕ)) (sheet : List ℕ) (f : Fault) : Type 0 where
  long : 8192 < length sheet → f ≡ reader_fault SheetTooLong 8192 → UnderRefused names sheet f
  refuses : (r : Refusal) → length sheet ≤ 8192 → run (lexemes names sheet) 0 start ≡ refused r.cause r.place → f ≡ reader_fault r.cause r.place → UnderRefused names sheet f

abbrev pub UnderAnswer : List (List ℕ) → List ℕ → List Row → List Row → Result ℕ Fault → Type 0
UnderAnswer names sheet old new (Ok n) = UnderRead names sheet old new n
UnderAnswer names sheet old new (Err f) = UnderRefused names sheet f
