-- What compiling promises, in the words of sheets: which tables it takes, and that what it leaves is the sheet's code.
use Rattle.std.specs.Prelude.{◌≡◌, ℕ, ◌≤◌, true, List, length, take, is_ok, Ok, Result}
use Rattle.faults.specs.declared.fault.Fault.{Fault}
use Rattle.instructions.specs.declared.instruction.Instruction.{Instruction}
use Rattle.tables.specs.declared.row.Row.{Row}
use Rattle.tables.specs.Trees.{Sheet}
use Rattle.tables.specs.Rows.{sheet_rows}
use Rattle.tables.specs.Tables.{Table}
use Rattle.folds.specs.CodeLengths.{sheet_length}
use Rattle.folds.specs.StackDepths.{sheet_depth}
use Rattle.compiler.specs.Code.{sheet_code, instructions_of, places_of}
use Rattle.compiler.specs.Bare.{bare_sheet, bare_rows}
use Rattle.compiler.specs.Back.{sheet_back}

-- the first n of the lists are the code of a sheet; its length and depth are the folds' own
pub record Lays (t : Sheet) (n : ℕ) (instructions : List Instruction) (places : List ℕ) : Type 0 where
  pub counted : n ≡ sheet_length t
  pub long : length (sheet_code 0 t) ≡ sheet_length t
  pub listed : take n instructions ≡ instructions_of (sheet_code 0 t)
  pub placed : take n places ≡ places_of (sheet_code 0 t)
  pub shallow : sheet_depth t ≤ 64
  pub short : n ≤ 1024

-- of whatever sheet has these rows
abbrev pub LaysCode : List Row → Result ℕ Fault → List Instruction → List ℕ → Type 0
LaysCode rows r instructions places =
    (t : Sheet) (n : ℕ) → sheet_rows t ≡ rows → r ≡ Ok n → Lays t n instructions places

-- a table over at most 64 points, with code of depth and length within the limits and the slots
pub record Compilable (count : ℕ) (rows : List Row) (slots : ℕ) : Type 0 where
  pub table : Table count rows
  pub few : count ≤ 64
  pub shallow : sheet_depth table.tree ≤ 64
  pub short : sheet_length table.tree ≤ 1024
  pub room : sheet_length table.tree ≤ slots

-- exactly these are compiled
pub record Takes (count : ℕ) (rows : List Row) (slots : ℕ) (r : Result ℕ Fault) : Type 0 where
  pub only : is_ok r ≡ true → Compilable count rows slots
  pub each : Compilable count rows slots → is_ok r ≡ true

-- one code, one table: places aside, the instructions left are those of just the sheets that have just these rows, and
-- reading them back gives the sheet
pub record Tells (rows : List Row) (instructions : List Instruction) : Type 0 where
  pub back : (t : Sheet) → sheet_rows t ≡ rows → sheet_back instructions ≡ bare_sheet t
  pub only : (u : Sheet) → instructions_of (sheet_code 0 u) ≡ instructions → bare_rows (sheet_rows u) ≡ bare_rows rows
  pub each : (u : Sheet) → bare_rows (sheet_rows u) ≡ bare_rows rows → instructions_of (sheet_code 0 u) ≡ instructions

abbrev pub OneCode : List Row → Result ℕ Fault → List Instruction → Type 0
OneCode rows r instructions = (n : ℕ) → r ≡ Ok n → Tells rows (take n instructions)
