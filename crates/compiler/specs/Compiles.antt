-- What compiling answers and leaves. It refuses, in this order: rows that are no table, a row that is too deep, code
-- that is too long, too many points; then both lists are as they were. Otherwise it tells the length of the sheet's code
-- and has written it over the start of the lists.
use Rattle.std.specs.Prelude.{ℕ, min, cond, ◌||◌, List, length, Some, None, Ok, Err, Option, Result, nat_le, nat_lt}
use Rattle.faults.specs.declared.causes.Layer.TheVariants as layer
use Rattle.faults.specs.declared.causes.CompilerCause.TheVariants as cause
use Rattle.faults.specs.declared.fault.Fault.{Fault}
use Rattle.instructions.specs.declared.instruction.Instruction.{Instruction}
use Rattle.tables.specs.declared.row.Row.{Row}
use Rattle.tables.specs.Trees.{Sheet}
use Rattle.tables.specs.Checks.{is_table, no_table_fault, too_many_points}
use Rattle.folds.specs.CodeLengths.{sheet_length}
use Rattle.compiler.specs.Code.{sheet_code, instructions_of, places_of}
use Rattle.compiler.specs.Depths.{first_of, first_deep, sheet_depths}
use Rattle.compiler.specs.Sheets.{sheet_of}
use Rattle.compiler.specs.Lists.{over}

abbrev pub deep_at : ℕ → Fault
deep_at q = record { layer = layer.Compiler cause.TooDeep; figure = q }

abbrev pub too_long : ℕ → Fault
too_long n = record { layer = layer.Compiler cause.TooLong; figure = n }

abbrev pub depth_refusal : Option ℕ → Option Fault
depth_refusal None = None
depth_refusal (Some q) = Some (deep_at q)

abbrev pub room_refusal : ℕ → ℕ → Option Fault
room_refusal n slots = cond (nat_lt 1024 n || nat_lt slots n) (Some (too_long n)) None

-- what is refused of a sheet, whatever its points
abbrev pub code_refusal : Sheet → ℕ → Option Fault
code_refusal t slots = first_of (depth_refusal (first_deep (sheet_depths t))) (room_refusal (sheet_length t) slots)

abbrev pub point_refusal : ℕ → Option Fault
point_refusal c = cond (nat_le c 64) None (Some (too_many_points c))

unfoldable pub refusal : ℕ → List Row → ℕ → Option Fault
refusal c rows slots =
    cond (is_table c rows) (first_of (code_refusal (sheet_of rows) slots) (point_refusal c)) (Some no_table_fault)

abbrev pub Outcome : Type 0
Outcome = Result ℕ Fault × List Instruction × List ℕ

abbrev pub outcome : Option Fault → Sheet → List Instruction → List ℕ → Outcome
outcome (Some f) t instructions places = (Err f, instructions, places)
outcome None t instructions places =
    (Ok (sheet_length t), over (instructions_of (sheet_code 0 t)) instructions, over (places_of (sheet_code 0 t)) places)

-- the shorter list gives the slots
abbrev pub compiled : ℕ → List Row → List Instruction → List ℕ → Outcome
compiled c rows instructions places =
    outcome (refusal c rows (min (length instructions) (length places))) (sheet_of rows) instructions places
