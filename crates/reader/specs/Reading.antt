-- What reading a sheet answers and leaves in the rows: the list is tried first, then the sheet's length, then the sheet
-- itself up to its earliest refusal, and the slots last. Refused rows are blank, but for a refused list.
use Rattle.std.specs.Prelude.{ℕ, ◌-◌, cond, ◌&&◌, List, ◌++◌, length, replicate, Ok, Err, Result, nat_le}
use Rattle.faults.specs.declared.causes.Layer.TheVariants as layer
use Rattle.faults.specs.declared.causes.ReaderCause.{ReaderCause}
use Rattle.faults.specs.declared.causes.ReaderCause.TheVariants.{SheetTooLong, Unexpected}
use Rattle.faults.specs.declared.causes.TableCause.TheVariants.{TooFewSlots}
use Rattle.faults.specs.declared.fault.Fault.{Fault}
use Rattle.tables.specs.declared.row.Row.{Row}
use Rattle.tables.specs.Trees.{Sheet}
use Rattle.tables.specs.Rows.{blank, sheet_size, sheet_rows}
use Rattle.names.specs.Lines.{lines_of}
use Rattle.names.specs.Complaints.{list_read}
use Rattle.grammar.specs.Lexemes.{lexemes}
use Rattle.grammar.specs.Machine.{State, want, have, lit, had, cmd, becomes, opening, blocking, else_or, done, refused, run, start}

abbrev pub reader_fault : ReaderCause → ℕ → Fault
reader_fault c q = record { layer = layer.Reader c; figure = q }

abbrev pub too_few_slots : ℕ → Fault
too_few_slots n = record { layer = layer.Table TooFewSlots; figure = n }

abbrev pub blanks : List Row → List Row
blanks rows = replicate (length rows) blank

-- the rows of a tree, and blank ones in the slots behind
abbrev pub filled : Sheet → List Row → List Row
filled t rows = sheet_rows t ++ replicate (length rows - sheet_size t) blank

abbrev pub Told : Type 0
Told = Result ℕ Fault × List Row

abbrev pub slotted : Sheet → List Row → Told
slotted t rows =
    cond (nat_le (sheet_size t) 2048 && nat_le (sheet_size t) (length rows)) (Ok (sheet_size t), filled t rows) (Err (too_few_slots (sheet_size t)), blanks rows)

-- by where the machine ends; tokens end with the end or with a byte that begins none, so it is done or has refused
abbrev pub told_by : State → List Row → Told
told_by (done t) rows = slotted t rows
told_by (refused c q) rows = (Err (reader_fault c q), blanks rows)
told_by (want s m k) rows = (Err (reader_fault Unexpected 0), blanks rows)
told_by (have s e k) rows = (Err (reader_fault Unexpected 0), blanks rows)
told_by (lit nots ands ors u) rows = (Err (reader_fault Unexpected 0), blanks rows)
told_by (had c ands ors u) rows = (Err (reader_fault Unexpected 0), blanks rows)
told_by (cmd cs b) rows = (Err (reader_fault Unexpected 0), blanks rows)
told_by (becomes q x cs b) rows = (Err (reader_fault Unexpected 0), blanks rows)
told_by (opening u) rows = (Err (reader_fault Unexpected 0), blanks rows)
told_by (blocking b) rows = (Err (reader_fault Unexpected 0), blanks rows)
told_by (else_or q c t cs b) rows = (Err (reader_fault Unexpected 0), blanks rows)

abbrev pub sheet_told : List (List ℕ) → List ℕ → List Row → Told
sheet_told names sheet rows =
    cond (nat_le (length sheet) 8192) (told_by (run (lexemes names sheet) 0 start) rows) (Err (reader_fault SheetTooLong 8192), blanks rows)

abbrev pub list_told : Result (List ℕ) Fault → List ℕ → List Row → Told
list_told (Ok list) sheet rows = sheet_told (lines_of list) sheet rows
list_told (Err f) sheet rows = (Err f, rows)

abbrev pub reading : List ℕ → List ℕ → List Row → Told
reading list sheet rows = list_told (list_read list) sheet rows
