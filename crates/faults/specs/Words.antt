-- What a refusal says to a person. The sentence names the layer, the number and the figure, and then the cause
-- in words; "this" in those words is the figure.
use Rattle.std.specs.Prelude.{ℕ, List, ◌++◌, codes, decimal}
use Rattle.faults.specs.declared.causes.ReaderCause.{ReaderCause}
use Rattle.faults.specs.declared.causes.ReaderCause.TheVariants.{BadList, SheetTooLong, NoToken, NumberTooLarge, UnlistedName, Unexpected, TooManyOpen}
use Rattle.faults.specs.declared.causes.TableCause.{TableCause}
use Rattle.faults.specs.declared.causes.TableCause.TheVariants.{TooFewSlots, NoTable}
use Rattle.faults.specs.declared.causes.CompilerCause.{CompilerCause}
use Rattle.faults.specs.declared.causes.CompilerCause.TheVariants.{TooDeep, TooLong}
use Rattle.faults.specs.declared.causes.FileCause.{FileCause}
use Rattle.faults.specs.declared.causes.FileCause.TheVariants.{NoSpace, NoFile}
use Rattle.faults.specs.declared.causes.StationCause.{StationCause}
use Rattle.faults.specs.declared.causes.StationCause.TheVariants.{OtherPointCount, Running, NothingLoaded, NotRunning}
use Rattle.faults.specs.declared.causes.BankCause.{BankCause}
use Rattle.faults.specs.declared.causes.BankCause.TheVariants.{NoPoint}
use Rattle.faults.specs.declared.causes.RunCause.{RunCause}
use Rattle.faults.specs.declared.causes.RunCause.TheVariants.{AllowanceSpent, ZeroDivisor, StackBreach}
use Rattle.faults.specs.declared.causes.Layer.{Layer}
use Rattle.faults.specs.declared.causes.Layer.TheVariants.{Reader, Table, Compiler, File, Station, Bank, Run}
use Rattle.faults.specs.declared.fault.Fault.{Fault}
use Rattle.faults.specs.Numbers.{number_of}

abbrev pub layer_name : Layer → List ℕ
layer_name (Reader c) = codes "reader"
layer_name (Table c) = codes "table"
layer_name (Compiler c) = codes "compiler"
layer_name (File c) = codes "file"
layer_name (Station c) = codes "station"
layer_name (Bank c) = codes "bank"
layer_name (Run c) = codes "run"

abbrev pub reader_words : ReaderCause → List ℕ
reader_words BadList = codes "the name list breaks its rules on the line that starts at this byte"
reader_words SheetTooLong = codes "the sheet has more than this many bytes"
reader_words NoToken = codes "the byte at this place begins no token"
reader_words NumberTooLarge = codes "the number at this place is over 2,147,483,647"
reader_words UnlistedName = codes "the name at this place is not in the name list"
reader_words Unexpected = codes "no rule takes the token at this place, or the sheet ends here too early"
reader_words TooManyOpen = codes "the bracket at this place is the 33rd open one"

abbrev pub table_words : TableCause → List ℕ
table_words TooFewSlots = codes "there are more rows than slots given, or than 2,048; this many slots are needed"
table_words NoTable = codes "the rows are no table"

abbrev pub compiler_words : CompilerCause → List ℕ
compiler_words TooDeep = codes "the row at this place needs a stack deeper than 64"
compiler_words TooLong = codes "the code is longer than 1,024 instructions, or than the slots given; this many are needed"

abbrev pub file_words : FileCause → List ℕ
file_words NoSpace = codes "the section is larger than the space left; it has this many bytes"
file_words NoFile = codes "this is no station file, or not the instructions or places of one; the first wrong field is at this position or index"

abbrev pub station_words : StationCause → List ℕ
station_words OtherPointCount = codes "the file is for this many points, and the bank has another number of them"
station_words Running = codes "this cannot be done during a run"
station_words NothingLoaded = codes "nothing is loaded"
station_words NotRunning = codes "there is no run"

abbrev pub bank_words : BankCause → List ℕ
bank_words NoPoint = codes "there is no such point, or there are more than 64 points"

abbrev pub run_words : RunCause → List ℕ
run_words AllowanceSpent = codes "the sheet costs more steps than the allowance, which is this"
run_words ZeroDivisor = codes "the divisor of the division at this place is zero"
run_words StackBreach = codes "the stack is too empty or too full for the instruction at this place"

abbrev pub cause_words : Layer → List ℕ
cause_words (Reader c) = reader_words c
cause_words (Table c) = table_words c
cause_words (Compiler c) = compiler_words c
cause_words (File c) = file_words c
cause_words (Station c) = station_words c
cause_words (Bank c) = bank_words c
cause_words (Run c) = run_words c

abbrev pub sentence : List ℕ → ℕ → ℕ → List ℕ → List ℕ
sentence layer number figure words =
    layer ++ (codes " refusal " ++ (decimal number ++ (codes ", figure " ++ (decimal figure ++ (codes ": " ++ words)))))

abbrev pub fault_words : Fault → List ℕ
fault_words x = sentence (layer_name x.layer) (number_of x.layer) x.figure (cause_words x.layer)
