-- The number of every refusal. It is what a town, a service desk and a station tell each other, so each cause
-- has just one, and the layers' numbers follow one another: reader 1 to 7, table 8 and 9, compiler 10 and 11,
-- file 12 and 13, station 14 to 17, bank 18, run 19 to 21.
use Rattle.std.specs.Prelude.{ℕ}
use Rattle.faults.specs.declared.causes.ReaderCause.{ReaderCause}
use Rattle.faults.specs.declared.causes.ReaderCause.TheVariants.{BadList, SheetTooLong, NoToken, NumberTooLarge, UnlistedName, Unexpected, TooManyOpen}
use Rattle.faults.specs.declared.causes.TableCause.{TableCause}
use Rattle.faults.specs.declared.causes.TableCause.TheVariants.{TooFewSlots, NoTable}
use Rattle.faults.specs.declared.causes.CompilerCause.{CompilerCause}
use Rattle.faults.specs.declared.causes.CompilerCause.TheVariants.{TooDeep, TooLong}
use Rattle.faults.specs.declared.causes.FileCause.{FileCause}
use Rattle.faults.specs.declared.causes.FileCause.TheVariants.{NoSpace, NoFile}
use Rattle.faults.specs.declared.causes.StationCause.{StationCause}
use Rattle.faults.specs.declared.causes.StationCause.TheVariants.{OtherPointCount, Running, NothingLoaded, NotRunning}
use Rattle.faults.specs.declared.causes.BankCause.{BankCause}
use Rattle.faults.specs.declared.causes.BankCause.TheVariants.{NoPoint}
use Rattle.faults.specs.declared.causes.RunCause.{RunCause}
use Rattle.faults.specs.declared.causes.RunCause.TheVariants.{AllowanceSpent, ZeroDivisor, StackBreach}
use Rattle.faults.specs.declared.causes.Layer.{Layer}
use Rattle.faults.specs.declared.fault.Fault.{Fault}
use Rattle.faults.specs.declared.causes.Layer.TheVariants.{Reader, Table, Compiler, File, Station, Bank, Run}

abbrev pub reader_number : ReaderCause → ℕ
reader_number BadList = 1
reader_number SheetTooLong = 2
reader_number NoToken = 3
reader_number NumberTooLarge = 4
reader_number UnlistedName = 5
reader_number Unexpected = 6
reader_number TooManyOpen = 7

abbrev pub table_number : TableCause → ℕ
table_number TooFewSlots = 8
table_number NoTable = 9

abbrev pub compiler_number : CompilerCause → ℕ
compiler_number TooDeep = 10
compiler_number TooLong = 11

abbrev pub file_number : FileCause → ℕ
file_number NoSpace = 12
file_number NoFile = 13

abbrev pub station_number : StationCause → ℕ
station_number OtherPointCount = 14
station_number Running = 15
station_number NothingLoaded = 16
station_number NotRunning = 17

abbrev pub bank_number : BankCause → ℕ
bank_number NoPoint = 18

abbrev pub run_number : RunCause → ℕ
run_number AllowanceSpent = 19
run_number ZeroDivisor = 20
run_number StackBreach = 21

abbrev pub number_of : Layer → ℕ
number_of (Reader c) = reader_number c
number_of (Table c) = table_number c
number_of (Compiler c) = compiler_number c
number_of (File c) = file_number c
number_of (Station c) = station_number c
number_of (Bank c) = bank_number c
number_of (Run c) = run_number c

-- the record of a refusal with this figure
abbrev pub fault_of : Layer → ℕ → Fault
fault_of layer figure = record { layer = layer; figure = figure }
