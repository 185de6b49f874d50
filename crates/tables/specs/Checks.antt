-- What the check answers: every row fits the rows before it, and the last one is a sheet of them all. A row's last
-- part ends just before it, and each part before that ends where the one after it begins.
use Rattle.std.specs.Prelude.{ℕ, zero, suc, ◌-◌, Bool, true, false, cond, ◌&&◌, List, length, get_or, ℤ, pos, negsuc, Some, None, Ok, Err, Option, Result, ◌==◌, nat_le, nat_lt, slice_index_or}
use Rattle.faults.specs.declared.causes.Layer.TheVariants as layer
use Rattle.faults.specs.declared.causes.TableCause.TheVariants.{NoTable}
use Rattle.faults.specs.declared.causes.BankCause.TheVariants.{NoPoint}
use Rattle.faults.specs.declared.fault.Fault.{Fault}
use Rattle.tables.specs.declared.kind.Kind.{Kind}
use Rattle.tables.specs.declared.kind.Kind.TheVariants.{Number, Name, Add, Sub, Mul, Div, Truth, Compare, Not, And, Or, Set, If, IfElse, While, Joint}
use Rattle.tables.specs.declared.row.Row.{Row}
use Rattle.tables.specs.declared.sort.Sort as sort
use Rattle.tables.specs.declared.sort.Sort.TheVariants.{Sheet}
use Rattle.tables.specs.declared.sort.Parts.{Parts}
use Rattle.tables.specs.declared.sort.Parts.TheVariants.{Zero, One, Two, Three}
use Rattle.tables.specs.declared.table.Table.{Table}
use Rattle.tables.specs.Rows.{blank}
use Rattle.tables.specs.Sorts.{sort_of, parts_of, serves_as}
use Rattle.tables.specs.Tables.{allowed_number}

abbrev pub below : ℕ → ℤ → Bool
below c (pos n) = nat_lt n c
below c (negsuc n) = false

abbrev pub allowed_value : ℕ → Kind → ℤ → Bool
allowed_value c Number v = allowed_number v
allowed_value c Name v = below c v
allowed_value c Add v = below 1 v
allowed_value c Sub v = below 1 v
allowed_value c Mul v = below 1 v
allowed_value c Div v = below 1 v
allowed_value c Truth v = below 2 v
allowed_value c Compare v = below 6 v
allowed_value c Not v = below 1 v
allowed_value c And v = below 1 v
allowed_value c Or v = below 1 v
allowed_value c Set v = below c v
allowed_value c If v = below 1 v
allowed_value c IfElse v = below 1 v
allowed_value c While v = below 1 v
allowed_value c Joint v = below 1 v

abbrev pub and_then : {X Y : Type 0} → Option X → (X → Option Y) → Option Y
and_then None f = None
and_then (Some x) f = f x

-- where a part of the wanted sort begins that ends with this last row, just before `end`
abbrev pub start_by : sort.Sort → Row → ℕ → Option ℕ
start_by w last end = cond (serves_as (sort_of last.kind) w && nat_le last.size end) (Some (end - last.size)) None

abbrev pub part_start : sort.Sort → List Row → ℕ → Option ℕ
part_start w rows end = cond (end == 0) None (start_by w (slice_index_or rows (end - 1) blank) end)

-- where the first of the parts begins
abbrev pub first_start : Parts → List Row → ℕ → Option ℕ
first_start Zero rows end = Some end
first_start (One a) rows end = part_start a rows end
first_start (Two a b) rows end = and_then (part_start b rows end) (part_start a rows)
first_start (Three a b c) rows end =
    and_then (part_start c rows end) (λ late. and_then (part_start b rows late) (part_start a rows))

-- the rows of the parts, from start to i, and the row itself are n
abbrev pub sized : ℕ → ℕ → Option ℕ → Bool
sized n i None = false
sized n i (Some start) = n == suc (i - start)

abbrev pub fits_at : ℕ → List Row → ℕ → Bool
fits_at c rows i =
    allowed_value c (get_or rows i blank).kind (get_or rows i blank).value
    && sized (get_or rows i blank).size i (first_start (parts_of (get_or rows i blank).kind) rows i)

-- the first n rows fit
abbrev pub fit_up_to : ℕ → List Row → ℕ → Bool
fit_up_to c rows zero = true
fit_up_to c rows (suc i) = fit_up_to c rows i && fits_at c rows i

abbrev pub from_start : Option ℕ → Bool
from_start None = false
from_start (Some start) = start == 0

abbrev pub whole_sheet : List Row → Bool
whole_sheet rows = from_start (part_start Sheet rows (length rows))

abbrev pub is_table : ℕ → List Row → Bool
is_table c rows = nat_le (length rows) 2048 && (fit_up_to c rows (length rows) && whole_sheet rows)

abbrev pub no_table_fault : Fault
no_table_fault = record { layer = layer.Table NoTable; figure = 0 }

abbrev pub too_many_points : ℕ → Fault
too_many_points c = record { layer = layer.Bank NoPoint; figure = c }

abbrev pub table_checked : ℕ → List Row → Result (List Row) Fault
table_checked c rows = cond (is_table c rows) (cond (nat_le c 64) (Ok rows) (Err (too_many_points c))) (Err no_table_fault)

-- a table, by its rows
abbrev pub rows_of : Result Table Fault → Result (List Row) Fault
rows_of (Ok t) = Ok t.rows.now
rows_of (Err f) = Err f
