-- What a fold answers and leaves. A table's fold is the value of its tree, in any algebra; that is the law `Folds`.
-- The pass over the rows says how it is worked out.
use Rattle.std.specs.Prelude.{◌≡◌, ℕ, ◌≤◌, cond, ◌||◌, List, [], ◌∷◌, length, drop, Some, None, Ok, Err, Option, Result, nat_le, nat_lt}
use Rattle.faults.specs.declared.causes.Layer.TheVariants as layer
use Rattle.faults.specs.declared.causes.TableCause.TheVariants.{TooFewSlots}
use Rattle.faults.specs.declared.fault.Fault.{Fault}
use Rattle.tables.specs.declared.kind.Kind.{Kind}
use Rattle.tables.specs.declared.row.Row.{Row}
use Rattle.tables.specs.Sorts as sorts
use Rattle.tables.specs.Trees.{Sheet}
use Rattle.tables.specs.Rows.{sheet_rows}
use Rattle.tables.specs.Tables.{SheetOver}
use Rattle.tables.specs.Checks.{is_table, no_table_fault, too_many_points}
use Rattle.tables.specs.Values.{Sums, Rest, sheet_value}
use Rattle.tables.specs.Passes.{passes}

-- how many parts a row of each kind has
abbrev pub part_count : Kind → ℕ
part_count = sorts.part_count

abbrev pub too_few_slots : ℕ → Fault
too_few_slots n = record { layer = layer.Table TooFewSlots; figure = n }

-- the one value that a pass leaves
abbrev pub lone : {V : Type 0} → List V → Result V Fault
lone [] = Err no_table_fault
lone (v ∷ []) = Ok v
lone (v ∷ (w ∷ st)) = Err no_table_fault

abbrev pub left : {V : Type 0} → Option (List V) → Result V Fault
left None = Err no_table_fault
left (Some st) = lone st

-- 8 before 9 before 18
abbrev pub folded : {V : Type 0} → Sums V → Rest V → ℕ → List Row → ℕ → Result V Fault
folded s a c rows slots =
    cond (nat_lt slots (length rows) || nat_lt 2048 (length rows)) (Err (too_few_slots (length rows)))
    (cond (is_table c rows) (cond (nat_le c 64) (left (passes s a rows [])) (Err (too_many_points c))) (Err no_table_fault))

-- the slots that stay: all of them on a refusal, and otherwise those after as many as there are rows
abbrev pub spared : {V : Type 0} → ℕ → Result V Fault → List V → List V
spared n (Ok v) slots = drop n slots
spared n (Err f) slots = slots

-- the answer, and the slots that stay
abbrev pub fold_leaves : {V : Type 0} → Sums V → Rest V → ℕ → List Row → List V → Result V Fault × List V
fold_leaves s a c rows slots =
    (folded s a c rows (length slots), spared (length rows) (folded s a c rows (length slots)) slots)

-- of a table, within room, the answer is this measure of its tree
abbrev pub Measures : {V : Type 0} → (Sheet → V) → ℕ → List Row → ℕ → Result V Fault → Type 0
Measures f c rows slots r =
    (t : Sheet) → sheet_rows t ≡ rows → SheetOver c t → c ≤ 64 → length rows ≤ slots → length rows ≤ 2048 → r ≡ Ok (f t)

-- this measure is what the algebra makes of any tree whose rows are a table
abbrev pub Exact : {V : Type 0} → Sums V → Rest V → (Sheet → V) → Type 0
Exact s a f = (c : ℕ) (t : Sheet) → SheetOver c t → c ≤ 64 → length (sheet_rows t) ≤ 2048 → sheet_value s a t ≡ f t

-- the fold of a table is its tree's value
abbrev pub Folds : {V : Type 0} → Sums V → Rest V → ℕ → List Row → ℕ → Result V Fault → Type 0
Folds s a c rows slots r = Measures (sheet_value s a) c rows slots r
