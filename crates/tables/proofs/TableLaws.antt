-- The check accepts exactly the tables over at most 64 points.
use Rattle.std.proofs.Common.{◌≡◌, ℕ, Bool, true, false, cond, leb, List, Ok, Err, Result, refl, sym, subst}
use Rattle.std.proofs.lemmas.Bool.{leb-true, le-leb, false≢true, both_ways}
use Rattle.tables.specs.declared.row.Row.{Row}
use Rattle.tables.specs.Tables.{Accepts}
use Rattle.tables.specs.Checks.{is_table, table_checked, no_table_fault, too_many_points}
use Rattle.faults.specs.declared.fault.Fault.{Fault}
use Rattle.tables.proofs.Standing.{accepts-table}
use Rattle.tables.proofs.Growing.{only-tables}

accepts-at : (c : ℕ) (rows : List Row) (t few : Bool) → is_table c rows ≡ t → leb c 64 ≡ few → Accepts c rows (cond t (cond few (Ok rows) (Err (too_many_points c))) (Err no_table_fault))
accepts-at c rows true true e f =
    record { only = λ _. (only-tables c rows e, leb-true c 64 f); each = λ t l. refl }
accepts-at c rows true false e f =
    record { only = λ h. absurd (false≢true h); each = λ t l. absurd (both_ways (leb c 64) f (le-leb c 64 l)) }
accepts-at c rows false few e f =
    record { only = λ h. absurd (false≢true h); each = λ t l. absurd (both_ways (is_table c rows) e (accepts-table c rows t)) }

pub accepts : (c : ℕ) (rows : List Row) (r : Result (List Row) Fault) → r ≡ table_checked c rows → Accepts c rows r
accepts c rows r e = subst (Accepts c rows) (sym e) (accepts-at c rows (is_table c rows) (leb c 64) refl refl)
