-- The screen's promises, by the state model alone: nothing here speaks of rounds, or of how a sheet is worked out.
use Rattle.std.specs.Prelude.{◌≡◌, ℕ, ◌<◌, ◌≤◌, List, length, Ok, Err, Result}
use Rattle.faults.specs.declared.causes.Layer.TheVariants as layer
use Rattle.faults.specs.declared.causes.RunCause.{RunCause}
use Rattle.faults.specs.declared.fault.Fault.{Fault}
use Rattle.faults.specs.Numbers.{number_of}
use Rattle.tables.specs.declared.row.Row.{Row}
use Rattle.tables.specs.Trees.{Sheet}
use Rattle.tables.specs.Rows.{sheet_rows}
use Rattle.tables.specs.Tables.{SheetOver, Table}
use Rattle.tables.specs.Checks.{no_table_fault, too_many_points}
use Rattle.screen.specs.declared.answer.Outcome.{Outcome}
use Rattle.screen.specs.Works.{Points, Out, done, stop, lost, cost}
use Rattle.screen.specs.Model.{Ends}
use Rattle.screen.specs.Screens.{ended_at, stopped_at, spent_of}

-- the rows are the table of this sheet, over at most 64 points
pub record TableOf (t : Sheet) (rows : List Row) (p : Points) : Type 0 where
  pub listed : sheet_rows t ≡ rows
  pub over : SheetOver (length p) t
  pub few : length rows ≤ 2048
  pub narrow : length p ≤ 64

-- the answer, the cost and the points are this outcome's
abbrev pub Tells : Out Points → Points → Outcome → Points → Type 0
Tells (done c p'') p x p' = (x ≡ ended_at c) × (p' ≡ p'')
Tells (stop c y q) p x p' = (x ≡ stopped_at c y q) × (p' ≡ p)
Tells lost p x p' = ⊥

-- what is told, begun at points p within the allowance a, by a result r and the points p' left
pub record Answers (rows : List Row) (p : Points) (a : ℕ) (r : Result Outcome Fault) (p' : Points) : Type 0 where
  pub within : (t : Sheet) → TableOf t rows p → (o : Out Points) → Ends t p o → cost o ≤ a → (x : Outcome) × (r ≡ Ok x) × Tells o p x p'
  pub beyond : (t : Sheet) → TableOf t rows p → (o : Out Points) → Ends t p o → a < cost o → (r ≡ Err (spent_of a)) × (p' ≡ p)
  pub never : (t : Sheet) → TableOf t rows p → ((o : Out Points) → Ends t p o → ⊥) → (r ≡ Err (spent_of a)) × (p' ≡ p)
  pub earned : (x : Outcome) → r ≡ Ok x → (t : Sheet) × TableOf t rows p × (o : Out Points) × Ends t p o × (cost o ≤ a) × Tells o p x p'
  pub kept : (f : Fault) → r ≡ Err f → p' ≡ p
  pub no_table : (Table (length p) rows → ⊥) → (r ≡ Err no_table_fault) × (p' ≡ p)
  pub too_many : Table (length p) rows → 64 < length p → (r ≡ Err (too_many_points (length p))) × (p' ≡ p)

-- every stop of the state model is a zero divisor's
abbrev pub StopsByNumber : Type 0
StopsByNumber = (t : Sheet) (p : Points) (c : ℕ) (x : RunCause) (q : ℕ) → Ends t p (stop c x q) → number_of (layer.Run x) ≡ 20
