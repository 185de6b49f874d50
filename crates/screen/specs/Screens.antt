-- What the screen answers and leaves. Rows that are no table, and then too many points, are refused first. Otherwise the
-- outcome of the sheet behind the rows is told if its cost is within the allowance, and 19 if not; only a sheet that
-- ended, within the allowance, leaves other points. More rounds than the allowance are enough to know any outcome that is
-- within it.
use Rattle.std.specs.Prelude.{ℕ, suc, cond, List, length, Some, None, Ok, Err, Option, Result, nat_le}
use Rattle.faults.specs.declared.causes.Layer.TheVariants as layer
use Rattle.faults.specs.declared.causes.RunCause.{RunCause}
use Rattle.faults.specs.declared.causes.RunCause.TheVariants.{AllowanceSpent}
use Rattle.faults.specs.declared.fault.Fault.{Fault}
use Rattle.faults.specs.Numbers.{fault_of}
use Rattle.tables.specs.declared.row.Row.{Row}
use Rattle.tables.specs.Trees.{Sheet}
use Rattle.tables.specs.Checks.{table_checked}
use Rattle.screen.specs.declared.answer.Outcome.{Outcome}
use Rattle.screen.specs.declared.halt.Halt.{Halt}
use Rattle.screen.specs.declared.halt.Halt.TheVariants.{Stopped, Spent}
use Rattle.screen.specs.Works.{Points, Out, done, stop, lost}
use Rattle.screen.specs.Rounds.{rounds}
use Rattle.screen.specs.Stopping.{stop_fault}
use Rattle.screen.specs.Behind.{tree_of}

-- a result, and the caller's points
abbrev pub Told : Type 0
Told = Result Outcome Fault × Points

abbrev pub outcome_at : Option Fault → ℕ → Outcome
outcome_at x c = record { stop = x; cost = c }

-- "ended", at its cost
abbrev pub ended_at : ℕ → Outcome
ended_at c = outcome_at None c

-- a stop in the run layer, with its place, at its cost
abbrev pub stopped_at : ℕ → RunCause → ℕ → Outcome
stopped_at c x q = outcome_at (Some (stop_fault x q)) c

abbrev pub spent_of : ℕ → Fault
spent_of a = fault_of (layer.Run AllowanceSpent) a

abbrev pub too_dear : ℕ → Points → Told
too_dear a p = (Err (spent_of a), p)

-- an outcome, begun at these points, within the allowance
abbrev pub told : Out Points → Points → ℕ → Told
told (done c p') p a = cond (nat_le c a) (Ok (ended_at c), p') (too_dear a p)
told (stop c x q) p a = cond (nat_le c a) (Ok (stopped_at c x q), p) (too_dear a p)
told lost p a = too_dear a p

abbrev pub outcome_of : Option Sheet → Points → ℕ → Out Points
outcome_of None p n = lost
outcome_of (Some t) p n = rounds n t p

abbrev pub on_checked : Result (List Row) Fault → Points → ℕ → Told
on_checked (Err f) p a = (Err f, p)
on_checked (Ok rows) p a = told (outcome_of (tree_of rows) p (suc a)) p a

abbrev pub worked_out : List Row → Points → ℕ → Told
worked_out rows p a = on_checked (table_checked (length p) rows) p a

-- how far a run came, the points where it is and the points before it
abbrev pub settled : Result ℕ Halt → Points → Points → ℕ → Told
settled (Ok n) p' p a = (Ok (ended_at n), p')
settled (Err (Stopped s)) p' p a = (Ok (stopped_at s.spent s.cause s.place), p)
settled (Err Spent) p' p a = too_dear a p
