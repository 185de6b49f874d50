-- The row's size falls from a row to its parts; a sheet hands itself on as a command once. In a loop the allowance runs
-- out: every turn makes a step.
use Rattle.std.proofs.Common.{ℕ, ◌+◌, ◌-◌, ◌*◌, List, length, get_or, Result}
use Rattle.tables.specs.declared.row.Row.{Row}
use Rattle.tables.specs.Trees.{Condition, Sheet, while, only}
use Rattle.tables.specs.Rows.{blank}
use Rattle.screen.specs.declared.halt.Halt.{Halt}
use Rattle.screen.specs.Works.{Points}
use Rattle.screen.specs.Parts.{SheetAt}
use Rattle.screen.specs.Runs.{Ran}
use Rattle.screen.proofs.work.Work.+sheet.Given as goal

abbrev size_at : List Row → ℕ → ℕ
size_at rows end = (get_or rows (end - 1) blank).size

abbrev pub decreases-choose : goal.decreases-choose
decreases-choose l = 2 * size_at l.self.now.rows.now l.end

abbrev pub decreases-joint : goal.decreases-joint
decreases-joint l = 2 * size_at l.self.now.rows.now l.end

abbrev pub decreases-repeat : goal.decreases-repeat
decreases-repeat l = 2 * size_at l.self.now.rows.now l.end

abbrev pub decreases-sheet : goal.decreases-sheet
decreases-sheet l = 2 * size_at l.self.now.rows.now l.end + 1

abbrev pub decreases-when : goal.decreases-when
decreases-when l = 2 * size_at l.self.now.rows.now l.end

-- however the loop goes on from here, it goes so from where it began
abbrev pub invariant-repeat-rounds : goal.invariant-repeat-rounds
invariant-repeat-rounds l =
    (q : ℕ) (h : Condition) (b : Sheet) → SheetAt l.self.rows.now l.end (length l.points) (only (while q h b)) → (out : Result ℕ Halt) (p' : Points) → Ran l.points (only (while q h b)) l.made l.self.allowance out p' → Ran l.initial.points (only (while q h b)) l.before l.self.allowance out p'

abbrev pub decreases-repeat-rounds : goal.decreases-repeat-rounds
decreases-repeat-rounds l = l.self.allowance - l.made
