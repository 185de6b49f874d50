use Rattle.std.proofs.Common.{◌-◌, length}
use Rattle.scanner.proofs.LookSteps.{Looking}
use Rattle.scanner.proofs.cursor.Cursor.opens_condition.Given as goal

abbrev pub invariant-ahead : goal.invariant-ahead
invariant-ahead l = Looking l.text l.initial.guard.position.now.at l.guard.position.now.at l.depth

abbrev pub decreases-ahead : goal.decreases-ahead
decreases-ahead l = length l.text - l.guard.position.now.at
