-- the row's size falls from a row to its parts
use Rattle.std.proofs.Common.{◌-◌, get_or}
use Rattle.tables.specs.Rows.{blank}
use Rattle.screen.proofs.work.Work.+condition.Given as goal

abbrev pub decreases-condition : goal.decreases-condition
decreases-condition l = (get_or l.self.now.rows.now (l.end - 1) blank).size
