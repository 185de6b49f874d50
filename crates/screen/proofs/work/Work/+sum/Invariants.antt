-- the row's size falls from a row to its parts
use Rattle.std.proofs.Common.{◌-◌, get_or}
use Rattle.tables.specs.Rows.{blank}
use Rattle.screen.proofs.work.Work.+sum.Given as goal

abbrev pub decreases-sum : goal.decreases-sum
decreases-sum l = (get_or l.self.now.rows.now (l.end - 1) blank).size
