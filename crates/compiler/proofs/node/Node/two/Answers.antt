-- The parts are nodes too.
use Rattle.std.proofs.Common.{arith}
use Rattle.compiler.proofs.Parting.{last-part, left-part}
use Rattle.compiler.proofs.node.Node.two.Goals as goal

pub last-right-requires : goal.last-right-requires
last-right-requires c = last-part c.args.self.rows.now c.args.self.end c.args.self.stands (omega arith)

pub before-requires : goal.before-requires
before-requires c = rw c.last-right.ensures.rows (rw c.last-right.ensures.end (left-part c.args.self.rows.now c.args.self.end c.args.self.stands c.requires))
