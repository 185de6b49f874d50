-- The parts are nodes too.
use Rattle.std.proofs.Common.{arith}
use Rattle.compiler.proofs.Parting.{last-part, middle-part, first-part}
use Rattle.compiler.proofs.node.Node.three.Goals as goal

pub last-third-requires : goal.last-third-requires
last-third-requires c = last-part c.args.self.rows.now c.args.self.end c.args.self.stands (omega arith)

pub before-second-requires : goal.before-second-requires
before-second-requires c = rw c.last-third.ensures.rows (rw c.last-third.ensures.end (middle-part c.args.self.rows.now c.args.self.end c.args.self.stands c.requires))

pub before-requires : goal.before-requires
before-requires c =
    rw (c.before-second.ensures.rows, c.before-second.ensures.end, c.last-third.ensures.rows, c.last-third.ensures.end)
    (first-part c.args.self.rows.now c.args.self.end c.args.self.stands c.requires)
