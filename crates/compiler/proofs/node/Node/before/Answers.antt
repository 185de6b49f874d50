-- The part's row says how many rows it has.
use Rattle.std.proofs.Common.{ap, arith}
use Rattle.tables.specs.declared.row.Row.{Row}
use Rattle.compiler.proofs.Parting.{fits}
use Rattle.compiler.proofs.node.Node.before.Goals as goal

pub overflow_sub-result : goal.overflow_sub-result
overflow_sub-result c = omega (arith, fits c.args.self.rows.now c.args.self.end c.args.self.stands, ap (λ (r : Row). r.size) c.row.ensures)

pub invariant_of-result-clause-stands : goal.invariant_of-result-clause-stands
invariant_of-result-clause-stands c = rw c.row.ensures c.requires
