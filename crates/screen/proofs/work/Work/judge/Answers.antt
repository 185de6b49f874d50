use Rattle.std.proofs.Common.{arith, rules}
use Rattle.screen.proofs.Conditions.{condition-size, condition-few}
use Rattle.screen.proofs.Costs.{spent-condition}
use Rattle.screen.proofs.work.Work.judge.Goals as goal

pub condition-requires-clause-small : goal.condition-requires-clause-small
condition-requires-clause-small c =
    let n = condition-size c.requires.1 in
    let few = condition-few c.requires.1 in
    let limit = c.args.self.now.few in
    omega (arith, c.from.ensures)

pub overflow_add-tested : goal.overflow_add-tested
overflow_add-tested c =
    let h = c.requires.0 in
    let few = condition-few c.requires.1 in
    let limit = c.args.self.now.few in
    let tested = spent-condition h c.args.points.now c.from.result c.in-Ok.tested c.in-Ok.holds (c.in-Ok.ensures h c.requires.1) in
    let from = c.from.ensures in
    search rules
