use Rattle.std.proofs.Common.{arith}
use Rattle.banks.proofs.Overlaid.{length-overlaid}
use Rattle.banks.proofs.draft.DraftBank.count.Goals as goal

pub returns : goal.returns
returns g c =
    let e = length-overlaid (g.B.Bank.points c.args.self.now.below.now) c.args.self.now.over.held in
    record { value = omega arith; few = c.count.ensures.few }
