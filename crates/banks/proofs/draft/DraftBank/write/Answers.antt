use Rattle.std.proofs.Common.{arith, w32, SFits, rules}
use Rattle.banks.proofs.Drafts.{noted-as, write-shows}
use Rattle.banks.proofs.draft.DraftBank.write.Goals as goal

pub returns-clause-value : goal.returns-clause-value
returns-clause-value g c =
    let xs = g.B.Bank.points c.args.self.now.below.now in
    let os = c.args.self.now.over.held in
    let w = c.args.self.now.over.whole in
    let f : SFits w32 c.args.value = search rules in
    let e = noted-as _ _ os c.args.point c.args.value _ f c.note.ensures c.count-count.ensures.value in
    write-shows xs os _ c.args.point c.args.value _ (omega arith) e
