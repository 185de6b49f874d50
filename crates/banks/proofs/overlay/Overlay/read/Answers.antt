use Rattle.std.proofs.Common.{◌∙◌, arith}
use Rattle.std.proofs.lemmas.Bool.Decides.{nat_tests}
use Rattle.banks.proofs.Overlaid.{length-overlaid, told-overlaid}
use Rattle.banks.proofs.overlay.Overlay.read.Goals as goal

pub returns-then-point-count : goal.returns-then-point-count
returns-then-point-count g c = grind (arith, nat_tests, length-overlaid)

pub returns : goal.returns
returns g c =
    let xs = g.B.Bank.points c.args.bank.now in
    c.seen.ensures ∙ told-overlaid xs c.args.self.now.held c.args.point (omega arith)
