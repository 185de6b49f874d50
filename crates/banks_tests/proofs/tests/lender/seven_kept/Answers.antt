use Rattle.std.proofs.Common.{rules}
use Rattle.banks.proofs.Overlaid.{overlaid-blank}
use Rattle.banks_tests.proofs.tests.lender.seven_kept.Goals as goal

pub returns : goal.returns
returns g c =
    let b = overlaid-blank (g.B.Bank.points c.args.bank.now) in
    search (rules, overlaid-blank)
