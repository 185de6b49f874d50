use Rattle.std.proofs.Common.{arith}
use Rattle.banks.proofs.Words.{length-words}
use Rattle.banks.proofs.kept.KeptBank.count.Goals as goal

pub returns : goal.returns
returns c =
    let k = length-words 64 c.args.self.now.bytes.now in
    record { value = omega arith; few = omega arith; fit = omega arith }
