use Rattle.std.proofs.Common.{◌<◌, length, arith}
use Rattle.std.proofs.lemmas.Int.{to_z-of_z}
use Rattle.std.proofs.lemmas.Bool.Decides.{nat_tests}
use Rattle.banks.specs.Kept.{numbers_in}
use Rattle.banks.proofs.Words.{get_or-words}
use Rattle.banks.proofs.kept.KeptBank.read.Goals as goal

pub returns-then-point-count : goal.returns-then-point-count
returns-then-point-count c =
    let h : c.args.point < length (numbers_in c.args.self.now.bytes.now) = omega arith in
    let k = get_or-words 64 c.args.self.now.bytes.now c.args.point h in
    grind (arith, nat_tests, to_z-of_z)
