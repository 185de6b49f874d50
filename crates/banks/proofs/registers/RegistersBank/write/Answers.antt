use Rattle.std.proofs.Common.{arith}
use Rattle.std.proofs.lemmas.List.{length-take-le}
use Rattle.std.proofs.lemmas.Int.{to_z-of_z}
use Rattle.std.proofs.lemmas.Bool.Decides.{nat_tests}
use Rattle.banks.proofs.Fronts.{take-set-in}
use Rattle.banks.proofs.registers.RegistersBank.write.Goals as goal

pub returns-then-point-self-clause-value : goal.returns-then-point-self-clause-value
returns-then-point-self-clause-value c = grind (arith, nat_tests, to_z-of_z, take-set-in, length-take-le)
