use Rattle.std.proofs.Common.{rules}
use Rattle.banks.proofs.Words.{every_byte}
use Rattle.banks_tests.proofs.tests.lender.seven_in.Goals as goal

pub returns : goal.returns
returns c = search (rules, every_byte)
