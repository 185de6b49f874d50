-- By what the table's check answered.
use Rattle.std.proofs.Common.{arith}
use Rattle.std.proofs.lemmas.Bool.Decides.{nat_tests}
use Rattle.compiler.specs.Compiles.{refusal}
use Rattle.tables.proofs.Growing.{only-tables}
use Rattle.compiler.proofs.refusal.admit.Goals as goal

pub within_limits-requires-in-Bank : goal.within_limits-requires-in-Bank
within_limits-requires-in-Bank c = (c.args.points, only-tables c.args.points c.args.rows.now (grind (arith, nat_tests)))

pub returns-in-Ok-clause-refused : goal.returns-in-Ok-clause-refused
unfolding refusal
returns-in-Ok-clause-refused c = grind (arith, nat_tests)

pub returns-in-Bank-clause-refused : goal.returns-in-Bank-clause-refused
unfolding refusal
returns-in-Bank-clause-refused c = grind (arith, nat_tests)

pub returns-in_default-clause-refused : goal.returns-in_default-clause-refused
unfolding refusal
returns-in_default-clause-refused c = grind (arith, nat_tests)
