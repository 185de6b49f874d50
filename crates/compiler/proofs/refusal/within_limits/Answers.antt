-- The sheet's measure decides.
use Rattle.std.proofs.Common.{arith}
use Rattle.std.proofs.lemmas.Bool.Decides.{nat_tests}
use Rattle.compiler.proofs.Refusing.{by-measure}
use Rattle.compiler.proofs.refusal.within_limits.Goals as goal

pub returns-in-Some-clause-refused : goal.returns-in-Some-clause-refused
returns-in-Some-clause-refused c =
    rw (by-measure c.requires.1 c.args.slots c.measure-measured.result c.sheet-sheet.ensures c.measure-measured.ensures, c.in-Some.is) (cc)

pub returns-in-None-clause-refused : goal.returns-in-None-clause-refused
returns-in-None-clause-refused c =
    rw (by-measure c.requires.1 c.args.slots c.measure-measured.result c.sheet-sheet.ensures c.measure-measured.ensures) (grind (arith, nat_tests))

pub returns-in-None-2-clause-refused : goal.returns-in-None-2-clause-refused
returns-in-None-2-clause-refused c =
    rw (by-measure c.requires.1 c.args.slots c.measure-measured.result c.sheet-sheet.ensures c.measure-measured.ensures) (grind (arith, nat_tests))
