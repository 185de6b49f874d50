use Rattle.std.proofs.Common.{length, sym, refl, arith}
use Rattle.std.proofs.lemmas.Bool.Decides.{nat_tests}
use Rattle.station_file.proofs.Sectioned.{length-code, code_put}
use Rattle.station_file.proofs.Whole.{begins}
use Rattle.station_file.proofs.state.Begin.instructions.Goals as goal

pub returns-then-saturating_sub-size-clause-value : goal.returns-then-saturating_sub-size-clause-value
returns-then-saturating_sub-size-clause-value c = grind (arith, nat_tests, length-code c.args.points c.args.instructions.now)

pub returns-in-Err-clause-value : goal.returns-in-Err-clause-value
returns-in-Err-clause-value c = grind (arith, nat_tests, length-code c.args.points c.args.instructions.now, c.in-Err.ensures.value)

pub returns : goal.returns
returns c =
    let s = c.args.self in
    let p = c.args.points in
    let is = c.args.instructions.now in
    let bs = c.args.bytes.now in
    let none = c.in_default.ensures in
    let few = none.few in
    let laid = code_put s.at p (length is) is bs c.put.new.bytes c.put-2.new.bytes _ (omega arith) refl (cc (c.put.ensures, c.to_bytes.ensures)) (cc (c.put-2.ensures, c.to_bytes-2.ensures)) c.put_each.ensures in
    record { value = grind (arith, nat_tests, length-code p is); opens = begins s p is bs _ (sym none.value) few.1 none.right laid }
