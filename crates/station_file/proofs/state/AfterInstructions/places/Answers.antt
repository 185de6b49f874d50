use Rattle.std.proofs.Common.{◌≡◌, length, None, sym, arith}
use Rattle.std.proofs.lemmas.Bool.Decides.{nat_tests}
use Rattle.station_file.specs.Writing.{wrong_places}
use Rattle.station_file.proofs.Judged.{as_many}
use Rattle.station_file.proofs.Sectioned.{length-places, places-put}
use Rattle.station_file.proofs.Whole.{completes}
use Rattle.station_file.proofs.state.AfterInstructions.places.Goals as goal

pub returns-then-saturating_sub-length-clause-value : goal.returns-then-saturating_sub-length-clause-value
returns-then-saturating_sub-length-clause-value c = grind (arith, nat_tests, length-places c.args.places.now)

pub returns-in-Err-clause-value : goal.returns-in-Err-clause-value
returns-in-Err-clause-value c = grind (arith, nat_tests, length-places c.args.places.now, c.in-Err.ensures, c.from.ensures)

pub returns : goal.returns
returns c =
    let s = c.args.self in
    let ps = c.args.places.now in
    let bs = c.args.bytes.now in
    let none : wrong_places s.count (length ps) ≡ None = cc (c.in_default.ensures, c.from.ensures) in
    let many = as_many s.count (length ps) none in
    let laid = places-put s.at s.count ps bs _ _ (omega arith) (sym many) (cc (c.put.ensures, c.to_bytes.ensures)) c.put_each.ensures in
    record { value = grind (arith, nat_tests, length-places ps); back = completes s ps bs _ many (omega arith) (λ i. (c.type_inv.places i).fits) laid }
