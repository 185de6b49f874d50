-- A table that is not refused has room, and what is laid is its code.
use Rattle.std.proofs.Common.{◌≡◌, sym, refl, rules}
use Rattle.compiler.specs.Compiles.{Outcome, compiled}
use Rattle.compiler.proofs.Compiled.{whole, whole_room, whole-laid, laid-there, lays, takes, tells}
use Rattle.compiler.proofs.Laying.{room-at}
use Rattle.compiler.proofs.compiling.compile.Goals as goal

pub returns-in_err-sheet-clause-takes : goal.returns-in_err-sheet-clause-takes
returns-in_err-sheet-clause-takes c =
    let p = c.args.points in
    let R = c.args.rows.now in
    let I = c.args.instructions.now in
    let P = c.args.places.now in
    let v : ◌≡◌ {A = Outcome} (c.from_residual.result, I, P) (compiled p R I P) = search rules in
    takes p R I P c.from_residual.result I P v

pub lay-requires : goal.lay-requires
lay-requires c =
    let p = c.args.points in
    let R = c.args.rows.now in
    let I = c.args.instructions.now in
    let P = c.args.places.now in
    let free = sym c.in_ok-sheet.ensures.refused in
    record { room = ((whole p R I P c.min-slots.result c.min-slots.ensures free).part, room-at c.in_ok-sheet.ensures.whole (whole_room p R I P c.min-slots.result c.min-slots.ensures free)) }

pub returns-clause-value : goal.returns-clause-value
returns-clause-value c =
    laid-there (search rules) (search rules) (whole-laid c.args.points c.args.rows.now c.args.instructions.now c.args.places.now c.min-slots.result c.min-slots.ensures (sym c.in_ok-sheet.ensures.refused) c.in_ok-sheet.ensures.whole c.lay.ensures.laid)

pub returns-clause-code : goal.returns-clause-code
returns-clause-code c =
    let p = c.args.points in
    let R = c.args.rows.now in
    let I = c.args.instructions.now in
    let P = c.args.places.now in
    lays p R I P _ _ _ (laid-there (search rules) (search rules) (whole-laid p R I P c.min-slots.result c.min-slots.ensures (sym c.in_ok-sheet.ensures.refused) c.in_ok-sheet.ensures.whole c.lay.ensures.laid))

pub returns-clause-takes : goal.returns-clause-takes
returns-clause-takes c =
    let p = c.args.points in
    let R = c.args.rows.now in
    let I = c.args.instructions.now in
    let P = c.args.places.now in
    takes p R I P _ _ _ (whole-laid p R I P c.min-slots.result c.min-slots.ensures (sym c.in_ok-sheet.ensures.refused) c.in_ok-sheet.ensures.whole c.lay.ensures.laid)

pub returns-clause-one_code : goal.returns-clause-one_code
returns-clause-one_code c =
    let p = c.args.points in
    let R = c.args.rows.now in
    let I = c.args.instructions.now in
    let P = c.args.places.now in
    tells p R I P _ _ _ (laid-there (search rules) refl (whole-laid p R I P c.min-slots.result c.min-slots.ensures (sym c.in_ok-sheet.ensures.refused) c.in_ok-sheet.ensures.whole c.lay.ensures.laid))
