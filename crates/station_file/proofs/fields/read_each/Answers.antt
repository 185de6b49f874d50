use Rattle.std.proofs.Common.{◌≡◌, ◌+◌, ◌*◌, take, drop, Ok, Err, sym, ap, ◌∙◌, mul-add, arith}
use Rattle.std.proofs.lemmas.List.{take_at, take_all, length-set}
use Rattle.std.proofs.lemmas.Result.{err_from_is_err_and}
use Rattle.station_file.specs.Reading.{filled}
use Rattle.station_file.proofs.Filled.{fields-done, fields-wrong, fields-more}
use Rattle.station_file.proofs.fields.read_each.Goals as goal

pub returns-in_err-slot-clause-value : goal.returns-in_err-slot-clause-value
returns-in_err-slot-clause-value g c =
    let inv = c.loop-slot.invariant in
    let field = g.T.Field.field_of c.args.counts.points c.args.counts.instructions in
    let bs = c.args.unread.now.bytes.now in
    let i = c.loop-slot.slot-index in
    let here = c.args.unread.now.at + g.row.WIDTH * i in
    let f = c.in_err-slot.field-0.0 in
    let p = err_from_is_err_and c.from_residual.result c.from_residual.ensures.1 in
    let wrong : field here (drop here bs) ≡ Err f = cc (c.in_err-slot.ensures.value, inv.same_bytes, inv.moved) in
    ap (filled c.args.counts.instructions) (p.1 ∙ ap Err p.2) ∙ sym (inv.left ∙ fields-wrong field g.row.WIDTH c.args.counts.instructions i here (take i c.loop-slot.slot-items) bs f (omega arith) wrong)

pub loop-slot-preserved : goal.loop-slot-preserved
loop-slot-preserved g c =
    let inv = c.loop-slot.invariant in
    let field = g.T.Field.field_of c.args.counts.points c.args.counts.instructions in
    let bs = c.args.unread.now.bytes.now in
    let start = c.args.unread.now.at in
    let i = c.loop-slot.slot-index in
    let here = start + g.row.WIDTH * i in
    let x = c.in_ok-slot.field-0 in
    let right : field here (drop here bs) ≡ Ok x = cc (c.in_ok-slot.ensures.value, inv.same_bytes, inv.moved) in
    record {
      many = length-set c.loop-slot.slot-items i x ∙ inv.many;
      same_bytes = c.in_ok-slot.ensures.moved.same_bytes ∙ inv.same_bytes;
      moved = omega (arith, c.in_ok-slot.ensures.moved.moved, mul-add g.row.WIDTH i 1);
      left = inv.left ∙ fields-more field g.row.WIDTH c.args.counts.instructions i start c.loop-slot.slot-items bs x (omega arith) (omega arith) right;
    }

pub returns-clause-value : goal.returns-clause-value
returns-clause-value g c =
    let inv = c.loop-slot.invariant in
    let xs = c.loop-slot.slot-items in
    let field = g.T.Field.field_of c.args.counts.points c.args.counts.instructions in
    ap Ok (take_at xs _ c.args.counts.instructions inv.many) ∙ sym (inv.left ∙ fields-done field g.row.WIDTH _ (take c.loop-slot.slot-index xs) _ _ (omega arith) ∙ ap Ok (take_all c.loop-slot.slot-index xs (omega arith)))
