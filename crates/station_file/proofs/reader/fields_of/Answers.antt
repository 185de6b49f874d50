use Rattle.std.proofs.Common.{◌≡◌, ◌+◌, ◌*◌, take, Err, ap, ◌∙◌, arith}
use Rattle.station_file.specs.Reading.{contents}
use Rattle.station_file.specs.Writing.{not_right}
use Rattle.station_file.proofs.Chain.{read-on, some_after}
use Rattle.station_file.proofs.reader.fields_of.Goals as goal

pub returns-then-unread-bytes : goal.returns-then-unread-bytes
returns-then-unread-bytes c =
    let bs = c.args.bytes.now in
    let points = c.in_ok-count.field-0 in
    let n = c.in_ok-count-2.field-0 in
    let a = c.in_ok-count.ensures in
    let b = c.in_ok-count-2.ensures in
    let d = c.in_ok-instructions.ensures in
    let e = c.in_ok-count-3.ensures in
    let f = c.in_ok-places.ensures in
    let all = contents points (take n c.in_ok-instructions.instructions) (take n c.in_ok-places.places) in
    let end : c.read_each-2.new.unread.at ≡ 6 + 7 * n = omega (arith, f.moved.moved) in
    ap Err (c.refused.ensures ∙ ap not_right end) ∙ some_after (6 + 7 * n) bs all (omega arith) ∙ read-on bs _ _ _ _ _ _ _ _ points n _ _ _ a.value a.moved.same_bytes a.moved.moved b.value b.moved.same_bytes b.moved.moved d.value d.moved.same_bytes d.moved.moved e.value e.moved.same_bytes e.moved.moved f.value
