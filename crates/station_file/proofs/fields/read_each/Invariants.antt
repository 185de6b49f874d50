use Rattle.std.proofs.Common.{◌≡◌, ◌+◌, ◌-◌, ◌*◌, [], length, take, drop}
use Rattle.station_file.specs.Reading.{fields}
use Rattle.station_file.proofs.fields.read_each.Given as goal

-- what is left to read, after what was read, is what there was to read
abbrev pub invariant-loop-slot : goal.invariant-loop-slot
invariant-loop-slot g l =
    let field = g.T.Field.field_of l.counts.points l.counts.instructions in
    let width = g.row.WIDTH in
    let start = l.fn.unread.at in
    let bs = l.fn.unread.bytes.now in
    let here = start + width * l.slot-index in
    record {
      many : length l.slot-items ≡ l.counts.instructions;
      same_bytes : l.unread.bytes.now ≡ bs;
      moved : l.unread.at ≡ here;
      left : fields field width l.counts.instructions [] start (drop start bs) ≡ fields field width (l.counts.instructions - l.slot-index) (take l.slot-index l.slot-items) here (drop here bs);
    }
