use Rattle.std.proofs.Common.{◌≡◌, take}
use Rattle.std.specs.List.{flat_map}
use Rattle.station_file.specs.Layout.{put}
use Rattle.station_file.proofs.fields.put_each.Given as goal

abbrev pub invariant-loop-i : goal.invariant-loop-i
invariant-loop-i g l = l.bytes ≡ put l.at (flat_map g.T.Field.bytes_of (take l.i l.items)) l.initial.bytes
