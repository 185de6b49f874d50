use Rattle.std.proofs.Common.{arith}
use Rattle.station_file.proofs.Puts.{put-more}
use Rattle.station_file.proofs.fields.put_each.Goals as goal

pub loop-i-preserved : goal.loop-i-preserved
loop-i-preserved g c =
    put-more g.T.Field.bytes_of g.row.WIDTH g.met.T.Field.sized c.args.at c.loop-i.i c.args.items.now c.args.bytes.now c.loop-i.bytes c.put.new.bytes c.index-items-i.result (omega arith) c.requires c.loop-i.invariant (cc (c.index-items-i.is, c.to_bytes.ensures, c.put.ensures))
