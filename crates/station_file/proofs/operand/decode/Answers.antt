use Rattle.std.proofs.Common.{◌∙◌, ap, rules, ◌≡◌}
use Rattle.station_file.proofs.Decoded.{if_allowed, decoded-allowed}
use Rattle.station_file.proofs.operand.decode.Goals as goal

pub returns : goal.returns
returns c =
    let e : c.filter.result ≡ if_allowed c.args.counts.points c.args.counts.instructions c.instruction_of.result = search rules in
    e ∙ ap (if_allowed c.args.counts.points c.args.counts.instructions) c.instruction_of.ensures ∙ decoded-allowed c.args.counts.points c.args.counts.instructions c.args.counts.few_points c.args.counts.few c.args.code c.args.operand
