-- A row's parts end before it; `measure` hands its row on.
use Rattle.std.proofs.Common.{◌+◌, ◌*◌}
use Rattle.compiler.proofs.measuring.+measure.Given as goal

abbrev pub decreases-measure : goal.decreases-measure
decreases-measure l = 2 * l.node.end + 1

abbrev pub decreases-measure_before : goal.decreases-measure_before
decreases-measure_before l = 2 * l.end
