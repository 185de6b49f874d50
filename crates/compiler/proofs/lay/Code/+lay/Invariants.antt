-- A row's parts end before it; `lay` hands its row on to `lay_before`, and that to one of the others.
use Rattle.std.proofs.Common.{◌+◌, ◌*◌}
use Rattle.compiler.proofs.lay.Code.+lay.Given as goal

abbrev pub decreases-lay : goal.decreases-lay
decreases-lay l = 3 * l.node.end + 2

abbrev pub decreases-lay_before : goal.decreases-lay_before
decreases-lay_before l = 3 * l.end + 1

abbrev pub decreases-lay_if : goal.decreases-lay_if
decreases-lay_if l = 3 * l.node.end

abbrev pub decreases-lay_if_else : goal.decreases-lay_if_else
decreases-lay_if_else l = 3 * l.node.end

abbrev pub decreases-lay_while : goal.decreases-lay_while
decreases-lay_while l = 3 * l.node.end
