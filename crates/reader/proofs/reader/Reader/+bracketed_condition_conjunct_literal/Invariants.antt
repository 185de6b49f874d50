-- The measure is the bytes left, then the level.
use Rattle.std.proofs.Common.{◌+◌, ◌-◌, ◌*◌, length}
use Rattle.reader.proofs.reader.Reader.+bracketed_condition_conjunct_literal.Given as goal

abbrev pub decreases-bracketed : goal.decreases-bracketed
decreases-bracketed l = 4 * (length l.self.now.text.now - l.self.now.progress.position.at)

abbrev pub decreases-literal : goal.decreases-literal
decreases-literal l = 4 * (length l.self.now.text.now - l.self.now.progress.position.at) + 1

abbrev pub decreases-conjunct : goal.decreases-conjunct
decreases-conjunct l = 4 * (length l.self.now.text.now - l.self.now.progress.position.at) + 2

abbrev pub decreases-condition : goal.decreases-condition
decreases-condition l = 4 * (length l.self.now.text.now - l.self.now.progress.position.at) + 3
