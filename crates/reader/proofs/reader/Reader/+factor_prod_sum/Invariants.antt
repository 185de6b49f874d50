-- The measure is the bytes left, then the level. A turn of either loop goes on from what stood before it.
use Rattle.std.proofs.Common.{◌≡◌, ◌+◌, ◌-◌, ◌*◌, ◌≤◌, length}
use Rattle.names.specs.Lines.{lines_of}
use Rattle.reader.specs.declared.reader.Reader.{Reader}
use Rattle.reader.specs.Holding.{held}
use Rattle.reader.specs.Summing.{SumSoFar, TookProd}
use Rattle.reader.proofs.reader.Reader.+factor_prod_sum.Given as goal

abbrev pub decreases-factor : goal.decreases-factor
decreases-factor l = 3 * (length l.self.now.text.now - l.self.now.progress.position.at)

abbrev pub decreases-prod : goal.decreases-prod
decreases-prod l = 3 * (length l.self.now.text.now - l.self.now.progress.position.at) + 1

abbrev pub decreases-sum : goal.decreases-sum
decreases-sum l = 3 * (length l.self.now.text.now - l.self.now.progress.position.at) + 2

abbrev pub invariant-prod-more : goal.invariant-prod-more
invariant-prod-more l =
    (l.first ≤ l.self.progress.count) × (l.initial.self.progress.position.at ≤ l.self.progress.position.at) × (held l.self ≡ held l.initial.self)
    × ((o : Reader) → held l.initial.self ≡ held o → l.first ≡ o.progress.count → TookProd (lines_of o.names.text.now) o.text.now o.progress o.rows.now l.initial.self.progress l.initial.self.rows.now → TookProd (lines_of o.names.text.now) o.text.now o.progress o.rows.now l.self.progress l.self.rows.now)

abbrev pub decreases-prod-more : goal.decreases-prod-more
decreases-prod-more l = length l.self.text.now - l.self.progress.position.at

abbrev pub invariant-sum-more : goal.invariant-sum-more
invariant-sum-more l =
    (l.first ≤ l.self.progress.count) × (l.initial.self.progress.position.at ≤ l.self.progress.position.at) × (held l.self ≡ held l.initial.self)
    × ((o : Reader) → held l.initial.self ≡ held o → l.first ≡ o.progress.count → SumSoFar (lines_of o.names.text.now) o.text.now o.progress o.rows.now l.initial.self.progress l.initial.self.rows.now → SumSoFar (lines_of o.names.text.now) o.text.now o.progress o.rows.now l.self.progress l.self.rows.now)

abbrev pub decreases-sum-more : goal.decreases-sum-more
decreases-sum-more l = length l.self.text.now - l.self.progress.position.at
