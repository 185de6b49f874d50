use Rattle.std.specs.Iterator.Adapters.{enumerate_source, enumerate_count}
use Rattle.names.specs.Lines.{lines_of}
use Rattle.names.proofs.Judged.{Judged}
use Rattle.names.proofs.judge.judge.Given as goal

abbrev pub invariant-loop-count : goal.invariant-loop-count
invariant-loop-count l =
    (goal.iterator-loop-count).can_next l.count-iterator
    × (goal.iterator-loop-count).is_finite l.count-iterator
    × Judged l.text l.start (enumerate_count l.count-iterator) (lines_of (enumerate_source l.count-iterator).rest.now)
