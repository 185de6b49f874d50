use Rattle.std.proofs.Common.{◌++◌, take, map, codes}
use Rattle.std.specs.Fmt.{HasWritten, IsPlainFormatter}
use Rattle.excerpts.specs.Excerpts.{heading, shown_as, under}
use Rattle.excerpts.proofs.excerpt.ExcerptDisplay.fmt.Given as goal

abbrev pub invariant-loop-b : goal.invariant-loop-b
invariant-loop-b g l =
    IsPlainFormatter l.fn.f → HasWritten g.W.Write.write_str_gives l.fn.f (heading l.self.line l.self.column ++ map shown_as (take l.b-index l.self.text.now)) l.f

abbrev pub invariant-loop-b-2 : goal.invariant-loop-b-2
invariant-loop-b-2 g l =
    IsPlainFormatter l.fn.f → HasWritten g.W.Write.write_str_gives l.fn.f ((heading l.self.line l.self.column ++ (map shown_as l.self.text.now ++ codes "\n")) ++ map under (map (λ x. x.now) l.yielded)) l.f
