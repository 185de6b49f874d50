use Rattle.std.proofs.Common.{ap, ◌∙◌}
use Rattle.names.specs.Complaints.{or_fault}
use Rattle.names.proofs.NameLaws.{accepts-as, first-bad-as}
use Rattle.names.proofs.judge.first_bad_line.Goals as goal

pub returns-clause-accepts : goal.returns-clause-accepts
returns-clause-accepts c =
    accepts-as c.args.text.now _ (ap (or_fault c.args.text.now) (c.err.ensures.value ∙ c.judge.ensures))

pub returns-clause-refuses : goal.returns-clause-refuses
returns-clause-refuses c =
    first-bad-as c.args.text.now _ (ap (or_fault c.args.text.now) (c.err.ensures.value ∙ c.judge.ensures))
