use Rattle.std.proofs.Common.{sym, rules}
use Rattle.names.proofs.NameLaws.{accepts-as, first-bad-as, few-lines}
use Rattle.names.proofs.name_list.NameList.read.Goals as goal

pub returns-in_err-judge-clause-accepts : goal.returns-in_err-judge-clause-accepts
returns-in_err-judge-clause-accepts c = accepts-as c.args.text.now _ (search rules)

pub returns-in_err-judge-clause-refuses : goal.returns-in_err-judge-clause-refuses
returns-in_err-judge-clause-refuses c = first-bad-as c.args.text.now _ (search rules)

pub returns-clause-accepts : goal.returns-clause-accepts
returns-clause-accepts c = accepts-as c.args.text.now _ (search rules)

pub invariant_of-result : goal.invariant_of-result
invariant_of-result c = record { few = few-lines c.args.text.now (sym c.in_ok-judge.ensures) }
