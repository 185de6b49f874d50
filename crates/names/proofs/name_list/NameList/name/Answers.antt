use Rattle.std.proofs.lemmas.Iterator.Consumers.{nth_from_yields_List, YieldsList-from_first}
use Rattle.names.specs.Lines.{lines_of}
use Rattle.names.proofs.name_list.NameList.name.Goals as goal

pub returns : goal.returns
returns c =
    nth_from_yields_List c.nth.result c.nth.new.self _ c.nth.ensures.ran
    (YieldsList-from_first (λ x. x.now) (λ s. lines_of s.rest.now) (lines_of c.args.self.now.text.now) cc)
