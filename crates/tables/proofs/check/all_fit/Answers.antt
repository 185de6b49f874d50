use Rattle.std.proofs.Common.{length, refl, ◌∙◌, rules, tests, arith}
use Rattle.std.proofs.lemmas.Iterator.{YieldsList-from_range}
use Rattle.std.proofs.lemmas.Iterator.Search.{all_from_yields_List}
use Rattle.tables.specs.Checks.{fits_at}
use Rattle.tables.proofs.Fitting.{all-below}
use Rattle.tables.proofs.check.all_fit.Goals as goal

pub returns : goal.returns
returns c =
    all_from_yields_List (fits_at c.args.points c.args.rows.now) _ _ _ c.all.ensures.ran
    (YieldsList-from_range 0 (length c.args.rows.now) (length c.args.rows.now) refl (omega arith))
    (λ x b q k. search (rules, tests))
    ∙ all-below c.args.points c.args.rows.now (length c.args.rows.now)
