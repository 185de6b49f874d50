-- A table's rows are those of its sheet.
use Rattle.compiler.proofs.Standing.{sheet-stands}
use Rattle.compiler.proofs.node.Node.sheet.Goals as goal

pub invariant_of-result-clause-stands : goal.invariant_of-result-clause-stands
invariant_of-result-clause-stands c =
    let S = sheet-stands c.requires.1.tree c.args.rows.now c.requires.1.listed in
    ∣ (S.part, S.stands) ∣₁
