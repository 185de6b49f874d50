use Rattle.std.proofs.Common.{arith}
use Rattle.std.proofs.lemmas.Grind.{common_steps}
use Rattle.folds.proofs.Tops.{drop-top}
use Rattle.folds.proofs.stack.Stack.replace.Goals as goal

pub returns-clause-items : goal.returns-clause-items
returns-clause-items g c =
    let d = drop-top c.args.self.now.slots.now c.args.self.now.held c.args.taken c.args.self.now.within c.requires.parts in
    grind (arith, common_steps)
