use Rattle.std.proofs.Common.{◌≡◌, true, length, drop, Result, Err, sym, refl, ap, ◌∙◌, arith, rules}
use Rattle.folds.specs.Folds.{spared}
use Rattle.folds.proofs.Tops.{length-top}
use Rattle.folds.proofs.FoldLaws.{enough, onward, alone, refused, leaves, folds}
use Rattle.folds.proofs.folding.fold.Goals as goal

pub returns-in_err-check-clause-value : goal.returns-in_err-check-clause-value
returns-in_err-check-clause-value g c =
    let same : c.from_residual.result ≡ Err c.in_err-check.field-0.0 = search rules in
    let e = refused g.A.Algebra.sums g.A.Algebra.rest c.args.points c.args.rows.now (length c.args.slots.now) c.in_err-check.field-0.0 (search rules) (search rules) c.in_err-check.ensures.value in
    ap (λ (r : Result _ _). (r, spared (length c.args.rows.now) r c.args.slots.now)) (same ∙ sym e)

pub on-requires : goal.on-requires
on-requires g c =
    let stack = c.loop-row.stack in
    let l = length-top stack.slots.now stack.held stack.within in
    let e = enough g.A.Algebra.sums g.A.Algebra.rest c.args.rows.now (c.in_ok-check.ensures.accepts.only (refl {a = true})) c.loop-row.row-index _ c.loop-row.invariant.passes c.loop-row-test.true in
    omega arith

pub replace-requires : goal.replace-requires
replace-requires g c =
    let stack = c.loop-row.stack in
    let l = length-top stack.slots.now stack.held stack.within in
    let e = enough g.A.Algebra.sums g.A.Algebra.rest c.args.rows.now (c.in_ok-check.ensures.accepts.only (refl {a = true})) c.loop-row.row-index _ c.loop-row.invariant.passes c.loop-row-test.true in
    let long = ap length c.new-stack.ensures.slots in
    record { parts = omega arith; room = omega arith }

pub loop-row-preserved : goal.loop-row-preserved
loop-row-preserved g c =
    let inv = c.loop-row.invariant in
    let new = c.replace.ensures in
    record {
      passes =
          onward g.A.Algebra.sums g.A.Algebra.rest c.args.rows.now (c.in_ok-check.ensures.accepts.only (refl {a = true})) c.loop-row.row-index _ inv.passes c.loop-row-test.true c.on.result c.on.ensures c.value-value.result c.value-value.ensures c.part_count.result c.part_count.ensures _ new.items;
      held = omega arith;
      size = new.size ∙ inv.size;
      spare = new.spare (length c.args.rows.now) (omega arith) ∙ inv.spare;
      lender = new.lender ∙ inv.lender;
    }

pub peek-requires : goal.peek-requires
peek-requires g c =
    let stack = c.loop-row.stack in
    let l = length-top stack.slots.now stack.held stack.within in
    let one = ap length (alone g.A.Algebra.sums g.A.Algebra.rest c.args.rows.now (c.in_ok-check.ensures.accepts.only (refl {a = true})) c.loop-row.row-index _ c.loop-row.invariant.passes c.loop-row-test.false) in
    omega arith

pub returns-clause-value : goal.returns-clause-value
returns-clause-value g c =
    let rows = c.args.rows.now in
    let inv = c.loop-row.invariant in
    let names = inv.lender ∙ c.new-stack.ensures.lender in
    leaves g.A.Algebra.sums g.A.Algebra.rest rows (c.in_ok-check.ensures.accepts.only (refl {a = true})) c.loop-row.row-index _ inv.passes c.loop-row-test.false c.peek.result c.peek.ensures _ c.loop-row.stack.slots.now c.args.slots.now (search rules) (search rules) (search rules)
    (inv.spare ∙ ap (drop (length rows)) c.new-stack.ensures.slots)

pub returns-clause-tree : goal.returns-clause-tree
returns-clause-tree g c =
    folds g.A.Algebra.sums g.A.Algebra.rest c.args.points c.args.rows.now _ c.args.slots.now _ (returns-clause-value g c)
