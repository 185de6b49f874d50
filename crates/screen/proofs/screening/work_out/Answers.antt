use Rattle.std.proofs.Common.{◌≡◌, List, length, Result, refl, ap, ◌∙◌, arith}
use Rattle.std.proofs.lemmas.Result.{err_from_is_err_and}
use Rattle.faults.specs.declared.fault.Fault.{Fault}
use Rattle.tables.specs.declared.row.Row.{Row}
use Rattle.screen.specs.Screens.{Told, on_checked, worked_out}
use Rattle.screen.proofs.Equations.{state-model}
use Rattle.screen.proofs.Telling.{whole-at, run-told, answers}
use Rattle.screen.proofs.Twenty.{stops-by-number}
use Rattle.screen.proofs.screening.work_out.Goals as goal

pub returns-in_err-check : goal.returns-in_err-check
returns-in_err-check c =
    let rows = c.args.rows.now in
    let p = c.args.points.now in
    let E = err_from_is_err_and c.from_residual.result c.from_residual.ensures.1 in
    let v : ◌≡◌ {A = Told} (c.from_residual.result, p) (worked_out rows p c.args.allowance) =
    rw (E.1, E.2) (ap (λ (r : Result (List Row) Fault). on_checked r p c.args.allowance) c.in_err-check.ensures.value) in
    record {
      value = v;
      answers = answers rows p c.args.allowance c.from_residual.result p v;
      number = stops-by-number;
      equations = state-model;
    }

pub returns : goal.returns
returns c =
    let rows = c.args.rows.now in
    let p = c.args.points.now in
    let A = c.in_ok-check.ensures.accepts.only refl in
    let T = A.0 in
    let R = c.sheet-run.ensures T.tree (whole-at rows (length p) T.tree T.listed T.over) in
    let m : length c.sheet-run.new.points ≡ length p = omega (arith, c.sheet-run.auto.points) in
    let v = c.settle.ensures ∙ run-told rows p c.sheet-run.new.points c.copied-before.result c.args.allowance c.sheet-run.result T A.1 m c.copied-before.ensures R in
    record {
      value = v;
      answers = answers rows p c.args.allowance c.settle.result c.settle.new.points v;
      number = stops-by-number;
      equations = state-model;
    }
