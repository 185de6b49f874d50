use Rattle.std.proofs.Common.{◌≡◌, ◌-◌, get_or, arith, w32, w64, Fits, to_z, of_z, rules}
use Rattle.std.proofs.lemmas.Result.{err_from_is_err_and}
use Rattle.tables.specs.Rows.{blank}
use Rattle.screen.proofs.Costs.{spent-sum}
use Rattle.screen.proofs.Commands.{setting, set-ended, set-spent, set-halted}
use Rattle.screen.proofs.work.Work.assign.Goals as goal

pub sum-requires : goal.sum-requires
sum-requires c =
    let T = c.requires in
    let S = setting T.3 in
    let limit = c.args.self.now.few in
    record { tree = (T.2, S.part); small = omega (arith, S.part-size, S.part-few, c.from.ensures) }

pub overflow_add-worked : goal.overflow_add-worked
overflow_add-worked c =
    let T = c.requires in
    let S = setting T.3 in
    let limit = c.args.self.now.few in
    let few = S.part-few in
    let worked = spent-sum T.2 c.args.points.now c.from.result c.in-Ok.worked c.in-Ok.value (c.in-Ok.ensures T.2 S.part) in
    let from = c.from.ensures in
    search rules

pub overflow_cast-value : goal.overflow_cast-value
overflow_cast-value c =
    let S = setting c.requires.3 in
    let f : to_z w32 (of_z w32 (get_or c.args.self.now.rows.now (c.args.end - 1) blank).value) ≡ (get_or c.args.self.now.rows.now (c.args.end - 1) blank).value = search rules in
    let below = S.below in
    let fits : Fits w64 c.requires.1 = search rules in
    rw (f, S.value) (tt, fits)

pub bounds-points-self : goal.bounds-points-self
bounds-points-self c =
    let S = setting c.requires.3 in
    let f : to_z w32 (of_z w32 (get_or c.args.self.now.rows.now (c.args.end - 1) blank).value) ≡ (get_or c.args.self.now.rows.now (c.args.end - 1) blank).value = search rules in
    rw (f, S.value) S.below

pub returns-in_err-made-in-Ok : goal.returns-in_err-made-in-Ok
returns-in_err-made-in-Ok c q x e at =
    let E = err_from_is_err_and c.from_residual.result c.from_residual.ensures.1 in
    rw (E.1, E.2) (set-spent q x e c.args.points.now c.args.before c.args.self.now.allowance c.in-Ok.worked c.in-Ok.value c.args.points.now (rw c.from.ensures at (c.in-Ok.ensures e (setting at).part)) c.in_err-made-in-Ok.ensures)

pub returns-in_ok-made-in-Ok : goal.returns-in_ok-made-in-Ok
returns-in_ok-made-in-Ok c q x e at =
    let S = setting at in
    let f : to_z w32 (of_z w32 (get_or c.args.self.now.rows.now (c.args.end - 1) blank).value) ≡ (get_or c.args.self.now.rows.now (c.args.end - 1) blank).value = search rules in
    let g : to_z w32 (of_z w32 c.in-Ok.value) ≡ c.in-Ok.value = search rules in
    rw (f, S.value, g) (set-ended q x e c.args.points.now c.args.before c.args.self.now.allowance c.in-Ok.worked c.in_ok-made-in-Ok.made c.in-Ok.value (rw c.from.ensures at (c.in-Ok.ensures e S.part)) c.in_ok-made-in-Ok.ensures)

pub returns-in-Err : goal.returns-in-Err
returns-in-Err c q x e at =
    rw c.halt.ensures (set-halted q x e c.args.points.now c.args.before c.args.self.now.allowance c.in-Err.stop c.args.points.now (rw c.from.ensures at (c.in-Err.ensures e (setting at).part)))
