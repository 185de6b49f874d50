use Rattle.std.proofs.Common.{◌≡◌, ◌+◌, Bool, true, false, eqb, ℤ, is_some, Some, sym, ap, ◌∙◌, arith, w32, to_z, of_z, rules}
use mathlib.Core.Bool as bool
use Rattle.std.proofs.lemmas.Result.{err_from_is_err_and}
use Rattle.arith.specs.Comparisons.{holds}
use Rattle.tables.specs.declared.row.Row.{Row}
use Rattle.tables.specs.Rows.{bit}
use Rattle.screen.specs.Works.{done, connected, sum_work, condition_work}
use Rattle.screen.proofs.Costs.{then-done, then-stop, two-done, two-stop, spent-sum, spent-condition}
use Rattle.screen.proofs.Parting.{sum-at, condition-at, sum-size}
use Rattle.screen.proofs.Conditions.{condition-end, condition-size, truthful, comparing, negating, connecting}
use Rattle.screen.proofs.work.Work.+condition.Goals as goal

pub overflow_sub-row : goal.overflow_sub-row
overflow_sub-row t c = (condition-end c.requires.tree.1).0

pub bounds-self-end : goal.bounds-self-end
bounds-self-end t c = let e = condition-end c.requires.tree.1 in omega (arith, e.0, e.1)

pub overflow_sub-end : goal.overflow_sub-end
overflow_sub-end t c = (condition-end c.requires.tree.1).0

pub start_of-requires : goal.start_of-requires
start_of-requires t c =
    let P = (comparing c.requires.tree.1 c.in-Compare.is).sides.pair in
    record { some = P.last_some; within = omega (arith, P.within); whole = P.room }

pub sum-requires : goal.sum-requires
sum-requires t c =
    let C = comparing c.requires.tree.1 c.in-Compare.is in
    let la = sum-at c.start_of.ensures C.sides.left in
    let n = sum-size la in
    let own = ap (λ (x : Row). x.size) C.sides.pair.own in
    let small = c.requires.small in
    record { tree = (C.l, la); small = omega arith }

pub returns-in_err-left-in-Compare : goal.returns-in_err-left-in-Compare
returns-in_err-left-in-Compare t c t' at =
    let C = comparing at c.in-Compare.is in
    let la = sum-at c.start_of.ensures C.sides.left in
    let E = err_from_is_err_and c.from_residual.result c.from_residual.ensures.1 in
    rw (E.1, E.2, C.is) (then-stop c.args.spent _ _ _ (sum_work C.l c.args.points.now) _ (c.in_err-left-in-Compare.ensures C.l la))

pub overflow_sub-end-in-Compare : goal.overflow_sub-end-in-Compare
overflow_sub-end-in-Compare t c = (condition-end c.requires.tree.1).0

pub sum-requires-in-Compare : goal.sum-requires-in-Compare
sum-requires-in-Compare t c =
    let C = comparing c.requires.tree.1 c.in-Compare.is in
    let la = sum-at c.start_of.ensures C.sides.left in
    let before = spent-sum C.l c.args.points.now c.args.spent c.in_ok-left-in-Compare.before c.in_ok-left-in-Compare.left (c.in_ok-left-in-Compare.ensures C.l la) in
    let n = C.sides.pair.right-size in
    let own = ap (λ (x : Row). x.size) C.sides.pair.own in
    let small = c.requires.small in
    record { tree = (C.r, C.sides.right); small = omega arith }

pub returns-in_err-right-in-Compare : goal.returns-in_err-right-in-Compare
returns-in_err-right-in-Compare t c t' at =
    let p = c.args.points.now in
    let C = comparing at c.in-Compare.is in
    let la = sum-at c.start_of.ensures C.sides.left in
    let E = err_from_is_err_and c.from_residual-in_err-right-in-Compare.result c.from_residual-in_err-right-in-Compare.ensures.1 in
    rw (E.1, E.2, C.is) (two-stop c.args.spent c.in_ok-left-in-Compare.before _ c.in_ok-left-in-Compare.left _ _ (sum_work C.l p) (sum_work C.r p) (λ x y. done 1 (holds C.k x y)) (c.in_ok-left-in-Compare.ensures C.l la) (c.in_err-right-in-Compare.ensures C.r C.sides.right))

pub unwrap-requires : goal.unwrap-requires
unwrap-requires t c = ap is_some (c.comparison.ensures ∙ (comparing c.requires.tree.1 c.in-Compare.is).names)

pub overflow_add-result-in-Compare : goal.overflow_add-result-in-Compare
overflow_add-result-in-Compare t c =
    let p = c.args.points.now in
    let C = comparing c.requires.tree.1 c.in-Compare.is in
    let la = sum-at c.start_of.ensures C.sides.left in
    let before = spent-sum C.l p c.args.spent c.in_ok-left-in-Compare.before c.in_ok-left-in-Compare.left (c.in_ok-left-in-Compare.ensures C.l la) in
    let both = spent-sum C.r p c.in_ok-left-in-Compare.before c.in_ok-right-in-Compare.both c.in_ok-right-in-Compare.right (c.in_ok-right-in-Compare.ensures C.r C.sides.right) in
    let own = ap (λ (x : Row). x.size) C.sides.pair.own in
    let small = c.requires.small in
    search rules

pub returns-in_ok-right-in-Compare : goal.returns-in_ok-right-in-Compare
returns-in_ok-right-in-Compare t c t' at =
    let p = c.args.points.now in
    let C = comparing at c.in-Compare.is in
    let la = sum-at c.start_of.ensures C.sides.left in
    let fl : to_z w32 (of_z w32 c.in_ok-left-in-Compare.left) ≡ c.in_ok-left-in-Compare.left = search rules in
    let fr : to_z w32 (of_z w32 c.in_ok-right-in-Compare.right) ≡ c.in_ok-right-in-Compare.right = search rules in
    let named : Some c.unwrap.result ≡ Some C.k = sym c.unwrap.ensures ∙ c.comparison.ensures ∙ C.names in
    let is : c.unwrap.result ≡ C.k = cc in
    rw (C.is, c.holds-holds.ensures, fl, fr, is) (two-done c.args.spent c.in_ok-left-in-Compare.before c.in_ok-right-in-Compare.both c.in_ok-left-in-Compare.left c.in_ok-right-in-Compare.right (sum_work C.l p) (sum_work C.r p) (λ x y. done 1 (holds C.k x y)) (c.in_ok-left-in-Compare.ensures C.l la) (c.in_ok-right-in-Compare.ensures C.r C.sides.right))

pub overflow_sub-end-in-Not : goal.overflow_sub-end-in-Not
overflow_sub-end-in-Not t c = (condition-end c.requires.tree.1).0

pub condition-requires : goal.condition-requires
condition-requires t c =
    let N = negating c.requires.tree.1 c.in-Not.is in
    let e = (condition-end c.requires.tree.1).0 in
    let small = c.requires.small in
    (search rules, ((N.d, N.part), omega (arith, N.size, N.part-size)))

pub returns-in_err-part-in-Not : goal.returns-in_err-part-in-Not
returns-in_err-part-in-Not t c t' at =
    let N = negating at c.in-Not.is in
    let E = err_from_is_err_and c.from_residual-in_err-part-in-Not.result c.from_residual-in_err-part-in-Not.ensures.1 in
    rw (E.1, E.2, N.is) (then-stop c.args.spent _ _ _ (condition_work N.d c.args.points.now) _ (c.in_err-part-in-Not.ensures N.d N.part))

pub overflow_add-result-in-Not : goal.overflow_add-result-in-Not
overflow_add-result-in-Not t c =
    let N = negating c.requires.tree.1 c.in-Not.is in
    let small = c.requires.small in
    let n = N.size in
    let before = spent-condition N.d c.args.points.now c.args.spent c.in_ok-part-in-Not.before c.in_ok-part-in-Not.part (c.in_ok-part-in-Not.ensures N.d N.part) in
    search rules

pub overflow_sub-end-in_default : goal.overflow_sub-end-in_default
overflow_sub-end-in_default t c = (condition-end c.requires.tree.1).0

pub start_of-requires-in_default : goal.start_of-requires-in_default
start_of-requires-in_default t c =
    let P = (connecting c.requires.tree.1 c.in_default.not-Truth c.in_default.not-Compare c.in_default.not-Not).pair in
    record { some = P.last_some; within = omega (arith, P.within); whole = P.room }

pub condition-requires-in_default : goal.condition-requires-in_default
condition-requires-in_default t c =
    let C = connecting c.requires.tree.1 c.in_default.not-Truth c.in_default.not-Compare c.in_default.not-Not in
    let la = condition-at c.start_of-in_default.ensures C.left in
    let n = condition-size la in
    let own = ap (λ (x : Row). x.size) C.pair.own in
    let small = c.requires.small in
    (search rules, ((C.l, la), omega arith))

pub returns-in_err-left-in_default : goal.returns-in_err-left-in_default
returns-in_err-left-in_default t c t' at =
    let p = c.args.points.now in
    let C = connecting at c.in_default.not-Truth c.in_default.not-Compare c.in_default.not-Not in
    let la = condition-at c.start_of-in_default.ensures C.left in
    let E = err_from_is_err_and c.from_residual-in_err-left-in_default.result c.from_residual-in_err-left-in_default.ensures.1 in
    rw (E.1, E.2, C.is) (then-stop c.args.spent _ _ _ (condition_work C.l p) _ (c.in_err-left-in_default.ensures C.l la))

pub overflow_sub-end-in_default-2 : goal.overflow_sub-end-in_default-2
overflow_sub-end-in_default-2 t c = (condition-end c.requires.tree.1).0

pub condition-requires-in_default-2 : goal.condition-requires-in_default-2
condition-requires-in_default-2 t c =
    let p = c.args.points.now in
    let C = connecting c.requires.tree.1 c.in_default.not-Truth c.in_default.not-Compare c.in_default.not-Not in
    let la = condition-at c.start_of-in_default.ensures C.left in
    let before = spent-condition C.l p c.args.spent c.in_ok-left-in_default.before c.in_ok-left-in_default.left (c.in_ok-left-in_default.ensures C.l la) in
    let n = C.pair.right-size in
    let own = ap (λ (x : Row). x.size) C.pair.own in
    let small = c.requires.small in
    (search rules, ((C.r, C.right), omega arith))

pub returns-in_err-right-in_default : goal.returns-in_err-right-in_default
returns-in_err-right-in_default t c t' at =
    let p = c.args.points.now in
    let C = connecting at c.in_default.not-Truth c.in_default.not-Compare c.in_default.not-Not in
    let la = condition-at c.start_of-in_default.ensures C.left in
    let E = err_from_is_err_and c.from_residual-in_err-right-in_default.result c.from_residual-in_err-right-in_default.ensures.1 in
    rw (E.1, E.2, C.is) (two-stop c.args.spent c.in_ok-left-in_default.before _ c.in_ok-left-in_default.left _ _ (condition_work C.l p) (condition_work C.r p) (λ x y. done 1 (connected C.j x y)) (c.in_ok-left-in_default.ensures C.l la) (c.in_err-right-in_default.ensures C.r C.right))

pub overflow_add-result-in_default : goal.overflow_add-result-in_default
overflow_add-result-in_default t c =
    let p = c.args.points.now in
    let C = connecting c.requires.tree.1 c.in_default.not-Truth c.in_default.not-Compare c.in_default.not-Not in
    let la = condition-at c.start_of-in_default.ensures C.left in
    let before = spent-condition C.l p c.args.spent c.in_ok-left-in_default.before c.in_ok-left-in_default.left (c.in_ok-left-in_default.ensures C.l la) in
    let both = spent-condition C.r p c.in_ok-left-in_default.before c.in_ok-right-in_default.both c.in_ok-right-in_default.right (c.in_ok-right-in_default.ensures C.r C.right) in
    let own = ap (λ (x : Row). x.size) C.pair.own in
    let small = c.requires.small in
    search rules

is_one : (b : Bool) (v : ℤ) → v ≡ bit b → eqb (of_z w32 v) 1 ≡ b
is_one true v e = ap (λ (x : ℤ). eqb (of_z w32 x) 1) e
is_one false v e = ap (λ (x : ℤ). eqb (of_z w32 x) 1) e

pub returns-in-Truth : goal.returns-in-Truth
returns-in-Truth t c t' at =
    let H = truthful at c.in-Truth.is in
    rw H.is (ap (λ (x : Bool). done (c.args.spent + 1) x) (is_one H.holds _ H.value))

pub returns-in_ok-part-in-Not : goal.returns-in_ok-part-in-Not
returns-in_ok-part-in-Not t c t' at =
    let N = negating at c.in-Not.is in
    rw N.is (sym (then-done c.args.spent c.in_ok-part-in-Not.before c.in_ok-part-in-Not.part (condition_work N.d c.args.points.now) (λ x. done 1 (bool.not x)) (c.in_ok-part-in-Not.ensures N.d N.part)))

pub returns-in_ok-right-in_default : goal.returns-in_ok-right-in_default
returns-in_ok-right-in_default t c t' at =
    let p = c.args.points.now in
    let C = connecting at c.in_default.not-Truth c.in_default.not-Compare c.in_default.not-Not in
    let la = condition-at c.start_of-in_default.ensures C.left in
    rw (C.is, c.connect.ensures, C.joined c.in_ok-left-in_default.left c.in_ok-right-in_default.right) (two-done c.args.spent c.in_ok-left-in_default.before c.in_ok-right-in_default.both c.in_ok-left-in_default.left c.in_ok-right-in_default.right (condition_work C.l p) (condition_work C.r p) (λ x y. done 1 (connected C.j x y)) (c.in_ok-left-in_default.ensures C.l la) (c.in_ok-right-in_default.ensures C.r C.right))
