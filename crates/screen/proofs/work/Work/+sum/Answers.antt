use Rattle.std.proofs.Common.{◌≡◌, ℕ, ◌+◌, ◌-◌, ◌<◌, T, length, get_or, ℤ, pos, nat_abs, sym, ap, ◌∙◌, subst, arith, w32, to_z, of_z, rules}
use lib.Signed.{non_neg}
use Rattle.std.proofs.lemmas.Result.{err_from_is_err_and}
use Rattle.arith.specs.Operators.{worked}
use Rattle.tables.specs.declared.row.Row.{Row}
use Rattle.tables.specs.Rows.{blank}
use Rattle.screen.specs.Works.{done, after, step, sum_work}
use Rattle.screen.specs.Values.{operator_at}
use Rattle.screen.proofs.Costs.{then-stop, two-done, two-stop, spent-sum}
use Rattle.screen.proofs.Parting.{sum-at, sum-size, sum-end, parted, number-work, named, operator-is}
use Rattle.screen.proofs.work.Work.+sum.Goals as goal

pub overflow_sub-row : goal.overflow_sub-row
overflow_sub-row t c = (sum-end c.requires.tree.1).0

pub bounds-self-end : goal.bounds-self-end
bounds-self-end t c = let e = sum-end c.requires.tree.1 in omega (arith, e.0, e.1)

pub read-requires : goal.read-requires
read-requires t c =
    let N = named c.args.points.now c.requires.tree.1 c.in-Name.is in
    let f : to_z w32 (of_z w32 (get_or c.args.self.now.rows.now (c.args.end - 1) blank).value) ≡ (get_or c.args.self.now.rows.now (c.args.end - 1) blank).value = search rules in
    record {
      known = subst (λ (z : ℤ). T (non_neg z)) (sym (f ∙ N.value)) tt;
      below = subst (λ (z : ℤ). nat_abs z < length c.args.points.now) (sym (f ∙ N.value)) N.below;
    }

pub overflow_sub-end : goal.overflow_sub-end
overflow_sub-end t c = (sum-end c.requires.tree.1).0

pub start_of-requires : goal.start_of-requires
start_of-requires t c =
    let S = (parted c.requires.tree.1 c.in_default.not-Number c.in_default.not-Name).sides.pair in
    record { some = S.last_some; within = omega (arith, S.within); whole = S.room }

pub sum-requires : goal.sum-requires
sum-requires t c =
    let P = parted c.requires.tree.1 c.in_default.not-Number c.in_default.not-Name in
    let la = sum-at c.start_of.ensures P.sides.left in
    let n = sum-size la in
    let own = ap (λ (x : Row). x.size) P.sides.pair.own in
    let small = c.requires.small in
    (search rules, ((P.l, la), omega arith))

pub returns-in_err-left-in_default : goal.returns-in_err-left-in_default
returns-in_err-left-in_default t c t' at =
    let p = c.args.points.now in
    let P = parted at c.in_default.not-Number c.in_default.not-Name in
    let la = sum-at c.start_of.ensures P.sides.left in
    let E = err_from_is_err_and c.from_residual.result c.from_residual.ensures.1 in
    rw (E.1, E.2, P.is) (then-stop c.args.spent _ _ _ (sum_work P.l p) _ (c.in_err-left-in_default.ensures P.l la))

pub overflow_sub-end-in_default : goal.overflow_sub-end-in_default
overflow_sub-end-in_default t c = (sum-end c.requires.tree.1).0

pub sum-requires-in_default : goal.sum-requires-in_default
sum-requires-in_default t c =
    let p = c.args.points.now in
    let P = parted c.requires.tree.1 c.in_default.not-Number c.in_default.not-Name in
    let la = sum-at c.start_of.ensures P.sides.left in
    let before = spent-sum P.l p c.args.spent c.in_ok-left-in_default.before c.in_ok-left-in_default.left (c.in_ok-left-in_default.ensures P.l la) in
    let n = P.sides.pair.right-size in
    let own = ap (λ (x : Row). x.size) P.sides.pair.own in
    let small = c.requires.small in
    (search rules, ((P.r, P.sides.right), omega arith))

pub returns-in_err-right-in_default : goal.returns-in_err-right-in_default
returns-in_err-right-in_default t c t' at =
    let p = c.args.points.now in
    let P = parted at c.in_default.not-Number c.in_default.not-Name in
    let la = sum-at c.start_of.ensures P.sides.left in
    let E = err_from_is_err_and c.from_residual-in_err-right-in_default.result c.from_residual-in_err-right-in_default.ensures.1 in
    rw (E.1, E.2, P.is) (two-stop c.args.spent c.in_ok-left-in_default.before _ c.in_ok-left-in_default.left _ _ (sum_work P.l p) (sum_work P.r p) (λ x y. step P.place (worked P.op x y)) (c.in_ok-left-in_default.ensures P.l la) (c.in_err-right-in_default.ensures P.r P.sides.right))

pub apply-requires : goal.apply-requires
apply-requires t c =
    let p = c.args.points.now in
    let P = parted c.requires.tree.1 c.in_default.not-Number c.in_default.not-Name in
    let la = sum-at c.start_of.ensures P.sides.left in
    let before = spent-sum P.l p c.args.spent c.in_ok-left-in_default.before c.in_ok-left-in_default.left (c.in_ok-left-in_default.ensures P.l la) in
    let both = spent-sum P.r p c.in_ok-left-in_default.before c.in_ok-right-in_default.both c.in_ok-right-in_default.right (c.in_ok-right-in_default.ensures P.r P.sides.right) in
    let own = ap (λ (x : Row). x.size) P.sides.pair.own in
    let small = c.requires.small in
    omega arith

pub returns-in-Number : goal.returns-in-Number
returns-in-Number t c t' at =
    let f : to_z w32 (of_z w32 (get_or c.args.self.now.rows.now (c.args.end - 1) blank).value) ≡ (get_or c.args.self.now.rows.now (c.args.end - 1) blank).value = search rules in
    ap (λ (x : ℤ). done (c.args.spent + 1) x) f
    ∙ sym (ap (after c.args.spent) (number-work c.args.points.now at c.in-Number.is))

pub returns-in-Name : goal.returns-in-Name
returns-in-Name t c t' at =
    let p = c.args.points.now in
    let N = named p at c.in-Name.is in
    let f : to_z w32 (of_z w32 (get_or c.args.self.now.rows.now (c.args.end - 1) blank).value) ≡ (get_or c.args.self.now.rows.now (c.args.end - 1) blank).value = search rules in
    let at-point : nat_abs (to_z w32 (of_z w32 (get_or c.args.self.now.rows.now (c.args.end - 1) blank).value)) ≡ N.point = ap nat_abs (f ∙ N.value) in
    let g : to_z w32 (of_z w32 c.read.result) ≡ c.read.result = search rules in
    ap (λ (x : ℤ). done (c.args.spent + 1) x) (g ∙ c.read.ensures ∙ ap (λ (j : ℕ). get_or p j (pos 0)) at-point) ∙ sym (ap (after c.args.spent) N.work)

pub returns-in_ok-right-in_default : goal.returns-in_ok-right-in_default
returns-in_ok-right-in_default t c t' at =
    let p = c.args.points.now in
    let P = parted at c.in_default.not-Number c.in_default.not-Name in
    let la = sum-at c.start_of.ensures P.sides.left in
    let o : c.operator_of.result ≡ P.op = c.operator_of.ensures ∙ ap (λ (x : Row). operator_at x.kind) P.sides.pair.own ∙ operator-is P.op in
    let q : (get_or c.args.self.now.rows.now (c.args.end - 1) blank).place ≡ P.place = ap (λ (x : Row). x.place) P.sides.pair.own in
    let fl : to_z w32 (of_z w32 c.in_ok-left-in_default.left) ≡ c.in_ok-left-in_default.left = search rules in
    let fr : to_z w32 (of_z w32 c.in_ok-right-in_default.right) ≡ c.in_ok-right-in_default.right = search rules in
    rw (P.is, c.apply.ensures, fl, fr, o, q) (two-done c.args.spent c.in_ok-left-in_default.before c.in_ok-right-in_default.both c.in_ok-left-in_default.left c.in_ok-right-in_default.right (sum_work P.l p) (sum_work P.r p) (λ x y. step P.place (worked P.op x y)) (c.in_ok-left-in_default.ensures P.l la) (c.in_ok-right-in_default.ensures P.r P.sides.right))
