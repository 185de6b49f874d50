-- A part stands where the code finds it, so each call's promise is about the tree's own part.
use Rattle.std.proofs.Common.{◌≡◌, ℕ, ◌-◌, List, length, get_or, Ok, Err, Result, refl, sym, subst, arith, rules}
use Rattle.std.proofs.lemmas.Result.{err_from_is_err_and}
use Rattle.tables.specs.declared.kind.Kind.{Kind}
use Rattle.tables.specs.declared.row.Row.{Row}
use Rattle.tables.specs.Trees.{Sum, Condition, Command, Sheet, set, when, choose, while, only, joint}
use Rattle.tables.specs.Rows.{blank}
use Rattle.screen.specs.declared.halt.Halt.{Halt}
use Rattle.screen.specs.Works.{Points}
use Rattle.screen.specs.Parts.{SheetAt}
use Rattle.screen.specs.Runs.{Ran}
use Rattle.screen.proofs.Parting.{condition-at}
use Rattle.screen.proofs.Bodies.{when-parts, while-parts, looping, joint-parts, lead-at, first-at, choose-parts, sheet-end, Arm, arm, joint-kind}
use Rattle.screen.proofs.Running.{when-ran, when-failed, when-halted, one-more-is, choose-first, choose-second, choose-halted, while-failed, while-halted, while-body-halted, while-more, joint-ran, joint-halted}
use Rattle.screen.proofs.work.Work.+sheet.Goals as goal

-- if

pub when-start_of-requires-clause-some : goal.when-start_of-requires-clause-some
when-start_of-requires-clause-some t c = (when-parts c.requires.3).pair.last_some

pub when-start_of-requires-clause-whole : goal.when-start_of-requires-clause-whole
when-start_of-requires-clause-whole t c = (when-parts c.requires.3).pair.room

pub when-judge-requires : goal.when-judge-requires
when-judge-requires t c =
    (c.requires.1, condition-at c.start_of.ensures (when-parts c.requires.3).test)

pub when-returns-in_err-holds : goal.when-returns-in_err-holds
when-returns-in_err-holds t c q h b at =
    let p = c.args.points.now in
    let test = condition-at c.start_of.ensures (when-parts at).test in
    let E = err_from_is_err_and c.from_residual.result c.from_residual.ensures.1 in
    rw (E.1, E.2) (when-halted q h b p c.args.before c.args.self.now.allowance _ p (c.in_err-holds.ensures h test))

pub when-sheet-requires : goal.when-sheet-requires
when-sheet-requires t c =
    let T = when-parts c.requires.3 in
    let f = T.falls in
    let m = c.decreases in
    (search rules, (c.requires.2, T.body))

pub when-returns-then-holds : goal.when-returns-then-holds
when-returns-then-holds t c q h b at =
    let p = c.args.points.now in
    let T = when-parts at in
    let test = condition-at c.start_of.ensures T.test in
    let J = rw c.if-holds.true at (c.in_ok-holds.ensures h test) in
    when-ran q h b p c.args.before c.args.self.now.allowance c.in_ok-holds.made c.sheet.result c.sheet.new.points J (c.sheet.ensures b T.body)

pub when-returns-else-holds : goal.when-returns-else-holds
when-returns-else-holds t c q h b at =
    let p = c.args.points.now in
    let test = condition-at c.start_of.ensures (when-parts at).test in
    let J = rw c.if-holds.false at (c.in_ok-holds.ensures h test) in
    when-failed q h b p c.args.before c.args.self.now.allowance c.in_ok-holds.made J

-- if-else

pub choose-start_of-second-requires-clause-some : goal.choose-start_of-second-requires-clause-some
choose-start_of-second-requires-clause-some t c = (choose-parts c.requires.4).pair.last_some

pub choose-start_of-second-requires-clause-whole : goal.choose-start_of-second-requires-clause-whole
choose-start_of-second-requires-clause-whole t c = (choose-parts c.requires.4).pair.room

pub choose-start_of-requires-clause-some : goal.choose-start_of-requires-clause-some
choose-start_of-requires-clause-some t c = (first-at c.start_of-second.ensures (choose-parts c.requires.4).first).some

pub choose-start_of-requires-clause-whole : goal.choose-start_of-requires-clause-whole
choose-start_of-requires-clause-whole t c = (first-at c.start_of-second.ensures (choose-parts c.requires.4).first).room

pub choose-judge-requires : goal.choose-judge-requires
choose-judge-requires t c =
    let F = first-at c.start_of-second.ensures (choose-parts c.requires.4).first in
    (c.requires.1, condition-at c.start_of.ensures F.test)

pub choose-returns-in_err-holds : goal.choose-returns-in_err-holds
choose-returns-in_err-holds t c q h b d at =
    let p = c.args.points.now in
    let F = first-at c.start_of-second.ensures (choose-parts at).first in
    let test = condition-at c.start_of.ensures F.test in
    let E = err_from_is_err_and c.from_residual.result c.from_residual.ensures.1 in
    rw (E.1, E.2) (choose-halted q h b d p c.args.before c.args.self.now.allowance _ p (c.in_err-holds.ensures h test))

pub choose-sheet-requires : goal.choose-sheet-requires
choose-sheet-requires t c =
    let F = first-at c.start_of-second.ensures (choose-parts c.requires.4).first in
    let f = F.body.falls in
    let m = c.decreases in
    (search rules, (c.requires.2, F.body.part))

pub choose-returns-in_err-first : goal.choose-returns-in_err-first
choose-returns-in_err-first t c q h b d at =
    let p = c.args.points.now in
    let F = first-at c.start_of-second.ensures (choose-parts at).first in
    let test = condition-at c.start_of.ensures F.test in
    let J = rw c.if-holds.true at (c.in_ok-holds.ensures h test) in
    let E = err_from_is_err_and c.from_residual-in_err-first.result c.from_residual-in_err-first.ensures.1 in
    let M = one-more-is p b c.in_ok-holds.made c.args.self.now.allowance (Err _) (Err _) c.sheet.new.points refl (c.in_err-first.ensures b F.body.part) in
    rw (E.1, E.2) (choose-first q h b d p c.args.before c.args.self.now.allowance c.in_ok-holds.made (Err _) c.sheet.new.points J M)

pub choose-sheet-requires-else-holds : goal.choose-sheet-requires-else-holds
choose-sheet-requires-else-holds t c =
    let T = choose-parts c.requires.4 in
    let f = T.falls in
    let m = c.decreases in
    (search rules, (c.requires.3, T.second))

pub choose-returns-in_ok-first : goal.choose-returns-in_ok-first
choose-returns-in_ok-first t c q h b d at =
    let p = c.args.points.now in
    let F = first-at c.start_of-second.ensures (choose-parts at).first in
    let test = condition-at c.start_of.ensures F.test in
    let J = rw c.if-holds.true at (c.in_ok-holds.ensures h test) in
    let M = one-more-is p b c.in_ok-holds.made c.args.self.now.allowance (Ok c.in_ok-first.first) c.one_more.result c.sheet.new.points c.one_more.ensures (c.in_ok-first.ensures b F.body.part) in
    choose-first q h b d p c.args.before c.args.self.now.allowance c.in_ok-holds.made c.one_more.result c.sheet.new.points J M

pub choose-returns-else-holds : goal.choose-returns-else-holds
choose-returns-else-holds t c q h b d at =
    let p = c.args.points.now in
    let T = choose-parts at in
    let F = first-at c.start_of-second.ensures T.first in
    let test = condition-at c.start_of.ensures F.test in
    let J = rw c.if-holds.false at (c.in_ok-holds.ensures h test) in
    choose-second q h b d p c.args.before c.args.self.now.allowance c.in_ok-holds.made c.sheet-else-holds.result c.sheet-else-holds.new.points J (c.sheet-else-holds.ensures d T.second)

-- a command and the sheet after it

pub joint-start_of-requires-clause-some : goal.joint-start_of-requires-clause-some
joint-start_of-requires-clause-some t c = (joint-parts c.requires.3).pair.last_some

pub joint-start_of-requires-clause-whole : goal.joint-start_of-requires-clause-whole
joint-start_of-requires-clause-whole t c = (joint-parts c.requires.3).pair.room

pub joint-sheet-requires : goal.joint-sheet-requires
joint-sheet-requires t c =
    let L = lead-at c.start_of.ensures (joint-parts c.requires.3).first in
    let f = L.falls in
    let m = c.decreases in
    (search rules, (only c.requires.1, L.part))

pub joint-returns-in_err-made : goal.joint-returns-in_err-made
joint-returns-in_err-made t c q k b at =
    let p = c.args.points.now in
    let first = (lead-at c.start_of.ensures (joint-parts at).first).part in
    let E = err_from_is_err_and c.from_residual.result c.from_residual.ensures.1 in
    rw (E.1, E.2) (joint-halted q k b p c.args.before c.args.self.now.allowance _ c.sheet.new.points c.sheet.new.points (c.in_err-made.ensures (only k) first))

as_long : {R : List Row} {end m n : ℕ} {b : Sheet} → n ≡ m → SheetAt R end m b → SheetAt R end n b
as_long {R} {end} {m} {n} {b} e at = subst (λ (k : ℕ). SheetAt R end k b) (sym e) at

pub joint-sheet-requires-2 : goal.joint-sheet-requires-2
joint-sheet-requires-2 t c =
    let T = joint-parts c.requires.3 in
    let l : length c.sheet.new.points ≡ length c.args.points.now = omega (arith, c.sheet.auto.points) in
    let f = T.falls in
    let m = c.decreases in
    (search rules, (c.requires.2, as_long l T.rest))

pub joint-returns : goal.joint-returns
joint-returns t c q k b at =
    let p = c.args.points.now in
    let T = joint-parts at in
    let first = (lead-at c.start_of.ensures T.first).part in
    let l : length c.sheet.new.points ≡ length p = omega (arith, c.sheet.auto.points) in
    joint-ran q k b p c.args.before c.args.self.now.allowance c.in_ok-made.made c.sheet.new.points (c.in_ok-made.ensures (only k) first) c.sheet-2.result c.sheet-2.new.points (c.sheet-2.ensures b (as_long l T.rest))

-- while

pub repeat-start_of-test-requires-clause-some : goal.repeat-start_of-test-requires-clause-some
repeat-start_of-test-requires-clause-some t c = (while-parts c.requires.3).pair.last_some

pub repeat-start_of-test-requires-clause-whole : goal.repeat-start_of-test-requires-clause-whole
repeat-start_of-test-requires-clause-whole t c = (while-parts c.requires.3).pair.room

pub repeat-judge-requires : goal.repeat-judge-requires
repeat-judge-requires t c =
    let l : length c.rounds.points ≡ length c.args.points.now = omega (arith, c.rounds.auto.points) in
    (c.requires.1, (looping c.start_of-test.ensures l c.requires.3).test)

pub repeat-returns-in_err-holds : goal.repeat-returns-in_err-holds
repeat-returns-in_err-holds t c q h b at =
    let p = c.rounds.points in
    let l : length p ≡ length c.args.points.now = omega (arith, c.rounds.auto.points) in
    let L = looping c.start_of-test.ensures l at in
    let E = err_from_is_err_and c.from_residual.result c.from_residual.ensures.1 in
    rw (E.1, E.2) (c.rounds.invariant q h b L.loop (Err _) p (while-halted q h b p c.rounds.made c.args.self.now.allowance _ p (c.in_err-holds.ensures h L.test)))

pub repeat-returns-then-not-holds : goal.repeat-returns-then-not-holds
repeat-returns-then-not-holds t c q h b at =
    let p = c.rounds.points in
    let l : length p ≡ length c.args.points.now = omega (arith, c.rounds.auto.points) in
    let L = looping c.start_of-test.ensures l at in
    let J = rw c.if-not-holds.true at (c.in_ok-holds.ensures h L.test) in
    c.rounds.invariant q h b L.loop (Ok c.in_ok-holds.tested) p (while-failed q h b p c.rounds.made c.args.self.now.allowance c.in_ok-holds.tested J)

pub repeat-sheet-requires : goal.repeat-sheet-requires
repeat-sheet-requires t c =
    let l : length c.rounds.points ≡ length c.args.points.now = omega (arith, c.rounds.auto.points) in
    let L = looping c.start_of-test.ensures l c.requires.3 in
    let f = L.falls in
    let m = c.decreases in
    (search rules, (c.requires.2, L.body))

pub repeat-returns-in_err-body : goal.repeat-returns-in_err-body
repeat-returns-in_err-body t c q h b at =
    let p = c.rounds.points in
    let p' = c.sheet.new.points in
    let l : length p ≡ length c.args.points.now = omega (arith, c.rounds.auto.points) in
    let L = looping c.start_of-test.ensures l at in
    let J = rw c.if-not-holds.false at (c.in_ok-holds.ensures h L.test) in
    let N = one-more-is p b c.in_ok-holds.tested c.args.self.now.allowance (Err _) (Err _) p' refl (c.in_err-body.ensures b L.body) in
    let E = err_from_is_err_and c.from_residual-in_err-body.result c.from_residual-in_err-body.ensures.1 in
    rw (E.1, E.2) (c.rounds.invariant q h b L.loop (Err _) p' (while-body-halted q h b p c.rounds.made c.args.self.now.allowance c.in_ok-holds.tested _ p' p' J N))

pub repeat-returns-in_err-made : goal.repeat-returns-in_err-made
repeat-returns-in_err-made t c q h b at =
    let p = c.rounds.points in
    let p' = c.sheet.new.points in
    let l : length p ≡ length c.args.points.now = omega (arith, c.rounds.auto.points) in
    let L = looping c.start_of-test.ensures l at in
    let J = rw c.if-not-holds.false at (c.in_ok-holds.ensures h L.test) in
    let N = one-more-is p b c.in_ok-holds.tested c.args.self.now.allowance (Ok c.in_ok-body.body) (Err _) p' c.in_err-made.ensures (c.in_ok-body.ensures b L.body) in
    let E = err_from_is_err_and c.from_residual-in_err-made.result c.from_residual-in_err-made.ensures.1 in
    rw (E.1, E.2) (c.rounds.invariant q h b L.loop (Err _) p' (while-body-halted q h b p c.rounds.made c.args.self.now.allowance c.in_ok-holds.tested _ p' p' J N))

pub repeat-rounds-smaller : goal.repeat-rounds-smaller
repeat-rounds-smaller t c =
    let p = c.rounds.points in
    let b = c.requires.2 in
    let l : length p ≡ length c.args.points.now = omega (arith, c.rounds.auto.points) in
    let L = looping c.start_of-test.ensures l c.requires.3 in
    let J = c.in_ok-holds.ensures c.requires.1 L.test in
    let N = one-more-is p b c.in_ok-holds.tested c.args.self.now.allowance (Ok c.in_ok-body.body) (Ok c.in_ok-made.made) c.sheet.new.points c.in_ok-made.ensures (c.in_ok-body.ensures b L.body) in
    omega (arith, J.1, N.1, N.2)

-- a turn more, and then however it goes on
pub repeat-rounds-preserved : goal.repeat-rounds-preserved
repeat-rounds-preserved t c =
    λ q h b at out p'' r.
    let p = c.rounds.points in
    let p' = c.sheet.new.points in
    let l : length p ≡ length p' = omega (arith, c.sheet.auto.points) in
    let L = looping c.start_of-test.ensures l at in
    let J = rw c.if-not-holds.false at (c.in_ok-holds.ensures h L.test) in
    let N = one-more-is p b c.in_ok-holds.tested c.args.self.now.allowance (Ok c.in_ok-body.body) (Ok c.in_ok-made.made) p' c.in_ok-made.ensures (c.in_ok-body.ensures b L.body) in
    c.rounds.invariant q h b L.loop out p'' (while-more q h b p c.rounds.made c.args.self.now.allowance c.in_ok-holds.tested c.in_ok-made.made p' J N out p'' r)

-- any of them

pub sheet-overflow_sub-end : goal.sheet-overflow_sub-end
sheet-overflow_sub-end t c = (sheet-end c.requires.1).0

pub sheet-bounds : goal.sheet-bounds
sheet-bounds t c = let e = sheet-end c.requires.1 in omega (arith, e.0, e.1)

pub sheet-assign-requires : goal.sheet-assign-requires
sheet-assign-requires t c =
    let At = SheetAt c.args.self.now.rows.now c.args.end (length c.args.points.now) in
    arm c.requires.1 c.in-Set.is (λ x. At x → (q : ℕ) × (i : ℕ) × (e : Sum) × At (only (set q i e))) (λ q i e at. (q, i, e, at)) c.requires.1

pub sheet-when-requires : goal.sheet-when-requires
sheet-when-requires t c =
    let At = SheetAt c.args.self.now.rows.now c.args.end (length c.args.points.now) in
    let m = c.decreases in
    (search rules, arm c.requires.1 c.in-If.is (λ x. At x → (q : ℕ) × (h : Condition) × (b : Sheet) × At (only (when q h b))) (λ q h b at. (q, h, b, at)) c.requires.1)

pub sheet-choose-requires : goal.sheet-choose-requires
sheet-choose-requires t c =
    let At = SheetAt c.args.self.now.rows.now c.args.end (length c.args.points.now) in
    let m = c.decreases in
    (search rules, arm c.requires.1 c.in-IfElse.is (λ x. At x → (q : ℕ) × (h : Condition) × (b : Sheet) × (d : Sheet) × At (only (choose q h b d))) (λ q h b d at. (q, h, b, d, at)) c.requires.1)

pub sheet-repeat-requires : goal.sheet-repeat-requires
sheet-repeat-requires t c =
    let At = SheetAt c.args.self.now.rows.now c.args.end (length c.args.points.now) in
    let m = c.decreases in
    (search rules, arm c.requires.1 c.in-While.is (λ x. At x → (q : ℕ) × (h : Condition) × (b : Sheet) × At (only (while q h b))) (λ q h b at. (q, h, b, at)) c.requires.1)

pub sheet-joint-requires : goal.sheet-joint-requires
sheet-joint-requires t c =
    let At = SheetAt c.args.self.now.rows.now c.args.end (length c.args.points.now) in
    let k = joint-kind c.requires.1 c.in_default.not-Set c.in_default.not-If c.in_default.not-IfElse c.in_default.not-While in
    let m = c.decreases in
    (search rules, arm c.requires.1 k (λ x. At x → (q : ℕ) × (k : Command) × (b : Sheet) × At (joint q k b)) (λ q k b at. (q, k, b, at)) c.requires.1)

-- what a kind's own call promises of each of its sheets, it promises of the sheet
ran-arm : {R : List Row} {end count : ℕ} {t : Sheet} {k : Kind} (p : Points) (before a : ℕ) (out : Result ℕ Halt) (p' : Points) → SheetAt R end count t → (get_or R (end - 1) blank).kind ≡ k → Arm k (λ x. SheetAt R end count x → Ran p x before a out p') → Ran p t before a out p'
ran-arm {R} {end} {count} p before a out p' at e f = arm at e (λ x. SheetAt R end count x → Ran p x before a out p') f at

pub sheet-returns-in-Set : goal.sheet-returns-in-Set
sheet-returns-in-Set t c t' at =
    ran-arm c.args.points.now c.args.before c.args.self.now.allowance c.assign.result c.assign.new.points at c.in-Set.is c.assign.ensures

pub sheet-returns-in-If : goal.sheet-returns-in-If
sheet-returns-in-If t c t' at =
    ran-arm c.args.points.now c.args.before c.args.self.now.allowance c.when.result c.when.new.points at c.in-If.is c.when.ensures

pub sheet-returns-in-IfElse : goal.sheet-returns-in-IfElse
sheet-returns-in-IfElse t c t' at =
    ran-arm c.args.points.now c.args.before c.args.self.now.allowance c.choose.result c.choose.new.points at c.in-IfElse.is c.choose.ensures

pub sheet-returns-in-While : goal.sheet-returns-in-While
sheet-returns-in-While t c t' at =
    ran-arm c.args.points.now c.args.before c.args.self.now.allowance c.repeat.result c.repeat.new.points at c.in-While.is c.repeat.ensures

pub sheet-returns-in_default : goal.sheet-returns-in_default
sheet-returns-in_default t c t' at =
    let k = joint-kind at c.in_default.not-Set c.in_default.not-If c.in_default.not-IfElse c.in_default.not-While in
    ran-arm c.args.points.now c.args.before c.args.self.now.allowance c.joint.result c.joint.new.points at k c.joint.ensures
