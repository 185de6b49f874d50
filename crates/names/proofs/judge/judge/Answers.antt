use Rattle.std.proofs.Common.{◌≡◌, length, take, Result, Ok, Err, None, Some, MatchResult, refl, sym, ap, ◌∙◌, subst, rules, tests, arith, IsErrAnd, is_ok, ◌+◌}
use Rattle.std.proofs.lemmas.Bool.{false≢true}
use Rattle.names.specs.declared.bad_line.BadLine.{BadLine}
use Rattle.std.specs.Result.{result_err}
use Rattle.std.proofs.lemmas.List.{length-take-le}
use Rattle.std.proofs.lemmas.Iterator.Consumers.{YieldsList-from_first, count_from_yields_List}
use Rattle.names.specs.Lines.{lines_of}
use Rattle.names.proofs.Judged.{fits, bad, next, ends-short, ends-whole}
use Rattle.names.proofs.judge.judge.Goals as goal

pub slice_bounds-judge_line-end : goal.slice_bounds-judge_line-end
slice_bounds-judge_line-end c =
    let s = c.in-Some.ensures.steps in
    let f = fits c.args.text.now c.loop-count.start _ _ _ _ _ c.loop-count.invariant.2 s.0 s.1 in
    sym (length-take-le c.loop-count.start c.args.text.now (omega (arith, f)))

pub overflow_add-start-in-loop-count : goal.overflow_add-start-in-loop-count
overflow_add-start-in-loop-count c =
    let s = c.in-Some.ensures.steps in
    let f = fits c.args.text.now c.loop-count.start _ _ _ _ _ c.loop-count.invariant.2 s.0 s.1 in
    search (rules, f)

ok-err : {X E : Type 0} {x : X} {e : E} → Ok x ≡ Err e → ⊥
ok-err h = false≢true (sym (ap is_ok h))

-- a refusal that `map_err` made comes of one that it was given
refused : {E D : Type 0} (r : Result (Unit {0}) E) (q : Result (Unit {0}) D) (P : E → D → Type 0) → MatchResult r (λ x. q ≡ Ok x) (λ e. IsErrAnd q (P e)) → (d : D) → q ≡ Err d → (e : E) × (r ≡ Err e) × P e d
refused (Ok x) q P h d w = absurd (ok-err (sym h ∙ w))
refused (Err e) q P h d w = (e, refl, subst (λ q. IsErrAnd q (P e)) w h)

pub returns-in_err-map_err : goal.returns-in_err-map_err
returns-in_err-map_err c =
    let s = c.in-Some.ensures.steps in
    let w = refused c.judge_line.result c.map_err.result _ c.map_err.ensures.cases _ c.in_err-map_err.was in
    let made = w.2 in
    let bad_line : c.in_err-map_err.field-0.0 ≡ record { start = c.loop-count.start; line = c.in-Some.count + 1; complaint = w.0 } = search (rules, tests, made) in
    let passed_on : result_err c.from_residual.result ≡ Some c.in_err-map_err.field-0.0 = search rules in
    passed_on
    ∙ ap (λ (b : BadLine). Some b) bad_line
    ∙ bad c.args.text.now c.loop-count.start _ _ _ _ _ c.loop-count.invariant.2 s.0 s.1 w.0 (ap result_err (sym w.1) ∙ c.judge_line.ensures)

pub loop-count-preserved : goal.loop-count-preserved
loop-count-preserved c =
    let s = c.in-Some.ensures.steps in let none : None ≡ result_err c.judge_line.result = search rules in (
      search rules,
      search rules,
      next c.args.text.now c.loop-count.start _ _ _ _ _ c.loop-count.invariant.2 s.0 s.1 _ s.2 (none ∙ c.judge_line.ensures),
    )

pub returns-then-start-text : goal.returns-then-start-text
returns-then-start-text c =
    let lines = lines_of (take c.loop-count.start c.args.text.now) in
    let n : c.count.result ≡ length lines =
    count_from_yields_List c.new-then-start-text.result _ c.count.ensures.ran
    (YieldsList-from_first (λ x. x.now) (λ s. lines_of s.rest.now) lines (ap lines_of c.new-then-start-text.ensures)) in
    rw n (ends-short c.args.text.now c.loop-count.start _ _ c.loop-count.invariant.2 c.in-None.ensures.steps.0.0 c.if-start-text.true)

pub returns : goal.returns
returns c =
    ends-whole c.args.text.now c.loop-count.start _ _ c.loop-count.invariant.2 c.in-None.ensures.steps.0.0 c.if-start-text.false
