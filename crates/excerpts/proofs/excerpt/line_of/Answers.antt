use Rattle.std.proofs.Common.{◌≡◌, eqb, cond, not, ℕ, ◌-◌, length, take, rules, tests, refl, sym, ap, ◌∙◌, arith}
use Rattle.std.proofs.lemmas.List.{length-take-le}
use Rattle.std.proofs.lemmas.Iterator.Adapters.{YieldsList-from_rev_slice}
use Rattle.std.proofs.lemmas.Iterator.Consumers.{count_from_yields_List, sum_by_from_yields_List, fits_by_from_yields_list}
use Rattle.std.proofs.lemmas.Iterator.Search.{YieldsList-from_take_while}
use Rattle.std.proofs.lemmas.List.Sums.{count_by-le-length}
use Rattle.std.proofs.lemmas.Iterator.{YieldsList-from_slice, YieldsList-from_map}
use Rattle.excerpts.specs.Excerpts.{newlines, since}
use Rattle.excerpts.proofs.Ends.{newlines-is, newlines-before, since-is}
use Rattle.excerpts.proofs.excerpt.line_of.Goals as goal

pub returns-clause-value : goal.returns-clause-value
returns-clause-value c =
    let before = take c.args.place c.args.text.now in
    let here : c.take_while.result.iter.iter.rest.now ≡ before = search rules in
    let back : c.count-since.result ≡ since before =
    count_from_yields_List c.take_while.result _ c.count-since.ensures.ran
    (YieldsList-from_take_while _ (λ b. not (eqb b 10)) (YieldsList-from_rev_slice before here) c.take_while.ensures.closure c.take_while.ensures.done (λ x b q k. search (rules, tests)))
    ∙ sym (since-is before) in
    let long = length-take-le c.args.place c.args.text.now c.requires in
    let start : c.args.place - c.count-since.result ≡ length before - since before = rw (long, back) refl in
    let seen : c.sum-newlines.result ≡ newlines (take (c.args.place - c.count-since.result) before) =
    sum_by_from_yields_List (λ b. cond (eqb b 10) 1 0) _ c.map.result _ c.sum-newlines.ensures.ran
    (YieldsList-from_map _ (λ b. cond (eqb b 10) 1 0) (YieldsList-from_slice (take (c.args.place - c.count-since.result) before) (search rules)) c.map.ensures.closure (λ x r q k. search (rules, tests)))
    ∙ sym (newlines-is (take (c.args.place - c.count-since.result) before)) in
    let lines = seen ∙ ap (λ (n : ℕ). newlines (take n before)) start ∙ newlines-before 0 before in
    record { lines = omega (arith, lines); begins = omega (arith, back, ap length here, long) }

pub sum-newlines-requires-clause-fits : goal.sum-newlines-requires-clause-fits
sum-newlines-requires-clause-fits c =
    let taken = take (c.args.place - c.count-since.result) (take c.args.place c.args.text.now) in
    fits_by_from_yields_list (λ b. cond (eqb b 10) 1 0) _ c.map.result _
    (YieldsList-from_map _ (λ b. cond (eqb b 10) 1 0) (YieldsList-from_slice taken (search rules)) c.map.ensures.closure (λ x r q k. search (rules, tests)))
    (omega (arith, count_by-le-length (λ b. eqb b 10) taken, length-take-le c.args.place c.args.text.now c.requires))

pub overflow_add-result : goal.overflow_add-result
overflow_add-result c =
    let taken = take (c.args.place - c.count-since.result) (take c.args.place c.args.text.now) in
    let seen = sum_by_from_yields_List (λ b. cond (eqb b 10) 1 0) _ c.map.result _ c.sum-newlines.ensures.ran
    (YieldsList-from_map _ (λ b. cond (eqb b 10) 1 0) (YieldsList-from_slice taken (search rules)) c.map.ensures.closure (λ x r q k. search (rules, tests))) in
    omega (arith, seen, count_by-le-length (λ b. eqb b 10) taken, length-take-le c.args.place c.args.text.now c.requires, c.iter.ensures.len, c.iter-2.ensures.len)
