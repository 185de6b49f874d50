-- The machine at each way out; what it does between is in Summed.
use Rattle.std.proofs.Common.{◌<◌, Some, sym, refl, ap, ◌∙◌, arith, w32, SFits, to_z, of_z, rules}
use Rattle.std.proofs.lemmas.Result.{err_from_is_err_and}
use Rattle.std.proofs.lemmas.Int.{to_z-of_z}
use Rattle.reader.specs.declared.seen.Seen.{Seen}
use Rattle.reader.proofs.Carrying.{stops, on, here, passed, missed}
use Rattle.reader.proofs.Entering.{entered, barred}
use Rattle.reader.proofs.Nexts.{additive-taken, multiplicative-taken, further, seen-taken}
use Rattle.reader.proofs.Writing.{Further, gone, Grown, grown}
use Rattle.reader.proofs.Summed.{number_read, name-read, no-factor, bracket-barred, bracket-refused, bracket-unclosed, bracket-read, prod-first, prod-refused, prod-turn, sum_first, sum-refused, sum-turn, sum-read}
use Rattle.reader.proofs.reader.Reader.+factor_prod_sum.Goals as goal

pub factor-returns-in_err-enter-in-Bracket : goal.factor-returns-in_err-enter-in-Bracket
factor-returns-in_err-enter-in-Bracket t c =
    let is = seen-taken c.see-seen.result c.operand.ensures c.in_ok-value.ensures c.in-Bracket.is in
    stops (err_from_is_err_and c.from_residual-in_err-enter-in-Bracket.result c.from_residual-in_err-enter-in-Bracket.ensures.1) refl (bracket-barred c.see-seen.ensures is (barred c.in_err-enter-in-Bracket.ensures))

pub factor-returns-in_err-sum-in-Bracket : goal.factor-returns-in_err-sum-in-Bracket
factor-returns-in_err-sum-in-Bracket t c =
    let is = seen-taken c.see-seen.result c.operand.ensures c.in_ok-value.ensures c.in-Bracket.is in
    stops (err_from_is_err_and c.from_residual-in_err-sum-in-Bracket.result c.from_residual-in_err-sum-in-Bracket.ensures.1) c.in_err-sum-in-Bracket.ensures.same (bracket-refused c.see-seen.ensures is (entered c.in_ok-enter-in-Bracket.ensures) c.in_err-sum-in-Bracket.ensures.answer)

pub factor-returns-in_err-expect-in-Bracket : goal.factor-returns-in_err-expect-in-Bracket
factor-returns-in_err-expect-in-Bracket t c =
    let is = seen-taken c.see-seen.result c.operand.ensures c.in_ok-value.ensures c.in-Bracket.is in
    let sum = c.in_ok-sum-in-Bracket.ensures in
    stops (err_from_is_err_and c.from_residual-in_err-expect-in-Bracket.result c.from_residual-in_err-expect-in-Bracket.ensures.1) (c.in_err-expect-in-Bracket.ensures.same ∙ sum.same) (bracket-unclosed c.see-seen.ensures is (entered c.in_ok-enter-in-Bracket.ensures) sum.answer (missed sum.same c.in_err-expect-in-Bracket.ensures.answer))

pub factor-returns-in_ok-expect-in-Bracket : goal.factor-returns-in_ok-expect-in-Bracket
factor-returns-in_ok-expect-in-Bracket t c =
    let is = seen-taken c.see-seen.result c.operand.ensures c.in_ok-value.ensures c.in-Bracket.is in
    let sum = c.in_ok-sum-in-Bracket.ensures in
    record { answer = rw c.in_ok-expect-in-Bracket.ensures.rows (bracket-read _ c.see-seen.ensures is (entered c.in_ok-enter-in-Bracket.ensures) sum.answer (passed sum.same c.in_ok-expect-in-Bracket.ensures.answer) c.leave.ensures); same = c.in_ok-expect-in-Bracket.ensures.same ∙ sum.same }

pub factor-returns-in-Number : goal.factor-returns-in-Number
factor-returns-in-Number t c =
    let f : SFits w32 c.in-Number.value = search rules in
    let is = seen-taken c.see-seen.result c.operand.ensures c.in_ok-value.ensures c.in-Number.is in
    record { answer = number_read c.see-seen.ensures is c.args.self.now.stands.within (to_z w32 (of_z w32 c.in-Number.value)) (to_z-of_z w32 c.in-Number.value f) c.leaf.ensures.value; same = c.leaf.ensures.same }

pub factor-returns-in-Name : goal.factor-returns-in-Name
factor-returns-in-Name t c =
    let is = seen-taken c.see-seen.result c.operand.ensures c.in_ok-value.ensures c.in-Name.is in
    record { answer = name-read c.see-seen.ensures is c.args.self.now.stands.within c.args.self.now.stands.listed c.leaf-in-Name.ensures.value; same = c.leaf-in-Name.ensures.same }

pub factor-returns-in_err-value : goal.factor-returns-in_err-value
factor-returns-in_err-value t c = stops (err_from_is_err_and c.from_residual.result c.from_residual.ensures.1) refl (no-factor c.args.self.now.progress c.see-seen.ensures c.operand.ensures c.in_err-value.ensures)

pub prod-returns-in_err-factor-2 : goal.prod-returns-in_err-factor-2
prod-returns-in_err-factor-2 t c =
    let same = c.more.invariant.2 ∙ c.in_ok-factor.ensures.same in
    let took = c.more.invariant.3 c.args.self.now c.in_ok-factor.ensures.same refl (prod-first c.in_ok-factor.ensures.answer) in
    stops (err_from_is_err_and c.from_residual-in_err-factor-2.result c.from_residual-in_err-factor-2.ensures.1) (c.in_err-factor-2.ensures.same ∙ same) (prod-refused took (here same c.see-seen.ensures) (sym c.in-Some-Multiplicative.ensures ∙ ap Some c.in-Some-Multiplicative.field-0-is) c.pass.ensures (on c.in_err-factor-2.ensures same))

pub prod-more-preserved : goal.prod-more-preserved
prod-more-preserved t c =
    let s : Seen = c.see-seen.result in
    let is = sym c.in-Some-Multiplicative.ensures ∙ ap Some c.in-Some-Multiplicative.field-0-is in
    let next = c.in_ok-factor-2.ensures.answer in
    let lt : c.more.self.progress.position.at < s.end = further _ c.see-seen.ensures (multiplicative-taken is) tt in
    let past : Further c.more.self.progress c.pass.new.self s = gone _ s c.pass.ensures in
    let row : Grown c.factor-in-more.new.self.progress c.tell.new.self.progress = grown c.factor-in-more.new.self.progress c.tell.ensures.value in (
      omega (arith, next.wrote.count, past.count, row.count, c.more.invariant.0),
      omega (arith, next.wrote.moved, past.at, row.at, c.more.invariant.1),
      c.tell.ensures.same ∙ c.in_ok-factor-2.ensures.same ∙ c.more.invariant.2,
      λ o held first took.
          let same = c.more.invariant.2 ∙ held in
          prod-turn (c.more.invariant.3 o held first took) (here same c.see-seen.ensures) is c.pass.ensures (on c.in_ok-factor-2.ensures same) c.from.ensures first c.tell.ensures.value,
    )

pub sum-returns-in_default : goal.sum-returns-in_default
sum-returns-in_default t c =
    let same = c.more.invariant.2 ∙ c.in_ok-prod.ensures.same in
    let first = c.in_ok-prod.ensures.answer in
    let took = c.more.invariant.3 c.args.self.now c.in_ok-prod.ensures.same refl (sum_first first.0 first.1) in
    record { answer = sum-read took (here same c.see-seen.ensures) (search rules); same = same }

pub sum-returns-in_err-prod-2 : goal.sum-returns-in_err-prod-2
sum-returns-in_err-prod-2 t c =
    let same = c.more.invariant.2 ∙ c.in_ok-prod.ensures.same in
    let first = c.in_ok-prod.ensures.answer in
    let took = c.more.invariant.3 c.args.self.now c.in_ok-prod.ensures.same refl (sum_first first.0 first.1) in
    stops (err_from_is_err_and c.from_residual-in_err-prod-2.result c.from_residual-in_err-prod-2.ensures.1) (c.in_err-prod-2.ensures.same ∙ same) (sum-refused took (here same c.see-seen.ensures) (sym c.in-Some-Additive.ensures ∙ ap Some c.in-Some-Additive.field-0-is) c.pass.ensures (on c.in_err-prod-2.ensures same))

pub sum-more-preserved : goal.sum-more-preserved
sum-more-preserved t c =
    let s : Seen = c.see-seen.result in
    let is = sym c.in-Some-Additive.ensures ∙ ap Some c.in-Some-Additive.field-0-is in
    let next = c.in_ok-prod-2.ensures.answer.0 in
    let lt : c.more.self.progress.position.at < s.end = further _ c.see-seen.ensures (additive-taken is) tt in
    let past : Further c.more.self.progress c.pass.new.self s = gone _ s c.pass.ensures in
    let row : Grown c.prod-in-more.new.self.progress c.tell.new.self.progress = grown c.prod-in-more.new.self.progress c.tell.ensures.value in (
      omega (arith, next.wrote.count, past.count, row.count, c.more.invariant.0),
      omega (arith, next.wrote.moved, past.at, row.at, c.more.invariant.1),
      c.tell.ensures.same ∙ c.in_ok-prod-2.ensures.same ∙ c.more.invariant.2,
      λ o held first took.
          let same = c.more.invariant.2 ∙ held in
          let more = on c.in_ok-prod-2.ensures same in
          sum-turn (c.more.invariant.3 o held first took) (here same c.see-seen.ensures) is c.pass.ensures more.0 more.1 c.from.ensures first c.tell.ensures.value,
    )
