-- The machine at each way out; what it does between is in Conditioning.
use Rattle.std.proofs.Common.{sym, ◌∙◌, w32, to_z, of_z, rules}
use Rattle.std.proofs.lemmas.Result.{err_from_is_err_and}
use Rattle.reader.proofs.Carrying.{stops, on, here, passed, missed}
use Rattle.reader.proofs.Entering.{entered, barred}
use Rattle.reader.proofs.Conditioning.{one-literal, two-literals, conjunct-refused, one-conjunct, two-conjuncts, condition-refused, truth-read, negation-read, negation-refused, bracket-answers, within-answers, sum-answers, opening-missed, opening-crowded, bracket-refused, not-closed, bracket-read, bit-back}
use Rattle.reader.proofs.reader.Reader.+bracketed_condition_conjunct_literal.Goals as goal

pub bracketed-returns-in_err-seen : goal.bracketed-returns-in_err-seen
bracketed-returns-in_err-seen t c = stops (err_from_is_err_and c.from_residual.result c.from_residual.ensures.1) c.in_err-seen.ensures.same (opening-missed c.in_err-seen.ensures.answer)

pub bracketed-returns-in_err-enter : goal.bracketed-returns-in_err-enter
bracketed-returns-in_err-enter t c = stops (err_from_is_err_and c.from_residual-in_err-enter.result c.from_residual-in_err-enter.ensures.1) c.in_ok-seen.ensures.same (opening-crowded c.in_ok-seen.ensures.answer (barred c.in_err-enter.ensures))

pub bracketed-returns-in_err-condition : goal.bracketed-returns-in_err-condition
bracketed-returns-in_err-condition t c = stops (err_from_is_err_and c.from_residual-in_err-condition.result c.from_residual-in_err-condition.ensures.1) (c.in_err-condition.ensures.same ∙ c.in_ok-seen.ensures.same) (bracket-refused c.in_ok-seen.ensures.answer (entered c.in_ok-enter.ensures) (on c.in_err-condition.ensures c.in_ok-seen.ensures.same))

pub bracketed-returns-in_err-expect : goal.bracketed-returns-in_err-expect
bracketed-returns-in_err-expect t c =
    let condition = c.in_ok-condition.ensures in
    stops (err_from_is_err_and c.from_residual-in_err-expect.result c.from_residual-in_err-expect.ensures.1) (c.in_err-expect.ensures.same ∙ condition.same ∙ c.in_ok-seen.ensures.same) (not-closed c.in_ok-seen.ensures.answer (entered c.in_ok-enter.ensures) (on condition c.in_ok-seen.ensures.same) (missed (condition.same ∙ c.in_ok-seen.ensures.same) c.in_err-expect.ensures.answer))

pub bracketed-returns : goal.bracketed-returns
bracketed-returns t c =
    let condition = c.in_ok-condition.ensures in
    let read = bracket-read c.in_ok-seen.ensures.answer (entered c.in_ok-enter.ensures) (on condition c.in_ok-seen.ensures.same) (passed (condition.same ∙ c.in_ok-seen.ensures.same) c.in_ok-expect.ensures.answer) in
    record { answer = rw (c.leave.ensures, c.in_ok-expect.ensures.rows, sym c.in_ok-seen.ensures.rows) read; same = c.in_ok-expect.ensures.same ∙ condition.same ∙ c.in_ok-seen.ensures.same }

pub condition-returns-in_err-condition : goal.condition-returns-in_err-condition
condition-returns-in_err-condition t c =
    let same = c.in_ok-conjunct.ensures.same in
    stops (err_from_is_err_and c.from_residual-in_err-condition.result c.from_residual-in_err-condition.ensures.1) (c.in_err-condition.ensures.same ∙ same) (condition-refused (here same c.see-seen.ensures) (search rules) c.in_ok-conjunct.ensures.answer c.pass.ensures (on c.in_err-condition.ensures same))

pub condition-returns-in_ok-condition : goal.condition-returns-in_ok-condition
condition-returns-in_ok-condition t c =
    let same = c.in_ok-conjunct.ensures.same in
    record { answer = two-conjuncts (here same c.see-seen.ensures) (search rules) c.in_ok-conjunct.ensures.answer c.pass.ensures (on c.in_ok-condition.ensures same) c.tell.ensures.value; same = c.tell.ensures.same ∙ c.in_ok-condition.ensures.same ∙ same }

pub condition-returns-else-eq : goal.condition-returns-else-eq
condition-returns-else-eq t c =
    let same = c.in_ok-conjunct.ensures.same in
    record { answer = one-conjunct (here same c.see-seen.ensures) (search rules) c.in_ok-conjunct.ensures.answer; same = same }

pub conjunct-returns-in_err-conjunct : goal.conjunct-returns-in_err-conjunct
conjunct-returns-in_err-conjunct t c =
    let same = c.in_ok-literal.ensures.same in
    stops (err_from_is_err_and c.from_residual-in_err-conjunct.result c.from_residual-in_err-conjunct.ensures.1) (c.in_err-conjunct.ensures.same ∙ same) (conjunct-refused (here same c.see-seen.ensures) (search rules) c.in_ok-literal.ensures.answer c.pass.ensures (on c.in_err-conjunct.ensures same))

pub conjunct-returns-in_ok-conjunct : goal.conjunct-returns-in_ok-conjunct
conjunct-returns-in_ok-conjunct t c =
    let same = c.in_ok-literal.ensures.same in
    record { answer = two-literals (here same c.see-seen.ensures) (search rules) c.in_ok-literal.ensures.answer c.pass.ensures (on c.in_ok-conjunct.ensures same) c.tell.ensures.value; same = c.tell.ensures.same ∙ c.in_ok-conjunct.ensures.same ∙ same }

pub conjunct-returns-else-eq : goal.conjunct-returns-else-eq
conjunct-returns-else-eq t c =
    let same = c.in_ok-literal.ensures.same in
    record { answer = one-literal (here same c.see-seen.ensures) (search rules) c.in_ok-literal.ensures.answer; same = same }

pub literal-returns-in_err-literal-in-Not : goal.literal-returns-in_err-literal-in-Not
literal-returns-in_err-literal-in-Not t c = stops (err_from_is_err_and c.from_residual.result c.from_residual.ensures.1) c.in_err-literal-in-Not.ensures.same (negation-refused c.args.self.now.progress c.see-seen.ensures (sym c.in-Not.ensures) c.pass.ensures c.in_err-literal-in-Not.ensures.answer)

pub literal-returns-in-Truth : goal.literal-returns-in-Truth
literal-returns-in-Truth t c = record { answer = truth-read c.in-Truth.value (to_z w32 (of_z w32 c.from.result)) c.args.self.now.stands.within c.see-seen.ensures (sym c.in-Truth.ensures) (bit-back c.in-Truth.value c.from.ensures) c.leaf.ensures.value; same = c.leaf.ensures.same }

pub literal-returns-in_ok-literal-in-Not : goal.literal-returns-in_ok-literal-in-Not
literal-returns-in_ok-literal-in-Not t c = record { answer = negation-read c.see-seen.ensures (sym c.in-Not.ensures) c.pass.ensures c.in_ok-literal-in-Not.ensures.answer c.tell.ensures.value; same = c.tell.ensures.same ∙ c.in_ok-literal-in-Not.ensures.same }

pub literal-returns-then-opens_condition : goal.literal-returns-then-opens_condition
literal-returns-then-opens_condition t c = record { answer = bracket-answers _ _ _ _ c.bracketed.result c.see-seen.ensures (sym c.in-Bracket.ensures) c.if-opens_condition.ensures c.bracketed.ensures.answer; same = c.bracketed.ensures.same }

pub literal-returns-else-opens_condition : goal.literal-returns-else-opens_condition
literal-returns-else-opens_condition t c = record { answer = within-answers _ _ _ _ c.comparison.result c.see-seen.ensures (sym c.in-Bracket.ensures) c.if-opens_condition.ensures c.comparison.ensures.answer; same = c.comparison.ensures.same }

pub literal-returns-in-Sum : goal.literal-returns-in-Sum
literal-returns-in-Sum t c = record { answer = sum-answers _ _ _ _ c.comparison-in-Sum.result c.see-seen.ensures (sym c.in-Sum.ensures) c.comparison-in-Sum.ensures.answer; same = c.comparison-in-Sum.ensures.same }
