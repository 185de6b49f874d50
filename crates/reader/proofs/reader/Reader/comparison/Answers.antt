-- The machine at each way out: behind the left sum, behind the comparison, and behind both.
use Rattle.std.proofs.Common.{sym, ap, ◌∙◌}
use Rattle.std.proofs.lemmas.Result.{err_from_is_err_and}
use Rattle.tables.specs.declared.kind.Kind.TheVariants as kind
use Rattle.reader.specs.Progressing.{told}
use Rattle.reader.proofs.Carrying.{stops, on, here}
use Rattle.reader.proofs.Conditioning.{no-comparison, right-refused, two-sums, number-back}
use Rattle.reader.proofs.reader.Reader.comparison.Goals as goal

pub returns-in_default : goal.returns-in_default
returns-in_default c =
    let same = c.in_ok-sum.ensures.same in
    record { answer = no-comparison c.in_ok-sum.ensures.answer (here same c.see-seen.ensures) (sym c.in_default.ensures) c.refusal.ensures; same = same }

pub returns-in_err-sum-2 : goal.returns-in_err-sum-2
returns-in_err-sum-2 c =
    let same = c.in_ok-sum.ensures.same in
    stops (err_from_is_err_and c.from_residual-in_err-sum-2.result c.from_residual-in_err-sum-2.ensures.1) (c.in_err-sum-2.ensures.same ∙ same) (right-refused c.in-Some.comparison c.in_ok-sum.ensures.answer (here same c.see-seen.ensures) (sym c.in-Some.ensures) c.pass.ensures (on c.in_err-sum-2.ensures same))

pub returns : goal.returns
returns c =
    let same = c.in_ok-sum.ensures.same in
    record {
      answer = two-sums c.in-Some.comparison (here same c.see-seen.ensures) (sym c.in-Some.ensures) c.in_ok-sum.ensures.answer c.pass.ensures (on c.in_ok-sum-2.ensures same)
          (c.tell.ensures.value ∙ ap (λ v. told c.sum-2.new.self.rows.now c.sum-2.new.self.progress kind.Compare v c.args.self.now.progress.count c.see-seen.result.place) (number-back c.in-Some.comparison c.from.ensures.value c.from-2.ensures));
      same = c.tell.ensures.same ∙ c.in_ok-sum-2.ensures.same ∙ same;
    }
