-- The machine at each way out: behind the name, behind the sign, and behind the sum.
use Rattle.std.proofs.Common.{◌≡◌, pos, sym, ap, ◌∙◌, arith, w32, to_z}
use Rattle.std.proofs.lemmas.Result.{err_from_is_err_and}
use Rattle.std.proofs.lemmas.Int.{to_z_pos}
use Rattle.tables.specs.declared.kind.Kind.TheVariants as kind
use Rattle.reader.specs.Progressing.{told}
use Rattle.reader.proofs.Carrying.{stops, on, passed, missed}
use Rattle.reader.proofs.Nexts.{set-taken}
use Rattle.reader.proofs.Commanding.{set-read, no-becomes, no-sum, no-semicolon}
use Rattle.reader.proofs.reader.Reader.set_command.Goals as goal

pub returns-in_err-expect : goal.returns-in_err-expect
returns-in_err-expect c = stops (err_from_is_err_and c.from_residual.result c.from_residual.ensures.1) c.in_err-expect.ensures.same (no-becomes c.requires c.pass.ensures c.in_err-expect.ensures.answer)

pub returns-in_err-sum : goal.returns-in_err-sum
returns-in_err-sum c =
    let equals = c.in_ok-expect.ensures in
    stops (err_from_is_err_and c.from_residual-in_err-sum.result c.from_residual-in_err-sum.ensures.1) (c.in_err-sum.ensures.same ∙ equals.same) (no-sum c.requires c.pass.ensures equals.answer (on c.in_err-sum.ensures equals.same))

pub returns-in_err-expect-2 : goal.returns-in_err-expect-2
returns-in_err-expect-2 c =
    let equals = c.in_ok-expect.ensures in
    let sum = c.in_ok-sum.ensures in
    stops (err_from_is_err_and c.from_residual-in_err-expect-2.result c.from_residual-in_err-expect-2.ensures.1) (c.in_err-expect-2.ensures.same ∙ sum.same ∙ equals.same) (no-semicolon c.requires c.pass.ensures equals.answer (on sum equals.same) (missed (sum.same ∙ equals.same) c.in_err-expect-2.ensures.answer))

pub returns : goal.returns
returns c =
    let x = c.args.point in
    let listed = c.requires.here.named x (set-taken c.requires.is) in
    let small : to_z w32 x ≡ pos x = to_z_pos w32 x (omega (arith, listed, c.args.self.now.stands.listed)) in
    let equals = c.in_ok-expect.ensures in
    let sum = c.in_ok-sum.ensures in
    let end = c.in_ok-expect-2.ensures in
    record {
      answer = rw (sym equals.rows) (set-read c.requires c.pass.ensures equals.answer (on sum equals.same) (passed (sum.same ∙ equals.same) end.answer)
          (c.tell.ensures.value ∙ ap (λ rs. told rs c.expect-2.new.self.progress kind.Set (to_z w32 x) c.args.self.now.progress.count c.args.seen.place) end.rows
          ∙ ap (λ v. told c.sum.new.self.rows.now c.expect-2.new.self.progress kind.Set v c.args.self.now.progress.count c.args.seen.place) small));
      same = c.tell.ensures.same ∙ end.same ∙ sum.same ∙ equals.same;
    }
