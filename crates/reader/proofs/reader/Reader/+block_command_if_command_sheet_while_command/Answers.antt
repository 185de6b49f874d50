-- The machine at each way out; what it does between is in Commanding.
use Rattle.std.proofs.Common.{◌∷◌, sym, refl, ◌∙◌, ⊎_elim, rules}
use Rattle.std.proofs.lemmas.Result.{err_from_is_err_and}
use Rattle.reader.proofs.Carrying.{stops, on, here}
use Rattle.reader.proofs.Entering.{entered, barred}
use Rattle.reader.proofs.Nexts.{seen-taken}
use Rattle.reader.proofs.Commanding.{when-read, choose-read, while-read, if-no-head, if-no-block, else-no-block, while-no-head, while-no-block, block-missed, block-crowded, block_refused, block-open, block_read, closed-early, ended-early, no-command, ends-sheet, one-command, more-commands, rest-refused}
use Rattle.reader.proofs.reader.Reader.+block_command_if_command_sheet_while_command.Goals as goal

pub block-returns-in_err-seen : goal.block-returns-in_err-seen
block-returns-in_err-seen t c = stops (err_from_is_err_and c.from_residual.result c.from_residual.ensures.1) c.in_err-seen.ensures.same (block-missed c.in_err-seen.ensures.answer)

pub block-returns-in_err-enter : goal.block-returns-in_err-enter
block-returns-in_err-enter t c = stops (err_from_is_err_and c.from_residual-in_err-enter.result c.from_residual-in_err-enter.ensures.1) c.in_ok-seen.ensures.same (block-crowded c.in_ok-seen.ensures.answer (barred c.in_err-enter.ensures))

pub block-returns-in_err-sheet : goal.block-returns-in_err-sheet
block-returns-in_err-sheet t c =
    let entry = c.in_ok-seen.ensures in
    stops (err_from_is_err_and c.from_residual-in_err-sheet.result c.from_residual-in_err-sheet.ensures.1) (c.in_err-sheet.ensures.same ∙ entry.same) (block_refused entry.answer (entered c.in_ok-enter.ensures) (on c.in_err-sheet.ensures entry.same))

pub block-returns-then-ne : goal.block-returns-then-ne
block-returns-then-ne t c =
    let entry = c.in_ok-seen.ensures in
    let sheet = c.in_ok-sheet.ensures in
    record { answer = block-open entry.answer (entered c.in_ok-enter.ensures) (on sheet entry.same) (here (sheet.same ∙ entry.same) c.see-end.ensures) (search rules) c.refusal.ensures; same = sheet.same ∙ entry.same }

pub block-returns : goal.block-returns
block-returns t c =
    let entry = c.in_ok-seen.ensures in
    let sheet = c.in_ok-sheet.ensures in
    record { answer = rw (c.leave.ensures, sym entry.rows) (block_read entry.answer (entered c.in_ok-enter.ensures) (on sheet entry.same) (here (sheet.same ∙ entry.same) c.see-end.ensures) (search rules) c.pass.ensures); same = sheet.same ∙ entry.same }

pub command-returns-in-CloseBlock : goal.command-returns-in-CloseBlock
command-returns-in-CloseBlock t c =
    let s = c.see-seen.result in
    let is = c.in_ok-point.ensures in
    record {
      answer = ⊎_elim (λ e. closed-early c.args.self.now.progress c.see-seen.ensures (seen-taken s c.command_start.ensures is e) c.refusal.ensures) (λ e. ended-early c.args.self.now.progress c.see-seen.ensures (seen-taken s c.command_start.ensures is e) c.refusal.ensures) c.in-CloseBlock.is;
      same = refl;
    }

pub command-returns-in_err-point : goal.command-returns-in_err-point
command-returns-in_err-point t c = stops (err_from_is_err_and c.from_residual.result c.from_residual.ensures.1) refl (λ cs b w. no-command c.args.self.now.progress c.see-seen.ensures c.command_start.ensures c.in_err-point.ensures cs b)

pub if_command-returns-in_err-bracketed : goal.if_command-returns-in_err-bracketed
if_command-returns-in_err-bracketed t c = stops (err_from_is_err_and c.from_residual.result c.from_residual.ensures.1) c.in_err-bracketed.ensures.same (if-no-head c.requires c.pass.ensures c.in_err-bracketed.ensures.answer)

pub if_command-returns-in_err-block : goal.if_command-returns-in_err-block
if_command-returns-in_err-block t c =
    let head = c.in_ok-bracketed.ensures in
    stops (err_from_is_err_and c.from_residual-in_err-block.result c.from_residual-in_err-block.ensures.1) (c.in_err-block.ensures.same ∙ head.same) (if-no-block c.requires c.pass.ensures head.answer (on c.in_err-block.ensures head.same))

pub if_command-returns-then-ne : goal.if_command-returns-then-ne
if_command-returns-then-ne t c =
    let head = c.in_ok-bracketed.ensures in
    let body = c.in_ok-block.ensures in
    record { answer = when-read c.requires c.pass.ensures head.answer (on body head.same) (here (body.same ∙ head.same) c.see-next.ensures) (search rules) c.tell.ensures.value; same = c.tell.ensures.same ∙ body.same ∙ head.same }

pub if_command-returns-in_err-block-2 : goal.if_command-returns-in_err-block-2
if_command-returns-in_err-block-2 t c =
    let head = c.in_ok-bracketed.ensures in
    let body = c.in_ok-block.ensures in
    let same = body.same ∙ head.same in
    stops (err_from_is_err_and c.from_residual-in_err-block-2.result c.from_residual-in_err-block-2.ensures.1) (c.in_err-block-2.ensures.same ∙ same) (else-no-block c.requires c.pass.ensures head.answer (on body head.same) (here same c.see-next.ensures) (search rules) c.pass-2.ensures (on c.in_err-block-2.ensures same))

pub if_command-returns : goal.if_command-returns
if_command-returns t c =
    let head = c.in_ok-bracketed.ensures in
    let body = c.in_ok-block.ensures in
    let same = body.same ∙ head.same in
    record { answer = choose-read c.requires c.pass.ensures head.answer (on body head.same) (here same c.see-next.ensures) (search rules) c.pass-2.ensures (on c.in_ok-block-2.ensures same) c.tell-2.ensures.value; same = c.tell-2.ensures.same ∙ c.in_ok-block-2.ensures.same ∙ same }

pub sheet-returns-in_err-taken : goal.sheet-returns-in_err-taken
sheet-returns-in_err-taken t c =
    let first = c.in_ok-command.ensures in
    stops (err_from_is_err_and c.from_residual-in_err-taken.result c.from_residual-in_err-taken.ensures.1) first.same (λ cs b w. first.answer.moves cs b ∙ no-command c.command.new.self.progress (here first.same c.see-seen.ensures) c.command_start.ensures c.in_err-taken.ensures (first.answer.tree ∷ cs) b)

pub sheet-returns-in-CloseBlock : goal.sheet-returns-in-CloseBlock
sheet-returns-in-CloseBlock t c =
    let first = c.in_ok-command.ensures in
    let s = c.see-seen.result in
    let is = c.in_ok-taken.ensures in
    record {
      answer = one-command first.answer (here first.same c.see-seen.ensures)
          (⊎_elim (λ e. ends-sheet (seen-taken s c.command_start.ensures is e) tt) (λ e. ends-sheet (seen-taken s c.command_start.ensures is e) tt) c.in-CloseBlock.is);
      same = first.same;
    }

pub sheet-returns-in_err-sheet-in_default : goal.sheet-returns-in_err-sheet-in_default
sheet-returns-in_err-sheet-in_default t c =
    let first = c.in_ok-command.ensures in
    stops (err_from_is_err_and c.from_residual-in_err-sheet-in_default.result c.from_residual-in_err-sheet-in_default.ensures.1) (c.in_err-sheet-in_default.ensures.same ∙ first.same) (rest-refused first.answer (here first.same c.see-seen.ensures) (search rules) (search rules) (on c.in_err-sheet-in_default.ensures first.same))

pub sheet-returns-in_ok-sheet-in_default : goal.sheet-returns-in_ok-sheet-in_default
sheet-returns-in_ok-sheet-in_default t c =
    let first = c.in_ok-command.ensures in
    record { answer = more-commands first.answer (here first.same c.see-seen.ensures) (on c.in_ok-sheet-in_default.ensures first.same) c.tell.ensures.value; same = c.tell.ensures.same ∙ c.in_ok-sheet-in_default.ensures.same ∙ first.same }

pub while_command-returns-in_err-bracketed : goal.while_command-returns-in_err-bracketed
while_command-returns-in_err-bracketed t c = stops (err_from_is_err_and c.from_residual.result c.from_residual.ensures.1) c.in_err-bracketed.ensures.same (while-no-head c.requires c.pass.ensures c.in_err-bracketed.ensures.answer)

pub while_command-returns-in_err-block : goal.while_command-returns-in_err-block
while_command-returns-in_err-block t c =
    let head = c.in_ok-bracketed.ensures in
    stops (err_from_is_err_and c.from_residual-in_err-block.result c.from_residual-in_err-block.ensures.1) (c.in_err-block.ensures.same ∙ head.same) (while-no-block c.requires c.pass.ensures head.answer (on c.in_err-block.ensures head.same))

pub while_command-returns : goal.while_command-returns
while_command-returns t c =
    let head = c.in_ok-bracketed.ensures in
    record { answer = while-read c.requires c.pass.ensures head.answer (on c.in_ok-block.ensures head.same) c.tell.ensures.value; same = c.tell.ensures.same ∙ c.in_ok-block.ensures.same ∙ head.same }
