use Rattle.std.proofs.lemmas.Result.{err_from_is_err_and}
use Rattle.reader.specs.Wholes.{refuses}
use Rattle.reader.proofs.sheet.read_under.Goals as goal

pub returns-in_err-read_all : goal.returns-in_err-read_all
returns-in_err-read_all c =
    let p = err_from_is_err_and c.from_residual.result c.from_residual.ensures.1 in
    rw p.1 (refuses _ c.if-sheet-gt-MOST_BYTES.false c.in_err-read_all.ensures p.2)
