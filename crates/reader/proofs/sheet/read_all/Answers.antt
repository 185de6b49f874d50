use Rattle.std.proofs.Common.{[], sym, ap, ◌∙◌, arith, rules}
use Rattle.std.proofs.lemmas.Result.{err_from_is_err_and}
use Rattle.grammar.specs.Machine.{whole, refused, run, start}
use Rattle.reader.specs.declared.seen.Refusal.{Refusal}
use Rattle.reader.proofs.Carrying.{here}
use Rattle.reader.proofs.Writing.{sheet-long}
use Rattle.reader.proofs.Wholly.{all-ahead, ends-here, goes_on}
use Rattle.reader.proofs.sheet.read_all.Goals as goal

pub returns-in_err-sheet : goal.returns-in_err-sheet
returns-in_err-sheet c =
    let p = err_from_is_err_and c.from_residual.result c.from_residual.ensures.1 in
    rw (p.1, p.2) (ap (λ ts. run ts 0 start) (all-ahead _ _) ∙ c.in_err-sheet.ensures.answer [] whole tt)

pub returns-then-ne : goal.returns-then-ne
returns-then-ne c =
    let took = c.in_ok-sheet.ensures.answer in
    ap (λ ts. run ts 0 start) (all-ahead _ _) ∙ took.moves [] whole
    ∙ goes_on (here c.in_ok-sheet.ensures.same c.see-end.ensures) c.sheet.new.self.progress.depth took.tree took.ends (search rules)
    ∙ ap (λ (r : Refusal). refused r.cause r.place) (sym c.refusal.ensures)

pub returns : goal.returns
returns c =
    let took = c.in_ok-sheet.ensures.answer in
    record {
      tree = took.tree;
      is =
          ap (λ ts. run ts 0 start) (all-ahead _ _) ∙ took.moves [] whole
          ∙ ends-here (here c.in_ok-sheet.ensures.same c.see-end.ensures) c.sheet.new.self.progress.depth took.tree (search rules) took.joints;
      count = omega (arith, took.wrote.count, sheet-long took.tree);
      rows = search (rules, took.wrote.rows);
    }
