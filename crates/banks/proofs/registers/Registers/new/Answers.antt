use Rattle.std.proofs.Common.{◌≤◌, replicate, pos, Ok, Err, sym, ap, ◌∙◌, arith}
use Rattle.std.proofs.lemmas.List.{take-replicate}
use Rattle.std.proofs.lemmas.Bool.{cond-false, le-ltb}
use Rattle.banks.specs.Points.{no_point}
use Rattle.banks.proofs.registers.Registers.new.Goals as goal

pub returns : goal.returns
returns c =
    let h : c.args.count ≤ 64 = omega arith in
    ap Ok (take-replicate c.args.count 64 (pos 0) h) ∙ sym (cond-false _ (Err (no_point c.args.count)) (Ok (replicate c.args.count (pos 0))) (le-ltb 64 c.args.count h))
