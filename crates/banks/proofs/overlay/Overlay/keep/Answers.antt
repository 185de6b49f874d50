use Rattle.std.proofs.Common.{◌<◌, None, List, length, ℤ, Result, sym, refl, ap, ◌∙◌, subst, arith, w32, SFits, rules}
use Rattle.std.proofs.lemmas.Int.{to_z-of_z}
use Rattle.std.proofs.lemmas.List.{get_or-take}
use Rattle.faults.specs.declared.fault.Fault.{Fault}
use Rattle.banks.specs.Points.{wrote}
use Rattle.banks.specs.Laws.{Direct, AsOne}
use Rattle.banks.proofs.Overlaid.{overlaid-nil, overlaid-more, overlaid-all, one-down}
use Rattle.banks.proofs.Drafts.{is-direct, is_one}
use Rattle.banks.proofs.overlay.Overlay.keep.Goals.{in-Some, in_default}
use Rattle.banks.proofs.overlay.Overlay.keep.Goals as goal

pub loop-point-init : goal.loop-point-init
loop-point-init g c = (sym (overlaid-nil _), refl)

pub loop-point-preserved : goal.loop-point-preserved
loop-point-preserved g c =
    let xs = g.B.Bank.points c.args.bank.now in
    let n = c.args.self.now.whole in
    let h : c.loop-point.point < length c.args.self.now.held = omega arith in
    let e = get_or-take c.count-count.result c.args.self.now.held c.loop-point.point None (omega arith) in
    let m = overlaid-more xs c.args.self.now.held c.loop-point.point h in
    elim c.match-on_top.branch [
      | in-Some w ↦
          let v = w.in-Some.value in
          let f : SFits w32 v = search rules in (
            ap g.B.Bank.points w.bank-is
                ∙ ap (λ (t : Result ℤ Fault × List ℤ). t.1) w.write.ensures.value
                ∙ ap (λ (x : ℤ). (wrote (g.B.Bank.points c.loop-point.bank) c.loop-point.point x).1) (to_z-of_z w32 v f)
                ∙ one-down _ xs c.args.self.now.held c.loop-point.point v h c.loop-point.invariant.0 (sym e ∙ w.in-Some.is),
            grind arith,
          )
      | in_default w ↦ (grind arith, grind arith)
    ]

pub returns : goal.returns
returns g c =
    let xs = g.B.Bank.points c.args.bank.now in
    let os = c.args.self.now.held in
    let e = overlaid-all (g.B.Bank.points c.loop-point.bank) xs os c.loop-point.point c.loop-point.invariant.0 (omega arith) in
    record {
      value = e;
      same = c.loop-point.invariant.1;
      direct = subst (Direct xs os) (sym e) (is-direct xs os (omega arith));
      one = subst (AsOne xs os) (sym e) (is_one xs os);
    }
