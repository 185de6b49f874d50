use Rattle.std.proofs.Common.{◌≡◌, take}
use Rattle.banks.specs.Overlay.{overlaid}
use Rattle.banks.proofs.overlay.Overlay.keep.Given as goal

-- the points so far are written down, and those after them are not
abbrev pub invariant-loop-point : goal.invariant-loop-point
invariant-loop-point g l =
    (g.B.Bank.points l.bank ≡ overlaid (g.B.Bank.points l.initial.bank) (take l.point l.self.held)) × (g.B.Bank.fixed l.bank ≡ g.B.Bank.fixed l.initial.bank)
