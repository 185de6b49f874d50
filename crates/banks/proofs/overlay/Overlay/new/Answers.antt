use Rattle.std.proofs.Common.{refl}
use Rattle.banks.specs.Overlay.{blank}
use Rattle.banks.proofs.Overlaid.{overlaid-blank}
use Rattle.banks.proofs.overlay.Overlay.new.Goals as goal

pub returns : goal.returns
unfolding blank
returns c = record { value = refl; clear = overlaid-blank }
