use Rattle.std.proofs.Common.{sym, ◌∙◌}
use Rattle.banks.proofs.Words.{laid-words}
use Rattle.banks.proofs.kept.Kept.bytes.Goals as goal

pub returns : goal.returns
returns c =
    record { value = c.known.ensures.value ∙ sym (laid-words 64 _ c.known.ensures.small); whole = c.known.ensures.value }
