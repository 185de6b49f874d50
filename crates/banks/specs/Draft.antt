-- What a draft shows: the list of the bank below with the draft's own writes on top. It ends in one of two ways: kept,
-- the bank below comes to be what the draft showed; discarded, the bank below is as it was.
use Rattle.std.specs.Prelude.{List, ℤ, Option}
use Rattle.banks.specs.declared.draft.Draft.{Draft}
use Rattle.banks.specs.Fixed.{Fixed, onto}
use Rattle.banks.specs.Overlay.{overlaid}

-- the bank below, and what was written on top
abbrev pub ground : {X : Type 0} → Draft X → X
ground d = d.below.now

abbrev pub saved : {X : Type 0} → Draft X → List (Option ℤ)
saved d = d.over.held

-- the two together
abbrev pub shown : {X : Type 0} → (X → List ℤ) → Draft X → List ℤ
shown points d = overlaid (points (ground d)) (saved d)

-- what no write to the draft changes: the loan of the bank below, its points and whatever stays of it
abbrev pub stays : {X : Type 0} → (X → List ℤ) → (X → List Fixed) → Draft X → List Fixed
stays points fixed d = onto d.below.ghost_name (points (ground d)) (fixed (ground d))
