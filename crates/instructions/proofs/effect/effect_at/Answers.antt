-- The table's rule is one test at each of its fourteen entries.
use Rattle.std.proofs.Common.{◌≡◌, ℕ, Bool, true, ◌&&◌, eqb, List, [], ◌∷◌, refl}
use Rattle.std.proofs.lemmas.Bool.{and_parts, eqb-true}
use Rattle.instructions.specs.declared.effect.Effect.{Effect}
use Rattle.instructions.specs.Effects.{takes_at, leaves_at, effect_at}
use Rattle.instructions.proofs.Tabled.{each}
use Rattle.instructions.proofs.effect.effect_at.Goals as goal

abbrev effects : List (ℕ × ℕ)
effects = (0, 1) ∷ (0, 1) ∷ (1, 1) ∷ (1, 0) ∷ (2, 1) ∷ (2, 1) ∷ (2, 1) ∷ (2, 1) ∷ (2, 1) ∷ (1, 1) ∷ (2, 1) ∷ (2, 1) ∷ (1, 0) ∷ (0, 0) ∷ []

abbrev right : ℕ → ℕ × ℕ → Bool
right k x = eqb x.0 (takes_at k) && eqb x.1 (leaves_at k)

abbrev effect : ℕ → ℕ → Effect
effect t l = record { takes = t; leaves = l }

the-effect : (k : ℕ) (x : ℕ × ℕ) → right k x ≡ true → effect x.0 x.1 ≡ effect_at k
the-effect k x t =
    let p = and_parts (eqb x.0 (takes_at k)) (eqb x.1 (leaves_at k)) t in
    rw (eqb-true x.0 (takes_at k) p.0, eqb-true x.1 (leaves_at k) p.1)

pub returns : goal.returns
returns c = the-effect c.args.code _ (each right (0, 0) effects refl c.args.code c.requires)
