-- What is known where steps are allowed, and where they are not.
use Rattle.std.proofs.Common.{◌≡◌, ℕ, ◌<◌, ◌≤◌, Bool, true, false, cond, leb, Ok, Err, Result, refl}
use Rattle.std.proofs.lemmas.Bool.{leb-true, leb-false}
use Rattle.screen.specs.declared.halt.Halt.{Halt}
use Rattle.screen.specs.declared.halt.Halt.TheVariants.{Stopped, Spent}
use Rattle.screen.specs.declared.halt.Stop.{Stop}
use Rattle.screen.specs.Allowing.{allowed, halted}

pub allowed-ok : (a n : ℕ) {m : ℕ} → Ok m ≡ allowed a n → (m ≡ n) × (n ≤ a)
allowed-ok a n {m} e = go (leb n a) refl e
  where
    go : (b : Bool) → leb n a ≡ b → ◌≡◌ {A = Result ℕ Halt} (Ok m) (cond b (Ok n) (Err Spent)) → (m ≡ n) × (n ≤ a)
    go true l e = (cc, leb-true n a l)
    go false l e = absurd cc

pub allowed-err : (a n : ℕ) {h : Halt} → Err h ≡ allowed a n → (h ≡ Spent) × (a < n)
allowed-err a n {h} e = go (leb n a) refl e
  where
    go : (b : Bool) → leb n a ≡ b → ◌≡◌ {A = Result ℕ Halt} (Err h) (cond b (Ok n) (Err Spent)) → (h ≡ Spent) × (a < n)
    go true l e = absurd cc
    go false l e = (cc, leb-false n a l)

-- what holds of a stop within the allowance, and of a spent one, holds of what the stop comes to
pub halted-by : (a : ℕ) (s : Stop) (P : Halt → Type 0) → (s.spent ≤ a → P (Stopped s)) → (a < s.spent → P Spent) → P (halted a s)
halted-by a s P f g = go (leb s.spent a) refl
  where
    go : (b : Bool) → leb s.spent a ≡ b → P (cond b (Stopped s) Spent)
    go true l = f (leb-true s.spent a l)
    go false l = g (leb-false s.spent a l)
