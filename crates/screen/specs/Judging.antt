-- What judging a condition and the step after it answers, within an allowance: whether it holds, with the steps made so
-- far; or it stopped; or the allowance is spent before the step after it.
use Rattle.std.specs.Prelude.{◌≡◌, ℕ, ◌+◌, ◌<◌, ◌≤◌, Bool, Ok, Err, Result}
use Rattle.tables.specs.Trees.{Condition}
use Rattle.screen.specs.declared.halt.Halt.{Halt}
use Rattle.screen.specs.declared.halt.Halt.TheVariants.{Stopped, Spent}
use Rattle.screen.specs.Works.{Points, Out, done, stop, lost, condition_work}

-- the least that a command costs whose condition comes to this
abbrev pub least : Out Bool → ℕ
least (done c b) = c + 1
least (stop c x q) = c
least lost = 0

abbrev pub JudgedAs : Condition → Points → ℕ → ℕ → Result (Bool × ℕ) Halt → Type 0
JudgedAs h p before allowance (Ok v) = (c : ℕ) × (v.1 ≡ before + (c + 1)) × (v.1 ≤ allowance) × (condition_work h p ≡ done c v.0)
JudgedAs h p before allowance (Err (Stopped s)) =
    (c : ℕ) × (s.spent ≡ before + c) × (s.spent ≤ allowance) × (condition_work h p ≡ stop c s.cause s.place)
JudgedAs h p before allowance (Err Spent) = allowance < before + least (condition_work h p)
