-- What working a sheet out within an allowance answers, by the state model: it ended, with its cost, at the points
-- that are left; or it stopped, with its cost; or the allowance is spent, and then no outcome of the sheet is within it.
-- Steps are counted from those made before.
use Rattle.std.specs.Prelude.{◌≡◌, ℕ, ◌+◌, ◌<◌, ◌≤◌, Ok, Err, Result}
use Rattle.tables.specs.Trees.{Sheet}
use Rattle.screen.specs.declared.halt.Halt.{Halt}
use Rattle.screen.specs.declared.halt.Halt.TheVariants.{Stopped, Spent}
use Rattle.screen.specs.Works.{Points, Out, done, stop, then, cost}
use Rattle.screen.specs.Model.{Ends}

abbrev pub Ran : Points → Sheet → ℕ → ℕ → Result ℕ Halt → Points → Type 0
Ran p t before allowance (Ok n) p' = (c : ℕ) × (n ≡ before + c) × (n ≤ allowance) × Ends t p (done c p')
Ran p t before allowance (Err (Stopped s)) p' = (c : ℕ) × (s.spent ≡ before + c) × (s.spent ≤ allowance) × Ends t p (stop c s.cause s.place)
Ran p t before allowance (Err Spent) p' = (o : Out Points) → Ends t p o → allowance < before + cost o

-- the same of a sheet with one step after it, where it ended
abbrev pub RanAndOne : Points → Sheet → ℕ → ℕ → Result ℕ Halt → Points → Type 0
RanAndOne p t before allowance (Ok n) p' = (c : ℕ) × (n ≡ before + (c + 1)) × (n ≤ allowance) × Ends t p (done c p')
RanAndOne p t before allowance (Err (Stopped s)) p' = (c : ℕ) × (s.spent ≡ before + c) × (s.spent ≤ allowance) × Ends t p (stop c s.cause s.place)
RanAndOne p t before allowance (Err Spent) p' = (o : Out Points) → Ends t p o → allowance < before + cost (then o (done 1))
