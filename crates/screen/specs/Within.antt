-- A run that came to its end made no more steps than were allowed.
use Rattle.std.specs.Prelude.{ℕ, ◌≤◌, Ok, Err, Result}
use Rattle.screen.specs.declared.halt.Halt.{Halt}
use Rattle.screen.specs.declared.halt.Halt.TheVariants.{Stopped, Spent}

abbrev pub Within : Result ℕ Halt → ℕ → Type 0
Within (Ok n) a = n ≤ a
Within (Err (Stopped s)) a = s.spent ≤ a
Within (Err Spent) a = Unit {0}
