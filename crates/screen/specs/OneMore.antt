-- A run with one step more after it, where it ended within the allowance.
use Rattle.std.specs.Prelude.{ℕ, ◌+◌, cond, Ok, Err, Result, nat_le}
use Rattle.screen.specs.declared.halt.Halt.{Halt}
use Rattle.screen.specs.declared.halt.Halt.TheVariants.{Spent}

abbrev pub one_more : Result ℕ Halt → ℕ → Result ℕ Halt
one_more (Ok n) a = cond (nat_le a n) (Err Spent) (Ok (n + 1))
one_more (Err h) a = Err h
