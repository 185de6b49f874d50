-- What steps and a stop come to within an allowance.
use Rattle.std.specs.Prelude.{ℕ, Ok, Err, Result, nat_le, if◌then◌else◌}
use Rattle.screen.specs.declared.halt.Halt.{Halt}
use Rattle.screen.specs.declared.halt.Halt.TheVariants.{Stopped, Spent}
use Rattle.screen.specs.declared.halt.Stop.{Stop}

abbrev pub allowed : ℕ → ℕ → Result ℕ Halt
allowed a n = if nat_le n a then Ok n else Err Spent

abbrev pub halted : ℕ → Stop → Halt
halted a s = if nat_le s.spent a then Stopped s else Spent
