-- The points of registers, and registers at the start: a given count of zeros, or the refusal of a count that no bank can
-- have.
use Rattle.std.specs.Prelude.{ℕ, cond, List, replicate, take, ℤ, pos, Ok, Err, Result, nat_lt}
use Rattle.faults.specs.declared.fault.Fault.{Fault}
use Rattle.banks.specs.Points.{no_point}
use Rattle.banks.specs.declared.registers.Registers.{Registers}

abbrev pub cleared : ℕ → Result (List ℤ) Fault
cleared n = cond (nat_lt 64 n) (Err (no_point n)) (Ok (replicate n (pos 0)))

-- the points of the bank that was made, where one was made
abbrev pub points_in : {X : Type 0} → (X → List ℤ) → Result X Fault → Result (List ℤ) Fault
points_in points (Ok x) = Ok (points x)
points_in points (Err f) = Err f

-- as many numbers as the registers count
abbrev pub numbers_of : Registers → List ℤ
numbers_of x = take x.count x.numbers

abbrev pub made : Result Registers Fault → Result (List ℤ) Fault
made r = points_in numbers_of r
