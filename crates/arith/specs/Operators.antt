-- What the four operators give. A reader can believe it because it is whole-number arithmetic, which has no
-- limits, and one rule apart from it for what happens at the limits of signed 32 bits.
use Rattle.std.specs.Prelude.{zero, suc, Bool, true, false, cond, ℤ, pos, negsuc, ◌+ℤ◌, ◌-ℤ◌, ◌*ℤ◌, Ok, Err, Result, int_div}
use Rattle.std.specs.Int.{int_wrap, w32}
use Rattle.faults.specs.declared.causes.RunCause.{RunCause}
use Rattle.faults.specs.declared.causes.RunCause.TheVariants.{ZeroDivisor}
use Rattle.arith.specs.declared.operator.Operator.{Operator}
use Rattle.arith.specs.declared.operator.Operator.TheVariants.{Add, Sub, Mul, Div}

-- the whole-number result; a quotient goes toward zero
abbrev pub whole : Operator → ℤ → ℤ → ℤ
whole Add x y = x +ℤ y
whole Sub x y = x -ℤ y
whole Mul x y = x *ℤ y
whole Div x y = int_div x y

abbrev pub is_zero : ℤ → Bool
is_zero (pos zero) = true
is_zero (pos (suc n)) = false
is_zero (negsuc n) = false

-- only a division has a divisor
abbrev pub zero_divisor : Operator → ℤ → Bool
zero_divisor Add y = false
zero_divisor Sub y = false
zero_divisor Mul y = false
zero_divisor Div y = is_zero y

-- a whole number brought into 32 bits: it wraps modulo 2^32
abbrev pub fitted : ℤ → Result ℤ RunCause
fitted z = Ok (int_wrap w32 z)

-- a value, or the cause for which the run stops
abbrev pub worked : Operator → ℤ → ℤ → Result ℤ RunCause
worked op x y = cond (zero_divisor op y) (Err ZeroDivisor) (fitted (whole op x y))
