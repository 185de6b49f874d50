-- What a bank means: a list of 0 to 64 numbers whose length stays. All that anybody learns of a bank is what is
-- told here of its list, so these few lines are the whole of it: reading looks one number up, writing replaces one
-- number, and a point past the end is none to the one and a refusal to the other.
use Rattle.std.specs.Prelude.{ℕ, cond, List, length, ℤ, pos, Some, None, Ok, Err, Option, Result, nat_lt, slice_index_or, slice_set}
use Rattle.faults.specs.declared.fault.Fault.{Fault}
use Rattle.faults.specs.declared.causes.Layer.TheVariants.{Bank}
use Rattle.faults.specs.declared.causes.BankCause.TheVariants.{NoPoint}
use Rattle.banks.specs.declared.bank.Writing.{Writing}

-- the refusal of a point that is not there, and of more points than a bank can have
abbrev pub no_point : ℕ → Fault
no_point p = record { layer = Bank NoPoint; figure = p }

-- a point's number, none past the end
abbrev pub told : List ℤ → ℕ → Option ℤ
told xs p = cond (nat_lt p (length xs)) (Some (slice_index_or xs p (pos 0))) None

-- the answer to a write, and the list after it: refused exactly past the end, with nothing changed
abbrev pub wrote : List ℤ → ℕ → ℤ → Result ℤ Fault × List ℤ
wrote xs p v = cond (nat_lt p (length xs)) (Ok v, slice_set xs p v) (Err (no_point p), xs)

-- what a contract says of a writing: the number that stands at the point now. Whatever a writing comes to tell
-- beside it is left out here, and so changes no contract that is stated through this
abbrev pub answer : Result Writing Fault → Result ℤ Fault
answer (Ok w) = Ok w.value
answer (Err f) = Err f
