-- What an instruction takes from the stack and leaves on it, by its code. The rule is what the instructions do: those
-- that work on two values take both and leave the result; Inv does so on one; Save looks at a value and leaves it; Pop
-- and JumpF use a value up; Push and Load bring one; Jump has nothing to do with values.
use Rattle.std.specs.Prelude.{ℕ, Bool, cond, ◌&&◌, ◌||◌, ◌==◌, nat_le}
use Rattle.instructions.specs.declared.effect.Effect.{Effect}
use Rattle.instructions.specs.declared.instruction.Instruction.{Instruction}
use Rattle.instructions.specs.Codes.{code_of}

-- Add, Sub, Mul, Div and Cmp; And and Or
abbrev pub on_two_values : ℕ → Bool
on_two_values k = (nat_le 4 k && nat_le k 8) || (k == 10 || k == 11)

-- Save, Pop, Inv and JumpF
abbrev pub on_one_value : ℕ → Bool
on_one_value k = k == 2 || (k == 3 || (k == 9 || k == 12))

-- Pop, JumpF and Jump
abbrev pub leaves_none : ℕ → Bool
leaves_none k = k == 3 || (k == 12 || k == 13)

abbrev pub takes_at : ℕ → ℕ
takes_at k = cond (on_two_values k) 2 (cond (on_one_value k) 1 0)

abbrev pub leaves_at : ℕ → ℕ
leaves_at k = cond (leaves_none k) 0 1

abbrev pub effect_at : ℕ → Effect
effect_at k = record { takes = takes_at k; leaves = leaves_at k }

abbrev pub effect_of : Instruction → Effect
effect_of i = effect_at (code_of i)
