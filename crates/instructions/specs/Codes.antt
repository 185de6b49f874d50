-- The number of every instruction: what a station file writes for it, in the order of the instruction list.
use Rattle.std.specs.Prelude.{ℕ}
use Rattle.instructions.specs.declared.instruction.Instruction.{Instruction}
use Rattle.instructions.specs.declared.instruction.Instruction.TheVariants.{Push, Load, Save, Pop, Add, Sub, Mul, Div, Cmp, Inv, And, Or, JumpF, Jump}

abbrev pub code_of : Instruction → ℕ
code_of (Push n) = 0
code_of (Load p) = 1
code_of (Save p) = 2
code_of Pop = 3
code_of Add = 4
code_of Sub = 5
code_of Mul = 6
code_of Div = 7
code_of (Cmp r) = 8
code_of Inv = 9
code_of And = 10
code_of Or = 11
code_of (JumpF a) = 12
code_of (Jump a) = 13
