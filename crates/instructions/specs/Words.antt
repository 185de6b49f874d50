-- How a listing shows an instruction: its name, and its operand where it has one. A comparison is shown as in a sheet.
use Rattle.std.specs.Prelude.{ℕ, List, ◌++◌, codes, decimal}
use Rattle.std.specs.Fmt.{signed_decimal}
use Rattle.arith.specs.Comparisons.{sign_of}
use Rattle.instructions.specs.declared.instruction.Instruction.{Instruction}
use Rattle.instructions.specs.declared.instruction.Instruction.TheVariants.{Push, Load, Save, Pop, Add, Sub, Mul, Div, Cmp, Inv, And, Or, JumpF, Jump}

abbrev pub instruction_words : Instruction → List ℕ
instruction_words (Push n) = codes "Push " ++ signed_decimal n
instruction_words (Load p) = codes "Load " ++ decimal p
instruction_words (Save p) = codes "Save " ++ decimal p
instruction_words Pop = codes "Pop"
instruction_words Add = codes "Add"
instruction_words Sub = codes "Sub"
instruction_words Mul = codes "Mul"
instruction_words Div = codes "Div"
instruction_words (Cmp r) = codes "Cmp " ++ sign_of r
instruction_words Inv = codes "Inv"
instruction_words And = codes "And"
instruction_words Or = codes "Or"
instruction_words (JumpF a) = codes "JumpF " ++ decimal a
instruction_words (Jump a) = codes "Jump " ++ decimal a
