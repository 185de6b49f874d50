-- A station file, to the byte. First the point count; then the count of the instructions and each of them, a code byte
-- and a four-byte operand; then the count of the places and each of them. Counts and places have two bytes, and
-- everything stands low byte first. Writing puts these bytes down and reading takes just them, so this page is the one
-- place that says what a file is.
use Rattle.std.specs.Prelude.{ℕ, ◌/◌, ◌%◌, List, [], ◌∷◌, ◌++◌, length, take, drop}
use Rattle.std.proofs.Common.{of_z}
use Rattle.std.specs.Int.{w32}
use Rattle.std.specs.List.{flat_map}
use Rattle.arith.specs.Comparisons.{comparison_number}
use Rattle.instructions.specs.declared.instruction.Instruction.{Instruction}
use Rattle.instructions.specs.declared.instruction.Instruction.TheVariants.{Push, Load, Save, Pop, Add, Sub, Mul, Div, Cmp, Inv, And, Or, JumpF, Jump}
use Rattle.instructions.specs.Codes.{code_of}

-- what a file tells: the point count, the instructions, and the place of each
pub record Contents : Type 0 where
  pub points : ℕ
  pub code : List Instruction
  pub places : List ℕ

-- a number in two bytes and in four
abbrev pub two_bytes : ℕ → List ℕ
two_bytes n = (n % 256) ∷ (n / 256 % 256) ∷ []

abbrev pub four_bytes : ℕ → List ℕ
four_bytes n = (n % 256) ∷ (n / 256 % 256) ∷ (n / 65536 % 256) ∷ (n / 16777216 % 256) ∷ []

-- the operand, 0 where an instruction has none; a number is in two's complement
abbrev pub operand_of : Instruction → ℕ
operand_of (Push n) = of_z w32 n
operand_of (Load p) = p
operand_of (Save p) = p
operand_of Pop = 0
operand_of Add = 0
operand_of Sub = 0
operand_of Mul = 0
operand_of Div = 0
operand_of (Cmp r) = comparison_number r
operand_of Inv = 0
operand_of And = 0
operand_of Or = 0
operand_of (JumpF a) = a
operand_of (Jump a) = a

abbrev pub instruction_bytes : Instruction → List ℕ
instruction_bytes i = code_of i ∷ four_bytes (operand_of i)

-- the two sections, and the file
abbrev pub code_section : ℕ → List Instruction → List ℕ
code_section points code = two_bytes points ++ (two_bytes (length code) ++ flat_map instruction_bytes code)

abbrev pub places_section : List ℕ → List ℕ
places_section places = two_bytes (length places) ++ flat_map two_bytes places

abbrev pub file_bytes : Contents → List ℕ
file_bytes f = code_section f.points f.code ++ places_section f.places

-- bytes after some others were put at a position: those, and all around them as they were
abbrev pub put : ℕ → List ℕ → List ℕ → List ℕ
put at section bytes = take at bytes ++ (section ++ drop (length section) (drop at bytes))
