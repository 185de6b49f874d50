-- The code of a sheet, for a station with a stack, from the address where it begins; jumps are absolute. Every
-- instruction stands with its row's place. What a part leaves on the stack: a sum its value, a condition 1 or 0, a
-- command nothing. So the code of a part is the code of its own parts and an instruction that works on what they left.
-- Addresses count by the lengths of the parts, which are the folds' own; that a part's code is as long is a law.
use Rattle.std.specs.Prelude.{ℕ, ◌+◌, List, [], ◌∷◌, ◌++◌}
use Rattle.arith.specs.declared.operator.Operator.{Operator}
use Rattle.arith.specs.declared.operator.Operator.TheVariants as operator
use Rattle.instructions.specs.declared.instruction.Instruction.{Instruction}
use Rattle.instructions.specs.declared.instruction.Instruction.TheVariants.{Push, Load, Save, Pop, Add, Sub, Mul, Div, Cmp, Inv, And, Or, JumpF, Jump}
use Rattle.tables.specs.Trees.{Sum, number, name, work, Connective, both, either, Condition, truth, compare, negate, connect, Command, set, when, choose, while, Sheet, only, joint}
use Rattle.tables.specs.Rows.{bit}
use Rattle.folds.specs.CodeLengths.{condition_length, command_length, sheet_length}

-- an instruction and its place
abbrev pub Line : Type 0
Line = Instruction × ℕ

abbrev pub operator_instruction : Operator → Instruction
operator_instruction operator.Add = Add
operator_instruction operator.Sub = Sub
operator_instruction operator.Mul = Mul
operator_instruction operator.Div = Div

abbrev pub connective_instruction : Connective → Instruction
connective_instruction both = And
connective_instruction either = Or

abbrev pub sum_code : Sum → List Line
sum_code (number q v) = (Push v, q) ∷ []
sum_code (name q p) = (Load p, q) ∷ []
sum_code (work q o l r) = sum_code l ++ (sum_code r ++ (operator_instruction o, q) ∷ [])

abbrev pub condition_code : Condition → List Line
condition_code (truth q b) = (Push (bit b), q) ∷ []
condition_code (compare q k l r) = sum_code l ++ (sum_code r ++ (Cmp k, q) ∷ [])
condition_code (negate q c) = condition_code c ++ (Inv, q) ∷ []
condition_code (connect q j c d) = condition_code c ++ (condition_code d ++ (connective_instruction j, q) ∷ [])

-- from address a
abbrev mutual
  pub command_code : ℕ → Command → List Line
  command_code a (set q p e) = sum_code e ++ (Save p, q) ∷ (Pop, q) ∷ []
  -- past the body, where the condition does not hold
  command_code a (when q c t) =
      condition_code c ++ (JumpF (a + condition_length c + 1 + sheet_length t), q) ∷ sheet_code (a + condition_length c + 1) t
  -- to the second body, and from the first one past the second
  command_code a (choose q c t u) =
      condition_code c ++ (JumpF (a + condition_length c + 1 + sheet_length t + 1), q)
      ∷ (sheet_code (a + condition_length c + 1) t ++ (Jump (a + condition_length c + 1 + sheet_length t + 1 + sheet_length u), q)
      ∷ sheet_code (a + condition_length c + 1 + sheet_length t + 1) u)
  -- past the end, and from the body back to the condition
  command_code a (while q c t) =
      condition_code c ++ (JumpF (a + condition_length c + 1 + sheet_length t + 1), q)
      ∷ (sheet_code (a + condition_length c + 1) t ++ (Jump a, q) ∷ [])

  pub sheet_code : ℕ → Sheet → List Line
  sheet_code a (only c) = command_code a c
  sheet_code a (joint q c t) = command_code a c ++ sheet_code (a + command_length c) t

abbrev pub instructions_of : List Line → List Instruction
instructions_of [] = []
instructions_of (x ∷ xs) = x.0 ∷ instructions_of xs

abbrev pub places_of : List Line → List ℕ
places_of [] = []
places_of (x ∷ xs) = x.1 ∷ places_of xs
