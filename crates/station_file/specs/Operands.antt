-- The instruction that a code byte and an operand are, over so many points and so many instructions: none where there
-- is no such code, or where the operand is none that this instruction may have.
use Rattle.std.specs.Prelude.{ℕ, cond, Some, None, Option, ◌==◌, nat_le, nat_lt}
use Rattle.std.proofs.Common.{to_z}
use Rattle.std.specs.Int.{w32}
use Rattle.arith.specs.declared.comparison.Comparison.{Comparison}
use Rattle.arith.specs.Comparisons.{comparison_at}
use Rattle.instructions.specs.declared.instruction.Instruction.{Instruction}
use Rattle.instructions.specs.declared.instruction.Instruction.TheVariants.{Push, Load, Save, Pop, Add, Sub, Mul, Div, Cmp, Inv, And, Or, JumpF, Jump}

abbrev pub plain : ℕ → Instruction → Option Instruction
plain w i = cond (w == 0) (Some i) None

abbrev pub on_point : ℕ → ℕ → (ℕ → Instruction) → Option Instruction
on_point points w make = cond (nat_lt w points) (Some (make w)) None

abbrev pub to_address : ℕ → ℕ → (ℕ → Instruction) → Option Instruction
to_address count w make = cond (nat_le w count) (Some (make w)) None

abbrev pub comparing : Option Comparison → Option Instruction
comparing (Some r) = Some (Cmp r)
comparing None = None

abbrev pub decoded : ℕ → ℕ → ℕ → ℕ → Option Instruction
decoded points count c w =
    cond (c == 0) (Some (Push (to_z w32 w))) (cond (c == 1) (on_point points w Load) (cond (c == 2) (on_point points w Save)
    (cond (c == 3) (plain w Pop) (cond (c == 4) (plain w Add) (cond (c == 5) (plain w Sub) (cond (c == 6) (plain w Mul)
    (cond (c == 7) (plain w Div) (cond (c == 8) (comparing (comparison_at w)) (cond (c == 9) (plain w Inv)
    (cond (c == 10) (plain w And) (cond (c == 11) (plain w Or) (cond (c == 12) (to_address count w JumpF)
    (cond (c == 13) (to_address count w Jump) None)))))))))))))
