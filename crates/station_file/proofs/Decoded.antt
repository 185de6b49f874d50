-- Instructions and their codes and operands, both ways.
use Rattle.std.proofs.Common.{◌≡◌, ℕ, ◌^◌, ◌<◌, ◌≤◌, true, cond, leb, Some, None, Option, sym, refl, ap, ◌∙◌, subst, rules, arith, w32, of_z, to_z}
use borrow.Author.Gap.{read_sfits}
use Rattle.std.proofs.lemmas.Bool.Decides.{nat_tests}
use Rattle.std.proofs.lemmas.Int.{to_z-of_z, of_z-to_z, ints}
use Rattle.instructions.specs.declared.instruction.Instruction.{Instruction}
use Rattle.instructions.specs.declared.instruction.Instruction.TheVariants.{Push, Load, Save, Pop, Add, Sub, Mul, Div, Cmp, Inv, And, Or, JumpF, Jump}
use Rattle.instructions.specs.Codes.{code_of}
use Rattle.station_file.specs.Layout.{operand_of}
use Rattle.station_file.specs.Rules.{allowed, RightInstruction}
use Rattle.station_file.specs.Operands.{decoded}

-- what stands once it is judged
abbrev pub if_allowed : ℕ → ℕ → Option Instruction → Option Instruction
if_allowed points count (Some i) = cond (allowed points count i) (Some i) None
if_allowed points count None = None

pub code-low : (i : Instruction) → leb (code_of i) 13 ≡ true
code-low i = search rules

module _ (points count : ℕ) (few-points : points ≤ 64) (few : count ≤ 1024) where
  pub operand_low : (i : Instruction) → RightInstruction points count i → operand_of i < 2 ^ 32
  operand_low i r = grind (arith, nat_tests, ints)

  pub decoded-allowed : (c w : ℕ) → if_allowed points count (decoded 256 65535 c w) ≡ decoded points count c w
  decoded-allowed c w = grind (arith, nat_tests)

  pub decoded-back : (i : Instruction) → RightInstruction points count i → decoded points count (code_of i) (operand_of i) ≡ Some i
  decoded-back (Push n) r = ap (λ z. Some (Push z)) (to_z-of_z w32 n r.1)
  decoded-back (Load p) r = grind (arith, nat_tests)
  decoded-back (Save p) r = grind (arith, nat_tests)
  decoded-back Pop r = refl
  decoded-back Add r = refl
  decoded-back Sub r = refl
  decoded-back Mul r = refl
  decoded-back Div r = refl
  decoded-back (Cmp k) r = grind arith
  decoded-back Inv r = refl
  decoded-back And r = refl
  decoded-back Or r = refl
  decoded-back (JumpF a) r = grind (arith, nat_tests)
  decoded-back (Jump a) r = grind (arith, nat_tests)

-- what was decoded has this code and this operand, and may stand there
pub record Decodes (points count c w : ℕ) (i : Instruction) : Type 0 where
  pub code : code_of i ≡ c
  pub operand : operand_of i ≡ w
  pub right : RightInstruction points count i

module _ (points count w : ℕ) (fits : w < 2 ^ 32) where
  operand-only : (i : Instruction) → decoded points count (code_of i) w ≡ Some i → operand_of i ≡ w
  operand-only (Push n) e = let z : to_z w32 w ≡ n = cc e in ap (of_z w32) (sym z) ∙ of_z-to_z w32 w fits
  operand-only (Load p) e = grind (arith, nat_tests)
  operand-only (Save p) e = grind (arith, nat_tests)
  operand-only Pop e = grind (arith, nat_tests)
  operand-only Add e = grind (arith, nat_tests)
  operand-only Sub e = grind (arith, nat_tests)
  operand-only Mul e = grind (arith, nat_tests)
  operand-only Div e = grind (arith, nat_tests)
  operand-only (Cmp k) e = grind (arith, nat_tests)
  operand-only Inv e = grind (arith, nat_tests)
  operand-only And e = grind (arith, nat_tests)
  operand-only Or e = grind (arith, nat_tests)
  operand-only (JumpF a) e = grind (arith, nat_tests)
  operand-only (Jump a) e = grind (arith, nat_tests)

  code-only : (c : ℕ) (i : Instruction) → decoded points count c w ≡ Some i → code_of i ≡ c
  code-only c i e = grind (arith, nat_tests)

  right-only : (c : ℕ) (i : Instruction) → decoded points count c w ≡ Some i → RightInstruction points count i
  right-only c i e = (grind (arith, nat_tests), grind (arith, nat_tests, read_sfits))

  pub decoded-only : (c : ℕ) (i : Instruction) → decoded points count c w ≡ Some i → Decodes points count c w i
  decoded-only c i e =
      let code = code-only c i e in
      record { code = code; operand = operand-only i (subst (λ (k : ℕ). decoded points count k w ≡ Some i) (sym code) e); right = right-only c i e }
