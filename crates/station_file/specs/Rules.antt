-- What may stand in a file: 1 to 64 points, 1 to 1,024 instructions and as many places; points below the point count
-- and addresses up to the instruction count, which is where a run ends. Comparisons need no rule here, since an
-- instruction holds one of the six. Bytes are a file when they are the layout of something that keeps these rules.
use Rattle.std.specs.Prelude.{◌≡◌, ℕ, ◌<◌, Bool, true, ◌&&◌, List, [], ◌∷◌, length, FitsSigned, nat_le, nat_lt}
use Rattle.std.specs.Int.{w32}
use Rattle.instructions.specs.declared.instruction.Instruction.{Instruction}
use Rattle.instructions.specs.declared.instruction.Instruction.TheVariants.{Push, Load, Save, Pop, Add, Sub, Mul, Div, Cmp, Inv, And, Or, JumpF, Jump}
use Rattle.station_file.specs.Layout.{Contents, file_bytes}

-- at least this, at most that
abbrev pub within : ℕ → ℕ → ℕ → Bool
within low high n = nat_le low n && nat_le n high

-- an instruction among so many points and so many instructions
abbrev pub allowed : ℕ → ℕ → Instruction → Bool
allowed points count (Push n) = true
allowed points count (Load p) = nat_lt p points
allowed points count (Save p) = nat_lt p points
allowed points count Pop = true
allowed points count Add = true
allowed points count Sub = true
allowed points count Mul = true
allowed points count Div = true
allowed points count (Cmp r) = true
allowed points count Inv = true
allowed points count And = true
allowed points count Or = true
allowed points count (JumpF a) = nat_le a count
allowed points count (Jump a) = nat_le a count

-- what the types of an instruction and of a place say of them: their numbers have 32 and 16 bits
abbrev pub Held : Instruction → Type 0
Held (Push n) = FitsSigned w32 n
Held (Load p) = Unit {0}
Held (Save p) = Unit {0}
Held Pop = Unit {0}
Held Add = Unit {0}
Held Sub = Unit {0}
Held Mul = Unit {0}
Held Div = Unit {0}
Held (Cmp r) = Unit {0}
Held Inv = Unit {0}
Held And = Unit {0}
Held Or = Unit {0}
Held (JumpF a) = Unit {0}
Held (Jump a) = Unit {0}

unfoldable pub Each : {X : Type 0} → (X → Type 0) → List X → Type 0
Each P [] = Unit {0}
Each P (x ∷ xs) = P x × Each P xs

abbrev pub RightInstruction : ℕ → ℕ → Instruction → Type 0
RightInstruction points count i = (allowed points count i ≡ true) × Held i

abbrev pub RightCode : ℕ → List Instruction → Type 0
RightCode points code = Each (RightInstruction points (length code)) code

abbrev pub RightPlace : ℕ → Type 0
RightPlace p = p < 65536

pub record Right (f : Contents) : Type 0 where
  pub points : within 1 64 f.points ≡ true
  pub count : within 1 1024 (length f.code) ≡ true
  pub code : RightCode f.points f.code
  pub as_many : length f.places ≡ length f.code
  pub places : Each RightPlace f.places

-- bytes that are a file, and what it tells
pub record IsFile (bytes : List ℕ) (f : Contents) : Type 0 where
  pub laid : bytes ≡ file_bytes f
  pub right : Right f
