-- That the layout is one. Whoever writes a file and whoever reads it agree on what it holds: what is written is read back
-- the same, and bytes that are read are just those that writing gives. Nothing here knows how either goes about it.
use Rattle.std.specs.Prelude.{◌≡◌, ℕ, true, List, length, take, Ok, Err, Result}
use Rattle.faults.specs.declared.fault.Fault.{Fault}
use Rattle.instructions.specs.declared.instruction.Instruction.{Instruction}
use Rattle.station_file.specs.declared.state.Begin.{Begin}
use Rattle.station_file.specs.declared.state.AfterInstructions.{AfterInstructions}
use Rattle.station_file.specs.declared.state.Written.{Written}
use Rattle.station_file.specs.Layout.{Contents, code_section}
use Rattle.station_file.specs.Rules.{within, RightCode, IsFile}
use Rattle.station_file.specs.Writing.{begun}
use Rattle.station_file.specs.Reading.{contents, reading}

-- of an answer to bytes: whatever they are the file of is read, and what is read is what they are the file of
abbrev pub ReadsBack : List ℕ → Result Contents Fault → Type 0
ReadsBack bytes answer = (f : Contents) → IsFile bytes f → answer ≡ Ok f

abbrev pub OnlyFiles : List ℕ → Result Contents Fault → Type 0
OnlyFiles bytes answer = (f : Contents) → answer ≡ Ok f → IsFile bytes f

-- bytes begin with the first section of a file, which is right, and this is the state after it
pub record Begins (points : ℕ) (code : List Instruction) (bytes : List ℕ) (state : AfterInstructions) : Type 0 where
  pub stands : take state.at bytes ≡ code_section points code
  pub counted : state.count ≡ length code
  pub right-points : within 1 64 points ≡ true
  pub right-count : within 1 1024 (length code) ≡ true
  pub right-code : RightCode points code

-- the first section, written from the beginning
abbrev pub Opens : Begin → ℕ → List Instruction → List ℕ → Result AfterInstructions (Begin × Fault) → Type 0
Opens state points code bytes (Ok next) = state ≡ begun → Begins points code bytes next
Opens state points code bytes (Err e) = Unit {0}

-- the second section, written over bytes that begin with a first: the whole is a file, and it is read back
abbrev pub Completes : AfterInstructions → List ℕ → List ℕ → List ℕ → Result Written (AfterInstructions × Fault) → Type 0
Completes state before places bytes (Ok done) =
    (points : ℕ) (code : List Instruction) → Begins points code before state → IsFile (take done.length bytes) (contents points code places) × (reading (take done.length bytes) ≡ Ok (contents points code places))
Completes state before places bytes (Err e) = Unit {0}
