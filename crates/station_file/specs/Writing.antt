-- What each call of the writer answers, and the bytes after it. A section that is larger than the space left is refused
-- with its bytes; then one with something wrong, with the smallest index that is. A refusal hands the state back and
-- leaves every byte; otherwise the section's bytes stand at the state's position, and all around them is as it was.
use Rattle.std.specs.Prelude.{ℕ, suc, ◌+◌, ◌-◌, min, cond, ◌&&◌, List, [], ◌∷◌, length, Some, None, Ok, Err, Option, Result, ◌==◌, nat_lt}
use Rattle.faults.specs.declared.fault.Fault.{Fault}
use Rattle.faults.specs.declared.causes.Layer.TheVariants.{File}
use Rattle.faults.specs.declared.causes.FileCause.TheVariants.{NoSpace, NoFile}
use Rattle.instructions.specs.declared.instruction.Instruction.{Instruction}
use Rattle.station_file.specs.declared.state.Begin.{Begin}
use Rattle.station_file.specs.declared.state.AfterInstructions.{AfterInstructions}
use Rattle.station_file.specs.declared.state.Written.{Written}
use Rattle.station_file.specs.Layout.{code_section, places_section, put}
use Rattle.station_file.specs.Rules.{within, allowed}

abbrev pub no_space : ℕ → Fault
no_space size = record { layer = File NoSpace; figure = size }

abbrev pub not_right : ℕ → Fault
not_right where-it-is = record { layer = File NoFile; figure = where-it-is }

-- any section: the state that stays, the next one, the position, the section's bytes, and what is wrong with it
abbrev pub judged : {S T : Type 0} → S → T → ℕ → List ℕ → List ℕ → Option ℕ → Result T (S × Fault) × List ℕ
judged state next at section bytes (Some i) = (Err (state, not_right i), bytes)
judged state next at section bytes None = (Ok next, put at section bytes)

abbrev pub section_written : {S T : Type 0} → S → T → ℕ → List ℕ → Option ℕ → List ℕ → Result T (S × Fault) × List ℕ
section_written state next at section wrong bytes =
    cond (nat_lt (length bytes - at) (length section)) (Err (state, no_space (length section)), bytes)
    (judged state next at section bytes wrong)

-- the first wrong instruction from the i-th on; the 1,025th is one too many, whatever it is
unfoldable pub first_wrong : ℕ → ℕ → ℕ → List Instruction → Option ℕ
first_wrong points count i [] = None
first_wrong points count i (x ∷ xs) = cond (nat_lt i 1024 && allowed points count x) (first_wrong points count (suc i) xs) (Some i)

-- a wrong point count goes with the first instruction, and so does a first one that is missing
abbrev pub wrong_code : ℕ → List Instruction → Option ℕ
wrong_code points code = cond (within 1 64 points && nat_lt 0 (length code)) (first_wrong points (length code) 0 code) (Some 0)

-- the first place that is missing, or too many
abbrev pub wrong_places : ℕ → ℕ → Option ℕ
wrong_places count given = cond (given == count) None (Some (min given count))

abbrev pub begun : Begin
begun = record { at = 0 }

abbrev pub after_code : Begin → ℕ → List Instruction → AfterInstructions
after_code state points code = record { at = state.at + length (code_section points code); count = length code }

abbrev pub finished : AfterInstructions → List ℕ → Written
finished state places = record { length = state.at + length (places_section places) }

abbrev pub code_written : Begin → ℕ → List ℕ → List Instruction → Result AfterInstructions (Begin × Fault) × List ℕ
code_written state points bytes code =
    section_written state (after_code state points code) state.at (code_section points code) (wrong_code points code) bytes

abbrev pub places_written : AfterInstructions → List ℕ → List ℕ → Result Written (AfterInstructions × Fault) × List ℕ
places_written state bytes places =
    section_written state (finished state places) state.at (places_section places) (wrong_places state.count (length places)) bytes
