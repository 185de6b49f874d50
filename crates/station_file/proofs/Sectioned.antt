-- A section that is refused or written, from what the code has found out of it.
use Rattle.std.proofs.Common.{◌≡◌, ℕ, ◌+◌, ◌*◌, ◌≤◌, List, ◌++◌, length, refl, arith}
use Rattle.std.specs.List.{flat_map}
use Rattle.instructions.specs.declared.instruction.Instruction.{Instruction}
use Rattle.station_file.specs.Layout.{two_bytes, instruction_bytes, code_section, places_section, put}
use Rattle.station_file.proofs.Puts.{length-joined, put-put}

pub length-code : (points : ℕ) (is : List Instruction) → length (code_section points is) ≡ 4 + 5 * length is
length-code points is = let e = length-joined instruction_bytes 5 (λ _. refl) is in omega arith

pub length-places : (ps : List ℕ) → length (places_section ps) ≡ 2 + 2 * length ps
length-places ps = let e = length-joined two_bytes 2 (λ _. refl) ps in omega arith

-- the parts of the sections, put down one after another
pub code_put : (at points count : ℕ) (is : List Instruction) (bs cs ds es : List ℕ) → at + 4 ≤ length bs → count ≡ length is → cs ≡ put at (two_bytes points) bs → ds ≡ put (at + 2) (two_bytes count) cs → es ≡ put (at + 4) (flat_map instruction_bytes is) ds → es ≡ put at (code_section points is) bs
code_put at points count is bs cs ds es h n c d e =
    let counts = put-put at (at + 2) (two_bytes points) (two_bytes count) bs refl (omega arith) in
    let all = put-put at (at + 4) (two_bytes points ++ two_bytes count) (flat_map instruction_bytes is) bs refl h in
    cc

pub places-put : (at count : ℕ) (ps bs cs ds : List ℕ) → at + 2 ≤ length bs → count ≡ length ps → cs ≡ put at (two_bytes count) bs → ds ≡ put (at + 2) (flat_map two_bytes ps) cs → ds ≡ put at (places_section ps) bs
places-put at count ps bs cs ds h n c d = let all = put-put at (at + 2) (two_bytes count) (flat_map two_bytes ps) bs refl h in cc
