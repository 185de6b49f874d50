-- What the reader answers: what a file tells, or the position of the first wrong field. The fields are judged in the
-- order of the layout, each from the bytes that begin where it does, so one that is cut short or missing is wrong there.
-- A code byte is a field, and so is its operand. What is read this way is just what the layout lays: that is a law
-- on the reader's contract, so this page need not be believed, only compared with the refusals one wants.
use Rattle.std.specs.Prelude.{ℕ, zero, suc, ◌+◌, ◌*◌, cond, List, [], ◌∷◌, ◌++◌, length, take, drop, Some, None, Ok, Err, Option, Result, nat_le}
use Rattle.faults.specs.declared.fault.Fault.{Fault}
use Rattle.instructions.specs.declared.instruction.Instruction.{Instruction}
use Rattle.station_file.specs.declared.file.StationFile.{StationFile}
use Rattle.station_file.specs.Layout.{Contents}
use Rattle.station_file.specs.Rules.{within}
use Rattle.station_file.specs.Operands.{decoded}
use Rattle.station_file.specs.Writing.{not_right}

-- one thing read, and then what is read after it
abbrev pub then : {X Y : Type 0} → Result X Fault → (X → Result Y Fault) → Result Y Fault
then (Ok x) next = next x
then (Err f) next = Err f

-- a field's value, or the refusal of it at its position
abbrev pub or_wrong : {X : Type 0} → ℕ → Option X → Result X Fault
or_wrong at (Some x) = Ok x
or_wrong at None = Err (not_right at)

-- so many bytes at the front, and the number in them; none where they are cut short
abbrev pub first_of : ℕ → List ℕ → Option (List ℕ)
first_of n bs = cond (nat_le n (length bs)) (Some (take n bs)) None

abbrev pub two_of : List ℕ → Option ℕ
two_of [] = None
two_of (a ∷ []) = None
two_of (a ∷ b ∷ bs) = Some (a + b * 256)

abbrev pub four_of : List ℕ → Option ℕ
four_of [] = None
four_of (a ∷ []) = None
four_of (a ∷ b ∷ []) = None
four_of (a ∷ b ∷ c ∷ []) = None
four_of (a ∷ b ∷ c ∷ d ∷ bs) = Some (a + b * 256 + c * 65536 + d * 16777216)

-- a count, which has a least and a greatest value
abbrev pub counted : ℕ → ℕ → Option ℕ → Option ℕ
counted low high (Some n) = cond (within low high n) (Some n) None
counted low high None = None

abbrev pub count_field : ℕ → ℕ → ℕ → List ℕ → Result ℕ Fault
count_field low high at bs = or_wrong at (counted low high (two_of bs))

-- a code byte, and the operand that goes with it
abbrev pub code_byte : List ℕ → Option ℕ
code_byte [] = None
code_byte (c ∷ bs) = cond (nat_le c 13) (Some c) None

abbrev pub with_operand : ℕ → ℕ → ℕ → Option ℕ → Option Instruction
with_operand points count c (Some w) = decoded points count c w
with_operand points count c None = None

abbrev pub instruction_field : ℕ → ℕ → ℕ → List ℕ → Result Instruction Fault
instruction_field points count at bs = then (or_wrong at (code_byte bs)) (λ c. or_wrong (at + 1) (with_operand points count c (four_of (drop 1 bs))))

abbrev pub place_field : ℕ → List ℕ → Result ℕ Fault
place_field at bs = or_wrong at (two_of bs)

-- so many of one kind, each of the same width, after those already read
unfoldable pub fields : {X : Type 0} → (ℕ → List ℕ → Result X Fault) → ℕ → ℕ → List X → ℕ → List ℕ → Result (List X) Fault
fields field width zero before at bs = Ok before
fields field width (suc k) before at bs = then (field at bs) (λ x. fields field width k (before ++ x ∷ []) (at + width) (drop width bs))

abbrev pub nothing_after : ℕ → List ℕ → Contents → Result Contents Fault
nothing_after at [] f = Ok f
nothing_after at (b ∷ bs) f = Err (not_right at)

abbrev pub contents : ℕ → List Instruction → List ℕ → Contents
contents points code places = record { points = points; code = code; places = places }

-- after the two counts: the instructions, the places' count, the places, and nothing more
abbrev pub reading_after : List ℕ → ℕ → ℕ → Result Contents Fault
reading_after bs points n =
    then (fields (instruction_field points n) 5 n [] 4 (drop 4 bs)) (λ code. then (count_field n n (4 + 5 * n) (drop (4 + 5 * n) bs))
    (λ _. then (fields place_field 2 n [] (6 + 5 * n) (drop (6 + 5 * n) bs)) (λ places. nothing_after (6 + 7 * n) (drop (6 + 7 * n) bs) (contents points code places))))

abbrev pub reading : List ℕ → Result Contents Fault
reading bs = then (count_field 1 64 0 bs) (λ points. then (count_field 1 1024 2 (drop 2 bs)) (reading_after bs points))

-- what a file that was read holds: as much of its slots as it counts
abbrev pub contents_of : StationFile → Contents
contents_of f = contents f.counts.points (take f.counts.instructions f.instructions) (take f.counts.instructions f.places)

abbrev pub told : Result StationFile Fault → Result Contents Fault
told (Ok f) = Ok (contents_of f)
told (Err f) = Err f

-- what stands in the first n of many slots that were filled
abbrev pub filled : {X : Type 0} → ℕ → Result (List X) Fault → Result (List X) Fault
filled n (Ok xs) = Ok (take n xs)
filled n (Err f) = Err f
