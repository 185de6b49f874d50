-- The reading of a whole file, from what was read field by field.
use Rattle.std.proofs.Common.{◌≡◌, ℕ, ◌+◌, ◌*◌, ◌<◌, ◌≤◌, List, [], length, drop, Ok, Err, Result, arith}
use Rattle.std.proofs.lemmas.List.{length-drop, drop_all}
use Rattle.faults.specs.declared.fault.Fault.{Fault}
use Rattle.instructions.specs.declared.instruction.Instruction.{Instruction}
use Rattle.station_file.specs.Layout.{Contents}
use Rattle.station_file.specs.Writing.{not_right}
use Rattle.station_file.specs.Reading.{then, count_field, instruction_field, place_field, fields, nothing_after, contents, reading}

pub read_all : (bs : List ℕ) (points n m : ℕ) (code : List Instruction) (places : Result (List ℕ) Fault) → Ok points ≡ count_field 1 64 0 bs → Ok n ≡ count_field 1 1024 2 (drop 2 bs) → Ok code ≡ fields (instruction_field points n) 5 n [] 4 (drop 4 bs) → Ok m ≡ count_field n n (4 + 5 * n) (drop (4 + 5 * n) bs) → places ≡ fields place_field 2 n [] (6 + 5 * n) (drop (6 + 5 * n) bs) → then places (λ ps. nothing_after (6 + 7 * n) (drop (6 + 7 * n) bs) (contents points code ps)) ≡ reading bs
read_all bs points n m code places e f g h i = grind arith

-- the same, as whoever reads on from field to field comes to know it
pub read-on : (bs b c d f : List ℕ) (at to so up points n m : ℕ) (code : List Instruction) (places : Result (List ℕ) Fault) → Ok points ≡ count_field 1 64 0 bs → b ≡ bs → at ≡ 2 → Ok n ≡ count_field 1 1024 at (drop at b) → c ≡ b → to ≡ at + 2 → Ok code ≡ fields (instruction_field points n) 5 n [] to (drop to c) → d ≡ c → so ≡ to + 5 * n → Ok m ≡ count_field n n so (drop so d) → f ≡ d → up ≡ so + 2 → places ≡ fields place_field 2 n [] up (drop up f) → then places (λ ps. nothing_after (6 + 7 * n) (drop (6 + 7 * n) bs) (contents points code ps)) ≡ reading bs
read-on bs b c d f at to so up points n m code places v1 e1 a1 v2 e2 a2 v3 e3 a3 v4 e4 a4 v5 =
    let p2 : to ≡ 4 = omega arith in
    let p3 : so ≡ 4 + 5 * n = omega arith in
    let p4 : up ≡ 6 + 5 * n = omega arith in
    read_all bs points n m code places v1 (cc) (cc) (cc) (cc)

pub some_after : (end : ℕ) (bs : List ℕ) (c : Contents) → end < length bs → Err (not_right end) ≡ nothing_after end (drop end bs) c
some_after end bs c h = grind (arith, length-drop end bs)

pub none_after : (end : ℕ) (bs : List ℕ) (c : Contents) → length bs ≤ end → Ok c ≡ nothing_after end (drop end bs) c
none_after end bs c h = grind (arith, drop_all)
