-- The writer's two sections, one after the other, are a file.
use Rattle.std.proofs.Common.{◌≡◌, ℕ, ◌+◌, ◌*◌, ◌<◌, ◌≤◌, true, List, ◌++◌, length, get_or, take, drop, None, Ok, sym, refl, ap, ◌∙◌, arith}
use Rattle.std.proofs.lemmas.List.{append_assoc, length-append, length-take-le, take_at}
use Rattle.std.proofs.lemmas.Bool.Decides.{nat_tests}
use Rattle.instructions.specs.declared.instruction.Instruction.{Instruction}
use Rattle.station_file.specs.declared.state.Begin.{Begin}
use Rattle.station_file.specs.declared.state.AfterInstructions.{AfterInstructions}
use Rattle.station_file.specs.Layout.{code_section, places_section, file_bytes, put}
use Rattle.station_file.specs.Rules.{within, Held, Each, RightCode, RightPlace, Right, IsFile}
use Rattle.station_file.specs.Writing.{wrong_code, wrong_places, begun}
use Rattle.station_file.specs.Reading.{contents, reading}
use Rattle.station_file.specs.Laws.{Begins}
use Rattle.station_file.proofs.Eachs.{each_from}
use Rattle.station_file.proofs.Judged.{none-wrong, as_many}
use Rattle.station_file.proofs.Sectioned.{length-code, length-places}
use Rattle.station_file.proofs.Back.{file-back}

-- where nothing is wrong with the instructions, the two counts are right
counts-right : (points : ℕ) (code : List Instruction) → wrong_code points code ≡ None → (within 1 64 points ≡ true) × (1 ≤ length code)
counts-right points code e = (grind (arith, nat_tests), grind (arith, nat_tests))

pub begins : (s : Begin) (points : ℕ) (code : List Instruction) (bs cs : List ℕ) → wrong_code points code ≡ None → length code ≤ 1024 → RightCode points code → cs ≡ put s.at (code_section points code) bs → s ≡ begun → Begins points code cs (record { at = s.at + (4 + 5 * length code); count = length code })
begins s points code bs cs w few right p e =
    let sec = code_section points code in
    let parts = counts-right points code w in
    let start : s.at ≡ 0 = cc e in
    let front : cs ≡ sec ++ drop (length sec) bs = p ∙ ap (λ k. put k sec bs) start in
    let end = s.at + (4 + 5 * length code) in
    record {
      stands = ap (take end) front ∙ take_at sec (drop (length sec) bs) end (omega (arith, length-code points code));
      counted = refl;
      right-points = parts.0;
      right-count = grind (arith, nat_tests);
      right-code = right;
    }

pub completes : (s : AfterInstructions) (ps bs cs : List ℕ) → length ps ≡ s.count → s.at ≤ length bs → ((i : ℕ) → get_or ps i 0 < 65536) → cs ≡ put s.at (places_section ps) bs → (points : ℕ) (code : List Instruction) → Begins points code bs s → IsFile (take (s.at + (2 + 2 * length ps)) cs) (contents points code ps) × (reading (take (s.at + (2 + 2 * length ps)) cs) ≡ Ok (contents points code ps))
completes s ps bs cs many fit small p points code b =
    let sec = places_section ps in
    let end = s.at + (2 + 2 * length ps) in
    let rest = drop (length sec) (drop s.at bs) in
    let size : length (take s.at bs ++ sec) ≡ end = omega (arith, length-append (take s.at bs) sec, length-take-le s.at bs fit, length-places ps) in
    let laid : take end cs ≡ file_bytes (contents points code ps) = ap (take end) (p ∙ sym (append_assoc (take s.at bs) sec rest)) ∙ take_at (take s.at bs ++ sec) rest end size ∙ ap (λ t. t ++ sec) b.stands in
    let right : Right (contents points code ps) = record {
      points = b.right-points;
      count = b.right-count;
      code = b.right-code;
      as_many = many ∙ b.counted;
      places = each_from RightPlace ps 0 (λ i _. small i);
    } in
    (record { laid = laid; right = right }, ap reading laid ∙ file-back (contents points code ps) right)

-- the same for whoever knows only what the definitions say: what the writer takes keeps the rules of a file
pub taken-is-right : (points : ℕ) (code : List Instruction) (places : List ℕ) → Each Held code → Each RightPlace places → wrong_code points code ≡ None → wrong_places (length code) (length places) ≡ None → Right (contents points code places)
taken-is-right points code places held small w many =
    let parts = counts-right points code w in
    let one = parts.1 in
    let judged = none-wrong points (length code) 0 code (omega arith) held (grind (arith, nat_tests)) in
    let few = judged.1 in
    record {
      points = parts.0;
      count = grind (arith, nat_tests);
      code = judged.0;
      as_many = as_many (length code) (length places) many;
      places = small;
    }
