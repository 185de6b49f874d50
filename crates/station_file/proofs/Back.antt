-- What is laid out is read back: a count, an instruction, a run of fields, and then the file.
use Rattle.std.proofs.Common.{◌≡◌, ℕ, ◌+◌, ◌*◌, ◌<◌, ◌≤◌, true, List, [], ◌∷◌, ◌++◌, length, drop, Some, None, Ok, Result, sym, refl, ap, ◌∙◌, arith}
use Rattle.std.specs.List.{flat_map}
use Rattle.std.proofs.lemmas.Bool.Decides.{nat_tests}
use Rattle.std.proofs.lemmas.List.{append_assoc, append-nil, length-append, drop_at, drop-drop}
use Rattle.std.proofs.lemmas.Bool.{cond-true}
use Rattle.faults.specs.declared.fault.Fault.{Fault}
use Rattle.instructions.specs.declared.instruction.Instruction.{Instruction}
use Rattle.instructions.specs.Codes.{code_of}
use Rattle.station_file.specs.Layout.{Contents, two_bytes, operand_of, instruction_bytes, code_section, places_section, file_bytes}
use Rattle.station_file.specs.Rules.{within, Each, RightInstruction, RightPlace, Right}
use Rattle.station_file.specs.Reading.{or_wrong, count_field, code_byte, instruction_field, place_field, fields, reading}
use Rattle.station_file.proofs.Eachs.{each-parts}
use Rattle.station_file.proofs.Sectioned.{length-code, length-places}
use Rattle.station_file.proofs.Digits.{two_back, four-back}
use Rattle.station_file.proofs.Decoded.{code-low, operand_low, decoded-back}
use Rattle.station_file.proofs.Filled.{fields-on, fields-done}
use Rattle.station_file.proofs.Chain.{read_all, none_after}

count-back : (low high at n : ℕ) (rest : List ℕ) → within low high n ≡ true → n < 65536 → count_field low high at (two_bytes n ++ rest) ≡ Ok n
count-back low high at n rest w h = let e = two_back n rest h in grind (arith, nat_tests)

place-back : (at p : ℕ) (rest : List ℕ) → RightPlace p → place_field at (two_bytes p ++ rest) ≡ Ok p
place-back at p rest h = ap (or_wrong at) (two_back p rest h)

instruction-back : (points count : ℕ) → points ≤ 64 → count ≤ 1024 → (at : ℕ) (i : Instruction) (rest : List ℕ) → RightInstruction points count i → instruction_field points count at (instruction_bytes i ++ rest) ≡ Ok i
instruction-back points count few-points few at i rest r =
    let code : code_byte (instruction_bytes i ++ rest) ≡ Some (code_of i) = cond-true _ (Some (code_of i)) None (code-low i) in
    let operand = four-back (operand_of i) rest (operand_low points count few-points few i r) in
    let is = decoded-back points count few-points few i r in
    cc

module _ {X : Type 0} (field : ℕ → List ℕ → Result X Fault) (w : ℕ) (lay : X → List ℕ) (Good : X → Type 0) (sized : (x : X) → length (lay x) ≡ w) (back : (at : ℕ) (x : X) (rest : List ℕ) → Good x → field at (lay x ++ rest) ≡ Ok x) where
  fields_back : (xs before : List X) (at : ℕ) (rest : List ℕ) → Each Good xs → fields field w (length xs) before at (flat_map lay xs ++ rest) ≡ Ok (before ++ xs)
  fields_back [] before at rest g = fields-done field w 0 before at rest refl ∙ ap Ok (sym (append-nil before))
  fields_back (x ∷ xs) before at rest g =
      let good = each-parts Good x xs g in
      let after = flat_map lay xs ++ rest in
      let joined = append_assoc (lay x) (flat_map lay xs) rest in
      let on = fields-on field w (length xs) before at (lay x ++ after) in
      let first = back at x after good.0 in
      let left = drop_at (lay x) after w (sized x) in
      let others = fields_back xs (before ++ x ∷ []) (at + w) rest good.1 in
      let all = append_assoc before (x ∷ []) xs in
      cc

pub file-back : (f : Contents) → Right f → reading (file_bytes f) ≡ Ok f
file-back f r =
    let p = f.points in
    let is = f.code in
    let ps = f.places in
    let n = length is in
    let bs = file_bytes f in
    let few-points : p ≤ 64 = grind (arith, nat_tests, r.points) in
    let few : n ≤ 1024 = grind (arith, nat_tests, r.count) in
    let code-end : drop (4 + 5 * n) bs ≡ places_section ps = drop_at (code_section p is) (places_section ps) (4 + 5 * n) (length-code p is) in
    let six : (4 + 5 * n) + 2 ≡ 6 + 5 * n = omega arith in
    let count-end : drop (6 + 5 * n) bs ≡ flat_map two_bytes ps ++ [] = ap (λ k. drop k bs) (sym six) ∙ sym (drop-drop 2 (4 + 5 * n) bs) ∙ ap (drop 2) code-end ∙ sym (append-nil (flat_map two_bytes ps)) in
    let size : length bs ≤ 6 + 7 * n = omega (arith, length-append (code_section p is) (places_section ps), length-code p is, length-places ps, r.as_many) in
    let e = count-back 1 64 0 p (two_bytes n ++ (flat_map instruction_bytes is ++ places_section ps)) r.points (omega arith) in
    let g = count-back 1 1024 2 n (flat_map instruction_bytes is ++ places_section ps) r.count (omega arith) in
    let h = fields_back (instruction_field p n) 5 instruction_bytes (RightInstruction p n) (λ _. refl) (instruction-back p n few-points few) is [] 4 (places_section ps) r.code in
    let m : within n n (length ps) ≡ true = grind (arith, nat_tests, r.as_many) in
    let i = ap (count_field n n (4 + 5 * n)) code-end ∙ count-back n n (4 + 5 * n) (length ps) (flat_map two_bytes ps) m (omega (arith, r.as_many)) in
    let j = ap (fields place_field 2 n [] (6 + 5 * n)) count-end ∙ ap (λ k. fields place_field 2 k [] (6 + 5 * n) (flat_map two_bytes ps ++ [])) (sym r.as_many) ∙ fields_back place_field 2 two_bytes RightPlace (λ _. refl) place-back ps [] (6 + 5 * n) [] r.places in
    sym (none_after (6 + 7 * n) bs f size ∙ read_all bs p n (length ps) is (Ok ps) (sym e) (sym g) (sym h) (sym i) (sym j))
