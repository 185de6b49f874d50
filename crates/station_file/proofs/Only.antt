-- What is read was laid out so: a count, an instruction, a run of fields, and then the file.
use Rattle.std.proofs.Common.{◌≡◌, ℕ, zero, suc, ◌+◌, ◌*◌, ◌^◌, ◌<◌, true, List, [], ◌∷◌, ◌++◌, length, get_or, drop, Some, None, Ok, Option, Result, sym, refl, ap, ◌∙◌, subst, mul-zero, mul-suc, arith}
use Rattle.std.specs.List.{flat_map}
use Rattle.std.proofs.lemmas.Bool.Decides.{nat_tests}
use Rattle.std.proofs.lemmas.List.{append_assoc, append-nil, get_or-drop, drop-drop}
use Rattle.faults.specs.declared.fault.Fault.{Fault}
use Rattle.instructions.specs.declared.instruction.Instruction.{Instruction}
use Rattle.station_file.specs.Layout.{Contents, two_bytes, four_bytes, instruction_bytes, file_bytes}
use Rattle.station_file.specs.Rules.{within, Each, RightInstruction, RightPlace, Right, IsFile}
use Rattle.station_file.specs.Reading.{then, or_wrong, two_of, four_of, counted, count_field, code_byte, with_operand, instruction_field, place_field, fields, nothing_after, contents, reading_after, reading}
use Rattle.station_file.proofs.Eachs.{each_none, each-cons}
use Rattle.station_file.proofs.Digits.{two-only, four-only}
use Rattle.station_file.proofs.Decoded.{Decodes, decoded-only}
use Rattle.station_file.proofs.Filled.{fields-on, fields-done}

abbrev pub Small : List ℕ → Type 0
Small bs = (i : ℕ) → get_or bs i 0 < 256

small-drop : (k : ℕ) (bs : List ℕ) → Small bs → Small (drop k bs)
small-drop k bs s i = subst (λ (n : ℕ). n < 256) (sym (get_or-drop k bs i 0)) (s (k + i))

-- the two parts of something read after something else
then-parts : {X Y : Type 0} (r : Result X Fault) (next : X → Result Y Fault) (y : Y) → then r next ≡ Ok y → (x : X) × (r ≡ Ok x) × (next x ≡ Ok y)
then-parts r next y e = grind arith

or-wrong-parts : {X : Type 0} (at : ℕ) (o : Option X) (x : X) → or_wrong at o ≡ Ok x → o ≡ Some x
or-wrong-parts at o x e = grind arith

-- two bytes at the front
two-front : (bs : List ℕ) (n : ℕ) → Small bs → two_of bs ≡ Some n → (bs ≡ two_bytes n ++ drop 2 bs) × (n < 65536)
two-front [] n s e = cc e
two-front (a ∷ []) n s e = cc e
two-front (a ∷ b ∷ bs) n s e =
    let x = s 0 in
    let y = s 1 in
    (ap (λ t. t ++ bs) (sym (two-only a b x y) ∙ ap two_bytes (cc e)), grind arith)

counted-parts : (low high : ℕ) (o : Option ℕ) (n : ℕ) → counted low high o ≡ Some n → (o ≡ Some n) × (within low high n ≡ true)
counted-parts low high None n e = cc e
counted-parts low high (Some m) n e = (grind (arith, nat_tests), grind (arith, nat_tests))

count-only : (low high at n : ℕ) (bs : List ℕ) → Small bs → count_field low high at bs ≡ Ok n → (bs ≡ two_bytes n ++ drop 2 bs) × (within low high n ≡ true)
count-only low high at n bs s e =
    let parts = counted-parts low high (two_of bs) n (or-wrong-parts at (counted low high (two_of bs)) n e) in
    ((two-front bs n s parts.0).0, parts.1)

place-only : (at p : ℕ) (bs : List ℕ) → Small bs → place_field at bs ≡ Ok p → (bs ≡ two_bytes p ++ drop 2 bs) × RightPlace p
place-only at p bs s e = two-front bs p s (or-wrong-parts at (two_of bs) p e)

code-front : (bs : List ℕ) (c : ℕ) → code_byte bs ≡ Some c → bs ≡ c ∷ drop 1 bs
code-front [] c e = cc e
code-front (b ∷ bs) c e = grind (arith, nat_tests)

operand-front : (points count c : ℕ) (bs : List ℕ) (i : Instruction) → Small bs → with_operand points count c (four_of bs) ≡ Some i → (w : ℕ) × (bs ≡ four_bytes w ++ drop 4 bs) × (Decodes points count c w i)
operand-front points count c [] i s e = cc e
operand-front points count c (a ∷ []) i s e = cc e
operand-front points count c (a ∷ b ∷ []) i s e = cc e
operand-front points count c (a ∷ b ∷ d ∷ []) i s e = cc e
operand-front points count c (a ∷ b ∷ d ∷ f ∷ bs) i s e =
    let w = a + b * 256 + d * 65536 + f * 16777216 in
    let fits : w < 2 ^ 32 = omega (arith, s 0, s 1, s 2, s 3) in
    (w, ap (λ t. t ++ bs) (sym (four-only a b d f (s 0) (s 1) (s 2) (s 3))), decoded-only points count w fits c i e)

instruction-only : (points count at : ℕ) (i : Instruction) (bs : List ℕ) → Small bs → instruction_field points count at bs ≡ Ok i → (bs ≡ instruction_bytes i ++ drop 5 bs) × RightInstruction points count i
instruction-only points count at i bs s e =
    let parts = then-parts (or_wrong at (code_byte bs)) (λ c. or_wrong (at + 1) (with_operand points count c (four_of (drop 1 bs)))) i e in
    let c = parts.0 in
    let front = code-front bs c (or-wrong-parts at (code_byte bs) c parts.1) in
    let four = operand-front points count c (drop 1 bs) i (small-drop 1 bs s) (or-wrong-parts (at + 1) _ i parts.2) in
    let d = four.2 in
    let five = drop-drop 4 1 bs in
    (cc (front, four.1, d.code, d.operand), d.right)

module _ {X : Type 0} (field : ℕ → List ℕ → Result X Fault) (w : ℕ) (lay : X → List ℕ) (Good : X → Type 0) (only : (at : ℕ) (x : X) (bs : List ℕ) → Small bs → field at bs ≡ Ok x → (bs ≡ lay x ++ drop w bs) × (Good x)) where
  -- what was read after what had been read before, and the bytes that it stood in
  pub record Laid (k : ℕ) (before : List X) (bs : List ℕ) (ys : List X) : Type 0 where
    pub xs : List X
    pub together : ys ≡ before ++ xs
    pub many : length xs ≡ k
    pub bytes : bs ≡ flat_map lay xs ++ drop (w * k) bs
    pub good : Each Good xs

  fields-only : (k : ℕ) (before : List X) (at : ℕ) (bs : List ℕ) (ys : List X) → Small bs → fields field w k before at bs ≡ Ok ys → Laid k before bs ys
  fields-only zero before at bs ys s e =
      let g : before ≡ ys = let f = sym (fields-done field w 0 before at bs refl) ∙ e in cc f in
      record { xs = []; together = sym g ∙ sym (append-nil before); many = refl; bytes = ap (λ n. drop n bs) (sym (mul-zero w)); good = each_none Good }
  fields-only (suc k) before at bs ys s e =
      let on = λ (y : X). fields field w k (before ++ y ∷ []) (at + w) (drop w bs) in
      let parts = then-parts (field at bs) on ys (sym (fields-on field w k before at bs) ∙ e) in
      let x = parts.0 in
      let here = only at x bs s parts.1 in
      let rest = fields-only k (before ++ x ∷ []) (at + w) (drop w bs) ys (small-drop w bs s) parts.2 in
      let size : w + w * k ≡ w * suc k = omega (arith, mul-suc w k) in
      record {
        xs = x ∷ rest.xs;
        together = rest.together ∙ append_assoc before (x ∷ []) rest.xs;
        many = ap suc rest.many;
        bytes = here.0 ∙ ap (λ t. lay x ++ t) rest.bytes ∙ sym (append_assoc (lay x) (flat_map lay rest.xs) (drop (w * k) (drop w bs))) ∙ ap (λ t. flat_map lay (x ∷ rest.xs) ++ t) (drop-drop (w * k) w bs ∙ ap (λ n. drop n bs) size);
        good = each-cons Good x rest.xs here.1 rest.good;
      }

nothing-more : (end : ℕ) (xs : List ℕ) (c f : Contents) → nothing_after end xs c ≡ Ok f → (xs ≡ []) × (c ≡ f)
nothing-more end [] c f e = (refl, cc e)
nothing-more end (x ∷ xs) c f e = cc e

same_count : (n m : ℕ) → within n n m ≡ true → m ≡ n
same_count n m h = grind (arith, nat_tests)

-- the bytes of a file, from those of its parts
file-laid : (bs : List ℕ) (points n m : ℕ) (is : List Instruction) (ps : List ℕ) → length is ≡ n → length ps ≡ n → m ≡ n → bs ≡ two_bytes points ++ drop 2 bs → drop 2 bs ≡ two_bytes n ++ drop 2 (drop 2 bs) → drop 4 bs ≡ flat_map instruction_bytes is ++ drop (5 * n) (drop 4 bs) → drop (4 + 5 * n) bs ≡ two_bytes m ++ drop 2 (drop (4 + 5 * n) bs) → drop (6 + 5 * n) bs ≡ flat_map two_bytes ps ++ drop (2 * n) (drop (6 + 5 * n) bs) → drop (6 + 7 * n) bs ≡ [] → bs ≡ file_bytes (contents points is ps)
file-laid bs points n m is ps li lp em a b c d e end =
    let six : (4 + 5 * n) + 2 ≡ 6 + 5 * n = omega arith in
    let all : (6 + 5 * n) + 2 * n ≡ 6 + 7 * n = omega arith in
    let ends = append-nil (flat_map two_bytes ps) in
    let p = drop-drop 2 2 bs in
    let q = drop-drop (5 * n) 4 bs in
    let r = drop-drop 2 (4 + 5 * n) bs in
    let t = drop-drop (2 * n) (6 + 5 * n) bs in
    cc

pub file-only : (bs : List ℕ) (f : Contents) → Small bs → reading bs ≡ Ok f → IsFile bs f
file-only bs f s e =
    let p1 = then-parts (count_field 1 64 0 bs) (λ points. then (count_field 1 1024 2 (drop 2 bs)) (reading_after bs points)) f e in
    let points = p1.0 in
    let p2 = then-parts (count_field 1 1024 2 (drop 2 bs)) (reading_after bs points) f p1.2 in
    let n = p2.0 in
    let p3 = then-parts (fields (instruction_field points n) 5 n [] 4 (drop 4 bs)) (λ code. then (count_field n n (4 + 5 * n) (drop (4 + 5 * n) bs)) (λ _. then (fields place_field 2 n [] (6 + 5 * n) (drop (6 + 5 * n) bs)) (λ places. nothing_after (6 + 7 * n) (drop (6 + 7 * n) bs) (contents points code places)))) f p2.2 in
    let code = p3.0 in
    let p4 = then-parts (count_field n n (4 + 5 * n) (drop (4 + 5 * n) bs)) (λ _. then (fields place_field 2 n [] (6 + 5 * n) (drop (6 + 5 * n) bs)) (λ places. nothing_after (6 + 7 * n) (drop (6 + 7 * n) bs) (contents points code places))) f p3.2 in
    let m = p4.0 in
    let p5 = then-parts (fields place_field 2 n [] (6 + 5 * n) (drop (6 + 5 * n) bs)) (λ places. nothing_after (6 + 7 * n) (drop (6 + 7 * n) bs) (contents points code places)) f p4.2 in
    let places = p5.0 in
    let p6 = nothing-more (6 + 7 * n) (drop (6 + 7 * n) bs) (contents points code places) f p5.2 in
    let c1 = count-only 1 64 0 points bs s p1.1 in
    let c2 = count-only 1 1024 2 n (drop 2 bs) (small-drop 2 bs s) p2.1 in
    let l3 = fields-only (instruction_field points n) 5 instruction_bytes (RightInstruction points n) (instruction-only points n) n [] 4 (drop 4 bs) code (small-drop 4 bs s) p3.1 in
    let c4 = count-only n n (4 + 5 * n) m (drop (4 + 5 * n) bs) (small-drop (4 + 5 * n) bs s) p4.1 in
    let l5 = fields-only place_field 2 two_bytes RightPlace place-only n [] (6 + 5 * n) (drop (6 + 5 * n) bs) places (small-drop (6 + 5 * n) bs s) p5.1 in
    let is = l3.xs in
    let ps = l5.xs in
    let laid = file-laid bs points n m is ps l3.many l5.many (same_count n m c4.1) c1.0 c2.0 l3.bytes c4.0 l5.bytes p6.0 in
    let right : Right (contents points is ps) = record {
      points = c1.1;
      count = subst (λ (k : ℕ). within 1 1024 k ≡ true) (sym l3.many) c2.1;
      code = subst (λ (k : ℕ). Each (RightInstruction points k) is) (sym l3.many) l3.good;
      as_many = l5.many ∙ sym l3.many;
      places = l5.good;
    } in
    let same : contents points is ps ≡ f = ap (λ t. contents points t ps) (sym l3.together) ∙ ap (contents points code) (sym l5.together) ∙ p6.1 in
    subst (IsFile bs) same (record { laid = laid; right = right })
