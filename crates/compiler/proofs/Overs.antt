-- Lists written over others, one after the other: what laying code piece by piece comes to.
use Rattle.std.proofs.Common.{◌≡◌, ℕ, zero, suc, ◌+◌, ◌<◌, List, [], ◌∷◌, ◌++◌, length, set, sym, refl, ap, ◌∙◌, suc-add, zero-add, arith}
use Rattle.std.proofs.lemmas.List.{length-append}
use Rattle.instructions.specs.declared.instruction.Instruction.{Instruction}
use Rattle.compiler.specs.Code.{Line, instructions_of, places_of}
use Rattle.compiler.specs.Lists.{over, over_from}
use Rattle.compiler.specs.Parts.{Laid}

module _ {X : Type 0} where
  over-more : (xs ys zs : List X) → over_from (length xs) ys (over xs zs) ≡ over (xs ++ ys) zs
  over-more [] ys zs = refl
  over-more (x ∷ xs) ys [] = refl
  over-more (x ∷ xs) ys (z ∷ zs) = ap (λ (l : List X). x ∷ l) (over-more xs ys zs)

  pub over-then : (a : ℕ) (xs ys zs : List X) → over_from (a + length xs) ys (over_from a xs zs) ≡ over_from a (xs ++ ys) zs
  over-then zero xs ys zs = ap (λ (n : ℕ). over_from n ys (over xs zs)) (zero-add (length xs)) ∙ over-more xs ys zs
  over-then (suc a) xs ys [] = ap (λ (n : ℕ). over_from n ys []) (suc-add a (length xs))
  over-then (suc a) xs ys (z ∷ zs) =
      ap (λ (n : ℕ). over_from n ys (z ∷ over_from a xs zs)) (suc-add a (length xs)) ∙ ap (λ (l : List X). z ∷ l) (over-then a xs ys zs)

  pub set-over : (a : ℕ) (x : X) (zs : List X) → set zs a x ≡ over_from a (x ∷ []) zs
  set-over zero x [] = refl
  set-over zero x (z ∷ zs) = refl
  set-over (suc a) x [] = refl
  set-over (suc a) x (z ∷ zs) = ap (λ (l : List X). z ∷ l) (set-over a x zs)

  pub set_before : (a m : ℕ) (x : X) (ys zs : List X) → a < m → set (over_from m ys zs) a x ≡ over_from m ys (set zs a x)
  set_before a zero x ys zs h = absurd (omega arith)
  set_before zero (suc m) x ys [] h = refl
  set_before zero (suc m) x ys (z ∷ zs) h = refl
  set_before (suc a) (suc m) x ys [] h = refl
  set_before (suc a) (suc m) x ys (z ∷ zs) h = ap (λ (l : List X). z ∷ l) (set_before a m x ys zs (omega arith))

  pub length_over : (a : ℕ) (xs zs : List X) → length (over_from a xs zs) ≡ length zs
  length_over zero [] zs = refl
  length_over zero (x ∷ xs) [] = refl
  length_over zero (x ∷ xs) (z ∷ zs) = ap suc (length_over zero xs zs)
  length_over (suc a) xs [] = refl
  length_over (suc a) xs (z ∷ zs) = ap suc (length_over a xs zs)

-- lines in two lists

pub instructions-append : (xs ys : List Line) → instructions_of (xs ++ ys) ≡ instructions_of xs ++ instructions_of ys
instructions-append [] ys = refl
instructions-append (x ∷ xs) ys = ap (λ (l : List Instruction). x.0 ∷ l) (instructions-append xs ys)

pub places-append : (xs ys : List Line) → places_of (xs ++ ys) ≡ places_of xs ++ places_of ys
places-append [] ys = refl
places-append (x ∷ xs) ys = ap (λ (l : List ℕ). x.1 ∷ l) (places-append xs ys)

pub length-instructions : (xs : List Line) → length (instructions_of xs) ≡ length xs
length-instructions [] = refl
length-instructions (x ∷ xs) = ap suc (length-instructions xs)

pub length-places : (xs : List Line) → length (places_of xs) ≡ length xs
length-places [] = refl
length-places (x ∷ xs) = ap suc (length-places xs)

-- laying

pub laid_then : {a : ℕ} {xs ys : List Line} {i i1 i2 : List Instruction} {p p1 p2 : List ℕ} {m r : ℕ} → Laid a xs i p m i1 p1 → Laid m ys i1 p1 r i2 p2 → Laid a (xs ++ ys) i p r i2 p2
laid_then {a} {xs} {ys} {i} {i1} {i2} {p} {p1} {p2} {m} {r} f g =
    let n : r ≡ a + length (xs ++ ys) = omega (arith, f.next, g.next, length-append xs ys) in
    let mi : m ≡ a + length (instructions_of xs) = f.next ∙ ap (λ (k : ℕ). a + k) (sym (length-instructions xs)) in
    let mp : m ≡ a + length (places_of xs) = f.next ∙ ap (λ (k : ℕ). a + k) (sym (length-places xs)) in
    record {
      next = n;
      instructions =
          g.instructions
          ∙ ap (λ (l : List Instruction). over_from m (instructions_of ys) l) f.instructions
          ∙ ap (λ (k : ℕ). over_from k (instructions_of ys) (over_from a (instructions_of xs) i)) mi
          ∙ over-then a (instructions_of xs) (instructions_of ys) i
          ∙ ap (λ (l : List Instruction). over_from a l i) (sym (instructions-append xs ys));
      places =
          g.places
          ∙ ap (λ (l : List ℕ). over_from m (places_of ys) l) f.places
          ∙ ap (λ (k : ℕ). over_from k (places_of ys) (over_from a (places_of xs) p)) mp
          ∙ over-then a (places_of xs) (places_of ys) p
          ∙ ap (λ (l : List ℕ). over_from a l p) (sym (places-append xs ys));
    }

pub laid-put : (a q : ℕ) (x : Instruction) (i i1 : List Instruction) (p p1 : List ℕ) (r : ℕ) → r ≡ a + 1 → i1 ≡ set i a x → p1 ≡ set p a q → Laid a ((x, q) ∷ []) i p r i1 p1
laid-put a q x i i1 p p1 r e f g = record { next = e; instructions = f ∙ set-over a x i; places = g ∙ set-over a q p }

-- the line between two pieces may be put when both are laid
pub laid-around : {a : ℕ} {xs ys : List Line} {i i1 i2 i3 : List Instruction} {p p1 p2 p3 : List ℕ} {m r : ℕ} (q : ℕ) (x : Instruction) → Laid a xs i p m i1 p1 → Laid (m + 1) ys i1 p1 r i2 p2 → i3 ≡ set i2 m x → p3 ≡ set p2 m q → Laid a (xs ++ (x, q) ∷ ys) i p r i3 p3
laid-around {a} {xs} {ys} {i} {i1} {i2} {i3} {p} {p1} {p2} {p3} {m} {r} q x f g e h =
    let one = laid-put m q x i1 (set i1 m x) p1 (set p1 m q) (m + 1) refl refl refl in
    let after : Laid (m + 1) ys (set i1 m x) (set p1 m q) r i3 p3 = record {
      next = g.next;
      instructions =
          e ∙ ap (λ (l : List Instruction). set l m x) g.instructions ∙ set_before m (m + 1) x (instructions_of ys) i1 (omega arith);
      places = h ∙ ap (λ (l : List ℕ). set l m q) g.places ∙ set_before m (m + 1) q (places_of ys) p1 (omega arith);
    } in
    laid_then f (laid_then one after)
