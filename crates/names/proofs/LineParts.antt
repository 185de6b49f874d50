-- A text is its lines, each with its byte 10, and its rest; and lines and rest have no byte 10.
use Rattle.std.proofs.Common.{◌≡◌, ℕ, Bool, true, false, cond, eqb, List, [], ◌∷◌, ◌++◌, sym, refl, ap, ◌∙◌}
use Rattle.std.proofs.ByRecursion.{All-push}
use Rattle.std.proofs.lemmas.List.{append-nil, append_assoc}
use Rattle.std.proofs.lemmas.Bool.{eqb-true, eqb-false, ne_eqb, cond-false}
use Rattle.std.specs.List.{AllByRecursion}
use Rattle.names.specs.Lines.{lines_from, lines_of, rest_from, rest_of}
use Rattle.names.specs.Names.{written}

-- it has no byte 10
abbrev pub Plain : List ℕ → Type 0
Plain bs = AllByRecursion (λ b. b ≡ 10 → ⊥) bs

parts_from : (l bs : List ℕ) → l ++ bs ≡ written (lines_from l bs) ++ rest_from l bs
parts_from l [] = append-nil l
parts_from l (b ∷ bs) =
    elim (eqb b 10) as (λ (t : Bool). eqb b 10 ≡ t → l ++ b ∷ bs ≡ written (cond t (l ∷ lines_from [] bs) (lines_from (l ++ b ∷ []) bs)) ++ cond t (rest_from [] bs) (rest_from (l ++ b ∷ []) bs)) [
      | true ↦ λ e. ap (λ (x : ℕ). l ++ x ∷ bs) (eqb-true b 10 e) ∙ ap (λ (x : List ℕ). l ++ 10 ∷ x) (parts_from [] bs) ∙ sym (append_assoc l (10 ∷ written (lines_from [] bs)) (rest_from [] bs))
      | false ↦ λ e. sym (append_assoc l (b ∷ []) bs) ∙ parts_from (l ++ b ∷ []) bs
    ]
    refl

pub parts : (text : List ℕ) → text ≡ written (lines_of text) ++ rest_of text
parts text = parts_from [] text

lines-plain-from : (l bs : List ℕ) → Plain l → AllByRecursion Plain (lines_from l bs) × Plain (rest_from l bs)
lines-plain-from l [] p = (tt, p)
lines-plain-from l (b ∷ bs) p =
    elim (eqb b 10) as (λ (t : Bool). eqb b 10 ≡ t → AllByRecursion Plain (cond t (l ∷ lines_from [] bs) (lines_from (l ++ b ∷ []) bs)) × Plain (cond t (rest_from [] bs) (rest_from (l ++ b ∷ []) bs))) [
      | true ↦ λ e. let q = lines-plain-from [] bs tt in ((p, q.0), q.1)
      | false ↦ λ e. lines-plain-from (l ++ b ∷ []) bs (All-push (λ x. x ≡ 10 → ⊥) l b p (eqb-false b 10 e))
    ]
    refl

pub lines-plain : (text : List ℕ) → AllByRecursion Plain (lines_of text)
lines-plain text = (lines-plain-from [] text tt).0

pub rest_plain : (text : List ℕ) → Plain (rest_of text)
rest_plain text = (lines-plain-from [] text tt).1

line-from : (l w after : List ℕ) → Plain w → (lines_from l (w ++ 10 ∷ after) ≡ (l ++ w) ∷ lines_of after) × (rest_from l (w ++ 10 ∷ after) ≡ rest_of after)
line-from l [] after p = (ap (λ (x : List ℕ). x ∷ lines_of after) (sym (append-nil l)), refl)
line-from l (b ∷ w) after p =
    let e = ne_eqb b 10 p.0 in
    let q = line-from (l ++ b ∷ []) w after p.1 in (
      cond-false (eqb b 10) _ _ e ∙ q.0 ∙ ap (λ (x : List ℕ). x ∷ lines_of after) (append_assoc l (b ∷ []) w),
      cond-false (eqb b 10) _ _ e ∙ q.1,
    )

pub one_line : (w after : List ℕ) → Plain w → lines_of (w ++ 10 ∷ after) ≡ w ∷ lines_of after
one_line w after p = (line-from [] w after p).0

pub lines-written : (ws : List (List ℕ)) → AllByRecursion Plain ws → lines_of (written ws) ≡ ws
lines-written [] p = refl
lines-written (w ∷ ws) p = one_line w (written ws) p.0 ∙ ap (λ (x : List (List ℕ)). w ∷ x) (lines-written ws p.1)

pub rest-written : (ws : List (List ℕ)) → AllByRecursion Plain ws → rest_of (written ws) ≡ []
rest-written [] p = refl
rest-written (w ∷ ws) p = (line-from [] w (written ws) p.0).1 ∙ rest-written ws p.1
