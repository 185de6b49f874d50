-- The first line of a text, and what is left after it, by where the first byte 10 is.
use Rattle.std.proofs.Common.{◌≡◌, ℕ, suc, ◌+◌, ◌<◌, ◌≤◌, Bool, true, false, cond, eqb, ltb, not, Some, None, Option, List, [], ◌∷◌, ◌++◌, length, take, drop, refl, sym, ap, ◌∙◌, arith}
use Rattle.std.specs.List.{position_or_len}
use Rattle.std.proofs.lemmas.Bool.Decides.{nat_tests}
use Rattle.std.proofs.lemmas.List.{append-nil, append_assoc}
use Rattle.names.specs.Lines.{lines_from, lines_of}

-- how many bytes stand before the first byte 10
abbrev pub line_length : List ℕ → ℕ
line_length bs = position_or_len (λ b. eqb b 10) bs

no-lines-from : (l bs : List ℕ) → length bs ≤ line_length bs → lines_from l bs ≡ []
no-lines-from l [] h = refl
no-lines-from l (b ∷ bs) h =
    elim (eqb b 10) as (λ (t : Bool). length (b ∷ bs) ≤ cond (not t) (1 + line_length bs) 0 → cond t (l ∷ lines_of bs) (lines_from (l ++ b ∷ []) bs) ≡ []) [
      | true ↦ λ h. absurd (omega (arith, h))
      | false ↦ λ h. no-lines-from (l ++ b ∷ []) bs (omega (arith, h))
    ]
    h

pub no-lines : (bs : List ℕ) → length bs ≤ line_length bs → lines_of bs ≡ []
no-lines bs h = no-lines-from [] bs h

first-line-from : (l bs : List ℕ) → line_length bs < length bs → lines_from l bs ≡ (l ++ take (line_length bs) bs) ∷ lines_of (drop (line_length bs + 1) bs)
first-line-from l [] h = absurd (omega arith)
first-line-from l (b ∷ bs) h =
    elim (eqb b 10) as (λ (t : Bool). cond (not t) (1 + line_length bs) 0 < length (b ∷ bs) → cond t (l ∷ lines_of bs) (lines_from (l ++ b ∷ []) bs) ≡ (l ++ take (cond (not t) (1 + line_length bs) 0) (b ∷ bs)) ∷ lines_of (drop (cond (not t) (1 + line_length bs) 0 + 1) (b ∷ bs))) [
      | true ↦ λ h. ap (λ (x : List ℕ). x ∷ lines_of bs) (sym (append-nil l))
      | false ↦ λ h.
          let n : 1 + line_length bs ≡ suc (line_length bs) = omega arith in
          let m : suc (line_length bs) + 1 ≡ suc (line_length bs + 1) = omega arith in
          rw (n, m)
          (first-line-from (l ++ b ∷ []) bs (omega (arith, h))
          ∙ ap (λ (x : List ℕ). x ∷ lines_of (drop (line_length bs + 1) bs)) (append_assoc l (b ∷ []) (take (line_length bs) bs)))
    ]
    h

pub first-line : (bs : List ℕ) → line_length bs < length bs → lines_of bs ≡ take (line_length bs) bs ∷ lines_of (drop (line_length bs + 1) bs)
first-line bs h = first-line-from [] bs h

-- by what `position` answers
module _ (bs : List ℕ) (r : Option ℕ) (e : r ≡ cond (ltb (line_length bs) (length bs)) (Some (line_length bs)) None) where
  pub at-None : r ≡ None → lines_of bs ≡ []
  at-None f = no-lines bs (grind (arith, nat_tests))

  pub at-Some : (i : ℕ) → r ≡ Some i → lines_of bs ≡ take i bs ∷ lines_of (drop (i + 1) bs)
  at-Some i f =
      let h : (line_length bs < length bs) × (i ≡ line_length bs) = grind (arith, nat_tests) in
      rw h.1 (first-line bs h.0)
