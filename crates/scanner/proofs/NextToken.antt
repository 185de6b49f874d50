-- The tokens of a text, one token at a time: the next token at a place, then the tokens after it. This is all that a
-- reader of tokens goes by.
use Rattle.std.proofs.Common.{◌≡◌, ℕ, zero, suc, ◌+◌, ◌-◌, ◌≤◌, Bool, true, false, List, [], ◌∷◌, length, drop, Option, sym, refl, ap, ◌∙◌, subst, arith}
use Rattle.std.proofs.lemmas.List.{drop-drop, length-drop}
use Rattle.std.proofs.lemmas.List.Sums.{prefix_len-le-length}
use Rattle.scanner.specs.Tokens.{is_blank, run_of, after, front, sign_front, sign_or, pair_sign, single_sign, standing, tell, tokens_from, tokens_at, token_at, first_of, Placed}
use Rattle.scanner.specs.declared.token.Symbol.{Symbol}
use Rattle.scanner.specs.declared.token.Kind.{Kind}
use Rattle.scanner.specs.declared.token.Token.{Token}
use Rattle.scanner.proofs.RunSteps.{run_on, run-off, run_none, run-whole}

-- blanks at the front are passed over
blanks : (bs : List ℕ) (p : ℕ) → tokens_from bs 0 p ≡ tokens_from (drop (run_of is_blank bs) bs) 0 (p + run_of is_blank bs)
blanks [] p = grind arith
blanks (b ∷ bs) p =
    let h = blanks bs (suc p) in
    elim (is_blank b) as (λ (v : Bool). is_blank b ≡ v → tokens_from (b ∷ bs) 0 p ≡ tokens_from (drop (run_of is_blank (b ∷ bs)) (b ∷ bs)) 0 (p + run_of is_blank (b ∷ bs))) [
      | true ↦ λ e. let n = run_on is_blank b bs e in grind arith
      | false ↦ λ e. let n = run-off is_blank b bs e in grind arith
    ]
    refl

-- bytes that belong to a token that was told
inside : (bs : List ℕ) (k p : ℕ) → k ≤ length bs → tokens_from bs k p ≡ tokens_from (drop k bs) 0 (p + k)
inside [] zero p h = grind arith
inside [] (suc k) p h = absurd (omega arith)
inside (b ∷ bs) zero p h = grind arith
inside (b ∷ bs) (suc k) p h = grind (arith, inside bs k (suc p))

sign_fits : (o : Option Symbol) (k : Kind) → (sign_or o k).1 ≤ 1
sign_fits o k = grind arith

sign-front-fits : (b : ℕ) (bs : List ℕ) → (sign_front b bs).1 ≤ length bs
sign-front-fits b [] = omega arith
sign-front-fits b (c ∷ bs) = let h = sign_fits (pair_sign b c) (single_sign b) in omega arith

-- a token stays in the text
front_fits : (b : ℕ) (bs : List ℕ) → (front b bs).1 ≤ length bs
front_fits b bs = grind (arith, prefix_len-le-length, sign-front-fits b bs)

-- the token at the front of what begins with no blank, n bytes long
at_front : (bs : List ℕ) (p n : ℕ) → run_of is_blank bs ≡ 0 → (standing p bs).end ≡ p + n → tokens_from bs 0 p ≡ standing p bs ∷ after (standing p bs).kind (tokens_from (drop n bs) 0 (p + n))
at_front [] p n e h = refl
at_front (b ∷ bs) p n e h =
    let m : ℕ = (front b bs).1 in
    let len : suc m ≡ n = omega arith in
    let to : suc p + m ≡ p + suc m = omega arith in
    ap (λ (v : Bool). tell v (front b bs) p (tokens_from bs)) (run_none is_blank b bs e)
    ∙ ap (λ (ts : List Token). standing p (b ∷ bs) ∷ after (front b bs).0 ts) (inside bs m (suc p) (front_fits b bs) ∙ ap (tokens_from (drop m bs) 0) to)
    ∙ ap (λ (k : ℕ). standing p (b ∷ bs) ∷ after (front b bs).0 (tokens_from (drop k (b ∷ bs)) 0 (p + k))) len

forward : (p : ℕ) (bs : List ℕ) → p ≤ (standing p bs).end
forward p [] = omega arith
forward p (b ∷ bs) = omega arith

-- where the token begins that is found from a place on
abbrev pub begin : List ℕ → ℕ → ℕ
begin text at = at + run_of is_blank (drop at text)

abbrev pub found : List ℕ → ℕ → Token
found text at = standing (begin text at) (drop (begin text at) text)

found_first : (text : List ℕ) (at : ℕ) → tokens_at text at ≡ found text at ∷ after (found text at).kind (tokens_at text (found text at).end)
unfolding tokens_at
found_first text at =
    let r : ℕ = run_of is_blank (drop at text) in
    let s : ℕ = at + r in
    let t : Token = found text at in
    let n : ℕ = t.end - s in
    let f = forward s (drop s text) in
    let to : s + n ≡ t.end = omega arith in
    let off : run_of is_blank (drop s text) ≡ 0 = sym (ap (run_of is_blank) (drop-drop r at text)) ∙ run-whole is_blank (drop at text) in
    blanks (drop at text) at ∙ ap (λ (l : List ℕ). tokens_from l 0 s) (drop-drop r at text) ∙ at_front (drop s text) s n off (sym to)
    ∙ ap (λ (l : List ℕ). t ∷ after t.kind (tokens_from l 0 (s + n))) (drop-drop n s text)
    ∙ ap (λ (e : ℕ). t ∷ after t.kind (tokens_from (drop e text) 0 e)) to

pub found-is : (text : List ℕ) (at : ℕ) → found text at ≡ token_at text at
unfolding token_at
found-is text at = sym (ap first_of (found_first text at))

-- the next token at a place, then the tokens after it
pub next-token : (text : List ℕ) (at : ℕ) → tokens_at text at ≡ token_at text at ∷ after (token_at text at).kind (tokens_at text (token_at text at).end)
next-token text at =
    subst (λ (t : Token). tokens_at text at ≡ t ∷ after t.kind (tokens_at text t.end)) (found-is text at) (found_first text at)

pub found-placed : (text : List ℕ) (at : ℕ) → Placed text at (found text at)
found-placed text at = by (drop s text) (length-drop s text)
  where
    s : ℕ
    s = begin text at

    by : (l : List ℕ) → length l ≡ length text - s → Placed text at (standing s l)
    by [] e =
        let f = prefix_len-le-length is_blank (drop at text) in
        let d = length-drop at text in
        record { ahead = omega arith; forward = omega arith; within = λ h. omega arith; taken = λ h. absurd (h refl) }
    by (b ∷ bs) e =
        let f = front_fits b bs in
        record { ahead = omega arith; forward = omega arith; within = λ h. omega arith; taken = λ h. (omega arith, omega arith) }

pub token-placed : (text : List ℕ) (at : ℕ) → Placed text at (token_at text at)
token-placed text at = subst (Placed text at) (found-is text at) (found-placed text at)
