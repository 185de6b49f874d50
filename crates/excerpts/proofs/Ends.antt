-- The newlines of a text in the library's words: how many there are, and how far off the first and the last of them is.
use Rattle.std.proofs.Common.{◌≡◌, ℕ, suc, ◌+◌, Bool, true, false, cond, eqb, not, count_by, List, [], ◌∷◌, ◌++◌, length, take, ◌-◌, ◌≤◌, refl, sym, ap, ◌∙◌, arith}
use Rattle.std.specs.List.{take_while}
use Rattle.std.proofs.lemmas.List.Folds.{length-prefix_len}
use Rattle.std.proofs.lemmas.List.Recursion.{is_count_by, is_position_or_len}
use Rattle.std.proofs.lemmas.List.{reverse-append, reverse-reverse}
use Rattle.std.proofs.lemmas.Bool.Decides.{nat_tests}
use Rattle.excerpts.specs.Excerpts.{newlines, since_from, since, until_newline}
use mathlib.Core.List.{reverse}

one_more : (n : ℕ) → suc n ≡ 1 + n
one_more n = omega arith

pub newlines-is : (bs : List ℕ) → newlines bs ≡ count_by (λ b. eqb b 10) bs
newlines-is =
    is_count_by newlines (λ b. eqb b 10) refl (λ b bs. ap (λ (n : ℕ). cond (eqb b 10) n (newlines bs)) (one_more (newlines bs)))

pub until_newline-is : (bs : List ℕ) → until_newline bs ≡ length (take_while (λ b. not (eqb b 10)) bs)
until_newline-is bs =
    is_position_or_len until_newline (λ b. eqb b 10) refl (λ b bs. ap (cond (eqb b 10) 0) (one_more (until_newline bs))) bs
    ∙ sym (length-prefix_len (λ b. not (eqb b 10)) bs)

since-more : (n : ℕ) (bs : List ℕ) (b : ℕ) → since_from n (bs ++ b ∷ []) ≡ cond (eqb b 10) 0 (suc (since_from n bs))
since-more n [] b = refl
since-more n (a ∷ bs) b =
    elim (eqb a 10) as (λ (t : Bool). cond t (since_from 0 (bs ++ b ∷ [])) (since_from (suc n) (bs ++ b ∷ [])) ≡ cond (eqb b 10) 0 (suc (cond t (since_from 0 bs) (since_from (suc n) bs))))
    [ true ↦ since-more 0 bs b | false ↦ since-more (suc n) bs b ]

pub since-is : (bs : List ℕ) → since bs ≡ length (take_while (λ b. not (eqb b 10)) (reverse bs))
since-is bs =
    ap since (sym (reverse-reverse bs))
    ∙ is_position_or_len (λ cs. since (reverse cs)) (λ b. eqb b 10) refl
    (λ b cs. ap since (reverse-append (b ∷ []) cs) ∙ since-more 0 (reverse cs) b ∙ ap (cond (eqb b 10) 0) (one_more (since (reverse cs))))
    (reverse bs)
    ∙ sym (length-prefix_len (λ b. not (eqb b 10)) (reverse bs))

since-within : (n : ℕ) (bs : List ℕ) → since_from n bs ≤ n + length bs
since-within n [] = omega arith
since-within n (b ∷ bs) = grind (arith, nat_tests, since-within 0 bs, since-within (suc n) bs)

before-more : (b s : ℕ) (bs : List ℕ) → s ≤ length bs → newlines (take (length bs - s) bs) ≡ newlines bs → newlines (take (suc (length bs) - s) (b ∷ bs)) ≡ newlines (b ∷ bs)
before-more b s bs within h =
    let e : suc (length bs) - s ≡ suc (length bs - s) = omega arith in
    rw e (ap (λ (n : ℕ). cond (eqb b 10) (suc n) n) h)

-- the newlines before the line's start are all that there are
pub newlines-before : (n : ℕ) (bs : List ℕ) → newlines (take (length bs - since_from n bs) bs) ≡ newlines bs
newlines-before n [] = grind arith
newlines-before n (b ∷ bs) = grind (arith, nat_tests, since-within 0 bs, before-more b, newlines-before 0 bs, newlines-before (suc n) bs)
