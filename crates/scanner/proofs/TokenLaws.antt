-- The token that the scanner finds is the longest that is spelled there.
use Rattle.std.proofs.Common.{◌≡◌, ℕ, zero, suc, ◌+◌, ◌-◌, ◌≤◌, Bool, true, false, List, [], ◌∷◌, length, take, drop, Some, None, Option, sym, refl, ap, ◌∙◌, subst, arith}
use Rattle.std.proofs.lemmas.List.{drop-drop}
use Rattle.std.proofs.lemmas.Bool.{and_parts, and_from, cond_both, both_ways}
use Rattle.std.proofs.lemmas.Bool.Decides.{nat_tests}
use Rattle.std.specs.Char.{is_ascii_digit}
use Rattle.std.specs.List.{AllByRecursion, list_all}
use Rattle.std.proofs.lemmas.List.Sums.{list_all-from_AllPass, AllPass-from_list_all, prefix_len_passes, prefix_len_stops}
use Rattle.std.proofs.lemmas.Grind.{common_steps}
use Rattle.scanner.specs.Words.{begins_word, goes_on, all_go_on}
use Rattle.scanner.specs.Tokens.{is_blank, run_of, pair_front, single_sign, sign_or, sign_front, front, standing, token_at}
use Rattle.scanner.specs.Spelling.{spelling, all_digits, Spells, NoLonger, Fronts, Found}
use Rattle.scanner.specs.declared.token.Symbol.{Symbol}
use Rattle.scanner.specs.declared.token.Kind.{Kind}
use Rattle.scanner.specs.declared.token.Kind.TheVariants.{Word, Number, Sign, End, Stray}
use Rattle.scanner.proofs.RunSteps.{run_none, run-whole}
use Rattle.scanner.proofs.SignSpelling.{sign-apart, pair_ok, PairOk, single-ok, SingleOk, sign-back}
use Rattle.scanner.proofs.NextToken.{begin, found, found-is}

-- a run is all of its class, and no longer front is
module _ (test : ℕ → Bool) where
  run-all : (bs : List ℕ) → list_all test (take (run_of test bs) bs) ≡ true
  run-all bs = list_all-from_AllPass test _ (λ k d h. grind (arith, common_steps, prefix_len_passes test bs k d))

  run-most : (m : ℕ) (bs : List ℕ) → m ≤ length bs → list_all test (take m bs) ≡ true → m ≤ run_of test bs
  run-most m bs le h = grind (arith, common_steps, prefix_len_stops test bs 0, AllPass-from_list_all test (take m bs) h (run_of test bs) 0)

  all-passed : (bs : List ℕ) → list_all test bs ≡ true → AllByRecursion (λ b. test b ≡ true) bs
  all-passed [] e = tt
  all-passed (b ∷ bs) e = let p = and_parts (test b) (list_all test bs) e in (p.0, all-passed bs p.1)

digit-no-word : (b : ℕ) → is_ascii_digit b ≡ true → begins_word b ≡ false
digit-no-word b e = grind (arith, nat_tests)

-- no front is longer than n if none of the three ways to spell a token gives a longer one
module _ (n b : ℕ) (bs : List ℕ) where
  abbrev Signs : Type 0
  Signs = (s : Symbol) (m : ℕ) → m ≤ length bs → b ∷ take m bs ≡ spelling s → suc m ≤ n

  no-longer : (is_ascii_digit b ≡ true → suc (run_of is_ascii_digit bs) ≤ n) → (begins_word b ≡ true → suc (run_of goes_on bs) ≤ n) → Signs → NoLonger n (b ∷ bs)
  no-longer number word sign k zero le h = omega arith
  no-longer number word sign Word (suc m) le h =
      let p = and_parts (begins_word b) (all_go_on (take m bs)) h in
      omega (arith, word p.0, run-most goes_on m bs (omega arith) p.1)
  no-longer number word sign Number (suc m) le h =
      let p = and_parts (is_ascii_digit b) (all_digits (take m bs)) h in
      omega (arith, number p.0, run-most is_ascii_digit m bs (omega arith) p.1)
  no-longer number word sign (Sign s) (suc m) le h = sign s m (omega arith) h
  no-longer number word sign End (suc m) le h = absurd h
  no-longer number word sign Stray (suc m) le h = absurd h

number-longest : (b : ℕ) (bs : List ℕ) → is_ascii_digit b ≡ true → NoLonger (suc (run_of is_ascii_digit bs)) (b ∷ bs)
number-longest b bs d =
    no-longer _ b bs (λ _. omega arith) (λ w. absurd (both_ways (begins_word b) (digit-no-word b d) w)) (λ s m le h. absurd (both_ways (is_ascii_digit b) (sign-apart s b (take m bs) h).0 d))

word-longest : (b : ℕ) (bs : List ℕ) → is_ascii_digit b ≡ false → begins_word b ≡ true → NoLonger (suc (run_of goes_on bs)) (b ∷ bs)
word-longest b bs d w =
    no-longer _ b bs (λ e. absurd (both_ways (is_ascii_digit b) d e)) (λ _. omega arith) (λ s m le h. absurd (both_ways (begins_word b) (sign-apart s b (take m bs) h).1 w))

module _ (b : ℕ) (bs : List ℕ) (d : is_ascii_digit b ≡ false) (w : begins_word b ≡ false) where
  none-begun : (n : ℕ) → Signs n b bs → NoLonger n (b ∷ bs)
  none-begun n = no-longer n b bs (λ e. absurd (both_ways (is_ascii_digit b) d e)) (λ e. absurd (both_ways (begins_word b) w e))

  sign-longest : NoLonger (suc (sign_front b bs).1) (b ∷ bs)
  sign-longest = none-begun _ (λ s m le h. let more = (sign-back s b bs m le h).0 in omega arith)

  stray-none : (sign_front b bs).0 ≡ Stray → NoLonger 0 (b ∷ bs)
  stray-none e = none-begun 0 (λ s m le h. absurd ((sign-back s b bs m le h).1 e))

abbrev Pairs : ℕ → List ℕ → Option Symbol → Type 0
Pairs b bs (Some s) = Spells (Sign s) (take 2 (b ∷ bs))
Pairs b bs None = Unit {0}

pairs-from : (b c : ℕ) (cs : List ℕ) (o : Option Symbol) → PairOk b c o → Pairs b (c ∷ cs) o
pairs-from b c cs (Some s) h = h
pairs-from b c cs None h = tt

pairs : (b : ℕ) (bs : List ℕ) → Pairs b bs (pair_front (b ∷ bs))
pairs b [] = tt
pairs b (c ∷ cs) = pairs-from b c cs _ (pair_ok b c)

sign-fronts : (b : ℕ) (bs : List ℕ) (o : Option Symbol) (k : Kind) → Pairs b bs o → SingleOk b k → NoLonger (suc (sign_or o k).1) (b ∷ bs) → ((sign_or o k).0 ≡ Stray → NoLonger 0 (b ∷ bs)) → Fronts (sign_or o k).0 (suc (sign_or o k).1) (b ∷ bs)
sign-fronts b bs (Some s) k p q most none = (p, most)
sign-fronts b bs None Word p q most none = absurd q
sign-fronts b bs None Number p q most none = absurd q
sign-fronts b bs None (Sign s) p q most none = (q, most)
sign-fronts b bs None End p q most none = absurd q
sign-fronts b bs None Stray p q most none = none refl

fronts : (b : ℕ) (bs : List ℕ) → Fronts (front b bs).0 (suc (front b bs).1) (b ∷ bs)
fronts b bs =
    let P : Kind × ℕ → Type 0 = λ w. Fronts w.0 (suc w.1) (b ∷ bs) in
    cond_both (is_ascii_digit b) _ _ P (λ d. (and_from (is_ascii_digit b) _ d (run-all is_ascii_digit bs), number-longest b bs d)) (λ d.
    cond_both (begins_word b) _ _ P (λ w. (and_from (begins_word b) _ w (run-all goes_on bs), word-longest b bs d w)) (λ w.
    sign-fronts b bs (pair_front (b ∷ bs)) (single_sign b) (pairs b bs) (single-ok b) (sign-longest b bs d w) (stray-none b bs d w)))

stands-longest : (s : ℕ) (l : List ℕ) → Fronts (standing s l).kind ((standing s l).end - s) l
stands-longest s [] = refl
stands-longest s (b ∷ bs) =
    let e : suc (front b bs).1 ≡ suc (s + (front b bs).1) - s = omega arith in
    subst (λ (n : ℕ). Fronts (front b bs).0 n (b ∷ bs)) e (fronts b bs)

starts : (s : ℕ) (l : List ℕ) → s ≡ (standing s l).start
starts s [] = refl
starts s (b ∷ bs) = refl

pub found-law : (text : List ℕ) (at : ℕ) → Found text at (found text at)
found-law text at =
    let r : ℕ = run_of is_blank (drop at text) in
    let s : ℕ = begin text at in
    let n : r ≡ s - at = omega arith in
    let off : run_of is_blank (drop s text) ≡ 0 = sym (ap (run_of is_blank) (drop-drop r at text)) ∙ run-whole is_blank (drop at text) in
    let e = starts s (drop s text) in
    let Blank : ℕ → Type 0 = λ n. AllByRecursion (λ b. is_blank b ≡ true) (take n (drop at text)) in
    let Begins : ℕ → Type 0 = λ s. (b : ℕ) (bs : List ℕ) → drop s text ≡ b ∷ bs → is_blank b ≡ false in
    let Longest : ℕ → Type 0 = λ m. Fronts (found text at).kind ((found text at).end - m) (drop m text) in
    record {
      blanks = subst (λ (m : ℕ). Blank (m - at)) e (subst Blank n (all-passed is_blank _ (run-all is_blank (drop at text))));
      begins = subst Begins e (λ b bs h. run_none is_blank b bs (sym (ap (run_of is_blank) h) ∙ off));
      longest = subst Longest e (stands-longest s (drop s text));
    }

pub token-found : (text : List ℕ) (at : ℕ) → Found text at (token_at text at)
token-found text at = subst (Found text at) (found-is text at) (found-law text at)
