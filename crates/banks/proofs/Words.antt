-- Numbers in lent bytes: how many there are, where each one stands, what a write to one leaves, and that the
-- points laid out and the spare bytes are all the bytes there are.
use Rattle.std.proofs.Common.{◌≡◌, ℕ, zero, suc, ◌+◌, ◌*◌, ◌/◌, ◌%◌, ◌^◌, ◌<◌, min, List, [], ◌∷◌, ◌++◌, length, get_or, take, set, ℤ, pos, sym, refl, ap, ◌∙◌, le_of_suc-le-suc, not-suc-le-zero, arith, w8, w32, Fits, SFits, of_z}
use Rattle.std.proofs.lemmas.Int.{to_z-of_z, of_z-to_z, ints}
use Rattle.std.proofs.lemmas.List.{drop-drop}
use Rattle.banks.specs.Kept.{number, four, put_at, words, after, laid, put, numbers_in, spare}

pub length-words : (n : ℕ) (bs : List ℕ) → length (words n bs) ≡ min n (length bs / 4)
unfolding words
length-words zero bs = omega arith
length-words (suc n) [] = omega arith
length-words (suc n) (a ∷ []) = omega arith
length-words (suc n) (a ∷ b ∷ []) = omega arith
length-words (suc n) (a ∷ b ∷ c ∷ []) = omega arith
length-words (suc n) (a ∷ b ∷ c ∷ d ∷ bs) = let e = length-words n bs in omega arith

-- places one point on
four-on : (p : ℕ) → 4 * suc p ≡ suc (suc (suc (suc (4 * p))))
four-on p = omega arith

four-on-by : (p k : ℕ) → 4 * suc p + k ≡ suc (suc (suc (suc (4 * p + k))))
four-on-by p k = omega arith

pub get_or-words : (n : ℕ) (bs : List ℕ) (p : ℕ) → p < length (words n bs) → get_or (words n bs) p (pos 0) ≡ number (get_or bs (4 * p) 0) (get_or bs (4 * p + 1) 0) (get_or bs (4 * p + 2) 0) (get_or bs (4 * p + 3) 0)
unfolding words
get_or-words zero bs p h = absurd (not-suc-le-zero h)
get_or-words (suc n) [] p h = absurd (not-suc-le-zero h)
get_or-words (suc n) (a ∷ []) p h = absurd (not-suc-le-zero h)
get_or-words (suc n) (a ∷ b ∷ []) p h = absurd (not-suc-le-zero h)
get_or-words (suc n) (a ∷ b ∷ c ∷ []) p h = absurd (not-suc-le-zero h)
get_or-words (suc n) (a ∷ b ∷ c ∷ d ∷ bs) zero h = refl
get_or-words (suc n) (a ∷ b ∷ c ∷ d ∷ bs) (suc p) h = rw (four-on-by p 1, four-on-by p 2, four-on-by p 3, four-on p) (get_or-words n bs p (le_of_suc-le-suc h))

digits : (n q r s : ℕ) → q ≡ n / 256 → r ≡ q / 256 → s ≡ r / 256 → s < 256 → n % 256 + q % 256 * 256 + r % 256 * 65536 + s % 256 * 16777216 ≡ n
digits n q r s e f g h = let k : s % 256 ≡ s = omega arith in rw k (omega arith)

whole : (n : ℕ) → n < 2 ^ 32 → n % 256 + n / 256 % 256 * 256 + n / 65536 % 256 * 65536 + n / 16777216 % 256 * 16777216 ≡ n
whole n h =
    let a : n / 65536 ≡ n / 256 / 256 = omega arith in
    let b : n / 16777216 ≡ n / 256 / 256 / 256 = omega arith in
    simp (a, b) (digits n (n / 256) (n / 256 / 256) (n / 256 / 256 / 256) refl refl refl (omega arith))

-- a number that is laid out is read as itself
pub number-four : (v : ℤ) → SFits w32 v → number (of_z w32 v % 256) (of_z w32 v / 256 % 256) (of_z w32 v / 65536 % 256) (of_z w32 v / 16777216 % 256) ≡ v
number-four v f =
    let u : of_z w32 v < 2 ^ 32 = omega (arith, ints) in
    rw (whole (of_z w32 v) u) (to_z-of_z w32 v f)

-- a point's four bytes are put where the code puts them
pub put_at-put : (bs : List ℕ) (p : ℕ) (v : ℤ) → put_at bs (4 * p) v ≡ put bs p v
put_at-put bs p v = ap (λ (rest : List ℕ). take (4 * p) bs ++ (four v ++ rest)) (drop-drop 4 (4 * p) bs)

-- what a write to a point leaves
pub put_on : (a b c d : ℕ) (bs : List ℕ) (p : ℕ) (v : ℤ) → put (a ∷ b ∷ c ∷ d ∷ bs) (suc p) v ≡ a ∷ b ∷ c ∷ d ∷ put bs p v
put_on a b c d bs p v = rw (four-on-by p 4, four-on p) refl

pub words-put : (n : ℕ) (bs : List ℕ) (p : ℕ) (v : ℤ) → SFits w32 v → p < length (words n bs) → words n (put bs p v) ≡ set (words n bs) p v
unfolding words
words-put zero bs p v f h = absurd (not-suc-le-zero h)
words-put (suc n) [] p v f h = absurd (not-suc-le-zero h)
words-put (suc n) (a ∷ []) p v f h = absurd (not-suc-le-zero h)
words-put (suc n) (a ∷ b ∷ []) p v f h = absurd (not-suc-le-zero h)
words-put (suc n) (a ∷ b ∷ c ∷ []) p v f h = absurd (not-suc-le-zero h)
words-put (suc n) (a ∷ b ∷ c ∷ d ∷ bs) zero v f h = ap (λ z. z ∷ words n bs) (number-four v f)
words-put (suc n) (a ∷ b ∷ c ∷ d ∷ bs) (suc p) v f h = ap (words (suc n)) (put_on a b c d bs p v) ∙ ap (λ t. number a b c d ∷ t) (words-put n bs p v f (le_of_suc-le-suc h))

pub after-put : (n : ℕ) (bs : List ℕ) (p : ℕ) (v : ℤ) → p < length (words n bs) → after n (put bs p v) ≡ after n bs
unfolding words after
after-put zero bs p v h = absurd (not-suc-le-zero h)
after-put (suc n) [] p v h = absurd (not-suc-le-zero h)
after-put (suc n) (a ∷ []) p v h = absurd (not-suc-le-zero h)
after-put (suc n) (a ∷ b ∷ []) p v h = absurd (not-suc-le-zero h)
after-put (suc n) (a ∷ b ∷ c ∷ []) p v h = absurd (not-suc-le-zero h)
after-put (suc n) (a ∷ b ∷ c ∷ d ∷ bs) zero v h = refl
after-put (suc n) (a ∷ b ∷ c ∷ d ∷ bs) (suc p) v h = ap (after (suc n)) (put_on a b c d bs p v) ∙ after-put n bs p v (le_of_suc-le-suc h)

-- four bytes are the four bytes of their number
pub four-number : (a b c d : ℕ) → a < 256 → b < 256 → c < 256 → d < 256 → four (number a b c d) ≡ a ∷ b ∷ c ∷ d ∷ []
four-number a b c d ha hb hc hd =
    let n : a + b * 256 + c * 65536 + d * 16777216 < 2 ^ 32 = omega arith in
    let e = of_z-to_z w32 (a + b * 256 + c * 65536 + d * 16777216) n in
    let x : (a + b * 256 + c * 65536 + d * 16777216) / 256 ≡ b + c * 256 + d * 65536 = omega arith in
    let y : (a + b * 256 + c * 65536 + d * 16777216) / 65536 ≡ c + d * 256 = omega arith in
    let z : (a + b * 256 + c * 65536 + d * 16777216) / 16777216 ≡ d = omega arith in
    let i : (a + b * 256 + c * 65536 + d * 16777216) % 256 ≡ a = omega arith in
    let j : (b + c * 256 + d * 65536) % 256 ≡ b = omega arith in
    let k : (c + d * 256) % 256 ≡ c = omega arith in
    let l : d % 256 ≡ d = omega arith in
    simp (e, x, y, z, i, j, k, l)

-- the points laid out and the spare bytes are all the bytes there are
pub laid-words : (n : ℕ) (bs : List ℕ) → ((i : ℕ) → get_or bs i 0 < 256) → laid (words n bs) ++ after n bs ≡ bs
unfolding words after laid
laid-words zero bs h = refl
laid-words (suc n) [] h = refl
laid-words (suc n) (a ∷ []) h = refl
laid-words (suc n) (a ∷ b ∷ []) h = refl
laid-words (suc n) (a ∷ b ∷ c ∷ []) h = refl
laid-words (suc n) (a ∷ b ∷ c ∷ d ∷ bs) h =
    ap (λ t. t ++ laid (words n bs) ++ after n bs) (four-number a b c d (h 0) (h 1) (h 2) (h 3)) ∙ ap (λ t. a ∷ b ∷ c ∷ d ∷ t) (laid-words n bs (λ i. h (suc (suc (suc (suc i))))))

-- so whoever knows the points and the spare bytes knows every byte
pub every_byte : (bs ss : List ℕ) (xs : List ℤ) → ((i : ℕ) → Fits w8 (get_or bs i 0)) → numbers_in bs ≡ xs → spare bs ≡ ss → bs ≡ laid xs ++ ss
every_byte bs ss xs h e f = sym (laid-words 64 bs (λ i. (h i).fits)) ∙ ap (λ t. laid t ++ spare bs) e ∙ ap (λ t. laid xs ++ t) f
