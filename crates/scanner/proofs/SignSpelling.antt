-- The table of signs, forward and back: what the scanner takes for a sign is spelled so, and where a sign is spelled
-- the scanner takes one that is at least as long.
use Rattle.std.proofs.Common.{◌≡◌, ℕ, zero, suc, ◌≤◌, true, false, eqb, List, [], ◌∷◌, length, get_or, take, Some, None, Option, sym, refl, ap, ◌∙◌, subst, arith}
use Rattle.std.proofs.lemmas.List.{length-take}
use Rattle.std.proofs.lemmas.Bool.{eqb-true}
use Rattle.std.specs.Char.{is_ascii_digit}
use Rattle.scanner.specs.Words.{begins_word}
use Rattle.scanner.specs.Tokens.{pair_sign, single_sign, pair_front, sign_or, sign_front}
use Rattle.scanner.specs.Spelling.{spelling}
use Rattle.arith.specs.declared.comparison.Comparison.TheVariants.{Less, LessOrEqual, Greater, GreaterOrEqual, Equal, NotEqual}
use Rattle.scanner.specs.declared.token.Symbol.{Symbol}
use Rattle.scanner.specs.declared.token.Symbol.TheVariants.{OpenBlock, CloseBlock, Open, Close, Semicolon, Becomes, Plus, Minus, Times, Over, Not, And, Or, Compare}
use Rattle.scanner.specs.declared.token.Kind.{Kind}
use Rattle.scanner.specs.declared.token.Kind.TheVariants.{Word, Number, Sign, End, Stray}

-- no sign begins like a number or a word
abbrev Apart : ℕ → Type 0
Apart b = (is_ascii_digit b ≡ false) × (begins_word b ≡ false)

apart : (s : Symbol) → Apart (get_or (spelling s) 0 0)
apart OpenBlock = (refl, refl)
apart CloseBlock = (refl, refl)
apart Open = (refl, refl)
apart Close = (refl, refl)
apart Semicolon = (refl, refl)
apart Becomes = (refl, refl)
apart Plus = (refl, refl)
apart Minus = (refl, refl)
apart Times = (refl, refl)
apart Over = (refl, refl)
apart Not = (refl, refl)
apart And = (refl, refl)
apart Or = (refl, refl)
apart (Compare Less) = (refl, refl)
apart (Compare LessOrEqual) = (refl, refl)
apart (Compare Greater) = (refl, refl)
apart (Compare GreaterOrEqual) = (refl, refl)
apart (Compare Equal) = (refl, refl)
apart (Compare NotEqual) = (refl, refl)

pub sign-apart : (s : Symbol) (b : ℕ) (w : List ℕ) → b ∷ w ≡ spelling s → (is_ascii_digit b ≡ false) × (begins_word b ≡ false)
sign-apart s b w e = subst Apart (sym (ap (λ (l : List ℕ). get_or l 0 0) e)) (apart s)

-- forward

abbrev pub PairOk : ℕ → ℕ → Option Symbol → Type 0
PairOk b c (Some s) = b ∷ c ∷ [] ≡ spelling s
PairOk b c None = Unit {0}

pub pair_ok : (b c : ℕ) → PairOk b c (pair_sign b c)
pair_ok b c = grind arith

abbrev pub SingleOk : ℕ → Kind → Type 0
SingleOk b Word = ⊥
SingleOk b Number = ⊥
SingleOk b (Sign s) = b ∷ [] ≡ spelling s
SingleOk b End = ⊥
SingleOk b Stray = Unit {0}

one : (b x : ℕ) → eqb b x ≡ true → b ∷ [] ≡ x ∷ []
one b x e = ap (λ (b : ℕ). b ∷ []) (eqb-true b x e)

pub single-ok : (b : ℕ) → SingleOk b (single_sign b)
single-ok b = grind (arith, one)

-- back

-- where m more bytes than the first spell a sign, the scanner's is as long
abbrev Taken : ℕ → List ℕ → ℕ → Type 0
Taken b bs m = (m ≤ (sign_front b bs).1) × ((sign_front b bs).0 ≡ Stray → ⊥)

sign-no-stray : (s : Symbol) → Sign s ≡ Stray → ⊥
sign-no-stray s e = let z : ◌≡◌ {A = ℕ} 0 1 = cc in omega arith

or-sign : (o : Option Symbol) (s : Symbol) → (sign_or o (Sign s)).0 ≡ Stray → ⊥
or-sign (Some t) s e = sign-no-stray t e
or-sign None s e = sign-no-stray s e

single-back : (x : ℕ) (s : Symbol) → single_sign x ≡ Sign s → (b : ℕ) (bs : List ℕ) (m : ℕ) → m ≤ length bs → b ∷ take m bs ≡ x ∷ [] → Taken b bs m
single-back x s is b bs m le e =
    let len : length (b ∷ take m bs) ≡ 1 = ap length e in
    let n : m ≤ 0 = omega (arith, length-take m bs) in
    let first : b ≡ x = cc in
    let kind : single_sign b ≡ Sign s = ap single_sign first ∙ is in
    (omega arith, λ h. or-sign (pair_front (b ∷ bs)) s (sym (ap (λ (k : Kind). (sign_or (pair_front (b ∷ bs)) k).0) kind) ∙ h))

pair-back : (x y : ℕ) (s : Symbol) → pair_sign x y ≡ Some s → (b : ℕ) (bs : List ℕ) (m : ℕ) → m ≤ length bs → b ∷ take m bs ≡ x ∷ y ∷ [] → Taken b bs m
pair-back x y s is b [] zero le e = absurd (omega (arith, ap length e))
pair-back x y s is b [] (suc m) le e = absurd (omega arith)
pair-back x y s is b (c ∷ cs) zero le e = absurd (omega (arith, ap length e))
pair-back x y s is b (c ∷ cs) (suc m) le e =
    let len : length (b ∷ c ∷ take m cs) ≡ 2 = ap length e in
    let n : m ≤ 0 = omega (arith, length-take m cs) in
    let first : b ≡ x = cc in
    let second : c ≡ y = cc in
    let pair : pair_sign b c ≡ Some s = ap (λ (b : ℕ). pair_sign b c) first ∙ ap (pair_sign x) second ∙ is in
    let whole : sign_front b (c ∷ cs) ≡ (Sign s, 1) = ap (λ (o : Option Symbol). sign_or o (single_sign b)) pair in
    (omega (arith, ap (λ (w : Kind × ℕ). w.1) whole), λ h. sign-no-stray s (sym (ap (λ (w : Kind × ℕ). w.0) whole) ∙ h))

pub sign-back : (s : Symbol) (b : ℕ) (bs : List ℕ) (m : ℕ) → m ≤ length bs → b ∷ take m bs ≡ spelling s → (m ≤ (sign_front b bs).1) × ((sign_front b bs).0 ≡ Stray → ⊥)
sign-back OpenBlock = single-back 123 OpenBlock refl
sign-back CloseBlock = single-back 125 CloseBlock refl
sign-back Open = single-back 40 Open refl
sign-back Close = single-back 41 Close refl
sign-back Semicolon = single-back 59 Semicolon refl
sign-back Becomes = single-back 61 Becomes refl
sign-back Plus = single-back 43 Plus refl
sign-back Minus = single-back 45 Minus refl
sign-back Times = single-back 42 Times refl
sign-back Over = single-back 47 Over refl
sign-back Not = single-back 33 Not refl
sign-back And = pair-back 38 38 And refl
sign-back Or = pair-back 124 124 Or refl
sign-back (Compare Less) = single-back 60 (Compare Less) refl
sign-back (Compare LessOrEqual) = pair-back 60 61 (Compare LessOrEqual) refl
sign-back (Compare Greater) = single-back 62 (Compare Greater) refl
sign-back (Compare GreaterOrEqual) = pair-back 62 61 (Compare GreaterOrEqual) refl
sign-back (Compare Equal) = pair-back 61 61 (Compare Equal) refl
sign-back (Compare NotEqual) = pair-back 33 61 (Compare NotEqual) refl
