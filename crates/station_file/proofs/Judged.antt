-- The judging of instructions, one after another.
use Rattle.std.proofs.Common.{◌≡◌, ℕ, Bool, zero, suc, ◌+◌, ◌<◌, ◌≤◌, true, not, cond, min, ltb, take, List, [], ◌∷◌, Option, MatchOption, unwrap_or, length, Some, None, arith}
use Rattle.std.specs.List.{position_or_len, AllWithin, HoldsAt}
use Rattle.std.proofs.lemmas.Bool.Decides.{nat_tests}
use Rattle.std.proofs.lemmas.Grind.{common_steps}
use Rattle.instructions.specs.declared.instruction.Instruction.{Instruction}
use Rattle.instructions.specs.declared.instruction.Instruction.TheVariants.{Pop}
use Rattle.station_file.specs.Rules.{allowed, Held, Each, RightInstruction}
use Rattle.station_file.specs.Writing.{first_wrong, wrong_places}
use Rattle.station_file.proofs.Eachs.{each_from}

-- the first wrong one is the first that is not allowed among as many as may stand there, or the one after those
pub first-wrong : (points count i n : ℕ) (is : List Instruction) → i + n ≡ 1024 → first_wrong points count i is ≡ cond (ltb (position_or_len (λ x. not (allowed points count x)) (take n is)) (length is)) (Some (i + position_or_len (λ x. not (allowed points count x)) (take n is))) None
unfolding first_wrong
first-wrong points count i zero [] h = grind (arith, common_steps, nat_tests)
first-wrong points count i (suc n) [] h = grind (arith, common_steps, nat_tests)
first-wrong points count i zero (x ∷ xs) h = grind (arith, common_steps, nat_tests)
first-wrong points count i (suc n) (x ∷ xs) h = grind (arith, common_steps, nat_tests, first-wrong points count (i + 1) n xs (omega (arith, h)))

pub first-within : (test : Instruction → Bool) (is : List Instruction) → position_or_len test is ≤ length is
first-within test [] = omega arith
first-within test (x ∷ xs) = grind (arith, common_steps, first-within test xs)

-- what the code takes for the first wrong one: it looks at m of them, and p is where one of these is wrong, or m
pub cut-off : (count p m : ℕ) (wrong : Option ℕ) (right : ℕ) → m ≡ min 1024 count → p ≤ m → wrong ≡ cond (ltb p m) (Some p) None → right ≡ min (unwrap_or wrong count) 1024 → right ≡ p
cut-off count p m wrong right f h w e = grind (arith, nat_tests)

-- where none that is wrong was found, each of them is right
pub none-before : (Wrong Fine : Instruction → Type 0) (r : Option ℕ) (is : List Instruction) → MatchOption r (AllWithin Fine is 0 (length is)) (λ i. (i < length is) × HoldsAt Wrong is i × AllWithin Fine is 0 i) → length is ≤ unwrap_or r (length is) → Each Fine is
none-before Wrong Fine None is m h = each_from Fine is Pop (λ i l. m i Pop (omega arith) l)
none-before Wrong Fine (Some i) is m h = absurd (omega (arith, m.0, h))

-- where none is wrong each of them is right, and there are not too many
pub none-wrong : (points count i : ℕ) (is : List Instruction) → i ≤ 1024 → Each Held is → first_wrong points count i is ≡ None → (Each (RightInstruction points count) is) × (i + length is ≤ 1024)
unfolding first_wrong Each
none-wrong points count i [] h e w = (tt, omega arith)
none-wrong points count i (x ∷ xs) h e w =
    let low : i < 1024 = grind (arith, nat_tests) in
    let right : allowed points count x ≡ true = grind (arith, nat_tests) in
    let on : first_wrong points count (i + 1) xs ≡ None = grind (arith, nat_tests) in
    let rest = none-wrong points count (i + 1) xs (omega arith) e.1 on in
    (((right, e.0), rest.0), omega (arith, rest.1))

-- where no place is missing or too many, there are as many as were counted
pub as_many : (count given : ℕ) → wrong_places count given ≡ None → given ≡ count
as_many count given e = grind (arith, nat_tests)
