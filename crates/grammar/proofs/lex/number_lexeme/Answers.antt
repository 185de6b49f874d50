use Rattle.std.proofs.Common.{ℕ, ◌+◌, ◌-◌, ◌*◌, ◌≤◌, List, [], ◌∷◌, drop, arith}
use Rattle.std.proofs.lemmas.Grind.{common_steps}
use Rattle.grammar.specs.Lexemes.{numeral_from}
use Rattle.grammar.proofs.lex.number_lexeme.Goals as goal

-- a number only grows with its digits
grows : (n : ℕ) (bs : List ℕ) → n ≤ numeral_from n bs
grows n [] = omega arith
grows n (b ∷ bs) = let h = grows (n * 10 + (b - 48)) bs in omega arith

pub returns-then-value-gt-LARGEST_NUMBER : goal.returns-then-value-gt-LARGEST_NUMBER
returns-then-value-gt-LARGEST_NUMBER c =
    let g = grows (c.loop-b.value * 10 + c.from.result) (drop (c.loop-b.b-index + 1) c.args.digits.now) in
    grind (arith, common_steps)
