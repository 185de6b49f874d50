use Rattle.std.proofs.Common.{arith, rules, of_calls}
use Rattle.std.proofs.lemmas.Grind.{common_steps}
use Rattle.std.specs.Char.{is_ascii_digit}
use Rattle.scanner.specs.Words.{goes_on}
use Rattle.scanner.proofs.scan.token_from.Goals as goal

pub returns-then-is_ascii_digit : goal.returns-then-is_ascii_digit
returns-then-is_ascii_digit c =
    let run = c.run_end.ensures is_ascii_digit (λ b r e. search (rules, of_calls)) in
    grind (arith, common_steps)

pub returns-then-begins_word : goal.returns-then-begins_word
returns-then-begins_word c =
    let run = c.run_end-then-begins_word.ensures goes_on (λ b r e. e) in
    grind (arith, common_steps)
