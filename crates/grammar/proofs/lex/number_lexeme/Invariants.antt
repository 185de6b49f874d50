use Rattle.std.proofs.Common.{◌≡◌, ◌≤◌, drop}
use Rattle.grammar.specs.Lexemes.{numeral_from, numeral}
use Rattle.grammar.proofs.lex.number_lexeme.Given as goal

-- the digits still to come go on from the value so far
abbrev pub invariant-loop-b : goal.invariant-loop-b
invariant-loop-b l = (l.value ≤ 2147483647) × (numeral_from l.value (drop l.b-index l.digits) ≡ numeral l.digits)
