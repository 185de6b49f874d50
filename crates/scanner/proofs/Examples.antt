-- The definitions, run on small texts.
use Rattle.std.proofs.Common.{◌≡◌, true, false, [], ◌∷◌, codes, refl}
use Rattle.scanner.specs.Tokens.{token, tokens, tokens_at}
use Rattle.scanner.specs.Looks.{clue_ahead}
use Rattle.arith.specs.declared.comparison.Comparison.TheVariants.{LessOrEqual, Equal}
use Rattle.scanner.specs.declared.token.Symbol.TheVariants.{Becomes, Compare}
use Rattle.scanner.specs.declared.token.Kind.TheVariants.{Word, Number, Sign, End, Stray}

number-then-word : tokens (codes " 12ab") ≡ token Number 1 3 ∷ token Word 3 5 ∷ token End 5 5 ∷ []
unfolding tokens_at
number-then-word = refl

longer-sign-first : tokens (codes "<====") ≡ token (Sign (Compare LessOrEqual)) 0 2 ∷ token (Sign (Compare Equal)) 2 4 ∷ token (Sign Becomes) 4 5 ∷ token End 5 5 ∷ []
unfolding tokens_at
longer-sign-first = refl

nothing-behind-a-stray-byte : tokens (codes "a & b") ≡ token Word 0 1 ∷ token Stray 2 3 ∷ []
unfolding tokens_at
nothing-behind-a-stray-byte = refl

clue-before-the-partner : clue_ahead (codes "(a) < b)") (tokens (codes "(a) < b)")) 0 ≡ true
unfolding tokens_at
clue-before-the-partner = refl

clue-behind-the-partner : clue_ahead (codes "(a)) < b") (tokens (codes "(a)) < b")) 0 ≡ false
unfolding tokens_at
clue-behind-the-partner = refl
