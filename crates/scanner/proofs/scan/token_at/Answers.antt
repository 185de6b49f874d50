use Rattle.std.proofs.Common.{◌≡◌, ℕ, List, sym, ◌∙◌, subst, arith}
use Rattle.std.proofs.lemmas.Grind.{common_steps}
use Rattle.scanner.specs.Tokens.{is_blank, token_at, Placed}
use Rattle.scanner.specs.Spelling.{Found}
use Rattle.scanner.specs.declared.token.Token.{Token}
use Rattle.scanner.proofs.NextToken.{found, found-is, found-placed}
use Rattle.scanner.proofs.TokenLaws.{found-law}
use Rattle.scanner.proofs.scan.token_at.Goals as goal

told : (text : List ℕ) (at : ℕ) (t : Token) → t ≡ found text at → (t ≡ token_at text at) × Placed text at t × Found text at t
told text at t e = (
  e ∙ found-is text at,
  subst (Placed text at) (sym e) (found-placed text at),
  subst (Found text at) (sym e) (found-law text at),
)

pub returns-then-start-text : goal.returns-then-start-text
returns-then-start-text c =
    let start = c.run_end-start.ensures is_blank (λ b r e. e) in
    let w = told c.args.text.now c.args.at c.token_from.result (cc (start, c.token_from.ensures)) in
    record { value = w.0; placed = w.1; found = w.2 }

pub returns-else-start-text : goal.returns-else-start-text
returns-else-start-text c =
    let start = c.run_end-start.ensures is_blank (λ b r e. e) in
    let w = told c.args.text.now c.args.at _ (grind (arith, common_steps)) in
    record { value = w.0; placed = w.1; found = w.2 }
