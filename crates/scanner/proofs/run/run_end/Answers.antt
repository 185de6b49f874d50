use Rattle.std.proofs.Common.{◌≡◌, ℕ, true, false, refl, rules, arith}
use Rattle.std.proofs.lemmas.List.{take_rest}
use Rattle.std.proofs.lemmas.Iterator.{YieldsList-from_slice, IsFirst-from_position, index_from_first}
use Rattle.scanner.specs.Tokens.{run_of}
use Rattle.scanner.proofs.RunSteps.{run_on, run-off}
use Rattle.scanner.proofs.run.run_end.Goals as goal

pub returns : goal.returns
returns g c class tells =
    let first = IsFirst-from_position _ _ c.position.result (λ (b : ℕ). class b ≡ false) (λ (b : ℕ). class b ≡ true) c.position.ensures.ran (YieldsList-from_slice c.in-Some.rest.now c.iter.ensures.rest) (λ x q k. search (rules, tells)) (λ x q k. search (rules, tells)) in
    let run = index_from_first (run_of class) (λ (b : ℕ). class b ≡ false) (λ (b : ℕ). class b ≡ true) refl (run-off class) (λ b bs e. omega (arith, run_on class b bs e)) c.in-Some.rest.now c.position.result first in
    cc (run, c.in-Some.ensures.lookup.0.2, take_rest c.args.text.now c.args.at)
