use Rattle.std.proofs.Common.{◌≡◌, ◌<◌, Bool, length, take, not, false, MatchOption, List, rules, tests, arith, subst}
use Rattle.std.specs.List.{position_or_len, AllWithin, HoldsAt}
use Rattle.std.proofs.lemmas.Bool.Decides.{nat_tests}
use Rattle.std.proofs.lemmas.Iterator.{YieldsList-from_slice, YieldsList-from_take, IsFirst-from_position}
use Rattle.std.proofs.lemmas.Iterator.Search.{position_from_yields_List}
use Rattle.std.proofs.lemmas.List.{length-take, take_all}
use Rattle.instructions.specs.declared.instruction.Instruction.{Instruction}
use Rattle.station_file.specs.Rules.{allowed, RightInstruction}
use Rattle.station_file.proofs.Judged.{cut-off, first-within, first-wrong, none-before}
use Rattle.station_file.proofs.sections.right_instructions.Goals as goal

pub returns-then-right-count-clause-value : goal.returns-then-right-count-clause-value
returns-then-right-count-clause-value c =
    let is = c.args.instructions.now in
    let wrong-one : Instruction → Bool = λ x. not (allowed c.args.points (length is) x) in
    let e = position_from_yields_List wrong-one c.position-wrong.new.self _ c.position-wrong.result c.position-wrong.ensures.ran (YieldsList-from_take 1024 (YieldsList-from_slice is cc) cc) (λ x b q k. search (rules, tests)) in
    let right = cut-off (length is) _ _ _ c.min-right.result (length-take 1024 is) (first-within wrong-one (take 1024 is)) e (grind (arith, nat_tests, c.unwrap_or.ensures, c.min-right.ensures)) in
    let w = first-wrong c.args.points (length is) 0 1024 is (omega arith) in
    grind (arith, nat_tests, right, w)

pub returns-else-right-count-clause-value : goal.returns-else-right-count-clause-value
returns-else-right-count-clause-value c =
    let is = c.args.instructions.now in
    let wrong-one : Instruction → Bool = λ x. not (allowed c.args.points (length is) x) in
    let e = position_from_yields_List wrong-one c.position-wrong.new.self _ c.position-wrong.result c.position-wrong.ensures.ran (YieldsList-from_take 1024 (YieldsList-from_slice is cc) cc) (λ x b q k. search (rules, tests)) in
    let right = cut-off (length is) _ _ _ c.min-right.result (length-take 1024 is) (first-within wrong-one (take 1024 is)) e (grind (arith, nat_tests, c.unwrap_or.ensures, c.min-right.ensures)) in
    let w = first-wrong c.args.points (length is) 0 1024 is (omega arith) in
    grind (arith, nat_tests, right, w)

pub returns-else-right-count-clause-right : goal.returns-else-right-count-clause-right
returns-else-right-count-clause-right c =
    let is = c.args.instructions.now in
    let first = IsFirst-from_position c.position-wrong.new.self _ c.position-wrong.result (λ x. allowed c.args.points (length is) x ≡ false) (RightInstruction c.args.points (length is)) c.position-wrong.ensures.ran (YieldsList-from_take 1024 (YieldsList-from_slice is cc) cc) (λ x q k. search (rules, tests)) (λ x q k. search (rules, tests)) in
    let whole : take 1024 is ≡ is = take_all 1024 is (grind (arith, nat_tests, c.unwrap_or.ensures, c.min-right.ensures)) in
    let first-of-all = subst (λ (ys : List Instruction). MatchOption c.position-wrong.result (AllWithin (RightInstruction c.args.points (length is)) ys 0 (length ys)) (λ i. (i < length ys) × HoldsAt (λ x. allowed c.args.points (length is) x ≡ false) ys i × AllWithin (RightInstruction c.args.points (length is)) ys 0 i)) whole first in
    none-before (λ x. allowed c.args.points (length is) x ≡ false) (RightInstruction c.args.points (length is)) c.position-wrong.result is first-of-all (grind (arith, nat_tests, c.unwrap_or.ensures, c.min-right.ensures))
