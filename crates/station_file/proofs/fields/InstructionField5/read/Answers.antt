use Rattle.std.proofs.Common.{◌≡◌, ℕ, ◌+◌, List, drop, Ok, Option, ap, ◌∙◌, rules}
use Rattle.std.proofs.lemmas.List.{drop-drop}
use Rattle.station_file.specs.Reading.{or_wrong, four_of, code_byte, with_operand, instruction_field}
use Rattle.station_file.proofs.fields.InstructionField5.read.Goals as goal

-- the instruction of a code byte that is one and of the operand after it
instruction-there : (points count at c : ℕ) (bs : List ℕ) (o : Option ℕ) → Ok c ≡ or_wrong at (code_byte (drop at bs)) → o ≡ four_of (drop (at + 1) bs) → or_wrong (at + 1) (with_operand points count c o) ≡ instruction_field points count at (drop at bs)
instruction-there points count at c bs o e f = let after = drop-drop 1 at bs in cc

pub returns-clause-value : goal.returns-clause-value
returns-clause-value c =
    let points = c.args.counts.points in
    let count = c.args.counts.instructions in
    let at = c.args.unread.now.at in
    let bs = c.args.unread.now.bytes.now in
    let code = c.in_ok-code.code in
    let operand : c.four-operand.result ≡ four_of (drop (at + 1) bs) = cc (c.four-operand.ensures.value, c.in_ok-code.ensures.moved.moved, c.in_ok-code.ensures.moved.same_bytes) in
    let decoded : c.and_then.result ≡ with_operand points count code c.four-operand.result = search rules in
    let judged : c.ok_or.result ≡ or_wrong c.code.new.self.at c.and_then.result = search rules in
    judged ∙ ap (λ n. or_wrong n c.and_then.result) c.in_ok-code.ensures.moved.moved ∙ ap (or_wrong (at + 1)) decoded ∙ instruction-there points count at code bs c.four-operand.result c.in_ok-code.ensures.value operand
