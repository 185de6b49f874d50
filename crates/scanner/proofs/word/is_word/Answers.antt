use Rattle.std.proofs.Common.{◌≡◌, ℕ, Bool, true, ◌&&◌, List, [], ◌∷◌, get_or, drop, ap, ◌∙◌, rules, tests}
use Rattle.std.proofs.lemmas.List.{take_rest}
use Rattle.std.proofs.lemmas.Iterator.{YieldsList-from_slice}
use Rattle.std.proofs.lemmas.Iterator.Search.{all_from_yields_List}
use Rattle.std.proofs.lemmas.Bool.{true≢false}
use Rattle.scanner.specs.Words.{is_word, begins_word, goes_on, all_go_on}
use Rattle.scanner.proofs.word.is_word.Goals as goal

-- no word begins with byte 0, so a text that begins one is not empty
begun : (xs : List ℕ) → true ≡ begins_word (get_or xs 0 0) → all_go_on (drop 1 xs) ≡ is_word xs
begun [] e = absurd (true≢false e)
begun (b ∷ bs) e = ap (λ (t : Bool). t && all_go_on bs) e

pub returns-then-begins_word : goal.returns-then-begins_word
returns-then-begins_word c =
    all_from_yields_List goes_on _ _ c.all.result c.all.ensures.ran (YieldsList-from_slice _ (c.iter.ensures.rest ∙ take_rest c.args.bytes.now 1)) (λ x b q k. search (rules, tests))
    ∙ begun c.args.bytes.now c.if-begins_word.ensures
