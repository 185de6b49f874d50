use Rattle.std.proofs.Common.{◌≡◌, ℕ, suc, cond, List, [], ◌∷◌, Some, refl, ap, ◌∙◌, add-one, rules, tests}
use Rattle.std.specs.List.{position_from as first_from}
use Rattle.std.specs.Str.{bytes_eq}
use Rattle.std.proofs.lemmas.Iterator.Adapters.{position_from-zero}
use Rattle.std.proofs.lemmas.Iterator.Consumers.{YieldsList-from_first}
use Rattle.std.proofs.lemmas.Iterator.Search.{position_from_yields_List}
use Rattle.names.specs.Lines.{lines_of, position_from}
use Rattle.names.proofs.lines.find_line.Goals as goal

-- the library's word for the place of the first hit
first_from-is : (n : ℕ) (word : List ℕ) (lines : List (List ℕ)) → first_from (λ line. bytes_eq line word) n lines ≡ position_from n word lines
first_from-is n word [] = refl
first_from-is n word (line ∷ lines) =
    ap (cond (bytes_eq line word) (Some n)) (ap (λ (k : ℕ). first_from (λ l. bytes_eq l word) k lines) (add-one n) ∙ first_from-is (suc n) word lines)

pub returns-clause-value : goal.returns-clause-value
returns-clause-value c =
    let word = c.args.word.now in
    let lines = lines_of c.args.text.now in
    position_from_yields_List (λ line. bytes_eq line word) c.position.new.self _ c.position.result c.position.ensures.ran (YieldsList-from_first (λ x. x.now) (λ s. lines_of s.rest.now) lines cc) (λ x b q k. search (rules, tests))
    ∙ position_from-zero (λ line. bytes_eq line word) lines
    ∙ first_from-is 0 word lines
