-- How deep a sheet may nest: at most 32 `(` and `{` are open together. It is judged beside the grammar, over the tokens
-- alone.
use Rattle.std.specs.Prelude.{ℕ, ◌≤◌, List, [], ◌∷◌}
use Rattle.grammar.specs.Lexemes.{Tok}
use Rattle.grammar.specs.Choices.{depth_after}

-- never more than 32, where d are open already
abbrev pub FewOpen : ℕ → List Tok → Type 0
FewOpen d [] = d ≤ 32
FewOpen d (x ∷ xs) = (d ≤ 32) × FewOpen (depth_after x.lexeme d) xs
