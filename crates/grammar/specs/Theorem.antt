-- What the machine has to do with the grammar: it reads every sheet that the grammar derives within 32 open brackets, and
-- as its tree; what it reads is derived within them; and no sheet has two trees, however deep it nests.
use Rattle.std.specs.Prelude.{◌≡◌, ℕ, List, [], ◌∷◌, ◌++◌}
use Rattle.tables.specs.Trees.{Sheet}
use Rattle.grammar.specs.declared.lexeme.Lexeme.TheVariants as lexeme
use Rattle.grammar.specs.Lexemes.{Tok, tok, lexemes}
use Rattle.grammar.specs.Grammar.{SheetOf}
use Rattle.grammar.specs.Limits.{FewOpen}
use Rattle.grammar.specs.Machine.{done, run, start}

-- the tokens are a sheet's, and then the end
pub record Derives (ts : List Tok) (t : Sheet) : Type 0 where
  pub body : List Tok
  pub end : ℕ
  pub split : ts ≡ body ++ tok end lexeme.End ∷ []
  pub derived : SheetOf body t

abbrev pub ReadsAll : Type 0
ReadsAll = (ts : List Tok) (t : Sheet) → Derives ts t → FewOpen 0 ts → run ts 0 start ≡ done t

abbrev pub OneTree : Type 0
OneTree = (ts : List Tok) (t u : Sheet) → Derives ts t → Derives ts u → t ≡ u

-- at the front of the tokens stand a sheet within the limit and the end
pub record Begins (ts : List Tok) (t : Sheet) : Type 0 where
  pub body : List Tok
  pub end : ℕ
  pub rest : List Tok
  pub split : ts ≡ body ++ tok end lexeme.End ∷ rest
  pub derived : SheetOf body t
  pub few : FewOpen 0 body

abbrev pub ReadsOnly : Type 0
ReadsOnly = (ts : List Tok) (t : Sheet) → run ts 0 start ≡ done t → Begins ts t

-- a text is read as this tree exactly if its tokens derive it, with at most 32 brackets open
pub record ReadsAs (names : List (List ℕ)) (text : List ℕ) (t : Sheet) : Type 0 where
  pub only : run (lexemes names text) 0 start ≡ done t → Derives (lexemes names text) t × FewOpen 0 (lexemes names text)
  pub each : Derives (lexemes names text) t → FewOpen 0 (lexemes names text) → run (lexemes names text) 0 start ≡ done t

abbrev pub ReadsJust : Type 0
ReadsJust = (names : List (List ℕ)) (text : List ℕ) (t : Sheet) → ReadsAs names text t
