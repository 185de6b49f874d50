-- The grammar, as it is written: each family says which tokens make up a thing of the language, and which tree that is.
-- Sums and prods group from the left, conditions and conjuncts from the right. It knows nothing of limits, of
-- looking ahead or of the order in which a sheet is read.
use Rattle.std.specs.Prelude.{ℕ, Bool, List, [], ◌∷◌, ◌++◌, ℤ}
use Rattle.arith.specs.declared.operator.Operator.{Operator}
use Rattle.arith.specs.declared.comparison.Comparison.{Comparison}
use Rattle.tables.specs.Trees as tree
use Rattle.tables.specs.Trees.{Sum, Condition, Command, Sheet, both, either}
use Rattle.grammar.specs.Lexemes.{Tok, tok}
use Rattle.grammar.specs.declared.lexeme.Lexeme.TheVariants as lexeme

-- the place of a command is its name's or its word's
abbrev pub command_place : Command → ℕ
command_place (tree.set p x e) = p
command_place (tree.when p c t) = p
command_place (tree.choose p c t u) = p
command_place (tree.while p c t) = p

-- the place of a sheet's first command
abbrev pub first_place : Sheet → ℕ
first_place (tree.only c) = command_place c
first_place (tree.joint p c t) = command_place c

mutual
  -- prods joined by + or -
  pub data SumOf : List Tok → Sum → Type 0 where
    prod : {us : List Tok} {e : Sum} → ProdOf us e → SumOf us e
    sums : {us vs : List Tok} {l r : Sum} (o : Operator) (p : ℕ) → SumOf us l → ProdOf vs r → SumOf (us ++ tok p (lexeme.Additive o) ∷ vs) (tree.work p o l r)

  -- factors joined by * or /
  pub data ProdOf : List Tok → Sum → Type 0 where
    factor : {us : List Tok} {e : Sum} → FactorOf us e → ProdOf us e
    prods : {us vs : List Tok} {l r : Sum} (o : Operator) (p : ℕ) → ProdOf us l → FactorOf vs r → ProdOf (us ++ tok p (lexeme.Multiplicative o) ∷ vs) (tree.work p o l r)

  -- a number, a name, or a sum in brackets
  pub data FactorOf : List Tok → Sum → Type 0 where
    number : (p : ℕ) (v : ℤ) → FactorOf (tok p (lexeme.Number v) ∷ []) (tree.number p v)
    name : (p x : ℕ) → FactorOf (tok p (lexeme.Name x) ∷ []) (tree.name p x)
    within : {us : List Tok} {e : Sum} (p q : ℕ) → SumOf us e → FactorOf (tok p lexeme.Open ∷ us ++ tok q lexeme.Close ∷ []) e

mutual
  -- conjuncts joined by ||
  pub data ConditionOf : List Tok → Condition → Type 0 where
    conjunct : {us : List Tok} {c : Condition} → ConjunctOf us c → ConditionOf us c
    conjuncts : {us vs : List Tok} {c d : Condition} (p : ℕ) → ConjunctOf us c → ConditionOf vs d → ConditionOf (us ++ tok p lexeme.Or ∷ vs) (tree.connect p either c d)

  -- literals joined by &&
  pub data ConjunctOf : List Tok → Condition → Type 0 where
    literal : {us : List Tok} {c : Condition} → LiteralOf us c → ConjunctOf us c
    literals : {us vs : List Tok} {c d : Condition} (p : ℕ) → LiteralOf us c → ConjunctOf vs d → ConjunctOf (us ++ tok p lexeme.And ∷ vs) (tree.connect p both c d)

  -- ! and a literal, true, false, two sums with a comparison between, or a condition in brackets
  pub data LiteralOf : List Tok → Condition → Type 0 where
    negated : {us : List Tok} {c : Condition} (p : ℕ) → LiteralOf us c → LiteralOf (tok p lexeme.Not ∷ us) (tree.negate p c)
    truth : (p : ℕ) (b : Bool) → LiteralOf (tok p (lexeme.Truth b) ∷ []) (tree.truth p b)
    compared : {us vs : List Tok} {l r : Sum} (k : Comparison) (p : ℕ) → SumOf us l → SumOf vs r → LiteralOf (us ++ tok p (lexeme.Compare k) ∷ vs) (tree.compare p k l r)
    within : {us : List Tok} {c : Condition} (p q : ℕ) → ConditionOf us c → LiteralOf (tok p lexeme.Open ∷ us ++ tok q lexeme.Close ∷ []) c

mutual
  pub data CommandOf : List Tok → Command → Type 0 where
    -- name = sum ;
    set : {us : List Tok} {e : Sum} (p x q r : ℕ) → SumOf us e → CommandOf (tok p (lexeme.Name x) ∷ tok q lexeme.Becomes ∷ us ++ tok r lexeme.Semicolon ∷ []) (tree.set p x e)
    -- if ( condition ) block
    when : {us vs : List Tok} {c : Condition} {t : Sheet} (p q r : ℕ) → ConditionOf us c → BlockOf vs t → CommandOf (tok p lexeme.If ∷ tok q lexeme.Open ∷ us ++ tok r lexeme.Close ∷ vs) (tree.when p c t)
    -- if ( condition ) block else block
    choose : {us vs ws : List Tok} {c : Condition} {t u : Sheet} (p q r s : ℕ) → ConditionOf us c → BlockOf vs t → BlockOf ws u → CommandOf (tok p lexeme.If ∷ tok q lexeme.Open ∷ us ++ tok r lexeme.Close ∷ vs ++ tok s lexeme.Else ∷ ws) (tree.choose p c t u)
    -- while ( condition ) block
    while : {us vs : List Tok} {c : Condition} {t : Sheet} (p q r : ℕ) → ConditionOf us c → BlockOf vs t → CommandOf (tok p lexeme.While ∷ tok q lexeme.Open ∷ us ++ tok r lexeme.Close ∷ vs) (tree.while p c t)

  -- a sheet between { and }
  pub data BlockOf : List Tok → Sheet → Type 0 where
    block : {us : List Tok} {t : Sheet} (p q : ℕ) → SheetOf us t → BlockOf (tok p lexeme.OpenBlock ∷ us ++ tok q lexeme.CloseBlock ∷ []) t

  -- one or more commands; two are joined at the place of the later one
  pub data SheetOf : List Tok → Sheet → Type 0 where
    only : {us : List Tok} {c : Command} → CommandOf us c → SheetOf us (tree.only c)
    commands : {us vs : List Tok} {c : Command} {t : Sheet} → CommandOf us c → SheetOf vs t → SheetOf (us ++ vs) (tree.joint (first_place t) c t)
