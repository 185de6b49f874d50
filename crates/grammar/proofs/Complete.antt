-- What the grammar derives, the machine reads, and as its tree. It is shown of the machine without its limit, so that no
-- sheet has two trees, however deep it nests.
use Rattle.std.proofs.Common.{◌≡◌, ℕ, suc, Bool, true, false, cond, List, [], ◌∷◌, ◌++◌, Some, None, Option, sym, refl, ap, ◌∙◌, subst, append_assoc}
use Rattle.arith.specs.declared.comparison.Comparison.{Comparison}
use Rattle.tables.specs.Trees.{Sum, Condition, Command, Sheet, compare, both, either, set, when, choose, while}
use Rattle.grammar.specs.declared.lexeme.Lexeme.{Lexeme}
use Rattle.grammar.specs.declared.lexeme.Lexeme.TheVariants as lexeme
use Rattle.grammar.specs.declared.choice.Mark.{Mark}
use Rattle.grammar.specs.declared.choice.Mark.TheVariants.{Else, Open, Close, OpenBlock, Semicolon, Becomes}
use Rattle.grammar.specs.Choices.{mark_of}
use Rattle.grammar.specs.Lexemes.{Tok, tok}
use Rattle.grammar.specs.Grammar.{SumOf, ProdOf, FactorOf, ConditionOf, ConjunctOf, LiteralOf, CommandOf, BlockOf, SheetOf}
use Rattle.grammar.specs.Machine.{Left, none, left, onto, Pending, pending, joined, negated, gathered, sheet_of, Block, whole, if_body, else_body, while_body, Purpose, if_head, while_head, bracket, Use, to_set, left_of, right_of, within, State, want, have, lit, cmd, blocking, else_or, done, if_else, clue_in, behind, shut, left-block, step, start}
use Rattle.grammar.specs.Theorem.{Derives, ReadsAll, OneTree}
use Rattle.grammar.proofs.Free.{free, within-limit}

-- a sum has no clue, a condition has one
mutual
  sum-unmarked : {us : List Tok} {e : Sum} → SumOf us e → (rest : List Tok) (d : ℕ) → clue_in (us ++ rest) d ≡ clue_in rest d
  sum-unmarked (SumOf.prod f) rest d = prod-unmarked f rest d
  sum-unmarked (SumOf.sums {us} {vs} o p f g) rest d =
      ap (λ (l : List Tok). clue_in l d) (append_assoc us (tok p (lexeme.Additive o) ∷ vs) rest) ∙ sum-unmarked f _ d ∙ prod-unmarked g rest d

  prod-unmarked : {us : List Tok} {e : Sum} → ProdOf us e → (rest : List Tok) (d : ℕ) → clue_in (us ++ rest) d ≡ clue_in rest d
  prod-unmarked (ProdOf.factor f) rest d = factor-unmarked f rest d
  prod-unmarked (ProdOf.prods {us} {vs} o p f g) rest d =
      ap (λ (l : List Tok). clue_in l d) (append_assoc us (tok p (lexeme.Multiplicative o) ∷ vs) rest) ∙ prod-unmarked f _ d ∙ factor-unmarked g rest d

  factor-unmarked : {us : List Tok} {e : Sum} → FactorOf us e → (rest : List Tok) (d : ℕ) → clue_in (us ++ rest) d ≡ clue_in rest d
  factor-unmarked (FactorOf.number p v) rest d = refl
  factor-unmarked (FactorOf.name p x) rest d = refl
  factor-unmarked (FactorOf.within {us} p q f) rest d =
      ap (λ (l : List Tok). clue_in l (suc d)) (append_assoc us (tok q lexeme.Close ∷ []) rest) ∙ sum-unmarked f (tok q lexeme.Close ∷ rest) (suc d)

mutual
  condition-marked : {us : List Tok} {c : Condition} → ConditionOf us c → (rest : List Tok) (d : ℕ) → clue_in (us ++ rest) d ≡ true
  condition-marked (ConditionOf.conjunct f) rest d = conjunct-marked f rest d
  condition-marked (ConditionOf.conjuncts {us} {vs} p f g) rest d =
      ap (λ (l : List Tok). clue_in l d) (append_assoc us (tok p lexeme.Or ∷ vs) rest) ∙ conjunct-marked f _ d

  conjunct-marked : {us : List Tok} {c : Condition} → ConjunctOf us c → (rest : List Tok) (d : ℕ) → clue_in (us ++ rest) d ≡ true
  conjunct-marked (ConjunctOf.literal f) rest d = literal-marked f rest d
  conjunct-marked (ConjunctOf.literals {us} {vs} p f g) rest d =
      ap (λ (l : List Tok). clue_in l d) (append_assoc us (tok p lexeme.And ∷ vs) rest) ∙ literal-marked f _ d

  literal-marked : {us : List Tok} {c : Condition} → LiteralOf us c → (rest : List Tok) (d : ℕ) → clue_in (us ++ rest) d ≡ true
  literal-marked (LiteralOf.negated p f) rest d = refl
  literal-marked (LiteralOf.truth p b) rest d = refl
  literal-marked (LiteralOf.compared {us} {vs} k p f g) rest d =
      ap (λ (l : List Tok). clue_in l d) (append_assoc us (tok p (lexeme.Compare k) ∷ vs) rest) ∙ sum-unmarked f _ d
  literal-marked (LiteralOf.within {us} p q f) rest d =
      ap (λ (l : List Tok). clue_in l (suc d)) (append_assoc us (tok q lexeme.Close ∷ []) rest) ∙ condition-marked f _ (suc d)

-- a whole sum has been read: its left part and the last prod make the tree
record Read (k : Use) (e : Sum) (us : List Tok) : Type 0 where
  before : Left
  last : Sum
  is : (rest : List Tok) → free (us ++ rest) (want none none k) ≡ free rest (have before last k)
  tree : onto before last ≡ e

mutual
  sums : {us : List Tok} {e : Sum} → SumOf us e → (k : Use) → Read k e us
  sums (SumOf.prod {e} f) k = record { before = none; last = e; is = λ rest. prods f none k rest; tree = refl }
  sums (SumOf.sums {us} {vs} {l} {r} o p f g) k =
      let h = sums f k in
      record {
        before = left p o l;
        last = r;
        is = λ rest.
            ap (λ (ts : List Tok). free ts (want none none k)) (append_assoc us (tok p (lexeme.Additive o) ∷ vs) rest)
            ∙ h.is (tok p (lexeme.Additive o) ∷ vs ++ rest)
            ∙ ap (λ (e : Sum). free (vs ++ rest) (want (left p o e) none k)) h.tree
            ∙ prods g (left p o l) k rest;
        tree = refl;
      }

  prods : {us : List Tok} {e : Sum} → ProdOf us e → (s : Left) (k : Use) (rest : List Tok) → free (us ++ rest) (want s none k) ≡ free rest (have s e k)
  prods (ProdOf.factor f) s k rest = factors f s none k rest
  prods (ProdOf.prods {us} {vs} {l} {r} o p f g) s k rest =
      ap (λ (ts : List Tok). free ts (want s none k)) (append_assoc us (tok p (lexeme.Multiplicative o) ∷ vs) rest)
      ∙ prods f s k (tok p (lexeme.Multiplicative o) ∷ vs ++ rest)
      ∙ factors g s (left p o l) k rest

  factors : {us : List Tok} {e : Sum} → FactorOf us e → (s m : Left) (k : Use) (rest : List Tok) → free (us ++ rest) (want s m k) ≡ free rest (have s (onto m e) k)
  factors (FactorOf.number p v) s m k rest = refl
  factors (FactorOf.name p x) s m k rest = refl
  factors (FactorOf.within {us} {e} p q f) s m k rest =
      let h = sums f (within s m k) in
      ap (λ (ts : List Tok). free ts (want none none (within s m k))) (append_assoc us (tok q lexeme.Close ∷ []) rest)
      ∙ h.is (tok q lexeme.Close ∷ rest)
      ∙ ap (λ (e : Sum). free rest (have s (onto m e) k)) h.tree

-- a literal that begins with a sum is read as one
module _ (nots : List ℕ) (ands ors : List Pending) (u : Purpose) where
  abbrev Enters : List Tok → Type 0
  Enters ts = free ts (lit nots ands ors u) ≡ free ts (want none none (left_of nots ands ors u))

  mutual
    sum-enters : {us : List Tok} {e : Sum} → SumOf us e → (rest : List Tok) → Enters (us ++ rest)
    sum-enters (SumOf.prod f) rest = prod-enters f rest
    sum-enters (SumOf.sums {us} {vs} o p f g) rest =
        subst Enters (sym (append_assoc us (tok p (lexeme.Additive o) ∷ vs) rest)) (sum-enters f (tok p (lexeme.Additive o) ∷ vs ++ rest))

    prod-enters : {us : List Tok} {e : Sum} → ProdOf us e → (rest : List Tok) → Enters (us ++ rest)
    prod-enters (ProdOf.factor f) rest = factor-enters f rest
    prod-enters (ProdOf.prods {us} {vs} o p f g) rest =
        subst Enters (sym (append_assoc us (tok p (lexeme.Multiplicative o) ∷ vs) rest)) (prod-enters f (tok p (lexeme.Multiplicative o) ∷ vs ++ rest))

    factor-enters : {us : List Tok} {e : Sum} → FactorOf us e → (rest : List Tok) → Enters (us ++ rest)
    factor-enters (FactorOf.number p v) rest = refl
    factor-enters (FactorOf.name p x) rest = refl
    factor-enters (FactorOf.within {us} p q f) rest =
        let look : clue_in ((us ++ tok q lexeme.Close ∷ []) ++ rest) 0 ≡ false = ap (λ (l : List Tok). clue_in l 0) (append_assoc us (tok q lexeme.Close ∷ []) rest) ∙ sum-unmarked f (tok q lexeme.Close ∷ rest) 0 in
        ap (λ (b : Bool). free ((us ++ tok q lexeme.Close ∷ []) ++ rest) (cond b (lit [] [] [] (bracket nots ands ors u)) (want none none (within none none (left_of nots ands ors u))))) look

-- the tokens that may follow a literal, and of those the ones that may follow a conjunct
data Ends : Lexeme → Type 0 where
  by_and : Ends lexeme.And
  by-or : Ends lexeme.Or
  by-close : Ends lexeme.Close

data EndsConjunct : Lexeme → Type 0 where
  by-or : EndsConjunct lexeme.Or
  by-close : EndsConjunct lexeme.Close

ends : {l : Lexeme} → EndsConjunct l → Ends l
ends EndsConjunct.by-or = Ends.by-or
ends EndsConjunct.by-close = Ends.by-close

finish : {y : Lexeme} → Ends y → (q p : ℕ) (k : Comparison) (l : Sum) (s : Left) (e : Sum) (nots : List ℕ) (ands ors : List Pending) (u : Purpose) (rest : List Tok) → step 0 (have s e (right_of p k l nots ands ors u)) (tok q y) rest ≡ behind (negated nots (compare p k l (onto s e))) ands ors u (tok q y)
finish Ends.by_and q p k l s e nots ands ors u rest = refl
finish Ends.by-or q p k l s e nots ands ors u rest = refl
finish Ends.by-close q p k l s e nots ands ors u rest = refl

conjunct-behind : {y : Lexeme} → EndsConjunct y → (q : ℕ) (c : Condition) (ands ors : List Pending) (u : Purpose) → behind c ands ors u (tok q y) ≡ behind (joined both ands c) [] ors u (tok q y)
conjunct-behind EndsConjunct.by-or q c ands ors u = refl
conjunct-behind EndsConjunct.by-close q c ands ors u = refl

mutual
  literals : {us : List Tok} {c : Condition} → LiteralOf us c → (nots : List ℕ) (ands ors : List Pending) (u : Purpose) {y : Lexeme} → Ends y → (q : ℕ) (rest : List Tok) → free (us ++ tok q y ∷ rest) (lit nots ands ors u) ≡ free rest (behind (negated nots c) ands ors u (tok q y))
  literals (LiteralOf.negated p f) nots ands ors u y q rest = literals f (p ∷ nots) ands ors u y q rest
  literals (LiteralOf.truth p b) nots ands ors u y q rest = refl
  literals (LiteralOf.compared {us} {vs} {l} {r} k p f g) nots ands ors u {y} e q rest =
      let h = sums f (left_of nots ands ors u) in
      let i = sums g (right_of p k l nots ands ors u) in
      let x : Tok = tok q y in
      ap (λ (ts : List Tok). free ts (lit nots ands ors u)) (append_assoc us (tok p (lexeme.Compare k) ∷ vs) (x ∷ rest))
      ∙ sum-enters nots ands ors u f (tok p (lexeme.Compare k) ∷ vs ++ x ∷ rest)
      ∙ h.is (tok p (lexeme.Compare k) ∷ vs ++ x ∷ rest)
      ∙ ap (λ (e : Sum). free (vs ++ x ∷ rest) (want none none (right_of p k e nots ands ors u))) h.tree
      ∙ i.is (x ∷ rest)
      ∙ ap (free rest) (finish e q p k l i.before i.last nots ands ors u rest)
      ∙ ap (λ (e : Sum). free rest (behind (negated nots (compare p k l e)) ands ors u x)) i.tree
  literals (LiteralOf.within {us} {c} p r f) nots ands ors u {y} e q rest =
      let x : Tok = tok q y in
      let behind-it = append_assoc us (tok r lexeme.Close ∷ []) (x ∷ rest) in
      let look : clue_in ((us ++ tok r lexeme.Close ∷ []) ++ x ∷ rest) 0 ≡ true = ap (λ (l : List Tok). clue_in l 0) behind-it ∙ condition-marked f _ 0 in
      ap (λ (b : Bool). free ((us ++ tok r lexeme.Close ∷ []) ++ x ∷ rest) (cond b (lit [] [] [] (bracket nots ands ors u)) (want none none (within none none (left_of nots ands ors u))))) look
      ∙ ap (λ (ts : List Tok). free ts (lit [] [] [] (bracket nots ands ors u))) behind-it
      ∙ conditions f [] (bracket nots ands ors u) r (x ∷ rest)

  conjuncts : {us : List Tok} {c : Condition} → ConjunctOf us c → (ands ors : List Pending) (u : Purpose) {y : Lexeme} → EndsConjunct y → (q : ℕ) (rest : List Tok) → free (us ++ tok q y ∷ rest) (lit [] ands ors u) ≡ free rest (behind (joined both ands c) [] ors u (tok q y))
  conjuncts (ConjunctOf.literal {c} f) ands ors u e q rest = literals f [] ands ors u (ends e) q rest ∙ ap (free rest) (conjunct-behind e q c ands ors u)
  conjuncts (ConjunctOf.literals {us} {vs} {c} p f g) ands ors u {y} e q rest =
      ap (λ (ts : List Tok). free ts (lit [] ands ors u)) (append_assoc us (tok p lexeme.And ∷ vs) (tok q y ∷ rest))
      ∙ literals f [] ands ors u Ends.by_and p (vs ++ tok q y ∷ rest)
      ∙ conjuncts g (pending p c ∷ ands) ors u e q rest

  conditions : {us : List Tok} {c : Condition} → ConditionOf us c → (ors : List Pending) (u : Purpose) (q : ℕ) (rest : List Tok) → free (us ++ tok q lexeme.Close ∷ rest) (lit [] [] ors u) ≡ free rest (shut (joined either ors c) u)
  conditions (ConditionOf.conjunct f) ors u q rest = conjuncts f [] ors u EndsConjunct.by-close q rest
  conditions (ConditionOf.conjuncts {us} {vs} {c} p f g) ors u q rest =
      ap (λ (ts : List Tok). free ts (lit [] [] ors u)) (append_assoc us (tok p lexeme.Or ∷ vs) (tok q lexeme.Close ∷ rest))
      ∙ conjuncts f [] ors u EndsConjunct.by-or p (vs ++ tok q lexeme.Close ∷ rest)
      ∙ conditions g (pending p c ∷ ors) u q rest

-- what follows a command is there, and no else
abbrev NotElse : Option Mark → Type 0
NotElse (Some Else) = ⊥
NotElse (Some Open) = Unit {0}
NotElse (Some Close) = Unit {0}
NotElse (Some OpenBlock) = Unit {0}
NotElse (Some Semicolon) = Unit {0}
NotElse (Some Becomes) = Unit {0}
NotElse None = Unit {0}

abbrev NoElse : List Tok → Type 0
NoElse [] = ⊥
NoElse (x ∷ xs) = NotElse (mark_of x.lexeme)

not-else : (m : Option Mark) → NotElse m → (s t : State) → if_else m s t ≡ t
not-else (Some Else) n s t = absurd n
not-else (Some Open) n s t = refl
not-else (Some Close) n s t = refl
not-else (Some OpenBlock) n s t = refl
not-else (Some Semicolon) n s t = refl
not-else (Some Becomes) n s t = refl
not-else None n s t = refl

command-first : {us : List Tok} {c : Command} → CommandOf us c → (rest : List Tok) → NoElse (us ++ rest)
command-first (CommandOf.set p x q r f) rest = tt
command-first (CommandOf.when p q r f g) rest = tt
command-first (CommandOf.choose p q r s f g h) rest = tt
command-first (CommandOf.while p q r f g) rest = tt

sheet-first : {us : List Tok} {t : Sheet} → SheetOf us t → (rest : List Tok) → NoElse (us ++ rest)
sheet-first (SheetOf.only f) rest = command-first f rest
sheet-first (SheetOf.commands {us} {vs} f g) rest = subst NoElse (sym (append_assoc us vs rest)) (command-first f (vs ++ rest))

if-over : (p : ℕ) (c : Condition) (t : Sheet) (cs : List Command) (b : Block) (rest : List Tok) → NoElse rest → free rest (else_or p c t cs b) ≡ free rest (cmd (when p c t ∷ cs) b)
if-over p c t cs b [] n = absurd n
if-over p c t cs b (x ∷ rest) n = ap (free rest) (not-else (mark_of x.lexeme) n _ _)

mutual
  commands : {us : List Tok} {c : Command} → CommandOf us c → (cs : List Command) (b : Block) (rest : List Tok) → NoElse rest → free (us ++ rest) (cmd cs b) ≡ free rest (cmd (c ∷ cs) b)
  commands (CommandOf.set {us} p x q r f) cs b rest n =
      let h = sums f (to_set p x cs b) in
      ap (λ (ts : List Tok). free ts (want none none (to_set p x cs b))) (append_assoc us (tok r lexeme.Semicolon ∷ []) rest)
      ∙ h.is (tok r lexeme.Semicolon ∷ rest)
      ∙ ap (λ (e : Sum). free rest (cmd (set p x e ∷ cs) b)) h.tree
  commands (CommandOf.when {us} {vs} {c} {t} p q r f g) cs b rest n =
      ap (λ (ts : List Tok). free ts (lit [] [] [] (if_head p cs b))) (append_assoc us (tok r lexeme.Close ∷ vs) rest)
      ∙ conditions f [] (if_head p cs b) r (vs ++ rest)
      ∙ blocks g (if_body p c cs b) (else_or p c t cs b) (λ _. refl) rest
      ∙ if-over p c t cs b rest n
  commands (CommandOf.choose {us} {vs} {ws} {c} {t} {u} p q r s f g h) cs b rest n =
      ap (λ (ts : List Tok). free ts (lit [] [] [] (if_head p cs b))) (append_assoc (us ++ tok r lexeme.Close ∷ vs) (tok s lexeme.Else ∷ ws) rest ∙ append_assoc us (tok r lexeme.Close ∷ vs) (tok s lexeme.Else ∷ ws ++ rest))
      ∙ conditions f [] (if_head p cs b) r (vs ++ (tok s lexeme.Else ∷ ws ++ rest))
      ∙ blocks g (if_body p c cs b) (else_or p c t cs b) (λ _. refl) (tok s lexeme.Else ∷ ws ++ rest)
      ∙ blocks h (else_body p c t cs b) (cmd (choose p c t u ∷ cs) b) (λ _. refl) rest
  commands (CommandOf.while {us} {vs} {c} {t} p q r f g) cs b rest n =
      ap (λ (ts : List Tok). free ts (lit [] [] [] (while_head p cs b))) (append_assoc us (tok r lexeme.Close ∷ vs) rest)
      ∙ conditions f [] (while_head p cs b) r (vs ++ rest)
      ∙ blocks g (while_body p c cs b) (cmd (while p c t ∷ cs) b) (λ _. refl) rest

  -- a block leads to where its command goes on
  blocks : {us : List Tok} {t : Sheet} → BlockOf us t → (b : Block) (out : State) → ((q : ℕ) → left-block q t b ≡ out) → (rest : List Tok) → free (us ++ rest) (blocking b) ≡ free rest out
  blocks (BlockOf.block {us} {t} p q f) b out is rest =
      ap (λ (ts : List Tok). free ts (cmd [] b)) (append_assoc us (tok q lexeme.CloseBlock ∷ []) rest)
      ∙ sheets f [] b (tok q lexeme.CloseBlock) rest (λ (t : Sheet). left-block q t b) tt (λ _ _. refl)
      ∙ ap (free rest) (is q)

  -- and a sheet to where its end goes on, whatever that is
  sheets : {us : List Tok} {t : Sheet} → SheetOf us t → (cs : List Command) (b : Block) (x : Tok) (rest : List Tok) (out : Sheet → State) → NoElse (x ∷ rest) → ((c : Command) (cs : List Command) → step 0 (cmd (c ∷ cs) b) x rest ≡ out (sheet_of c cs)) → free (us ++ x ∷ rest) (cmd cs b) ≡ free rest (out (gathered t cs))
  sheets (SheetOf.only {c} f) cs b x rest out n is = commands f cs b (x ∷ rest) n ∙ ap (free rest) (is c cs)
  sheets (SheetOf.commands {us} {vs} {c} f g) cs b x rest out n is =
      ap (λ (ts : List Tok). free ts (cmd cs b)) (append_assoc us vs (x ∷ rest))
      ∙ commands f cs b (vs ++ x ∷ rest) (sheet-first g (x ∷ rest))
      ∙ sheets g (c ∷ cs) b x rest out n is

pub free-reads : {us : List Tok} {t : Sheet} (p : ℕ) → SheetOf us t → free (us ++ tok p lexeme.End ∷ []) start ≡ done t
free-reads p f = sheets f [] whole (tok p lexeme.End) [] done tt (λ _ _. refl)

pub reads_all : ReadsAll
reads_all ts t h few =
    within-limit ts 0 start few ∙ ap (λ (l : List Tok). free l start) h.split ∙ free-reads h.end h.derived

pub one-tree : OneTree
one-tree ts t u h i =
    let p : done t ≡ done u = sym (read t h) ∙ read u i in
    cc
  where
    read : (t : Sheet) → Derives ts t → free ts start ≡ done t
    read t h = ap (λ (l : List Tok). free l start) h.split ∙ free-reads h.end h.derived
