-- What has been read when the machine is in a state: the tokens so far are, by the grammar, the finished parts that the
-- state holds, each behind the tokens of what was begun before it.
use Rattle.std.proofs.Common.{◌≡◌, ℕ, List, [], ◌∷◌, ◌++◌, append_assoc}
use Rattle.arith.specs.declared.operator.Operator.{Operator}
use Rattle.arith.specs.declared.comparison.Comparison.{Comparison}
use Rattle.tables.specs.Trees.{Sum, Condition, Command, Sheet, both, either}
use Rattle.grammar.specs.declared.lexeme.Lexeme.TheVariants as lexeme
use Rattle.grammar.specs.Lexemes.{Tok, tok}
use Rattle.grammar.specs.Grammar.{SumOf, ProdOf, FactorOf, ConditionOf, ConjunctOf, LiteralOf, CommandOf, BlockOf, SheetOf}
use Rattle.grammar.specs.Machine.{Left, none, left, onto, Pending, pending, joined, negated, gathered, Block, whole, if_body, else_body, while_body, Purpose, if_head, while_head, bracket, Use, to_set, left_of, right_of, within, State, want, have, lit, had, cmd, becomes, opening, blocking, else_or, done, refused}

-- the left part of a sum, and of a prod

pub data LeftSum : List Tok → Left → Type 0 where
  nothing : LeftSum [] none
  before : {us : List Tok} {e : Sum} (p : ℕ) (o : Operator) → SumOf us e → LeftSum (us ++ tok p (lexeme.Additive o) ∷ []) (left p o e)

pub data LeftProd : List Tok → Left → Type 0 where
  nothing : LeftProd [] none
  before : {us : List Tok} {e : Sum} (p : ℕ) (o : Operator) → ProdOf us e → LeftProd (us ++ tok p (lexeme.Multiplicative o) ∷ []) (left p o e)

pub whole_sum : {us vs : List Tok} {s : Left} {e : Sum} → LeftSum us s → ProdOf vs e → SumOf (us ++ vs) (onto s e)
whole_sum LeftSum.nothing g = SumOf.prod g
whole_sum (LeftSum.before p o f) g = rw append_assoc (SumOf.sums o p f g)

pub whole-prod : {us vs : List Tok} {m : Left} {e : Sum} → LeftProd us m → FactorOf vs e → ProdOf (us ++ vs) (onto m e)
whole-prod LeftProd.nothing g = ProdOf.factor g
whole-prod (LeftProd.before p o f) g = rw append_assoc (ProdOf.prods o p f g)

-- the ! before a literal, and the parts before a literal and before a conjunct, the latest first

pub data Nots : List Tok → List ℕ → Type 0 where
  nothing : Nots [] []
  more : {us : List Tok} {nots : List ℕ} (p : ℕ) → Nots us nots → Nots (us ++ tok p lexeme.Not ∷ []) (p ∷ nots)

pub data Ands : List Tok → List Pending → Type 0 where
  nothing : Ands [] []
  more : {us vs : List Tok} {ands : List Pending} {c : Condition} (p : ℕ) → Ands us ands → LiteralOf vs c → Ands (us ++ (vs ++ tok p lexeme.And ∷ [])) (pending p c ∷ ands)

pub data Ors : List Tok → List Pending → Type 0 where
  nothing : Ors [] []
  more : {us vs : List Tok} {ors : List Pending} {c : Condition} (p : ℕ) → Ors us ors → ConjunctOf vs c → Ors (us ++ (vs ++ tok p lexeme.Or ∷ [])) (pending p c ∷ ors)

pub whole-literal : {us vs : List Tok} {nots : List ℕ} {c : Condition} → Nots us nots → LiteralOf vs c → LiteralOf (us ++ vs) (negated nots c)
whole-literal Nots.nothing g = g
whole-literal (Nots.more p n) g = rw append_assoc (whole-literal n (LiteralOf.negated p g))

pub whole-conjunct : {us vs : List Tok} {ands : List Pending} {c : Condition} → Ands us ands → ConjunctOf vs c → ConjunctOf (us ++ vs) (joined both ands c)
whole-conjunct Ands.nothing g = g
whole-conjunct (Ands.more p n f) g = simp append_assoc (whole-conjunct n (ConjunctOf.literals p f g))

pub whole-condition : {us vs : List Tok} {ors : List Pending} {c : Condition} → Ors us ors → ConditionOf vs c → ConditionOf (us ++ vs) (joined either ors c)
whole-condition Ors.nothing g = g
whole-condition (Ors.more p n f) g = simp append_assoc (whole-condition n (ConditionOf.conjuncts p f g))

-- the commands of a block so far, the latest first

pub data Commands : List Tok → List Command → Type 0 where
  nothing : Commands [] []
  more : {us vs : List Tok} {cs : List Command} {c : Command} → Commands us cs → CommandOf vs c → Commands (us ++ vs) (c ∷ cs)

pub whole-sheet : {us vs : List Tok} {cs : List Command} {t : Sheet} → Commands us cs → SheetOf vs t → SheetOf (us ++ vs) (gathered t cs)
whole-sheet Commands.nothing g = g
whole-sheet (Commands.more n f) g = rw append_assoc (whole-sheet n (SheetOf.commands f g))

mutual
  -- all up to the first command of a block
  pub data InBlock : List Tok → Block → Type 0 where
    outer : InBlock [] whole
    inner : {us : List Tok} {b : Block} (p : ℕ) → Heads us b → InBlock (us ++ tok p lexeme.OpenBlock ∷ []) b

  -- all up to the { of a block
  pub data Heads : List Tok → Block → Type 0 where
    if-body : {ts bs us : List Tok} {b : Block} {cs : List Command} {c : Condition} (p q r : ℕ) → InBlock ts b → Commands bs cs → ConditionOf us c
        → Heads (ts ++ (bs ++ (tok p lexeme.If ∷ tok q lexeme.Open ∷ (us ++ tok r lexeme.Close ∷ [])))) (if_body p c cs b)
    else-body : {ts bs us vs : List Tok} {b : Block} {cs : List Command} {c : Condition} {t : Sheet} (p q r s : ℕ) → InBlock ts b → Commands bs cs → ConditionOf us c → BlockOf vs t
        → Heads (ts ++ (bs ++ (tok p lexeme.If ∷ tok q lexeme.Open ∷ (us ++ tok r lexeme.Close ∷ (vs ++ tok s lexeme.Else ∷ []))))) (else_body p c t cs b)
    while-body : {ts bs us : List Tok} {b : Block} {cs : List Command} {c : Condition} (p q r : ℕ) → InBlock ts b → Commands bs cs → ConditionOf us c
        → Heads (ts ++ (bs ++ (tok p lexeme.While ∷ tok q lexeme.Open ∷ (us ++ tok r lexeme.Close ∷ [])))) (while_body p c cs b)

-- all up to the ( of a condition
pub data Opening : List Tok → Purpose → Type 0 where
  by-if : {ts bs : List Tok} {b : Block} {cs : List Command} (p : ℕ) → InBlock ts b → Commands bs cs → Opening (ts ++ (bs ++ tok p lexeme.If ∷ [])) (if_head p cs b)
  by-while : {ts bs : List Tok} {b : Block} {cs : List Command} (p : ℕ) → InBlock ts b → Commands bs cs → Opening (ts ++ (bs ++ tok p lexeme.While ∷ [])) (while_head p cs b)

-- all up to the first literal of a condition
pub data For : List Tok → Purpose → Type 0 where
  by-if : {ts bs : List Tok} {b : Block} {cs : List Command} (p q : ℕ) → InBlock ts b → Commands bs cs → For (ts ++ (bs ++ (tok p lexeme.If ∷ tok q lexeme.Open ∷ []))) (if_head p cs b)
  by-while : {ts bs : List Tok} {b : Block} {cs : List Command} (p q : ℕ) → InBlock ts b → Commands bs cs → For (ts ++ (bs ++ (tok p lexeme.While ∷ tok q lexeme.Open ∷ []))) (while_head p cs b)
  by-bracket : {ts bs cs ds : List Tok} {nots : List ℕ} {ands ors : List Pending} {u : Purpose} (q : ℕ) → For ts u → Ors bs ors → Ands cs ands → Nots ds nots
      → For (ts ++ (bs ++ (cs ++ (ds ++ tok q lexeme.Open ∷ [])))) (bracket nots ands ors u)

-- all up to the first prod of a sum
pub data Using : List Tok → Use → Type 0 where
  using_to_set : {ts bs : List Tok} {b : Block} {cs : List Command} (p x q : ℕ) → InBlock ts b → Commands bs cs → Using (ts ++ (bs ++ (tok p (lexeme.Name x) ∷ tok q lexeme.Becomes ∷ []))) (to_set p x cs b)
  left-of : {ts bs cs ds : List Tok} {nots : List ℕ} {ands ors : List Pending} {u : Purpose} → For ts u → Ors bs ors → Ands cs ands → Nots ds nots
      → Using (ts ++ (bs ++ (cs ++ ds))) (left_of nots ands ors u)
  using_right_of : {ts bs cs ds es : List Tok} {nots : List ℕ} {ands ors : List Pending} {u : Purpose} {l : Sum} (p : ℕ) (k : Comparison) → For ts u → Ors bs ors → Ands cs ands → Nots ds nots → SumOf es l
      → Using (ts ++ (bs ++ (cs ++ (ds ++ (es ++ tok p (lexeme.Compare k) ∷ []))))) (right_of p k l nots ands ors u)
  in-bracket : {ts bs cs : List Tok} {s m : Left} {k : Use} (p : ℕ) → Using ts k → LeftSum bs s → LeftProd cs m → Using (ts ++ (bs ++ (cs ++ tok p lexeme.Open ∷ []))) (within s m k)

pub record Wanting (ws : List Tok) (s m : Left) (k : Use) : Type 0 where
  pub a : List Tok
  pub b : List Tok
  pub c : List Tok
  pub around : Using a k
  pub sum : LeftSum b s
  pub prod : LeftProd c m
  pub is : ws ≡ a ++ (b ++ c)

pub record Having (ws : List Tok) (s : Left) (e : Sum) (k : Use) : Type 0 where
  pub a : List Tok
  pub b : List Tok
  pub c : List Tok
  pub around : Using a k
  pub sum : LeftSum b s
  pub prod : ProdOf c e
  pub is : ws ≡ a ++ (b ++ c)

pub record Literal (ws : List Tok) (nots : List ℕ) (ands ors : List Pending) (u : Purpose) : Type 0 where
  pub a : List Tok
  pub b : List Tok
  pub c : List Tok
  pub d : List Tok
  pub around : For a u
  pub or : Ors b ors
  pub and : Ands c ands
  pub not : Nots d nots
  pub is : ws ≡ a ++ (b ++ (c ++ d))

pub record Had (ws : List Tok) (l : Condition) (ands ors : List Pending) (u : Purpose) : Type 0 where
  pub a : List Tok
  pub b : List Tok
  pub c : List Tok
  pub d : List Tok
  pub around : For a u
  pub or : Ors b ors
  pub and : Ands c ands
  pub read : LiteralOf d l
  pub is : ws ≡ a ++ (b ++ (c ++ d))

-- behind the commands cs of the block b stand the tokens x
pub record Among (ws : List Tok) (cs : List Command) (b : Block) (x : List Tok) : Type 0 where
  pub a : List Tok
  pub c : List Tok
  pub around : InBlock a b
  pub read : Commands c cs
  pub is : ws ≡ a ++ (c ++ x)

pub record IfRead (ws : List Tok) (p : ℕ) (i : Condition) (t : Sheet) (cs : List Command) (b : Block) : Type 0 where
  pub q : ℕ
  pub r : ℕ
  pub d : List Tok
  pub e : List Tok
  pub condition : ConditionOf d i
  pub block : BlockOf e t
  pub among : Among ws cs b (tok p lexeme.If ∷ tok q lexeme.Open ∷ (d ++ tok r lexeme.Close ∷ e))

pub record Opened (ws : List Tok) (u : Purpose) : Type 0 where
  pub a : List Tok
  pub around : Opening a u
  pub is : ws ≡ a

pub record Headed (ws : List Tok) (b : Block) : Type 0 where
  pub a : List Tok
  pub around : Heads a b
  pub is : ws ≡ a

-- these tokens lead to a state that goes on
abbrev pub Stands : List Tok → State → Type 0
Stands ws (want s m k) = Wanting ws s m k
Stands ws (have s e k) = Having ws s e k
Stands ws (lit nots ands ors u) = Literal ws nots ands ors u
Stands ws (had c ands ors u) = Had ws c ands ors u
Stands ws (cmd cs b) = Among ws cs b []
Stands ws (becomes p x cs b) = Among ws cs b (tok p (lexeme.Name x) ∷ [])
Stands ws (opening u) = Opened ws u
Stands ws (blocking b) = Headed ws b
Stands ws (else_or p c t cs b) = IfRead ws p c t cs b
Stands ws (done t) = ⊥
Stands ws (refused c p) = ⊥

-- and one token more to this one: it goes on, or it was the end and the tokens before it are a sheet, or it is refused
abbrev pub After : List Tok → Tok → State → Type 0
After ws x (want s m k) = Wanting (ws ++ x ∷ []) s m k
After ws x (have s e k) = Having (ws ++ x ∷ []) s e k
After ws x (lit nots ands ors u) = Literal (ws ++ x ∷ []) nots ands ors u
After ws x (had c ands ors u) = Had (ws ++ x ∷ []) c ands ors u
After ws x (cmd cs b) = Among (ws ++ x ∷ []) cs b []
After ws x (becomes p y cs b) = Among (ws ++ x ∷ []) cs b (tok p (lexeme.Name y) ∷ [])
After ws x (opening u) = Opened (ws ++ x ∷ []) u
After ws x (blocking b) = Headed (ws ++ x ∷ []) b
After ws x (else_or p c t cs b) = IfRead (ws ++ x ∷ []) p c t cs b
After ws x (done t) = (x.lexeme ≡ lexeme.End) × SheetOf ws t
After ws x (refused c p) = Unit {0}
