-- What the machine reads, the grammar derives, and with at most 32 brackets open: every step that is not refused keeps
-- what `Stands` says.
use Rattle.std.proofs.Common.{◌≡◌, ℕ, ◌<◌, ◌≤◌, Bool, true, false, cond, ltb, List, [], ◌∷◌, ◌++◌, Some, None, Ok, Err, Option, Result, sym, refl, ap, ◌∙◌, subst, append_assoc, append-nil, arith}
use native.Mathlib.Nat.{pred-le}
use Rattle.std.proofs.lemmas.Bool.{cond_both, ltb-true}
use Rattle.faults.specs.declared.causes.ReaderCause.{ReaderCause}
use Rattle.faults.specs.declared.causes.ReaderCause.TheVariants.{TooManyOpen}
use Rattle.arith.specs.declared.comparison.Comparison.{Comparison}
use Rattle.tables.specs.Trees.{Sum, Condition, Command, Sheet, when}
use Rattle.grammar.specs.declared.lexeme.Lexeme.{Lexeme}
use Rattle.grammar.specs.declared.lexeme.Lexeme.TheVariants as lexeme
use Rattle.grammar.specs.declared.choice.Operand.{Operand}
use Rattle.grammar.specs.declared.choice.Operand.TheVariants as operand
use Rattle.grammar.specs.declared.choice.Join.{Join}
use Rattle.grammar.specs.declared.choice.Join.TheVariants as join
use Rattle.grammar.specs.declared.choice.LiteralStart.{LiteralStart}
use Rattle.grammar.specs.declared.choice.LiteralStart.TheVariants as literal
use Rattle.grammar.specs.declared.choice.Link.{Link}
use Rattle.grammar.specs.declared.choice.Link.TheVariants as link
use Rattle.grammar.specs.declared.choice.CommandStart.{CommandStart}
use Rattle.grammar.specs.declared.choice.CommandStart.TheVariants as command
use Rattle.grammar.specs.declared.choice.Mark.{Mark}
use Rattle.grammar.specs.declared.choice.Mark.TheVariants as mark
use Rattle.grammar.specs.Choices.{operand_of, join_of, comparison_of, literal_of, link_of, command_of, mark_of, depth_after}
use Rattle.grammar.specs.Lexemes.{Tok, tok}
use Rattle.grammar.specs.Grammar.{SumOf, FactorOf, ConditionOf, ConjunctOf, LiteralOf, CommandOf, BlockOf, SheetOf}
use Rattle.grammar.specs.Machine.{Left, none, onto, Pending, sheet_of, Block, else_body, Purpose, bracket, Use, to_set, left_of, right_of, within, State, want, have, lit, had, cmd, becomes, opening, blocking, else_or, done, refused, if_else, if_open, if_close, if_open_block, if_semicolon, if_becomes, room, clue_in, wanted, shut, linked, compared, ended, continued, begun, left-block, closed, finished, commanded, step, run, start}
use Rattle.grammar.specs.Limits.{FewOpen}
use Rattle.grammar.specs.Theorem.{ReadsOnly}
use Rattle.grammar.proofs.Lexing.{run-refused, run-done}
use Rattle.grammar.proofs.Backwards.{Operands, operand-of, Joins, join-of, Compares, comparison-of, Starts, literal-of, Links, link-of, Commands as Commanding, command-of, Marks, mark-of}
use Rattle.grammar.proofs.Stands.{LeftSum, LeftProd, whole_sum, whole-prod, Nots, Ands, Ors, whole-literal, whole-conjunct, whole-condition, Commands, whole-sheet, InBlock, Heads, Opening, For, Using, Wanting, Having, Literal, Had, Among, IfRead, Opened, Headed, Stands, After}

-- by the one sign or word that may stand

by-else : (P : State → Type 0) (m : Option Mark) {l : Lexeme} → Marks m l → {s t : State} → (l ≡ lexeme.Else → P s) → P t → P (if_else m s t)
by-else P (Some mark.Else) e f g = f e
by-else P (Some mark.Open) e f g = g
by-else P (Some mark.Close) e f g = g
by-else P (Some mark.OpenBlock) e f g = g
by-else P (Some mark.Semicolon) e f g = g
by-else P (Some mark.Becomes) e f g = g
by-else P None e f g = g

by-open : (P : State → Type 0) (m : Option Mark) {l : Lexeme} → Marks m l → {s t : State} → (l ≡ lexeme.Open → P s) → P t → P (if_open m s t)
by-open P (Some mark.Else) e f g = g
by-open P (Some mark.Open) e f g = f e
by-open P (Some mark.Close) e f g = g
by-open P (Some mark.OpenBlock) e f g = g
by-open P (Some mark.Semicolon) e f g = g
by-open P (Some mark.Becomes) e f g = g
by-open P None e f g = g

by-close : (P : State → Type 0) (m : Option Mark) {l : Lexeme} → Marks m l → {s t : State} → (l ≡ lexeme.Close → P s) → P t → P (if_close m s t)
by-close P (Some mark.Else) e f g = g
by-close P (Some mark.Open) e f g = g
by-close P (Some mark.Close) e f g = f e
by-close P (Some mark.OpenBlock) e f g = g
by-close P (Some mark.Semicolon) e f g = g
by-close P (Some mark.Becomes) e f g = g
by-close P None e f g = g

by-open-block : (P : State → Type 0) (m : Option Mark) {l : Lexeme} → Marks m l → {s t : State} → (l ≡ lexeme.OpenBlock → P s) → P t → P (if_open_block m s t)
by-open-block P (Some mark.Else) e f g = g
by-open-block P (Some mark.Open) e f g = g
by-open-block P (Some mark.Close) e f g = g
by-open-block P (Some mark.OpenBlock) e f g = f e
by-open-block P (Some mark.Semicolon) e f g = g
by-open-block P (Some mark.Becomes) e f g = g
by-open-block P None e f g = g

by-semicolon : (P : State → Type 0) (m : Option Mark) {l : Lexeme} → Marks m l → {s t : State} → (l ≡ lexeme.Semicolon → P s) → P t → P (if_semicolon m s t)
by-semicolon P (Some mark.Else) e f g = g
by-semicolon P (Some mark.Open) e f g = g
by-semicolon P (Some mark.Close) e f g = g
by-semicolon P (Some mark.OpenBlock) e f g = g
by-semicolon P (Some mark.Semicolon) e f g = f e
by-semicolon P (Some mark.Becomes) e f g = g
by-semicolon P None e f g = g

by-becomes : (P : State → Type 0) (m : Option Mark) {l : Lexeme} → Marks m l → {s t : State} → (l ≡ lexeme.Becomes → P s) → P t → P (if_becomes m s t)
by-becomes P (Some mark.Else) e f g = g
by-becomes P (Some mark.Open) e f g = g
by-becomes P (Some mark.Close) e f g = g
by-becomes P (Some mark.OpenBlock) e f g = g
by-becomes P (Some mark.Semicolon) e f g = g
by-becomes P (Some mark.Becomes) e f g = f e
by-becomes P None e f g = g

module _ (us : List Tok) (p : ℕ) (l : Lexeme) where
  -- a bracket goes on, or there is no room
  roomy : (d : ℕ) (s : State) → After us (tok p l) s → After us (tok p l) (room d p s)
  roomy d s h = cond_both (ltb d 32) _ _ (After us (tok p l)) (λ _. h) (λ _. tt)

  with-token : {k : Lexeme} {a : List Tok} → l ≡ k → us ≡ a → us ++ tok p l ∷ [] ≡ a ++ tok p k ∷ []
  with-token {k} e h = ap (λ (l : Lexeme). us ++ tok p l ∷ []) e ∙ ap (λ (l : List Tok). l ++ tok p k ∷ []) h

  -- a token where a factor is wanted
  wanting : (d : ℕ) (o : Result Operand ReaderCause) → Operands o l → {s m : Left} {k : Use} → Wanting us s m k → After us (tok p l) (wanted d p o s m k)
  wanting d (Ok (operand.Number v)) e r = record {
    a = r.a;
    b = r.b;
    c = _;
    around = r.around;
    sum = r.sum;
    prod = whole-prod r.prod (FactorOf.number p v);
    is = with-token e r.is ∙ simp append_assoc;
  }
  wanting d (Ok (operand.Name x)) e r = record {
    a = r.a;
    b = r.b;
    c = _;
    around = r.around;
    sum = r.sum;
    prod = whole-prod r.prod (FactorOf.name p x);
    is = with-token e r.is ∙ simp append_assoc;
  }
  wanting d (Ok operand.Bracket) e {s} {m} {k} r = roomy d (want none none (within s m k)) (record {
    a = _;
    b = [];
    c = [];
    around = Using.in-bracket p r.around r.sum r.prod;
    sum = LeftSum.nothing;
    prod = LeftProd.nothing;
    is = with-token e r.is ∙ simp (append_assoc, append-nil);
  })
  wanting d (Err c) e r = tt

  -- the ) of a condition
  shutting : {a b : List Tok} {u : Purpose} {c : Condition} → l ≡ lexeme.Close → For a u → ConditionOf b c → us ≡ a ++ b → After us (tok p l) (shut c u)
  shutting {b} e (For.by-if q r f g) h is = record {
    a = _;
    around = Heads.if-body q r p f g h;
    is = with-token e is ∙ simp append_assoc;
  }
  shutting e (For.by-while q r f g) h is = record {
    a = _;
    around = Heads.while-body q r p f g h;
    is = with-token e is ∙ simp append_assoc;
  }
  shutting e (For.by-bracket q f g i n) h is = record {
    a = _;
    b = _;
    c = _;
    d = _;
    around = f;
    or = g;
    and = i;
    read = whole-literal n (LiteralOf.within q p h);
    is = with-token e is ∙ simp append_assoc;
  }

  -- a token behind a literal
  linking : (j : Option Link) → Links j l → {c : Condition} {ands ors : List Pending} {u : Purpose} → Had us c ands ors u → After us (tok p l) (linked j c ands ors u (tok p l))
  linking (Some link.And) e r = record {
    a = r.a;
    b = r.b;
    c = _;
    d = [];
    around = r.around;
    or = r.or;
    and = Ands.more p r.and r.read;
    not = Nots.nothing;
    is = with-token e r.is ∙ simp (append_assoc, append-nil);
  }
  linking (Some link.Or) e r = record {
    a = r.a;
    b = _;
    c = [];
    d = [];
    around = r.around;
    or = Ors.more p r.or (whole-conjunct r.and (ConjunctOf.literal r.read));
    and = Ands.nothing;
    not = Nots.nothing;
    is = with-token e r.is ∙ simp (append_assoc, append-nil);
  }
  linking None e r =
      by-close (After us (tok p l)) (mark_of l) (mark-of l) (λ h. shutting h r.around (whole-condition r.or (ConditionOf.conjunct (whole-conjunct r.and (ConjunctOf.literal r.read)))) r.is) tt

  -- a token behind a whole sum
  comparing : {a b : List Tok} (o : Option Comparison) → Compares o l → {nots : List ℕ} {ands ors : List Pending} {u : Purpose} {e : Sum} → Literal a nots ands ors u → SumOf b e → us ≡ a ++ b → After us (tok p l) (compared o e nots ands ors u (tok p l))
  comparing {b} (Some k) e r f is = record {
    a = _;
    b = [];
    c = [];
    around = Using.using_right_of p k r.around r.or r.and r.not f;
    sum = LeftSum.nothing;
    prod = LeftProd.nothing;
    is = with-token e (is ∙ ap (λ (l : List Tok). l ++ b) r.is) ∙ simp (append_assoc, append-nil);
  }
  comparing None e r f is = tt

  ending : {a b : List Tok} {k : Use} {e : Sum} → Using a k → SumOf b e → us ≡ a ++ b → After us (tok p l) (ended k e (tok p l))
  ending (Using.using_to_set q x r f g) h is = by-semicolon (After us (tok p l)) (mark_of l) (mark-of l) (λ e. record {
    a = _;
    c = _;
    around = f;
    read = Commands.more g (CommandOf.set q x r p h);
    is = with-token e is ∙ simp (append_assoc, append-nil);
  }) tt
  ending (Using.left-of f g i n) h is =
      comparing (comparison_of l) (comparison-of l) (record { a = _; b = _; c = _; d = _; around = f; or = g; and = i; not = n; is = refl }) h is
  ending (Using.using_right_of q k f g i n j) h is = linking (link_of l) (link-of l) (record {
    a = _;
    b = _;
    c = _;
    d = _;
    around = f;
    or = g;
    and = i;
    read = whole-literal n (LiteralOf.compared k q j h);
    is = is ∙ simp append_assoc;
  })
  ending (Using.in-bracket q f g i) h is = by-close (After us (tok p l)) (mark_of l) (mark-of l) (λ e. record {
    a = _;
    b = _;
    c = _;
    around = f;
    sum = g;
    prod = whole-prod i (FactorOf.within q p h);
    is = with-token e is ∙ simp append_assoc;
  }) tt

  -- a token behind a factor
  having : (j : Option Join) → Joins j l → {s : Left} {e : Sum} {k : Use} → Having us s e k → After us (tok p l) (continued j s e k (tok p l))
  having (Some (join.Additive o)) e r = record {
    a = r.a;
    b = _;
    c = [];
    around = r.around;
    sum = LeftSum.before p o (whole_sum r.sum r.prod);
    prod = LeftProd.nothing;
    is = with-token e r.is ∙ simp (append_assoc, append-nil);
  }
  having (Some (join.Multiplicative o)) e r = record {
    a = r.a;
    b = r.b;
    c = _;
    around = r.around;
    sum = r.sum;
    prod = LeftProd.before p o r.prod;
    is = with-token e r.is ∙ simp append_assoc;
  }
  having None e r = ending r.around (whole_sum r.sum r.prod) r.is

  -- a token where a literal is wanted
  beginning : (d : ℕ) (xs : List Tok) (o : LiteralStart) → Starts o l → {nots : List ℕ} {ands ors : List Pending} {u : Purpose} → Literal us nots ands ors u → After us (tok p l) (begun o d (tok p l) xs nots ands ors u)
  beginning d xs (literal.Truth v) e r = record {
    a = r.a;
    b = r.b;
    c = r.c;
    d = _;
    around = r.around;
    or = r.or;
    and = r.and;
    read = whole-literal r.not (LiteralOf.truth p v);
    is = with-token e r.is ∙ simp append_assoc;
  }
  beginning d xs literal.Not e r = record {
    a = r.a;
    b = r.b;
    c = r.c;
    d = _;
    around = r.around;
    or = r.or;
    and = r.and;
    not = Nots.more p r.not;
    is = with-token e r.is ∙ simp append_assoc;
  }
  beginning d xs literal.Bracket e {nots} {ands} {ors} {u} r =
      let condition : After us (tok p l) (lit [] [] [] (bracket nots ands ors u)) = record {
        a = _;
        b = [];
        c = [];
        d = [];
        around = For.by-bracket p r.around r.or r.and r.not;
        or = Ors.nothing;
        and = Ands.nothing;
        not = Nots.nothing;
        is = with-token e r.is ∙ simp (append_assoc, append-nil);
      } in
      let sum : After us (tok p l) (want none none (within none none (left_of nots ands ors u))) = record {
        a = _;
        b = [];
        c = [];
        around = Using.in-bracket p (Using.left-of r.around r.or r.and r.not) LeftSum.nothing LeftProd.nothing;
        sum = LeftSum.nothing;
        prod = LeftProd.nothing;
        is = with-token e r.is ∙ simp (append_assoc, append-nil);
      } in
      roomy d _ (cond_both (clue_in xs 0) _ _ (After us (tok p l)) (λ _. condition) (λ _. sum))
  beginning d xs literal.Sum e r = wanting d (operand_of l) (operand-of l) (record {
    a = _;
    b = [];
    c = [];
    around = Using.left-of r.around r.or r.and r.not;
    sum = LeftSum.nothing;
    prod = LeftProd.nothing;
    is = r.is ∙ simp append-nil;
  })

  -- the } of a block
  leaving : {a b : List Tok} {k : Block} {t : Sheet} → l ≡ lexeme.CloseBlock → InBlock a k → SheetOf b t → us ≡ a ++ b → After us (tok p l) (left-block p t k)
  leaving e InBlock.outer f is = tt
  leaving e (InBlock.inner q (Heads.if-body i r s g h j)) f is = record {
    q = r;
    r = s;
    d = _;
    e = _;
    condition = j;
    block = BlockOf.block q p f;
    among = record {
      a = _;
      c = _;
      around = g;
      read = h;
      is = with-token e is ∙ simp append_assoc;
    };
  }
  leaving e (InBlock.inner q (Heads.else-body i r s t g h j k)) f is = record {
    a = _;
    c = _;
    around = g;
    read = Commands.more h (CommandOf.choose i r s t j k (BlockOf.block q p f));
    is = with-token e is ∙ simp (append_assoc, append-nil);
  }
  leaving e (InBlock.inner q (Heads.while-body i r s g h j)) f is = record {
    a = _;
    c = _;
    around = g;
    read = Commands.more h (CommandOf.while i r s j (BlockOf.block q p f));
    is = with-token e is ∙ simp (append_assoc, append-nil);
  }

  closing : {cs : List Command} {k : Block} {a b : List Tok} → l ≡ lexeme.CloseBlock → InBlock a k → Commands b cs → us ≡ a ++ b → After us (tok p l) (closed p cs k)
  closing e f Commands.nothing is = tt
  closing e f (Commands.more g h) is = leaving e f (whole-sheet g (SheetOf.only h)) is

  -- the end
  finishing : {cs : List Command} {k : Block} {a b : List Tok} → l ≡ lexeme.End → InBlock a k → Commands b cs → us ≡ a ++ b → After us (tok p l) (finished p cs k)
  finishing e f Commands.nothing is = tt
  finishing e InBlock.outer (Commands.more {cs} {c} g h) is = (e, subst (λ (l : List Tok). SheetOf l (sheet_of c cs)) (sym is) (whole-sheet g (SheetOf.only h)))
  finishing e (InBlock.inner q (Heads.if-body i r s f g h)) (Commands.more j k) is = tt
  finishing e (InBlock.inner q (Heads.else-body i r s t f g h m)) (Commands.more j k) is = tt
  finishing e (InBlock.inner q (Heads.while-body i r s f g h)) (Commands.more j k) is = tt

  -- a token where a command is wanted
  commanding : (o : Result CommandStart ReaderCause) → Commanding o l → {cs : List Command} {k : Block} → Among us cs k [] → After us (tok p l) (commanded o p cs k)
  commanding (Ok (command.Set x)) e r = record {
    a = r.a;
    c = r.c;
    around = r.around;
    read = r.read;
    is = with-token e r.is ∙ simp (append_assoc, append-nil);
  }
  commanding (Ok command.If) e r = record {
    a = _;
    around = Opening.by-if p r.around r.read;
    is = with-token e r.is ∙ simp (append_assoc, append-nil);
  }
  commanding (Ok command.While) e r = record {
    a = _;
    around = Opening.by-while p r.around r.read;
    is = with-token e r.is ∙ simp (append_assoc, append-nil);
  }
  commanding (Ok command.CloseBlock) e r = closing e r.around r.read (r.is ∙ simp append-nil)
  commanding (Ok command.End) e r = finishing e r.around r.read (r.is ∙ simp append-nil)
  commanding (Err c) e r = tt

  -- the = of a command, the ( of its condition, the { of its block, and what follows an if
  becoming : {q y : ℕ} {cs : List Command} {k : Block} → l ≡ lexeme.Becomes → Among us cs k (tok q (lexeme.Name y) ∷ []) → Wanting (us ++ tok p l ∷ []) none none (to_set q y cs k)
  becoming {q} {y} e r = record {
    a = _;
    b = [];
    c = [];
    around = Using.using_to_set q y p r.around r.read;
    sum = LeftSum.nothing;
    prod = LeftProd.nothing;
    is = with-token e r.is ∙ simp (append_assoc, append-nil);
  }

  opens-for : {a : List Tok} {u : Purpose} → Opening a u → For (a ++ tok p lexeme.Open ∷ []) u
  opens-for (Opening.by-if q f g) = simp append_assoc (For.by-if q p f g)
  opens-for (Opening.by-while q f g) = simp append_assoc (For.by-while q p f g)

  opening-condition : {u : Purpose} → l ≡ lexeme.Open → Opened us u → Literal (us ++ tok p l ∷ []) [] [] [] u
  opening-condition e r = record {
    a = _;
    b = [];
    c = [];
    d = [];
    around = opens-for r.around;
    or = Ors.nothing;
    and = Ands.nothing;
    not = Nots.nothing;
    is = with-token e r.is ∙ simp append-nil;
  }

  opening-block : {k : Block} → l ≡ lexeme.OpenBlock → Headed us k → Among (us ++ tok p l ∷ []) [] k []
  opening-block e r = record {
    a = _;
    c = [];
    around = InBlock.inner p r.around;
    read = Commands.nothing;
    is = with-token e r.is ∙ simp append-nil;
  }

  otherwise : {q : ℕ} {c : Condition} {t : Sheet} {cs : List Command} {k : Block} → l ≡ lexeme.Else → IfRead us q c t cs k → Headed (us ++ tok p l ∷ []) (else_body q c t cs k)
  otherwise {q} e r = record {
    a = _;
    around = Heads.else-body q r.q r.r p r.among.around r.among.read r.condition r.block;
    is = with-token e r.among.is ∙ simp append_assoc;
  }

  if-read : {q : ℕ} {c : Condition} {t : Sheet} {cs : List Command} {k : Block} → IfRead us q c t cs k → Among us (when q c t ∷ cs) k []
  if-read {q} r = record {
    a = r.among.a;
    c = _;
    around = r.among.around;
    read = Commands.more r.among.read (CommandOf.when q r.q r.r r.condition r.block);
    is = r.among.is ∙ simp append-nil;
  }

keeps : (us : List Tok) (d : ℕ) (s : State) (x : Tok) (xs : List Tok) → Stands us s → After us x (step d s x xs)
keeps us d (want s m k) x xs r = wanting us x.place x.lexeme d (operand_of x.lexeme) (operand-of x.lexeme) r
keeps us d (have s e k) x xs r = having us x.place x.lexeme (join_of x.lexeme) (join-of x.lexeme) r
keeps us d (lit nots ands ors u) x xs r = beginning us x.place x.lexeme d xs (literal_of x.lexeme) (literal-of x.lexeme) r
keeps us d (had c ands ors u) x xs r = linking us x.place x.lexeme (link_of x.lexeme) (link-of x.lexeme) r
keeps us d (cmd cs b) x xs r = commanding us x.place x.lexeme (command_of x.lexeme) (command-of x.lexeme) r
keeps us d (becomes p y cs b) x xs r =
    by-becomes (After us x) (mark_of x.lexeme) (mark-of x.lexeme) (λ e. becoming us x.place x.lexeme e r) tt
keeps us d (opening u) x xs r =
    by-open (After us x) (mark_of x.lexeme) (mark-of x.lexeme) (λ e. roomy us x.place x.lexeme d (lit [] [] [] u) (opening-condition us x.place x.lexeme e r)) tt
keeps us d (blocking b) x xs r =
    by-open-block (After us x) (mark_of x.lexeme) (mark-of x.lexeme) (λ e. roomy us x.place x.lexeme d (cmd [] b) (opening-block us x.place x.lexeme e r)) tt
keeps us d (else_or p c t cs b) x xs r =
    by-else (After us x) (mark_of x.lexeme) (mark-of x.lexeme) (λ e. otherwise us x.place x.lexeme e r)
    (commanding us x.place x.lexeme (command_of x.lexeme) (command-of x.lexeme) (if-read us x.place x.lexeme r))
keeps us d (done t) x xs r = absurd r
keeps us d (refused c p) x xs r = absurd r

-- a bracket that is not refused has room

abbrev Alive : State → Type 0
Alive (want s m k) = Unit {0}
Alive (have s e k) = Unit {0}
Alive (lit nots ands ors u) = Unit {0}
Alive (had c ands ors u) = Unit {0}
Alive (cmd cs b) = Unit {0}
Alive (becomes p x cs b) = Unit {0}
Alive (opening u) = Unit {0}
Alive (blocking b) = Unit {0}
Alive (else_or p c t cs b) = Unit {0}
Alive (done t) = Unit {0}
Alive (refused c p) = ⊥

has_room : (d p : ℕ) (s : State) → Alive (room d p s) → d < 32
has_room d p s h =
    elim (ltb d 32) as (λ (v : Bool). ltb d 32 ≡ v → Alive (cond v s (refused TooManyOpen p)) → d < 32) [
      | true ↦ λ e _. ltb-true d 32 e
      | false ↦ λ _ n. absurd n
    ]
    refl h

ended-refuses : (k : Use) (e : Sum) (p : ℕ) → (Alive (ended k e (tok p lexeme.Open)) → ⊥) × (Alive (ended k e (tok p lexeme.OpenBlock)) → ⊥)
ended-refuses (to_set q x cs b) e p = (λ h. h, λ h. h)
ended-refuses (left_of nots ands ors u) e p = (λ h. h, λ h. h)
ended-refuses (right_of q k l nots ands ors u) e p = (λ h. h, λ h. h)
ended-refuses (within s m k) e p = (λ h. h, λ h. h)

open-room : (us : List Tok) (s : State) → Stands us s → (d p : ℕ) (xs : List Tok) → Alive (step d s (tok p lexeme.Open) xs) → d < 32
open-room us (want s m k) r d p xs h = has_room d p _ h
open-room us (have s e k) r d p xs h = absurd ((ended-refuses k (onto s e) p).0 h)
open-room us (lit nots ands ors u) r d p xs h = has_room d p _ h
open-room us (had c ands ors u) r d p xs h = absurd h
open-room us (cmd cs b) r d p xs h = absurd h
open-room us (becomes q y cs b) r d p xs h = absurd h
open-room us (opening u) r d p xs h = has_room d p _ h
open-room us (blocking b) r d p xs h = absurd h
open-room us (else_or q c t cs b) r d p xs h = absurd h
open-room us (done t) r d p xs h = absurd r
open-room us (refused c q) r d p xs h = absurd r

open-block-room : (us : List Tok) (s : State) → Stands us s → (d p : ℕ) (xs : List Tok) → Alive (step d s (tok p lexeme.OpenBlock) xs) → d < 32
open-block-room us (want s m k) r d p xs h = absurd h
open-block-room us (have s e k) r d p xs h = absurd ((ended-refuses k (onto s e) p).1 h)
open-block-room us (lit nots ands ors u) r d p xs h = absurd h
open-block-room us (had c ands ors u) r d p xs h = absurd h
open-block-room us (cmd cs b) r d p xs h = absurd h
open-block-room us (becomes q y cs b) r d p xs h = absurd h
open-block-room us (opening u) r d p xs h = absurd h
open-block-room us (blocking b) r d p xs h = has_room d p _ h
open-block-room us (else_or q c t cs b) r d p xs h = absurd h
open-block-room us (done t) r d p xs h = absurd r
open-block-room us (refused c q) r d p xs h = absurd r

few-by : (l : Lexeme) (d : ℕ) → d ≤ 32 → (l ≡ lexeme.Open → d < 32) → (l ≡ lexeme.OpenBlock → d < 32) → depth_after l d ≤ 32
few-by (lexeme.Number v) d h f g = h
few-by lexeme.TooLarge d h f g = h
few-by (lexeme.Name y) d h f g = h
few-by lexeme.Unlisted d h f g = h
few-by (lexeme.Truth v) d h f g = h
few-by lexeme.If d h f g = h
few-by lexeme.Else d h f g = h
few-by lexeme.While d h f g = h
few-by (lexeme.Additive o) d h f g = h
few-by (lexeme.Multiplicative o) d h f g = h
few-by (lexeme.Compare o) d h f g = h
few-by lexeme.Not d h f g = h
few-by lexeme.And d h f g = h
few-by lexeme.Or d h f g = h
few-by lexeme.Open d h f g = omega (arith, f refl)
few-by lexeme.Close d h f g = omega (arith, pred-le d)
few-by lexeme.OpenBlock d h f g = omega (arith, g refl)
few-by lexeme.CloseBlock d h f g = omega (arith, pred-le d)
few-by lexeme.Semicolon d h f g = h
few-by lexeme.Becomes d h f g = h
few-by lexeme.End d h f g = h
few-by lexeme.Stray d h f g = h

few-after : (us : List Tok) (s : State) → Stands us s → (d : ℕ) → d ≤ 32 → (x : Tok) (xs : List Tok) → Alive (step d s x xs) → depth_after x.lexeme d ≤ 32
few-after us s r d h x xs a =
    let P : Lexeme → Type 0 = λ l. Alive (step d s (tok x.place l) xs) in
    few-by x.lexeme d h (λ e. open-room us s r d x.place xs (subst P e a)) (λ e. open-block-room us s r d x.place xs (subst P e a))

-- a state that one token leads to goes on, or is a sheet's, or is a refusal
sorted : {R : Type 0} (us : List Tok) (x : Tok) (s : State) → After us x s
    → (Stands (us ++ x ∷ []) s → Alive s → R)
    → ((t : Sheet) → s ≡ done t → x.lexeme ≡ lexeme.End → SheetOf us t → R)
    → ((c : ReaderCause) (p : ℕ) → s ≡ refused c p → R)
    → R
sorted us x (want s m k) r on end off = on r tt
sorted us x (have s e k) r on end off = on r tt
sorted us x (lit nots ands ors u) r on end off = on r tt
sorted us x (had c ands ors u) r on end off = on r tt
sorted us x (cmd cs b) r on end off = on r tt
sorted us x (becomes p y cs b) r on end off = on r tt
sorted us x (opening u) r on end off = on r tt
sorted us x (blocking b) r on end off = on r tt
sorted us x (else_or p c t cs b) r on end off = on r tt
sorted us x (done t) r on end off = end t refl r.0 r.1
sorted us x (refused c p) r on end off = off c p refl

-- a sheet's tokens, of which us have been read with d brackets open, and the end
record Sound (us ts : List Tok) (d : ℕ) (t : Sheet) : Type 0 where
  body : List Tok
  end : ℕ
  rest : List Tok
  split : ts ≡ body ++ tok end lexeme.End ∷ rest
  derived : SheetOf (us ++ body) t
  few : FewOpen d body

sound : (ts us : List Tok) (d : ℕ) (s : State) (t : Sheet) → Stands us s → d ≤ 32 → run ts d s ≡ done t → Sound us ts d t
sound [] us d s t r h e = absurd (subst (Stands us) e r)
sound (x ∷ ts) us d s t r h e =
    let n : ℕ = depth_after x.lexeme d in
    sorted us x (step d s x ts) (keeps us d s x ts r)
    (λ on alive.
    let i = sound ts (us ++ x ∷ []) n (step d s x ts) t on (few-after us s r d h x ts alive) e in
    record {
      body = x ∷ i.body;
      end = i.end;
      rest = i.rest;
      split = ap (λ (l : List Tok). x ∷ l) i.split;
      derived = subst (λ (l : List Tok). SheetOf l t) (append_assoc us (x ∷ []) i.body) i.derived;
      few = (h, i.few);
    })
    (λ u is ends f.
    let same : done u ≡ done t = sym (run-done ts n u) ∙ ap (run ts n) (sym is) ∙ e in
    let tree : u ≡ t = cc in
    record {
      body = [];
      end = x.place;
      rest = ts;
      split = ap (λ (l : Lexeme). tok x.place l ∷ ts) ends;
      derived = subst (SheetOf (us ++ [])) tree (subst (λ (l : List Tok). SheetOf l u) (sym (append-nil us)) f);
      few = h;
    })
    (λ c p is.
    let never : refused c p ≡ done t = sym (run-refused ts n c p) ∙ ap (run ts n) (sym is) ∙ e in
    let z : ◌≡◌ {A = ℕ} 0 1 = cc in
    absurd (omega arith))

pub reads_only : ReadsOnly
reads_only ts t e =
    let i = sound ts [] 0 start t (record { a = []; c = []; around = InBlock.outer; read = Commands.nothing; is = refl }) (omega arith) e in
    record { body = i.body; end = i.end; rest = i.rest; split = i.split; derived = i.derived; few = i.few }
