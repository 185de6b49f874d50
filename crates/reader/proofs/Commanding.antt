-- One turn of each function that reads commands, blocks and sheets: the machine goes from where the first part began to
-- where the last ends, and the rows are those of the tree.
use Rattle.std.proofs.Common.{◌≡◌, ℕ, suc, pred, ◌+◌, ◌-◌, ◌<◌, ◌≤◌, List, [], ◌∷◌, length, pos, Some, None, Ok, Err, Option, Result, sym, refl, ap, ◌∙◌, subst, ⊎_elim, sub-one, arith}
use Rattle.faults.specs.declared.causes.ReaderCause.{ReaderCause}
use Rattle.faults.specs.declared.causes.ReaderCause.TheVariants.{Unexpected}
use Rattle.tables.specs.declared.kind.Kind.TheVariants as kind
use Rattle.tables.specs.declared.row.Row.{Row}
use Rattle.tables.specs.Trees.{Sum, Condition, Command, set, when, choose, while, Sheet, only, joint}
use Rattle.grammar.specs.declared.lexeme.Lexeme.TheVariants as lexeme
use Rattle.grammar.specs.declared.choice.CommandStart.{CommandStart}
use Rattle.grammar.specs.declared.choice.CommandStart.TheVariants as command
use Rattle.grammar.specs.declared.choice.Mark.{Mark}
use Rattle.grammar.specs.declared.choice.Mark.TheVariants as mark
use Rattle.grammar.specs.Choices.{command_of, mark_of, refusal_of, depth_after}
use Rattle.grammar.specs.Lexemes.{Tok}
use Rattle.grammar.specs.Machine.{none, Block, whole, if_body, else_body, while_body, Purpose, if_head, while_head, Use, to_set, State, want, cmd, becomes, opening, blocking, else_or, refused, if_else, gathered, left-block, closed, finished, commanded, run}
use Rattle.grammar.proofs.Lexing.{run-refused}
use Rattle.reader.specs.declared.seen.Seen.{Seen}
use Rattle.reader.specs.declared.seen.Refusal.{Refusal}
use Rattle.reader.specs.declared.progress.Progress.{Progress}
use Rattle.reader.specs.Ahead.{ahead, follow, HereIs, refused_at, seen_as}
use Rattle.reader.specs.Progressing.{read_on, outside, told, Passed, Missed, from}
use Rattle.reader.specs.Summing.{TookSum, behind_sum}
use Rattle.reader.specs.Judging.{TookBracket}
use Rattle.reader.specs.Ordering.{pushed, JoinedInPlace, place_ahead, EndsSheet, EndAhead, Inner, Wanting, TookCommand, TookSheet, TookBlock, Begins}
use Rattle.reader.proofs.Nexts.{sheet-ends, further, next, taking, refusing, seen-refused, set-taken, if-taken, while-taken, close-block-taken, end-taken, else-taken, becomes-taken, open-block-taken, semicolon-taken}
use Rattle.reader.proofs.Entering.{Entered, Barred}
use Rattle.reader.proofs.Bracketing.{missing, room-left, no_room, between}
use Rattle.reader.proofs.Writing.{Further, gone, sum-long, condition-long, command-long, sheet-long, before, beyond, one_told, two-told, three-told}

again : (names : List (List ℕ)) (text : List ℕ) (a : Progress) {z : Progress} (s : Seen) → z ≡ read_on a s → (m : State) → run (ahead names text s.end) a.depth m ≡ from names text z m
again names text a s e m = sym (ap (λ (z : Progress). from names text z m) e)

why-refused : {r q : Refusal} → r ≡ q → refused q.cause q.place ≡ refused r.cause r.place
why-refused e = sym (ap (λ (r : Refusal). refused r.cause r.place) e)

-- a command is set, by its name

set_on : {names : List (List ℕ)} {text : List ℕ} {a x : Progress} {s : Seen} {p : ℕ} → Begins (command.Set p) names text a s → x ≡ read_on a s → (cs : List Command) (b : Block) → from names text a (cmd cs b) ≡ from names text x (becomes s.place p cs b)
set_on {names} {text} {a} {x} {s} {p} g on cs b = taking (lexeme.Name p) g.here (set-taken g.is) a.depth (cmd cs b) ∙ again names text a s on (becomes s.place p cs b)

becomes-on : {names : List (List ℕ)} {text : List ℕ} {a z : Progress} {s : Seen} → Passed mark.Becomes names text a z s → (p x : ℕ) (cs : List Command) (b : Block) → from names text a (becomes p x cs b) ≡ from names text z (want none none (to_set p x cs b))
becomes-on {names} {text} {a} {z} {s} h p x cs b = taking lexeme.Becomes h.here (becomes-taken h.is) a.depth (becomes p x cs b) ∙ again names text a s h.on (want none none (to_set p x cs b))

semicolon-on : {names : List (List ℕ)} {text : List ℕ} {a z : Progress} {s : Seen} → Passed mark.Semicolon names text a z s → (p x : ℕ) (e : Sum) (cs : List Command) (b : Block) → behind_sum (to_set p x cs b) e (ahead names text a.position.at) a.depth ≡ from names text z (cmd (set p x e ∷ cs) b)
semicolon-on {names} {text} {a} {z} {s} h p x e cs b = ap (λ ts. behind_sum (to_set p x cs b) e ts a.depth) (next lexeme.Semicolon h.here (semicolon-taken h.is)) ∙ again names text a s h.on (cmd (set p x e ∷ cs) b)

placed : {names : List (List ℕ)} {text : List ℕ} {at : ℕ} {s : Seen} → HereIs names text at s → s.place ≡ place_ahead (ahead names text at)
placed h = sym (ap place_ahead h.tokens)

pub set-read : {names : List (List ℕ)} {text : List ℕ} {a x y v z w : Progress} {old mid new : List Row} {s t e : Seen} {p : ℕ} → Begins (command.Set p) names text a s → x ≡ read_on a s → Passed mark.Becomes names text x y t → TookSum names text y old v mid → Passed mark.Semicolon names text v z e → (new, w) ≡ told mid z kind.Set (pos p) a.count s.place → TookCommand names text a old w new
set-read {names} {text} {a} {x} {y} {v} {z} {w} {old} {mid} {new} {s} {t} {e} {p} g on equals took semicolon row =
    let P : List Row × Progress → Type 0 = λ p. TookCommand names text a old p.1 p.0 in
    let ga : Further a x s = gone a s on in
    let gx : Further x y t = gone x t equals.on in
    let gv : Further v z e = gone v e semicolon.on in
    let lt : a.position.at < s.end = further (lexeme.Name p) g.here (set-taken g.is) tt in
    let lt-x : x.position.at < t.end = further lexeme.Becomes equals.here (becomes-taken equals.is) tt in
    let lt-v : v.position.at < e.end = further lexeme.Semicolon semicolon.here (semicolon-taken semicolon.is) tt in
    let end : z.position.at ≤ length text = rw gv.at (semicolon.here.within took.wrote.within) in
    let pays : suc (suc (z.count + a.position.at)) ≤ z.position.at + a.count = omega (arith, took.wrote.few, ga.at, ga.count, gx.at, gx.count, gv.at, gv.count) in
    subst P (sym row) (record {
      tree = set s.place p took.tree;
      moves = λ cs b.
          set_on g on cs b ∙ becomes-on equals s.place p cs b ∙ took.moves (to_set s.place p cs b)
          ∙ semicolon-on semicolon s.place p took.tree cs b;
      wrote = one_told kind.Set (pos p) s.place _ refl
          (beyond z gv.count gv.depth (omega (arith, gv.at)) end (before a (gx.count ∙ ga.count) (gx.depth ∙ ga.depth) (omega (arith, ga.at, gx.at)) took.wrote))
          (sum-long took.tree) (omega arith);
      spare = omega arith;
      place = placed g.here;
    })

pub no-becomes : {names : List (List ℕ)} {text : List ℕ} {a x : Progress} {s : Seen} {p : ℕ} {r : Refusal} → Begins (command.Set p) names text a s → x ≡ read_on a s → Missed mark.Becomes names text x r → (cs : List Command) (b : Block) → Wanting cs (ahead names text a.position.at) → from names text a (cmd cs b) ≡ refused r.cause r.place
no-becomes {x = x} {s} {p} g on m cs b w = set_on g on cs b ∙ taking m.seen.lexeme m.here refl x.depth (becomes s.place p cs b) ∙ missing m _ _

pub no-sum : {names : List (List ℕ)} {text : List ℕ} {a x y : Progress} {s t : Seen} {p : ℕ} {r : Refusal} → Begins (command.Set p) names text a s → x ≡ read_on a s → Passed mark.Becomes names text x y t → ((k : Use) → from names text y (want none none k) ≡ refused r.cause r.place) → (cs : List Command) (b : Block) → Wanting cs (ahead names text a.position.at) → from names text a (cmd cs b) ≡ refused r.cause r.place
no-sum {s = s} {p = p} g on equals refusal cs b w = set_on g on cs b ∙ becomes-on equals s.place p cs b ∙ refusal (to_set s.place p cs b)

pub no-semicolon : {names : List (List ℕ)} {text : List ℕ} {a x y v : Progress} {old mid : List Row} {s t : Seen} {p : ℕ} {r : Refusal} → Begins (command.Set p) names text a s → x ≡ read_on a s → Passed mark.Becomes names text x y t → TookSum names text y old v mid → Missed mark.Semicolon names text v r → (cs : List Command) (b : Block) → Wanting cs (ahead names text a.position.at) → from names text a (cmd cs b) ≡ refused r.cause r.place
no-semicolon {v = v} {s = s} {p = p} g on equals took m cs b w =
    set_on g on cs b ∙ becomes-on equals s.place p cs b ∙ took.moves (to_set s.place p cs b)
    ∙ ap (λ ts. behind_sum (to_set s.place p cs b) took.tree ts v.depth) m.here.tokens ∙ missing m _ _

-- if and while, by their words

if-on : {names : List (List ℕ)} {text : List ℕ} {a x : Progress} {s : Seen} → Begins command.If names text a s → x ≡ read_on a s → (cs : List Command) (b : Block) → from names text a (cmd cs b) ≡ from names text x (opening (if_head s.place cs b))
if-on {names} {text} {a} {x} {s} g on cs b = taking lexeme.If g.here (if-taken g.is) a.depth (cmd cs b) ∙ again names text a s on (opening (if_head s.place cs b))

while-on : {names : List (List ℕ)} {text : List ℕ} {a x : Progress} {s : Seen} → Begins command.While names text a s → x ≡ read_on a s → (cs : List Command) (b : Block) → from names text a (cmd cs b) ≡ from names text x (opening (while_head s.place cs b))
while-on {names} {text} {a} {x} {s} g on cs b = taking lexeme.While g.here (while-taken g.is) a.depth (cmd cs b) ∙ again names text a s on (opening (while_head s.place cs b))

-- behind the block of an if
else-on : {names : List (List ℕ)} {text : List ℕ} {a z : Progress} {s : Seen} → HereIs names text a.position.at s → mark_of s.lexeme ≡ Some mark.Else → z ≡ read_on a s → (p : ℕ) (c : Condition) (t : Sheet) (cs : List Command) (b : Block) → from names text a (else_or p c t cs b) ≡ from names text z (blocking (else_body p c t cs b))
else-on {names} {text} {a} {z} {s} h is on p c t cs b = taking lexeme.Else h (else-taken is) a.depth (else_or p c t cs b) ∙ again names text a s on (blocking (else_body p c t cs b))

not-else : (m : Option Mark) → (m ≡ Some mark.Else → ⊥) → (x y : State) → if_else m x y ≡ y
not-else (Some mark.Else) other x y = absurd (other refl)
not-else (Some mark.Open) other x y = refl
not-else (Some mark.Close) other x y = refl
not-else (Some mark.OpenBlock) other x y = refl
not-else (Some mark.Semicolon) other x y = refl
not-else (Some mark.Becomes) other x y = refl
not-else None other x y = refl

no-else : {names : List (List ℕ)} {text : List ℕ} (a : Progress) {s : Seen} → HereIs names text a.position.at s → (mark_of s.lexeme ≡ Some mark.Else → ⊥) → (p : ℕ) (c : Condition) (t : Sheet) (cs : List Command) (b : Block) → from names text a (else_or p c t cs b) ≡ from names text a (cmd (when p c t ∷ cs) b)
no-else {names} {text} a {s} h other p c t cs b =
    let rest = follow s.lexeme (ahead names text s.end) in
    taking s.lexeme h refl a.depth (else_or p c t cs b)
    ∙ ap (λ q. run rest (depth_after s.lexeme a.depth) q) (not-else (mark_of s.lexeme) other _ _)
    ∙ sym (taking s.lexeme h refl a.depth (cmd (when p c t ∷ cs) b))

pub when-read : {names : List (List ℕ)} {text : List ℕ} {a x y z w : Progress} {old mid late new : List Row} {s n : Seen} → Begins command.If names text a s → x ≡ read_on a s → TookBracket names text x old y mid → TookBlock names text y mid z late → HereIs names text z.position.at n → (mark_of n.lexeme ≡ Some mark.Else → ⊥) → (new, w) ≡ told late z kind.If (pos 0) a.count s.place → TookCommand names text a old w new
when-read {names} {text} {a} {x} {y} {z} {w} {old} {mid} {late} {new} {s} {n} g on head body h other row =
    let P : List Row × Progress → Type 0 = λ p. TookCommand names text a old p.1 p.0 in
    let ga : Further a x s = gone a s on in
    let lt : a.position.at < s.end = further lexeme.If g.here (if-taken g.is) tt in
    let pays : suc (suc (z.count + a.position.at)) ≤ z.position.at + a.count = omega (arith, head.wrote.few, body.spare, ga.at, ga.count) in
    subst P (sym row) (record {
      tree = when s.place head.tree body.tree;
      moves = λ cs b.
          if-on g on cs b ∙ head.moves (if_head s.place cs b) ∙ body.moves (if_body s.place head.tree cs b)
          ∙ no-else z h other s.place head.tree body.tree cs b;
      wrote = two-told kind.If (pos 0) s.place _ _ refl (before a ga.count ga.depth (omega (arith, ga.at)) head.wrote) body.wrote (condition-long head.tree) (sheet-long body.tree) (omega arith);
      spare = omega arith;
      place = placed g.here;
    })

pub choose-read : {names : List (List ℕ)} {text : List ℕ} {a x y z v q w : Progress} {old mid late last new : List Row} {s n : Seen} → Begins command.If names text a s → x ≡ read_on a s → TookBracket names text x old y mid → TookBlock names text y mid z late → HereIs names text z.position.at n → mark_of n.lexeme ≡ Some mark.Else → v ≡ read_on z n → TookBlock names text v late q last → (new, w) ≡ told last q kind.IfElse (pos 0) a.count s.place → TookCommand names text a old w new
choose-read {names} {text} {a} {x} {y} {z} {v} {q} {w} {old} {mid} {late} {last} {new} {s} {n} g on head body h is past other row =
    let P : List Row × Progress → Type 0 = λ p. TookCommand names text a old p.1 p.0 in
    let ga : Further a x s = gone a s on in
    let gz : Further z v n = gone z n past in
    let lt : a.position.at < s.end = further lexeme.If g.here (if-taken g.is) tt in
    let pays : suc (suc (q.count + a.position.at)) ≤ q.position.at + a.count = omega (arith, head.wrote.few, body.spare, other.spare, h.forward, ga.at, ga.count, gz.at, gz.count) in
    subst P (sym row) (record {
      tree = choose s.place head.tree body.tree other.tree;
      moves = λ cs b.
          if-on g on cs b ∙ head.moves (if_head s.place cs b) ∙ body.moves (if_body s.place head.tree cs b)
          ∙ else-on h is past s.place head.tree body.tree cs b ∙ other.moves (else_body s.place head.tree body.tree cs b);
      wrote = three-told kind.IfElse (pos 0) s.place _ _ _ refl (before a ga.count ga.depth (omega (arith, ga.at)) head.wrote) body.wrote (before z gz.count gz.depth (omega (arith, gz.at, h.forward)) other.wrote) (condition-long head.tree) (sheet-long body.tree) (sheet-long other.tree) (omega arith);
      spare = omega arith;
      place = placed g.here;
    })

pub while-read : {names : List (List ℕ)} {text : List ℕ} {a x y z w : Progress} {old mid late new : List Row} {s : Seen} → Begins command.While names text a s → x ≡ read_on a s → TookBracket names text x old y mid → TookBlock names text y mid z late → (new, w) ≡ told late z kind.While (pos 0) a.count s.place → TookCommand names text a old w new
while-read {names} {text} {a} {x} {y} {z} {w} {old} {mid} {late} {new} {s} g on head body row =
    let P : List Row × Progress → Type 0 = λ p. TookCommand names text a old p.1 p.0 in
    let ga : Further a x s = gone a s on in
    let lt : a.position.at < s.end = further lexeme.While g.here (while-taken g.is) tt in
    let pays : suc (suc (z.count + a.position.at)) ≤ z.position.at + a.count = omega (arith, head.wrote.few, body.spare, ga.at, ga.count) in
    subst P (sym row) (record {
      tree = while s.place head.tree body.tree;
      moves = λ cs b. while-on g on cs b ∙ head.moves (while_head s.place cs b) ∙ body.moves (while_body s.place head.tree cs b);
      wrote = two-told kind.While (pos 0) s.place _ _ refl (before a ga.count ga.depth (omega (arith, ga.at)) head.wrote) body.wrote (condition-long head.tree) (sheet-long body.tree) (omega arith);
      spare = omega arith;
      place = placed g.here;
    })

-- refusals of their parts

pub if-no-head : {names : List (List ℕ)} {text : List ℕ} {a x : Progress} {s : Seen} {r : Refusal} → Begins command.If names text a s → x ≡ read_on a s → ((u : Purpose) → from names text x (opening u) ≡ refused r.cause r.place) → (cs : List Command) (b : Block) → Wanting cs (ahead names text a.position.at) → from names text a (cmd cs b) ≡ refused r.cause r.place
if-no-head {s = s} g on refusal cs b w = if-on g on cs b ∙ refusal (if_head s.place cs b)

pub if-no-block : {names : List (List ℕ)} {text : List ℕ} {a x y : Progress} {old mid : List Row} {s : Seen} {r : Refusal} → Begins command.If names text a s → x ≡ read_on a s → TookBracket names text x old y mid → ((b : Block) → Inner b → from names text y (blocking b) ≡ refused r.cause r.place) → (cs : List Command) (b : Block) → Wanting cs (ahead names text a.position.at) → from names text a (cmd cs b) ≡ refused r.cause r.place
if-no-block {s = s} g on head refusal cs b w = if-on g on cs b ∙ head.moves (if_head s.place cs b) ∙ refusal (if_body s.place head.tree cs b) tt

pub else-no-block : {names : List (List ℕ)} {text : List ℕ} {a x y z v : Progress} {old mid late : List Row} {s n : Seen} {r : Refusal} → Begins command.If names text a s → x ≡ read_on a s → TookBracket names text x old y mid → TookBlock names text y mid z late → HereIs names text z.position.at n → mark_of n.lexeme ≡ Some mark.Else → v ≡ read_on z n → ((b : Block) → Inner b → from names text v (blocking b) ≡ refused r.cause r.place) → (cs : List Command) (b : Block) → Wanting cs (ahead names text a.position.at) → from names text a (cmd cs b) ≡ refused r.cause r.place
else-no-block {s = s} g on head body h is past refusal cs b w =
    if-on g on cs b ∙ head.moves (if_head s.place cs b) ∙ body.moves (if_body s.place head.tree cs b)
    ∙ else-on h is past s.place head.tree body.tree cs b ∙ refusal (else_body s.place head.tree body.tree cs b) tt

pub while-no-head : {names : List (List ℕ)} {text : List ℕ} {a x : Progress} {s : Seen} {r : Refusal} → Begins command.While names text a s → x ≡ read_on a s → ((u : Purpose) → from names text x (opening u) ≡ refused r.cause r.place) → (cs : List Command) (b : Block) → Wanting cs (ahead names text a.position.at) → from names text a (cmd cs b) ≡ refused r.cause r.place
while-no-head {s = s} g on refusal cs b w = while-on g on cs b ∙ refusal (while_head s.place cs b)

pub while-no-block : {names : List (List ℕ)} {text : List ℕ} {a x y : Progress} {old mid : List Row} {s : Seen} {r : Refusal} → Begins command.While names text a s → x ≡ read_on a s → TookBracket names text x old y mid → ((b : Block) → Inner b → from names text y (blocking b) ≡ refused r.cause r.place) → (cs : List Command) (b : Block) → Wanting cs (ahead names text a.position.at) → from names text a (cmd cs b) ≡ refused r.cause r.place
while-no-block {s = s} g on head refusal cs b w = while-on g on cs b ∙ head.moves (while_head s.place cs b) ∙ refusal (while_body s.place head.tree cs b) tt

-- blocks

block_on : {names : List (List ℕ)} {text : List ℕ} {a y x : Progress} {s : Seen} → Passed mark.OpenBlock names text a y s → Entered y s x → (b : Block) → from names text a (blocking b) ≡ from names text x (cmd [] b)
block_on {names} {text} {a} {y} {x} {s} p inside b =
    let R : Progress → Type 0 = λ y. Entered y s x in
    let e : Entered (read_on a s) s x = subst R p.on inside in
    taking lexeme.OpenBlock p.here (open-block-taken p.is) a.depth (blocking b)
    ∙ room-left e (ahead names text s.end) (cmd [] b)
    ∙ sym (ap (λ (x : Progress). from names text x (cmd [] b)) e.on)

pub block-missed : {names : List (List ℕ)} {text : List ℕ} {a : Progress} {r : Refusal} → Missed mark.OpenBlock names text a r → (b : Block) → Inner b → from names text a (blocking b) ≡ refused r.cause r.place
block-missed {a = a} m b i = taking m.seen.lexeme m.here refl a.depth (blocking b) ∙ missing m _ _

pub block-crowded : {names : List (List ℕ)} {text : List ℕ} {a y : Progress} {s : Seen} {r : Refusal} → Passed mark.OpenBlock names text a y s → Barred y s r → (b : Block) → Inner b → from names text a (blocking b) ≡ refused r.cause r.place
block-crowded {names} {text} {a} {y} {s} {r} p many b i =
    let R : Progress → Type 0 = λ y. Barred y s r in
    taking lexeme.OpenBlock p.here (open-block-taken p.is) a.depth (blocking b)
    ∙ no_room (subst R p.on many) (ahead names text s.end) (suc a.depth) (cmd [] b)

pub block_refused : {names : List (List ℕ)} {text : List ℕ} {a y x : Progress} {s : Seen} {r : Refusal} → Passed mark.OpenBlock names text a y s → Entered y s x → ((cs : List Command) (b : Block) → Wanting cs (ahead names text x.position.at) → from names text x (cmd cs b) ≡ refused r.cause r.place) → (b : Block) → Inner b → from names text a (blocking b) ≡ refused r.cause r.place
block_refused p inside refusal b i = block_on p inside b ∙ refusal [] b tt

-- the commands of a sheet, gathered again
closed-pushed : (p : ℕ) (t : Sheet) (cs : List Command) (b : Block) → JoinedInPlace t → closed p (pushed t cs) b ≡ left-block p (gathered t cs) b
closed-pushed p (only c) cs b joints = refl
closed-pushed p (joint q c t) cs b joints = closed-pushed p t (c ∷ cs) b joints.1 ∙ sym (ap (λ q. left-block p (gathered (joint q c t) cs) b) joints.0)

finished-inner : (p : ℕ) (cs : List Command) (b : Block) → Inner b → finished p cs b ≡ refused Unexpected p
finished-inner p [] b i = refl
finished-inner p (c ∷ cs) whole i = absurd i
finished-inner p (c ∷ cs) (if_body q d ds b) i = refl
finished-inner p (c ∷ cs) (else_body q d t ds b) i = refl
finished-inner p (c ∷ cs) (while_body q d ds b) i = refl

pub block_read : {names : List (List ℕ)} {text : List ℕ} {a y x z w : Progress} {old new : List Row} {s e : Seen} → Passed mark.OpenBlock names text a y s → Entered y s x → TookSheet names text x old z new → HereIs names text z.position.at e → command_of e.lexeme ≡ Ok command.CloseBlock → w ≡ read_on z e → TookBlock names text a old (outside w) new
block_read {names} {text} {a} {y} {x} {z} {w} {old} {new} {s} {e} p inside took h is on =
    let R : Progress → Type 0 = λ y. Entered y s x in
    let n : Entered (read_on a s) s x = subst R p.on inside in
    let lt : a.position.at < s.end = further lexeme.OpenBlock p.here (open-block-taken p.is) tt in
    let at_x : x.position.at ≡ s.end = ap (λ (x : Progress). x.position.at) n.on in
    let count-x : x.count ≡ a.count = ap (λ (x : Progress). x.count) n.on in
    let gz : Further z w e = gone z e on in
    let lower : w.depth - 1 ≡ pred z.depth = ap (λ n. n - 1) gz.depth ∙ sub-one z.depth in
    let end : w.position.at ≤ length text = rw gz.at (h.within took.wrote.within) in
    record {
      tree = took.tree;
      close = e.place;
      moves = λ b.
          block_on p inside b ∙ took.moves [] b
          ∙ taking lexeme.CloseBlock h (close-block-taken is) z.depth (cmd (pushed took.tree []) b)
          ∙ ap (λ m. run (ahead names text e.end) (pred z.depth) m) (closed-pushed e.place took.tree [] b took.joints)
          ∙ sym (ap (λ i. run (ahead names text i) (pred z.depth) (left-block e.place took.tree b)) gz.at)
          ∙ sym (ap (λ d. run (ahead names text w.position.at) d (left-block e.place took.tree b)) lower);
      wrote = between a _ count-x (ap (λ (x : Progress). x.depth) n.on) (omega arith) took.wrote gz.count lower (omega (arith, h.forward, gz.at)) end;
      spare = omega (arith, took.wrote.few, h.forward, gz.at, gz.count);
    }

pub block-open : {names : List (List ℕ)} {text : List ℕ} {a y x z : Progress} {old new : List Row} {s e : Seen} {r : Refusal} → Passed mark.OpenBlock names text a y s → Entered y s x → TookSheet names text x old z new → HereIs names text z.position.at e → (command_of e.lexeme ≡ Ok command.CloseBlock → ⊥) → r ≡ refused_at e → (b : Block) → Inner b → from names text a (blocking b) ≡ refused r.cause r.place
block-open {names} {text} {a} {y} {x} {z} {old} {new} {s} {e} {r} p inside took h other why b i =
    let E : List Tok → Type 0 = EndAhead in
    let last = ⊎_elim (λ close. absurd (other close)) (λ end. end) (sheet-ends (command_of e.lexeme) (subst E h.tokens took.ends)) in
    let same : refused_at e ≡ record { cause = Unexpected; place = e.place } = ap (λ l. refused_at (record { lexeme = l; place = e.place; end = e.end })) (end-taken last) in
    block_on p inside b ∙ took.moves [] b
    ∙ taking lexeme.End h (end-taken last) z.depth (cmd (pushed took.tree []) b)
    ∙ finished-inner e.place (pushed took.tree []) b i ∙ why-refused (why ∙ same)

-- commands

closes : (ts : List Tok) (x : Tok) (xs : List Tok) → ts ≡ x ∷ xs → EndsSheet (command_of x.lexeme) → EndAhead ts
closes ts x xs e h = let E : List Tok → Type 0 = EndAhead in subst E (sym e) h

pub closed-early : {names : List (List ℕ)} {text : List ℕ} (a : Progress) {s : Seen} {r : Refusal} → HereIs names text a.position.at s → command_of s.lexeme ≡ Ok command.CloseBlock → r ≡ refused_at s → (cs : List Command) (b : Block) → Wanting cs (ahead names text a.position.at) → from names text a (cmd cs b) ≡ refused r.cause r.place
closed-early {names} {text} a {s} h is why [] b w =
    taking lexeme.CloseBlock h (close-block-taken is) a.depth (cmd [] b) ∙ run-refused (ahead names text s.end) _ Unexpected s.place
    ∙ sym (ap (λ l. refused (refusal_of l) s.place) (close-block-taken is)) ∙ why-refused why
closed-early {names} {text} a {s} h is why (c ∷ cs) b w = absurd (w (closes _ _ _ (next lexeme.CloseBlock h (close-block-taken is)) tt))

pub ended-early : {names : List (List ℕ)} {text : List ℕ} (a : Progress) {s : Seen} {r : Refusal} → HereIs names text a.position.at s → command_of s.lexeme ≡ Ok command.End → r ≡ refused_at s → (cs : List Command) (b : Block) → Wanting cs (ahead names text a.position.at) → from names text a (cmd cs b) ≡ refused r.cause r.place
ended-early a {s} h is why [] b w = taking lexeme.End h (end-taken is) a.depth (cmd [] b) ∙ sym (ap (λ l. refused (refusal_of l) s.place) (end-taken is)) ∙ why-refused why
ended-early a h is why (c ∷ cs) b w = absurd (w (closes _ _ _ (next lexeme.End h (end-taken is)) tt))

pub no-command : {names : List (List ℕ)} {text : List ℕ} (a : Progress) {s : Seen} {r : Refusal} → HereIs names text a.position.at s → {w : Result CommandStart ReaderCause} → w ≡ command_of s.lexeme → Err r ≡ seen_as s w → (cs : List Command) (b : Block) → from names text a (cmd cs b) ≡ refused r.cause r.place
no-command a {s} {r} h {w} same e cs b =
    let why = seen-refused s w e in
    refusing h a.depth (cmd cs b) r.cause s.place (ap (λ k. commanded k s.place cs b) (sym same ∙ why.0)) ∙ ap (refused r.cause) (sym why.1)

-- sheets

pub ends-sheet : {x y : Result CommandStart ReaderCause} → x ≡ y → EndsSheet y → EndsSheet x
ends-sheet e ends = let E : Result CommandStart ReaderCause → Type 0 = EndsSheet in subst E (sym e) ends

pub one-command : {names : List (List ℕ)} {text : List ℕ} {a z : Progress} {old new : List Row} {s : Seen} → TookCommand names text a old z new → HereIs names text z.position.at s → EndsSheet (command_of s.lexeme) → TookSheet names text a old z new
one-command took h ends =
    record {
      tree = only took.tree;
      moves = took.moves;
      wrote = took.wrote;
      place = took.place;
      joints = tt;
      ends = closes _ _ _ h.tokens ends;
    }

pub more-commands : {names : List (List ℕ)} {text : List ℕ} {a y z w : Progress} {old mid late new : List Row} {s : Seen} → TookCommand names text a old y mid → HereIs names text y.position.at s → TookSheet names text y mid z late → (new, w) ≡ told late z kind.Joint (pos 0) a.count s.place → TookSheet names text a old w new
more-commands {names} {text} {a} {y} {z} {w} {old} {mid} {late} {new} {s} took h rest row =
    let P : List Row × Progress → Type 0 = λ p. TookSheet names text a old p.1 p.0 in
    subst P (sym row) (record {
      tree = joint s.place took.tree rest.tree;
      moves = λ cs b. took.moves cs b ∙ rest.moves (took.tree ∷ cs) b;
      wrote = two-told kind.Joint (pos 0) s.place _ _ refl took.wrote rest.wrote (command-long took.tree) (sheet-long rest.tree) (omega (arith, took.spare, rest.wrote.few));
      place = took.place;
      joints = (sym (rest.place ∙ ap place_ahead h.tokens), rest.joints);
      ends = rest.ends;
    })

pub rest-refused : {names : List (List ℕ)} {text : List ℕ} {a y : Progress} {old mid : List Row} {s : Seen} {r : Refusal} → TookCommand names text a old y mid → HereIs names text y.position.at s → (command_of s.lexeme ≡ Ok command.CloseBlock → ⊥) → (command_of s.lexeme ≡ Ok command.End → ⊥) → ((cs : List Command) (b : Block) → Wanting cs (ahead names text y.position.at) → from names text y (cmd cs b) ≡ refused r.cause r.place) → (cs : List Command) (b : Block) → Wanting cs (ahead names text a.position.at) → from names text a (cmd cs b) ≡ refused r.cause r.place
rest-refused {s = s} took h inside more refusal cs b w =
    let E : List Tok → Type 0 = EndAhead in
    took.moves cs b ∙ refusal (took.tree ∷ cs) b (λ e. ⊎_elim inside more (sheet-ends (command_of s.lexeme) (subst E h.tokens e)))
