-- One turn of each function that reads conditions: the machine goes from where the first part began to where the last
-- ends, and the rows are those of the tree.
use Rattle.std.proofs.Common.{◌≡◌, ℕ, suc, pred, ◌+◌, ◌-◌, ◌<◌, ◌≤◌, Bool, true, false, cond, List, [], ◌∷◌, length, ℤ, pos, Some, None, Ok, Err, Option, Result, sym, refl, ap, ◌∙◌, subst, sub-one, arith, w32, to_z, of_z}
use mir.Val.{bool_byte}
use Rattle.arith.specs.declared.comparison.Comparison.{Comparison}
use Rattle.arith.specs.declared.comparison.Comparison.TheVariants as comparison
use Rattle.arith.specs.Comparisons.{comparison_number}
use Rattle.scanner.specs.Tokens.{tokens_at}
use Rattle.scanner.specs.Looks.{clue_ahead}
use Rattle.tables.specs.declared.kind.Kind.TheVariants as kind
use Rattle.tables.specs.declared.row.Row.{Row}
use Rattle.tables.specs.Trees.{Sum, Condition, truth, compare, negate, connect, both, either}
use Rattle.tables.specs.Rows.{bit}
use Rattle.grammar.specs.declared.lexeme.Lexeme.{Lexeme}
use Rattle.grammar.specs.declared.lexeme.Lexeme.TheVariants as lexeme
use Rattle.grammar.specs.declared.choice.LiteralStart.TheVariants as literal
use Rattle.grammar.specs.declared.choice.Link.{Link}
use Rattle.grammar.specs.declared.choice.Mark.TheVariants as mark
use Rattle.grammar.specs.declared.choice.Link.TheVariants as link
use Rattle.grammar.specs.Choices.{comparison_of, literal_of, link_of, depth_after}
use Rattle.grammar.specs.Lexemes.{Tok, tok}
use Rattle.grammar.specs.Machine.{none, Pending, pending, joined, negated, Purpose, bracket, Use, left_of, right_of, want, lit, had, opening, refused, refuse, within, room, begun, linked, compared, shut, clue_in, run}
use Rattle.grammar.proofs.Lexing.{same-clue, next-lexeme, run-refused}
use Rattle.reader.specs.declared.seen.Seen.{Seen}
use Rattle.reader.specs.declared.seen.Refusal.{Refusal}
use Rattle.reader.specs.declared.progress.Progress.{Progress}
use Rattle.reader.specs.Ahead.{ahead, follow, HereIs, refused_at}
use Rattle.reader.specs.Progressing.{read_on, outside, told, told_leaf, Passed, Missed, from}
use Rattle.reader.specs.Summing.{TookSum, behind_sum}
use Rattle.reader.specs.Judging.{behind_literal, behind_conjunct, behind_condition, linked_on, closing, TookLiteral, TookConjunct, TookCondition, TookComparison, TookBracket, LiteralAnswer, BracketAnswer, ComparisonAnswer}
use Rattle.reader.proofs.Nexts.{further, next, taking, and-taken, or-taken, not_taken, truth-taken, literal-bracket-taken, comparison-taken, close-taken, open-taken}
use Rattle.reader.proofs.Entering.{Entered, Barred}
use Rattle.reader.proofs.Bracketing.{missing, room-left, no_room, between}
use Rattle.reader.proofs.Writing.{sum-long, condition-long, before, leaf-told, one_told, two-told}

-- a literal stands where it was just read
had-stands : (c : Condition) (ands ors : List Pending) (u : Purpose) (ts : List Tok) (d : ℕ) → run ts d (had c ands ors u) ≡ behind_literal c ands ors u ts d
had-stands c ands ors u [] d = refl
had-stands c ands ors u (x ∷ ts) d = refl

-- conjuncts

-- && goes on with the conjunct
pub and-on : {names : List (List ℕ)} {text : List ℕ} {at : ℕ} {s : Seen} → HereIs names text at s → link_of s.lexeme ≡ Some link.And → (d : ℕ) (c : Condition) (ands ors : List Pending) (u : Purpose) → behind_literal c ands ors u (ahead names text at) d ≡ run (ahead names text s.end) d (lit [] (pending s.place c ∷ ands) ors u)
and-on h is d c ands ors u = ap (λ ts. behind_literal c ands ors u ts d) (next lexeme.And h (and-taken is))

not-and : (k : Option Link) → (k ≡ Some link.And → ⊥) → (c : Condition) (ands ors : List Pending) (u : Purpose) (x : Tok) → linked k c ands ors u x ≡ linked_on k (joined both ands c) ors u x
not-and (Some link.And) other c ands ors u x = absurd (other refl)
not-and (Some link.Or) other c ands ors u x = refl
not-and None other c ands ors u x = refl

-- and any other token ends it
pub conjunct-ends : {names : List (List ℕ)} {text : List ℕ} {at : ℕ} {s : Seen} → HereIs names text at s → (link_of s.lexeme ≡ Some link.And → ⊥) → (d : ℕ) (c : Condition) (ands ors : List Pending) (u : Purpose) → behind_literal c ands ors u (ahead names text at) d ≡ behind_conjunct (joined both ands c) ors u (ahead names text at) d
conjunct-ends {names} {text} {at} {s} h other d c ands ors u =
    ap (λ ts. behind_literal c ands ors u ts d) h.tokens
    ∙ ap (λ q. run (follow s.lexeme (ahead names text s.end)) (depth_after s.lexeme d) q) (not-and (link_of s.lexeme) other c ands ors u (tok s.place s.lexeme))
    ∙ sym (ap (λ ts. behind_conjunct (joined both ands c) ors u ts d) h.tokens)

pub one-literal : {names : List (List ℕ)} {text : List ℕ} {a z : Progress} {old new : List Row} {s : Seen} → HereIs names text z.position.at s → (link_of s.lexeme ≡ Some link.And → ⊥) → TookLiteral names text a old z new → TookConjunct names text a old z new
one-literal {z = z} h other took =
    record {
      tree = took.tree;
      moves = λ ands ors u. took.moves [] ands ors u ∙ conjunct-ends h other z.depth took.tree ands ors u;
      wrote = took.wrote;
    }

pub two-literals : {names : List (List ℕ)} {text : List ℕ} {a y x z w : Progress} {old mid late new : List Row} {s : Seen} → HereIs names text y.position.at s → link_of s.lexeme ≡ Some link.And → TookLiteral names text a old y mid → x ≡ read_on y s → TookConjunct names text x mid z late → (new, w) ≡ told late z kind.And (pos 0) a.count s.place → TookConjunct names text a old w new
two-literals {names} {text} {a} {y} {x} {z} {w} {old} {mid} {late} {new} {s} h is took on more e =
    let N : Progress → Type 0 = λ x. TookConjunct names text x mid z late in
    let next : TookConjunct names text (read_on y s) mid z late = subst N on more in
    let P : List Row × Progress → Type 0 = λ p. TookConjunct names text a old p.1 p.0 in
    let lt : y.position.at < s.end = further lexeme.And h (and-taken is) tt in
    let pays : suc (z.count + a.position.at) ≤ z.position.at + a.count = omega (arith, took.wrote.few, next.wrote.few) in
    subst P (sym e) (record {
      tree = connect s.place both took.tree next.tree;
      moves = λ ands ors u. took.moves [] ands ors u ∙ and-on h is y.depth took.tree ands ors u ∙ next.moves (pending s.place took.tree ∷ ands) ors u;
      wrote = two-told kind.And (pos 0) s.place _ _ refl took.wrote (before y refl refl (omega arith) next.wrote) (condition-long took.tree) (condition-long next.tree) pays;
    })

-- conditions

-- || goes on with the condition
pub or-on : {names : List (List ℕ)} {text : List ℕ} {at : ℕ} {s : Seen} → HereIs names text at s → link_of s.lexeme ≡ Some link.Or → (d : ℕ) (c : Condition) (ors : List Pending) (u : Purpose) → behind_conjunct c ors u (ahead names text at) d ≡ run (ahead names text s.end) d (lit [] [] (pending s.place c ∷ ors) u)
or-on h is d c ors u = ap (λ ts. behind_conjunct c ors u ts d) (next lexeme.Or h (or-taken is))

not-or : (k : Option Link) (l : Lexeme) → link_of l ≡ k → (k ≡ Some link.Or → ⊥) → (p : ℕ) (c : Condition) (ors : List Pending) (u : Purpose) → linked_on k c ors u (tok p l) ≡ closing (joined either ors c) u (tok p l)
not-or (Some link.And) l e other p c ors u =
    let P : Lexeme → Type 0 = λ l. refuse (tok p l) ≡ closing (joined either ors c) u (tok p l) in
    subst P (sym (and-taken e)) refl
not-or (Some link.Or) l e other p c ors u = absurd (other refl)
not-or None l e other p c ors u = refl

pub condition-ends : {names : List (List ℕ)} {text : List ℕ} {at : ℕ} {s : Seen} → HereIs names text at s → (link_of s.lexeme ≡ Some link.Or → ⊥) → (d : ℕ) (c : Condition) (ors : List Pending) (u : Purpose) → behind_conjunct c ors u (ahead names text at) d ≡ behind_condition (joined either ors c) u (ahead names text at) d
condition-ends {names} {text} {at} {s} h other d c ors u =
    ap (λ ts. behind_conjunct c ors u ts d) h.tokens
    ∙ ap (λ q. run (follow s.lexeme (ahead names text s.end)) (depth_after s.lexeme d) q) (not-or (link_of s.lexeme) s.lexeme refl other s.place c ors u)
    ∙ sym (ap (λ ts. behind_condition (joined either ors c) u ts d) h.tokens)

pub one-conjunct : {names : List (List ℕ)} {text : List ℕ} {a z : Progress} {old new : List Row} {s : Seen} → HereIs names text z.position.at s → (link_of s.lexeme ≡ Some link.Or → ⊥) → TookConjunct names text a old z new → TookCondition names text a old z new
one-conjunct {z = z} h other took =
    record {
      tree = took.tree;
      moves = λ ors u. took.moves [] ors u ∙ condition-ends h other z.depth took.tree ors u;
      wrote = took.wrote;
    }

pub two-conjuncts : {names : List (List ℕ)} {text : List ℕ} {a y x z w : Progress} {old mid late new : List Row} {s : Seen} → HereIs names text y.position.at s → link_of s.lexeme ≡ Some link.Or → TookConjunct names text a old y mid → x ≡ read_on y s → TookCondition names text x mid z late → (new, w) ≡ told late z kind.Or (pos 0) a.count s.place → TookCondition names text a old w new
two-conjuncts {names} {text} {a} {y} {x} {z} {w} {old} {mid} {late} {new} {s} h is took on more e =
    let N : Progress → Type 0 = λ x. TookCondition names text x mid z late in
    let next : TookCondition names text (read_on y s) mid z late = subst N on more in
    let P : List Row × Progress → Type 0 = λ p. TookCondition names text a old p.1 p.0 in
    let lt : y.position.at < s.end = further lexeme.Or h (or-taken is) tt in
    let pays : suc (z.count + a.position.at) ≤ z.position.at + a.count = omega (arith, took.wrote.few, next.wrote.few) in
    subst P (sym e) (record {
      tree = connect s.place either took.tree next.tree;
      moves = λ ors u. took.moves [] ors u ∙ or-on h is y.depth took.tree ors u ∙ next.moves (pending s.place took.tree ∷ ors) u;
      wrote = two-told kind.Or (pos 0) s.place _ _ refl took.wrote (before y refl refl (omega arith) next.wrote) (condition-long took.tree) (condition-long next.tree) pays;
    })

-- comparisons

-- a comparison goes on with its right sum
pub compare-on : {names : List (List ℕ)} {text : List ℕ} {at : ℕ} {s : Seen} (k : Comparison) → HereIs names text at s → comparison_of s.lexeme ≡ Some k → (d : ℕ) (e : Sum) (nots : List ℕ) (ands ors : List Pending) (u : Purpose) → behind_sum (left_of nots ands ors u) e (ahead names text at) d ≡ run (ahead names text s.end) d (want none none (right_of s.place k e nots ands ors u))
compare-on k h is d e nots ands ors u = ap (λ ts. behind_sum (left_of nots ands ors u) e ts d) (next (lexeme.Compare k) h (comparison-taken is))

pub compare-refused : {names : List (List ℕ)} {text : List ℕ} {at : ℕ} {s : Seen} {r : Refusal} → HereIs names text at s → comparison_of s.lexeme ≡ None → r ≡ refused_at s → (d : ℕ) (e : Sum) (nots : List ℕ) (ands ors : List Pending) (u : Purpose) → behind_sum (left_of nots ands ors u) e (ahead names text at) d ≡ refused r.cause r.place
compare-refused {names} {text} {at} {s} {r} h is why d e nots ands ors u =
    let rest = follow s.lexeme (ahead names text s.end) in
    ap (λ ts. behind_sum (left_of nots ands ors u) e ts d) h.tokens
    ∙ ap (λ o. run rest (depth_after s.lexeme d) (compared o e nots ands ors u (tok s.place s.lexeme))) is
    ∙ run-refused rest _ _ _ ∙ sym (ap (λ (r : Refusal). refused r.cause r.place) why)

-- behind the right sum a literal stands
right-stands : (names : List (List ℕ)) (text : List ℕ) (at d p : ℕ) (k : Comparison) (l r : Sum) (nots : List ℕ) (ands ors : List Pending) (u : Purpose) → behind_sum (right_of p k l nots ands ors u) r (ahead names text at) d ≡ behind_literal (negated nots (compare p k l r)) ands ors u (ahead names text at) d
unfolding ahead
right-stands names text at d p k l r nots ands ors u =
    ap (λ ts. behind_sum (right_of p k l nots ands ors u) r ts d) (next-lexeme names text at)
    ∙ sym (ap (λ ts. behind_literal (negated nots (compare p k l r)) ands ors u ts d) (next-lexeme names text at))

pub two-sums : {names : List (List ℕ)} {text : List ℕ} {a y x z w : Progress} {old mid late new : List Row} {s : Seen} (k : Comparison) → HereIs names text y.position.at s → comparison_of s.lexeme ≡ Some k → TookSum names text a old y mid → x ≡ read_on y s → TookSum names text x mid z late → (new, w) ≡ told late z kind.Compare (pos (comparison_number k)) a.count s.place → TookComparison names text a old w new
two-sums {names} {text} {a} {y} {x} {z} {w} {old} {mid} {late} {new} {s} k h is took on more e =
    let N : Progress → Type 0 = λ x. TookSum names text x mid z late in
    let next : TookSum names text (read_on y s) mid z late = subst N on more in
    let P : List Row × Progress → Type 0 = λ p. TookComparison names text a old p.1 p.0 in
    let lt : y.position.at < s.end = further (lexeme.Compare k) h (comparison-taken is) tt in
    let pays : suc (z.count + a.position.at) ≤ z.position.at + a.count = omega (arith, took.wrote.few, next.wrote.few) in
    subst P (sym e) (record {
      tree = compare s.place k took.tree next.tree;
      moves = λ nots ands ors u.
          took.moves (left_of nots ands ors u) ∙ compare-on k h is y.depth took.tree nots ands ors u
          ∙ next.moves (right_of s.place k took.tree nots ands ors u)
          ∙ right-stands names text z.position.at z.depth s.place k took.tree next.tree nots ands ors u;
      wrote = two-told kind.Compare (pos (comparison_number k)) s.place _ _ refl took.wrote (before y refl refl (omega arith) next.wrote) (sum-long took.tree) (sum-long next.tree) pays;
    })

-- literals

pub truth-read : {names : List (List ℕ)} {text : List ℕ} {a z : Progress} {old new : List Row} {s : Seen} (b : Bool) (v : ℤ) → a.position.at ≤ length text → HereIs names text a.position.at s → literal_of s.lexeme ≡ literal.Truth b → v ≡ bit b → (new, z) ≡ told_leaf old a kind.Truth v s → TookLiteral names text a old z new
truth-read {names} {text} {a} {z} {old} {new} {s} b v inside h is value e =
    let P : List Row × Progress → Type 0 = λ p. TookLiteral names text a old p.1 p.0 in
    let lt : a.position.at < s.end = further (lexeme.Truth b) h (truth-taken is) tt in
    subst P (sym (e ∙ ap (λ n. told_leaf old a kind.Truth n s) value)) (record {
      tree = truth s.place b;
      moves = λ nots ands ors u.
          taking (lexeme.Truth b) h (truth-taken is) a.depth (lit nots ands ors u)
          ∙ had-stands (negated nots (truth s.place b)) ands ors u (ahead names text s.end) a.depth;
      wrote = leaf-told a kind.Truth (bit b) s refl lt (h.within inside);
    })

-- ! goes on with a literal
pub not_on : {names : List (List ℕ)} {text : List ℕ} {at : ℕ} {s : Seen} → HereIs names text at s → literal_of s.lexeme ≡ literal.Not → (d : ℕ) (nots : List ℕ) (ands ors : List Pending) (u : Purpose) → run (ahead names text at) d (lit nots ands ors u) ≡ run (ahead names text s.end) d (lit (s.place ∷ nots) ands ors u)
not_on h is d nots ands ors u = taking lexeme.Not h (not_taken is) d (lit nots ands ors u)

pub negation-read : {names : List (List ℕ)} {text : List ℕ} {a x z w : Progress} {old late new : List Row} {s : Seen} → HereIs names text a.position.at s → literal_of s.lexeme ≡ literal.Not → x ≡ read_on a s → TookLiteral names text x old z late → (new, w) ≡ told late z kind.Not (pos 0) a.count s.place → TookLiteral names text a old w new
negation-read {names} {text} {a} {x} {z} {w} {old} {late} {new} {s} h is on more e =
    let N : Progress → Type 0 = λ x. TookLiteral names text x old z late in
    let took : TookLiteral names text (read_on a s) old z late = subst N on more in
    let P : List Row × Progress → Type 0 = λ p. TookLiteral names text a old p.1 p.0 in
    let lt : a.position.at < s.end = further lexeme.Not h (not_taken is) tt in
    let pays : suc (z.count + a.position.at) ≤ z.position.at + a.count = omega (arith, took.wrote.few) in
    subst P (sym e) (record {
      tree = negate s.place took.tree;
      moves = λ nots ands ors u. not_on h is a.depth nots ands ors u ∙ took.moves (s.place ∷ nots) ands ors u;
      wrote = one_told kind.Not (pos 0) s.place _ refl (before a refl refl (omega arith) took.wrote) (condition-long took.tree) pays;
    })

-- what the look finds is what the machine sees
look : (names : List (List ℕ)) (text : List ℕ) (at : ℕ) {b : Bool} → b ≡ clue_ahead text (tokens_at text at) 0 → clue_in (ahead names text at) 0 ≡ b
unfolding ahead
look names text at e = sym (e ∙ same-clue names text (tokens_at text at) 0)

-- a bracket with a clue in it opens a condition
pub lit-opening : {names : List (List ℕ)} {text : List ℕ} {at : ℕ} {s : Seen} → HereIs names text at s → literal_of s.lexeme ≡ literal.Bracket → true ≡ clue_ahead text (tokens_at text s.end) 0 → (d : ℕ) (nots : List ℕ) (ands ors : List Pending) (u : Purpose) → run (ahead names text at) d (lit nots ands ors u) ≡ run (ahead names text at) d (opening (bracket nots ands ors u))
lit-opening {names} {text} {at} {s} h is clue d nots ands ors u =
    taking lexeme.Open h (literal-bracket-taken is) d (lit nots ands ors u)
    ∙ ap (λ b. run (ahead names text s.end) (suc d) (room d s.place (cond b (lit [] [] [] (bracket nots ands ors u)) (want none none (within none none (left_of nots ands ors u)))))) (look names text s.end clue)
    ∙ sym (taking lexeme.Open h (literal-bracket-taken is) d (opening (bracket nots ands ors u)))

-- without one a sum begins
pub lit-within : {names : List (List ℕ)} {text : List ℕ} {at : ℕ} {s : Seen} → HereIs names text at s → literal_of s.lexeme ≡ literal.Bracket → false ≡ clue_ahead text (tokens_at text s.end) 0 → (d : ℕ) (nots : List ℕ) (ands ors : List Pending) (u : Purpose) → run (ahead names text at) d (lit nots ands ors u) ≡ run (ahead names text at) d (want none none (left_of nots ands ors u))
lit-within {names} {text} {at} {s} h is clue d nots ands ors u =
    taking lexeme.Open h (literal-bracket-taken is) d (lit nots ands ors u)
    ∙ ap (λ b. run (ahead names text s.end) (suc d) (room d s.place (cond b (lit [] [] [] (bracket nots ands ors u)) (want none none (within none none (left_of nots ands ors u)))))) (look names text s.end clue)
    ∙ sym (taking lexeme.Open h (literal-bracket-taken is) d (want none none (left_of nots ands ors u)))

-- as it does at any other token
pub lit-sum : {names : List (List ℕ)} {text : List ℕ} {at : ℕ} {s : Seen} → HereIs names text at s → literal_of s.lexeme ≡ literal.Sum → (d : ℕ) (nots : List ℕ) (ands ors : List Pending) (u : Purpose) → run (ahead names text at) d (lit nots ands ors u) ≡ run (ahead names text at) d (want none none (left_of nots ands ors u))
lit-sum {names} {text} {at} {s} h is d nots ands ors u =
    let rest = follow s.lexeme (ahead names text s.end) in
    taking s.lexeme h refl d (lit nots ands ors u)
    ∙ ap (λ k. run rest (depth_after s.lexeme d) (begun k d (tok s.place s.lexeme) rest nots ands ors u)) is
    ∙ sym (taking s.lexeme h refl d (want none none (left_of nots ands ors u)))

pub bracket-literal : {names : List (List ℕ)} {text : List ℕ} {a z : Progress} {old new : List Row} {s : Seen} → HereIs names text a.position.at s → literal_of s.lexeme ≡ literal.Bracket → true ≡ clue_ahead text (tokens_at text s.end) 0 → TookBracket names text a old z new → TookLiteral names text a old z new
bracket-literal {names} {text} {a} {z} h is clue took =
    record {
      tree = took.tree;
      moves = λ nots ands ors u.
          lit-opening h is clue a.depth nots ands ors u ∙ took.moves (bracket nots ands ors u)
          ∙ had-stands (negated nots took.tree) ands ors u (ahead names text z.position.at) z.depth;
      wrote = took.wrote;
    }

-- a comparison where a literal does what a sum does
pub compared-literal : {names : List (List ℕ)} {text : List ℕ} {a z : Progress} {old new : List Row} → ((nots : List ℕ) (ands ors : List Pending) (u : Purpose) → from names text a (lit nots ands ors u) ≡ from names text a (want none none (left_of nots ands ors u))) → TookComparison names text a old z new → TookLiteral names text a old z new
compared-literal sum took = record { tree = took.tree; moves = λ nots ands ors u. sum nots ands ors u ∙ took.moves nots ands ors u; wrote = took.wrote }

-- conditions in brackets

-- the bracket behind `if`, `while` or where a literal is wanted opens a condition
pub opening_on : {names : List (List ℕ)} {text : List ℕ} {a y x : Progress} {s : Seen} → Passed mark.Open names text a y s → Entered y s x → (u : Purpose) → from names text a (opening u) ≡ from names text x (lit [] [] [] u)
opening_on {names} {text} {a} {y} {x} {s} p inside u =
    let R : Progress → Type 0 = λ y. Entered y s x in
    let e : Entered (read_on a s) s x = subst R p.on inside in
    taking lexeme.Open p.here (open-taken p.is) a.depth (opening u)
    ∙ room-left e (ahead names text s.end) (lit [] [] [] u)
    ∙ sym (ap (λ (x : Progress). from names text x (lit [] [] [] u)) e.on)

pub opening-missed : {names : List (List ℕ)} {text : List ℕ} {a : Progress} {r : Refusal} → Missed mark.Open names text a r → (u : Purpose) → from names text a (opening u) ≡ refused r.cause r.place
opening-missed {a = a} m u = taking m.seen.lexeme m.here refl a.depth (opening u) ∙ missing m _ _

pub opening-crowded : {names : List (List ℕ)} {text : List ℕ} {a y : Progress} {s : Seen} {r : Refusal} → Passed mark.Open names text a y s → Barred y s r → (u : Purpose) → from names text a (opening u) ≡ refused r.cause r.place
opening-crowded {names} {text} {a} {y} {s} {r} p many u =
    let R : Progress → Type 0 = λ y. Barred y s r in
    taking lexeme.Open p.here (open-taken p.is) a.depth (opening u)
    ∙ no_room (subst R p.on many) (ahead names text s.end) (suc a.depth) (lit [] [] [] u)

-- and its partner ends it
pub closing-missed : {names : List (List ℕ)} {text : List ℕ} {a : Progress} {r : Refusal} → Missed mark.Close names text a r → (c : Condition) (u : Purpose) → behind_condition c u (ahead names text a.position.at) a.depth ≡ refused r.cause r.place
closing-missed {a = a} m c u = ap (λ ts. behind_condition c u ts a.depth) m.here.tokens ∙ missing m _ _

pub bracket-read : {names : List (List ℕ)} {text : List ℕ} {a y x z w : Progress} {old new : List Row} {s t : Seen} → Passed mark.Open names text a y s → Entered y s x → TookCondition names text x old z new → Passed mark.Close names text z w t → TookBracket names text a old (outside w) new
bracket-read {names} {text} {a} {y} {x} {z} {w} {old} {new} {s} {t} p inside took q =
    let R : Progress → Type 0 = λ y. Entered y s x in
    let e : Entered (read_on a s) s x = subst R p.on inside in
    let lower : w.depth - 1 ≡ pred z.depth = ap (λ (w : Progress). w.depth - 1) q.on ∙ sub-one z.depth in
    let up : z.position.at ≤ w.position.at = rw q.on q.here.forward in
    let end : w.position.at ≤ length text = rw q.on (q.here.within took.wrote.within) in
    record {
      tree = took.tree;
      moves = λ u.
          opening_on p inside u ∙ took.moves [] u
          ∙ ap (λ ts. behind_condition took.tree u ts z.depth) (next lexeme.Close q.here (close-taken q.is))
          ∙ sym (ap (λ (w : Progress). run (ahead names text w.position.at) (pred z.depth) (shut took.tree u)) q.on)
          ∙ sym (ap (λ n. run (ahead names text w.position.at) n (shut took.tree u)) lower);
      wrote = between a _ (ap (λ (x : Progress). x.count) e.on) (ap (λ (x : Progress). x.depth) e.on) (rw e.on p.here.forward) took.wrote (ap (λ (w : Progress). w.count) q.on) lower up end;
    }

-- refusals of the parts

pub conjunct-refused : {names : List (List ℕ)} {text : List ℕ} {a y x : Progress} {old mid : List Row} {s : Seen} {r : Refusal} → HereIs names text y.position.at s → link_of s.lexeme ≡ Some link.And → TookLiteral names text a old y mid → x ≡ read_on y s → ((ands ors : List Pending) (u : Purpose) → from names text x (lit [] ands ors u) ≡ refused r.cause r.place) → (ands ors : List Pending) (u : Purpose) → from names text a (lit [] ands ors u) ≡ refused r.cause r.place
conjunct-refused {names} {text} {a} {y} {x} {old} {mid} {s} {r} h is took on refusal ands ors u =
    took.moves [] ands ors u ∙ and-on h is y.depth took.tree ands ors u
    ∙ sym (ap (λ (x : Progress). from names text x (lit [] (pending s.place took.tree ∷ ands) ors u)) on)
    ∙ refusal (pending s.place took.tree ∷ ands) ors u

pub condition-refused : {names : List (List ℕ)} {text : List ℕ} {a y x : Progress} {old mid : List Row} {s : Seen} {r : Refusal} → HereIs names text y.position.at s → link_of s.lexeme ≡ Some link.Or → TookConjunct names text a old y mid → x ≡ read_on y s → ((ors : List Pending) (u : Purpose) → from names text x (lit [] [] ors u) ≡ refused r.cause r.place) → (ors : List Pending) (u : Purpose) → from names text a (lit [] [] ors u) ≡ refused r.cause r.place
condition-refused {names} {text} {a} {y} {x} {old} {mid} {s} {r} h is took on refusal ors u =
    took.moves [] ors u ∙ or-on h is y.depth took.tree ors u
    ∙ sym (ap (λ (x : Progress). from names text x (lit [] [] (pending s.place took.tree ∷ ors) u)) on)
    ∙ refusal (pending s.place took.tree ∷ ors) u

pub negation-refused : {names : List (List ℕ)} {text : List ℕ} (a : Progress) {x : Progress} {s : Seen} {r : Refusal} → HereIs names text a.position.at s → literal_of s.lexeme ≡ literal.Not → x ≡ read_on a s → ((nots : List ℕ) (ands ors : List Pending) (u : Purpose) → from names text x (lit nots ands ors u) ≡ refused r.cause r.place) → (nots : List ℕ) (ands ors : List Pending) (u : Purpose) → from names text a (lit nots ands ors u) ≡ refused r.cause r.place
negation-refused {names} {text} a {x} {s} {r} h is on refusal nots ands ors u =
    not_on h is a.depth nots ands ors u
    ∙ sym (ap (λ (x : Progress). from names text x (lit (s.place ∷ nots) ands ors u)) on)
    ∙ refusal (s.place ∷ nots) ands ors u

pub no-comparison : {names : List (List ℕ)} {text : List ℕ} {a y : Progress} {old mid : List Row} {s : Seen} {r : Refusal} → TookSum names text a old y mid → HereIs names text y.position.at s → comparison_of s.lexeme ≡ None → r ≡ refused_at s → (nots : List ℕ) (ands ors : List Pending) (u : Purpose) → from names text a (want none none (left_of nots ands ors u)) ≡ refused r.cause r.place
no-comparison {y = y} took h is why nots ands ors u = took.moves (left_of nots ands ors u) ∙ compare-refused h is why y.depth took.tree nots ands ors u

pub right-refused : {names : List (List ℕ)} {text : List ℕ} {a y x : Progress} {old mid : List Row} {s : Seen} {r : Refusal} (k : Comparison) → TookSum names text a old y mid → HereIs names text y.position.at s → comparison_of s.lexeme ≡ Some k → x ≡ read_on y s → ((k : Use) → from names text x (want none none k) ≡ refused r.cause r.place) → (nots : List ℕ) (ands ors : List Pending) (u : Purpose) → from names text a (want none none (left_of nots ands ors u)) ≡ refused r.cause r.place
right-refused {names} {text} {a} {y} {x} {old} {mid} {s} {r} k took h is on refusal nots ands ors u =
    took.moves (left_of nots ands ors u) ∙ compare-on k h is y.depth took.tree nots ands ors u
    ∙ sym (ap (λ (x : Progress). from names text x (want none none (right_of s.place k took.tree nots ands ors u))) on)
    ∙ refusal (right_of s.place k took.tree nots ands ors u)

pub bracket-refused : {names : List (List ℕ)} {text : List ℕ} {a y x : Progress} {s : Seen} {r : Refusal} → Passed mark.Open names text a y s → Entered y s x → ((ors : List Pending) (u : Purpose) → from names text x (lit [] [] ors u) ≡ refused r.cause r.place) → (u : Purpose) → from names text a (opening u) ≡ refused r.cause r.place
bracket-refused p inside refusal u = opening_on p inside u ∙ refusal [] u

pub not-closed : {names : List (List ℕ)} {text : List ℕ} {a y x z : Progress} {old new : List Row} {s : Seen} {r : Refusal} → Passed mark.Open names text a y s → Entered y s x → TookCondition names text x old z new → Missed mark.Close names text z r → (u : Purpose) → from names text a (opening u) ≡ refused r.cause r.place
not-closed p inside took missed u = opening_on p inside u ∙ took.moves [] u ∙ closing-missed missed took.tree u

-- what a literal answers that is a bracket, or a comparison

pub bracket-answers : {names : List (List ℕ)} {text : List ℕ} (a z : Progress) (old new : List Row) {s : Seen} (r : Result (Unit {0}) Refusal) → HereIs names text a.position.at s → literal_of s.lexeme ≡ literal.Bracket → true ≡ clue_ahead text (tokens_at text s.end) 0 → BracketAnswer names text a old z new r → LiteralAnswer names text a old z new r
bracket-answers a z old new (Ok v) h is clue took = bracket-literal h is clue took
bracket-answers a z old new (Err r) h is clue refusal = λ nots ands ors u. lit-opening h is clue a.depth nots ands ors u ∙ refusal (bracket nots ands ors u)

compared-answers : (names : List (List ℕ)) (text : List ℕ) (a z : Progress) (old new : List Row) (r : Result (Unit {0}) Refusal) → ((nots : List ℕ) (ands ors : List Pending) (u : Purpose) → from names text a (lit nots ands ors u) ≡ from names text a (want none none (left_of nots ands ors u))) → ComparisonAnswer names text a old z new r → LiteralAnswer names text a old z new r
compared-answers names text a z old new (Ok v) sum took = compared-literal sum took
compared-answers names text a z old new (Err r) sum refusal = λ nots ands ors u. sum nots ands ors u ∙ refusal nots ands ors u

pub within-answers : {names : List (List ℕ)} {text : List ℕ} (a z : Progress) (old new : List Row) {s : Seen} (r : Result (Unit {0}) Refusal) → HereIs names text a.position.at s → literal_of s.lexeme ≡ literal.Bracket → false ≡ clue_ahead text (tokens_at text s.end) 0 → ComparisonAnswer names text a old z new r → LiteralAnswer names text a old z new r
within-answers {names} {text} a z old new r h is clue answer = compared-answers names text a z old new r (lit-within h is clue a.depth) answer

pub sum-answers : {names : List (List ℕ)} {text : List ℕ} (a z : Progress) (old new : List Row) {s : Seen} (r : Result (Unit {0}) Refusal) → HereIs names text a.position.at s → literal_of s.lexeme ≡ literal.Sum → ComparisonAnswer names text a old z new r → LiteralAnswer names text a old z new r
sum-answers {names} {text} a z old new r h is answer = compared-answers names text a z old new r (lit-sum h is a.depth) answer

-- the values of rows, through the bits of the code

small-back : (k : Comparison) → to_z w32 (of_z w32 (pos (comparison_number k))) ≡ pos (comparison_number k)
small-back comparison.Less = refl
small-back comparison.LessOrEqual = refl
small-back comparison.Greater = refl
small-back comparison.GreaterOrEqual = refl
small-back comparison.Equal = refl
small-back comparison.NotEqual = refl

pub number-back : (k : Comparison) {n : ℕ} {v : ℤ} → n ≡ comparison_number k → v ≡ pos n → to_z w32 (of_z w32 v) ≡ pos (comparison_number k)
number-back k e f = ap (λ v. to_z w32 (of_z w32 v)) (f ∙ ap pos e) ∙ small-back k

pub bit-back : (b : Bool) {v : ℤ} → v ≡ pos (bool_byte b) → to_z w32 (of_z w32 v) ≡ bit b
bit-back true e = ap (λ v. to_z w32 (of_z w32 v)) e
bit-back false e = ap (λ v. to_z w32 (of_z w32 v)) e
