-- One turn of each of the functions that read sums.
use Rattle.std.proofs.Common.{◌≡◌, ℕ, suc, pred, ◌+◌, ◌-◌, ◌<◌, ◌≤◌, List, length, ℤ, pos, Some, None, Ok, Err, Option, Result, sym, refl, ap, ◌∙◌, subst, arith, w32, to_z}
use Rattle.std.proofs.lemmas.Int.{to_z_pos}
use Rattle.faults.specs.declared.causes.ReaderCause.{ReaderCause}
use Rattle.faults.specs.declared.causes.ReaderCause.TheVariants.{TooManyOpen}
use Rattle.arith.specs.declared.operator.Operator.{Operator}
use Rattle.tables.specs.declared.kind.Kind.{Kind}
use Rattle.tables.specs.declared.kind.Kind.TheVariants as kind
use Rattle.tables.specs.declared.row.Row.{Row}
use Rattle.tables.specs.Trees.{Sum, number, name, work}
use Rattle.tables.specs.Rows.{operator_kind, sum_size, sum_rows}
use Rattle.grammar.specs.declared.lexeme.Lexeme.{Lexeme}
use Rattle.grammar.specs.declared.lexeme.Lexeme.TheVariants as lexeme
use Rattle.grammar.specs.declared.choice.Operand.{Operand}
use Rattle.grammar.specs.declared.choice.Operand.TheVariants as operand
use Rattle.grammar.specs.declared.choice.Join.{Join}
use Rattle.grammar.specs.declared.choice.Join.TheVariants as join
use Rattle.grammar.specs.declared.choice.Mark.TheVariants as mark
use Rattle.grammar.specs.Choices.{operand_of, join_of, depth_after}
use Rattle.grammar.specs.Lexemes.{Tok, tok}
use Rattle.grammar.specs.Machine.{Left, none, left, onto, Use, within, want, have, refused, wanted, continued, ended, run}
use Rattle.reader.specs.declared.seen.Seen.{Seen}
use Rattle.reader.specs.declared.seen.Refusal.{Refusal}
use Rattle.reader.specs.declared.progress.Progress.{Progress}
use Rattle.reader.specs.Ahead.{ahead, follow, HereIs, seen_as}
use Rattle.reader.specs.Progressing.{told, told_leaf, read_on, outside, Passed, Missed, Wrote, from}
use Rattle.reader.specs.Summing.{behind_sum, NoFactor, NoProd, SumSoFar, TookSum, TookProd, TookFactor}
use Rattle.reader.proofs.Bracketing.{missing}
use Rattle.reader.proofs.Entering.{Entered, Barred}
use Rattle.reader.proofs.Nexts.{number-taken, name-taken, bracket-taken, additive-taken, multiplicative-taken, close-taken, further, taking, refusing, seen-refused}
use Rattle.reader.proofs.Writing.{Further, gone, sum-long, before, within-told, leaf-told, two-told}

-- a row for two sums, the sign's byte pays for it
worked : {text : List ℕ} {a y y' z z' : Progress} {old mid late new : List Row} (s : Seen) (o : Operator) {c : Kind} {first : ℕ} (l r : Sum) → Wrote text a old y mid (sum_rows l) → Wrote text y' mid z late (sum_rows r) → y' ≡ read_on y s → y.position.at < s.end → c ≡ operator_kind o → first ≡ a.count → (new, z') ≡ told late z c (pos 0) first s.place → Wrote text a old z' new (sum_rows (work s.place o l r))
worked {text} {a} {y} {y'} {z} {z'} {old} {mid} {late} {new} s o {c} {first} l r v w on lt ec ef e =
    let past : Further y y' s = gone y s on in
    let le : y.position.at ≤ y'.position.at = omega (arith, past.at) in
    let spare : suc (z.count + a.position.at) ≤ z.position.at + a.count = omega (arith, v.few, w.few, past.at, past.count) in
    two-told (operator_kind o) (pos 0) s.place (sum_size l) (sum_size r) (e ∙ ap (λ k. told late z k (pos 0) first s.place) ec ∙ ap (λ n. told late z (operator_kind o) (pos 0) n s.place) ef) v (before y past.count past.depth le w) (sum-long l) (sum-long r) spare

nothing-joins : (j : Option Join) → NoFactor j → ((o : Operator) → j ≡ Some (join.Additive o) → ⊥) → j ≡ None
nothing-joins (Some (join.Additive o)) f n = absurd (n o refl)
nothing-joins (Some (join.Multiplicative o)) f n = absurd f
nothing-joins None f n = refl

module _ {names : List (List ℕ)} {text : List ℕ} where
  -- a factor of one token

  pub number_read : {a z : Progress} {old new : List Row} {s : Seen} {v : ℤ} → HereIs names text a.position.at s → operand_of s.lexeme ≡ Ok (operand.Number v) → a.position.at ≤ length text → (u : ℤ) → u ≡ v → (new, z) ≡ told_leaf old a kind.Number u s → TookFactor names text a old z new
  number_read {a} {z} {old} {new} {s} {v} h e in-text u is told_is =
      let P : List Row × Progress → Type 0 = λ p. TookFactor names text a old p.1 p.0 in
      let l : s.lexeme ≡ lexeme.Number v = number-taken e in
      subst P (sym (told_is ∙ ap (λ w. told_leaf old a kind.Number w s) is)) (record {
        tree = number s.place v;
        moves = λ t m k. taking (lexeme.Number v) h l a.depth (want t m k);
        wrote = leaf-told a kind.Number v s refl (further (lexeme.Number v) h l tt) (h.within in-text);
      })

  pub name-read : {a z : Progress} {old new : List Row} {s : Seen} {x : ℕ} → HereIs names text a.position.at s → operand_of s.lexeme ≡ Ok (operand.Name x) → a.position.at ≤ length text → length names ≤ 64 → (new, z) ≡ told_leaf old a kind.Name (to_z w32 x) s → TookFactor names text a old z new
  name-read {a} {z} {old} {new} {s} {x} h e in-text few told_is =
      let P : List Row × Progress → Type 0 = λ p. TookFactor names text a old p.1 p.0 in
      let l : s.lexeme ≡ lexeme.Name x = name-taken e in
      let small : to_z w32 x ≡ pos x = to_z_pos w32 x (omega (arith, h.named x l)) in
      subst P (sym (told_is ∙ ap (λ w. told_leaf old a kind.Name w s) small)) (record {
        tree = name s.place x;
        moves = λ t m k. taking (lexeme.Name x) h l a.depth (want t m k);
        wrote = leaf-told a kind.Name (pos x) s refl (further (lexeme.Name x) h l tt) (h.within in-text);
      })

  pub no-factor : (a : Progress) {s : Seen} {r : Refusal} → HereIs names text a.position.at s → {w : Result Operand ReaderCause} → w ≡ operand_of s.lexeme → Err r ≡ seen_as s w → (t m : Left) (k : Use) → from names text a (want t m k) ≡ refused r.cause r.place
  no-factor a {s} {r} h {w} same e t m k =
      let why = seen-refused s w e in
      refusing h a.depth (want t m k) r.cause s.place (ap (λ o. wanted a.depth s.place o t m k) (sym same ∙ why.0)) ∙ ap (refused r.cause) (sym why.1)

  -- a sum in brackets

  pub bracket-barred : {a : Progress} {s : Seen} {r : Refusal} → HereIs names text a.position.at s → operand_of s.lexeme ≡ Ok operand.Bracket → Barred a s r → (t m : Left) (k : Use) → from names text a (want t m k) ≡ refused r.cause r.place
  bracket-barred {a} {s} {r} h e b t m k =
      refusing h a.depth (want t m k) TooManyOpen s.place (ap (λ o. wanted a.depth s.place o t m k) e ∙ b.no_room s.place (want none none (within t m k)))
      ∙ ap (λ c. refused c s.place) (sym b.cause) ∙ ap (refused r.cause) (sym b.place)

  bracket-entered : {a y : Progress} {s : Seen} → HereIs names text a.position.at s → operand_of s.lexeme ≡ Ok operand.Bracket → Entered a s y → (t m : Left) (k : Use) → from names text a (want t m k) ≡ from names text y (want none none (within t m k))
  bracket-entered {a} {y} {s} h e i t m k =
      taking lexeme.Open h (bracket-taken e) a.depth (want t m k)
      ∙ ap (λ q. run (ahead names text s.end) (suc a.depth) q) (i.room_for s.place (want none none (within t m k)))
      ∙ ap (λ (p : Progress). from names text p (want none none (within t m k))) (sym i.on)

  pub bracket-refused : {a y : Progress} {s : Seen} {c : ReaderCause} {p : ℕ} → HereIs names text a.position.at s → operand_of s.lexeme ≡ Ok operand.Bracket → Entered a s y → ((k : Use) → from names text y (want none none k) ≡ refused c p) → (t m : Left) (k : Use) → from names text a (want t m k) ≡ refused c p
  bracket-refused h e i stops t m k = bracket-entered h e i t m k ∙ stops (within t m k)

  -- the next token behind a whole sum
  pub behind_sum_lem : {at : ℕ} {s : Seen} (l : Lexeme) → HereIs names text at s → s.lexeme ≡ l → (k : Use) (e : Sum) (d : ℕ) → behind_sum k e (ahead names text at) d ≡ run (follow l (ahead names text s.end)) (depth_after l d) (ended k e (tok s.place l))
  behind_sum_lem {at} {s} l h is k e d =
      ap (λ ts. behind_sum k e ts d) h.tokens ∙ ap (λ x. run (follow x (ahead names text s.end)) (depth_after x d) (ended k e (tok s.place x))) is

  pub bracket-unclosed : {a y z : Progress} {old new : List Row} {s : Seen} {r : Refusal} → HereIs names text a.position.at s → operand_of s.lexeme ≡ Ok operand.Bracket → Entered a s y → TookSum names text y old z new → Missed mark.Close names text z r → (t m : Left) (k : Use) → from names text a (want t m k) ≡ refused r.cause r.place
  bracket-unclosed {z = z} h e i took m t f k =
      bracket-entered h e i t f k ∙ took.moves (within t f k)
      ∙ behind_sum_lem m.seen.lexeme m.here refl (within t f k) took.tree z.depth ∙ missing m _ _

  pub bracket-read : {a y z w : Progress} {old new : List Row} {s u : Seen} (f : Progress) → HereIs names text a.position.at s → operand_of s.lexeme ≡ Ok operand.Bracket → Entered a s y → TookSum names text y old z new → Passed mark.Close names text z w u → f ≡ outside w → TookFactor names text a old f new
  bracket-read {a} {y} {z} {w} {old} {new} {s} {u} f h e i took pass on =
      let fc : f.count ≡ w.count = ap (λ (p : Progress). p.count) on in
      let fd : f.depth ≡ w.depth - 1 = ap (λ (p : Progress). p.depth) on in
      let yd : y.depth ≡ suc a.depth = ap (λ (p : Progress). p.depth) i.on in
      let yc : y.count ≡ a.count = ap (λ (p : Progress). p.count) i.on in
      let ya : y.position.at ≡ s.end = ap (λ (p : Progress). p.position.at) i.on in
      let wd : w.depth ≡ z.depth = ap (λ (p : Progress). p.depth) pass.on in
      let wc : w.count ≡ z.count = ap (λ (p : Progress). p.count) pass.on in
      let fa : f.position.at ≡ u.end = ap (λ (p : Progress). p.position.at) on ∙ ap (λ (p : Progress). p.position.at) pass.on in
      let zd : z.depth ≡ suc a.depth = took.wrote.depth ∙ yd in
      let d : f.depth ≡ a.depth = omega arith in
      let lt : a.position.at < s.end = further lexeme.Open h (bracket-taken e) tt in
      let le : a.position.at ≤ y.position.at = omega arith in
      let ge : z.position.at ≤ f.position.at = omega (arith, pass.here.forward) in
      let near : f.position.at ≤ length text = omega (arith, pass.here.within took.wrote.within) in
      record {
        tree = took.tree;
        moves = λ t m k.
            bracket-entered h e i t m k ∙ took.moves (within t m k)
            ∙ behind_sum_lem lexeme.Close pass.here (close-taken pass.is) (within t m k) took.tree z.depth
            ∙ ap (λ n. run (ahead names text u.end) (pred n) (have t (onto m took.tree) k)) zd
            ∙ ap (λ n. run (ahead names text n) a.depth (have t (onto m took.tree) k)) (sym fa)
            ∙ ap (λ n. run (ahead names text f.position.at) n (have t (onto m took.tree) k)) (sym d);
        wrote = within-told a f yc le (fc ∙ wc) d ge near took.wrote;
      }

  -- factors joined to a prod

  pub prod-first : {a z : Progress} {old new : List Row} → TookFactor names text a old z new → TookProd names text a old z new
  prod-first took = record { tree = took.tree; moves = λ t k. took.moves t none k; wrote = took.wrote }

  prod-on : {a y y' : Progress} {old mid : List Row} {s : Seen} {o : Operator} → (took : TookProd names text a old y mid) → HereIs names text y.position.at s → join_of s.lexeme ≡ Some (join.Multiplicative o) → y' ≡ read_on y s → (t : Left) (k : Use) → from names text a (want t none k) ≡ from names text y' (want t (left s.place o took.tree) k)
  prod-on {a} {y} {y'} {old} {mid} {s} {o} took h e on t k =
      took.moves t k ∙ taking (lexeme.Multiplicative o) h (multiplicative-taken e) y.depth (have t took.tree k)
      ∙ ap (λ (p : Progress). from names text p (want t (left s.place o took.tree) k)) (sym on)

  pub prod-refused : {a y y' : Progress} {old mid : List Row} {s : Seen} {o : Operator} {c : ReaderCause} {p : ℕ} → TookProd names text a old y mid → HereIs names text y.position.at s → join_of s.lexeme ≡ Some (join.Multiplicative o) → y' ≡ read_on y s → ((t m : Left) (k : Use) → from names text y' (want t m k) ≡ refused c p) → (t : Left) (k : Use) → from names text a (want t none k) ≡ refused c p
  prod-refused took h e on stops t k = prod-on took h e on t k ∙ stops t _ k

  pub prod-turn : {a y y' z z' : Progress} {old mid late new : List Row} {s : Seen} {o : Operator} {c : Kind} {first : ℕ} → TookProd names text a old y mid → HereIs names text y.position.at s → join_of s.lexeme ≡ Some (join.Multiplicative o) → y' ≡ read_on y s → TookFactor names text y' mid z late → c ≡ operator_kind o → first ≡ a.count → (new, z') ≡ told late z c (pos 0) first s.place → TookProd names text a old z' new
  prod-turn {a} {y} {y'} {z} {z'} {old} {mid} {late} {new} {s} {o} {c} {first} took h e on next ec ef told_is =
      record {
        tree = work s.place o took.tree next.tree;
        moves = λ t k.
            prod-on took h e on t k ∙ next.moves t (left s.place o took.tree) k
            ∙ ap (λ (p : List Row × Progress). run (ahead names text p.1.position.at) p.1.depth (have t (work s.place o took.tree next.tree) k)) (sym told_is);
        wrote = worked s o took.tree next.tree took.wrote next.wrote on (further (lexeme.Multiplicative o) h (multiplicative-taken e) tt) ec ef told_is;
      }

  -- prods joined to a sum

  pub sum_first : {a z : Progress} {old new : List Row} → TookProd names text a old z new → NoProd (ahead names text z.position.at) → SumSoFar names text a old z new
  sum_first took end = record { before = none; last = took.tree; moves = λ k. took.moves none k; wrote = took.wrote; no-prod = end }

  sum-on : {a y y' : Progress} {old mid : List Row} {s : Seen} {o : Operator} → (took : SumSoFar names text a old y mid) → HereIs names text y.position.at s → join_of s.lexeme ≡ Some (join.Additive o) → y' ≡ read_on y s → (k : Use) → from names text a (want none none k) ≡ from names text y' (want (left s.place o (onto took.before took.last)) none k)
  sum-on {a} {y} {y'} {old} {mid} {s} {o} took h e on k =
      took.moves k ∙ taking (lexeme.Additive o) h (additive-taken e) y.depth (have took.before took.last k)
      ∙ ap (λ (p : Progress). from names text p (want (left s.place o (onto took.before took.last)) none k)) (sym on)

  pub sum-refused : {a y y' : Progress} {old mid : List Row} {s : Seen} {o : Operator} {c : ReaderCause} {p : ℕ} → SumSoFar names text a old y mid → HereIs names text y.position.at s → join_of s.lexeme ≡ Some (join.Additive o) → y' ≡ read_on y s → ((t : Left) (k : Use) → from names text y' (want t none k) ≡ refused c p) → (k : Use) → from names text a (want none none k) ≡ refused c p
  sum-refused took h e on stops k = sum-on took h e on k ∙ stops _ k

  pub sum-turn : {a y y' z z' : Progress} {old mid late new : List Row} {s : Seen} {o : Operator} {c : Kind} {first : ℕ} → SumSoFar names text a old y mid → HereIs names text y.position.at s → join_of s.lexeme ≡ Some (join.Additive o) → y' ≡ read_on y s → TookProd names text y' mid z late → NoProd (ahead names text z.position.at) → c ≡ operator_kind o → first ≡ a.count → (new, z') ≡ told late z c (pos 0) first s.place → SumSoFar names text a old z' new
  sum-turn {a} {y} {y'} {z} {z'} {old} {mid} {late} {new} {s} {o} {c} {first} took h e on next end ec ef told_is =
      let P : List Row × Progress → Type 0 = λ p. NoProd (ahead names text p.1.position.at) in
      record {
        before = left s.place o (onto took.before took.last);
        last = next.tree;
        moves = λ k.
            sum-on took h e on k ∙ next.moves (left s.place o (onto took.before took.last)) k
            ∙ ap (λ (p : List Row × Progress). run (ahead names text p.1.position.at) p.1.depth (have (left s.place o (onto took.before took.last)) next.tree k)) (sym told_is);
        wrote = worked s o (onto took.before took.last) next.tree took.wrote next.wrote on (further (lexeme.Additive o) h (additive-taken e) tt) ec ef told_is;
        no-prod = subst P (sym told_is) end;
      }

  pub sum-read : {a z : Progress} {old new : List Row} {s : Seen} → SumSoFar names text a old z new → HereIs names text z.position.at s → ((o : Operator) → join_of s.lexeme ≡ Some (join.Additive o) → ⊥) → TookSum names text a old z new
  sum-read {a} {z} {old} {new} {s} took h other =
      let P : List Tok → Type 0 = NoProd in
      let j : join_of s.lexeme ≡ None = nothing-joins (join_of s.lexeme) (subst P h.tokens took.no-prod) other in
      let rest : List Tok = follow s.lexeme (ahead names text s.end) in
      record {
        tree = onto took.before took.last;
        moves = λ k.
            took.moves k ∙ taking s.lexeme h refl z.depth (have took.before took.last k)
            ∙ ap (λ c. run rest (depth_after s.lexeme z.depth) (continued c took.before took.last k (tok s.place s.lexeme))) j
            ∙ sym (behind_sum_lem s.lexeme h refl k (onto took.before took.last) z.depth);
        wrote = took.wrote;
      }
