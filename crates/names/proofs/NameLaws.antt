-- Why the lists that are accepted are the lists of names: a line has no complaint exactly if the names with it are
-- fine, and so on to the last line.
use Rattle.std.proofs.Common.{◌≡◌, ℕ, zero, suc, ◌+◌, ◌-◌, ◌<◌, ◌≤◌, Bool, true, false, cond, ltb, leb, List, [], ◌∷◌, ◌++◌, length, get_or, IfSome, Some, None, Option, sym, refl, ap, ◌∙◌, subst, inl, inr, arith, MatchOption, Result}
use Rattle.std.proofs.ByRecursion.{All-push, All-weaker}
use Rattle.std.proofs.lemmas.Slice.Eq.{bytes_eq-Decides}
use Rattle.std.proofs.lemmas.List.{append-nil, append_assoc, length-append, length_push, get_or_append_left, get_or_push}
use Rattle.std.proofs.lemmas.Bool.{leb-false, lt-leb, ltb-false, le-ltb, cases_lt, false≢true, both_ways, and_parts}
use Rattle.std.specs.List.{AllByRecursion}
use Rattle.std.specs.Str.{bytes_eq}
use Rattle.scanner.specs.Words.{is_word, all_go_on, goes_on, begins_word}
use Rattle.faults.specs.declared.fault.Fault.{Fault}
use Rattle.names.specs.declared.bad_line.BadLine.{BadLine}
use Rattle.names.specs.declared.bad_line.Complaint.{Complaint}
use Rattle.names.specs.declared.bad_line.Complaint.TheVariants.{TooMany, TooLong, Reserved}
use Rattle.names.specs.Lines.{lines_of, rest_of, position, position_from}
use Rattle.names.specs.Names.{Name, Fine, Lists, Accepts, Breaks, FirstBad, Finds, is_reserved, written}
use Rattle.names.specs.Complaints.{complaint_of, repeated, shape_complaint, first_bad, bad_or, bad_line_of, or_fault, list_read}
use Rattle.names.proofs.LineParts.{Plain, parts, lines-plain, rest_plain, one_line, lines-written, rest-written}

some-none : {X : Type 0} {x : X} → Some x ≡ None → ⊥
some-none e = let z : ◌≡◌ {A = ℕ} 0 1 = cc in omega arith

-- Where a word stands.

abbrev Stands : ℕ → List ℕ → List (List ℕ) → Option ℕ → Type 0
Stands n w ls r =
    MatchOption r ((k : ℕ) → k < length ls → get_or ls k [] ≡ w → ⊥) (λ p. (n ≤ p) × (p - n < length ls) × (get_or ls (p - n) [] ≡ w))

nowhere-more : (w l : List ℕ) (ls : List (List ℕ)) → (l ≡ w → ⊥) → ((k : ℕ) → k < length ls → get_or ls k [] ≡ w → ⊥) → (k : ℕ) → k < length (l ∷ ls) → get_or (l ∷ ls) k [] ≡ w → ⊥
nowhere-more w l ls ne h zero lt e = ne e
nowhere-more w l ls ne h (suc k) lt e = h k (omega arith) e

stands-more : (n : ℕ) (w l : List ℕ) (ls : List (List ℕ)) (r : Option ℕ) → (l ≡ w → ⊥) → Stands (suc n) w ls r → Stands n w (l ∷ ls) r
stands-more n w l ls None ne h = nowhere-more w l ls ne h
stands-more n w l ls (Some p) ne (a, b, c) =
    let k : p - n ≡ suc (p - suc n) = omega arith in
    (omega arith, omega arith, rw k c)

stands : (n : ℕ) (w : List ℕ) (ls : List (List ℕ)) → Stands n w ls (position_from n w ls)
stands n w [] = λ k lt e. omega arith
stands n w (l ∷ ls) =
    elim (bytes_eq l w) as (λ (t : Bool). bytes_eq l w ≡ t → Stands n w (l ∷ ls) (cond t (Some n) (position_from (suc n) w ls))) [
      | true ↦ λ e. let k : n - n ≡ 0 = omega arith in (omega arith, omega arith, rw k ((bytes_eq-Decides l w).0 e))
      | false ↦ λ e. stands-more n w l ls (position_from (suc n) w ls) (λ q. both_ways (bytes_eq l w) e ((bytes_eq-Decides l w).1 q)) (stands (suc n) w ls)
    ]
    refl

from_start : (w : List ℕ) (ls : List (List ℕ)) (r : Option ℕ) → Stands 0 w ls r → Finds w ls r
from_start w ls None h = h
from_start w ls (Some p) (a, b, c) = let k : p - 0 ≡ p = omega arith in (omega arith, rw k at c)

pub finds : (w : List ℕ) (ls : List (List ℕ)) → Finds w ls (position w ls)
finds w ls = from_start w ls (position w ls) (stands 0 w ls)

nowhere : (w : List ℕ) (ls : List (List ℕ)) → position w ls ≡ None → (k : ℕ) → k < length ls → get_or ls k [] ≡ w → ⊥
nowhere w ls e = subst (λ (r : Option ℕ). Finds w ls r) e (finds w ls)

-- it is nowhere, or somewhere
found_at : (w : List ℕ) (ls : List (List ℕ)) (r : Option ℕ) → Finds w ls r → ((p : ℕ) → p < length ls → get_or ls p [] ≡ w → ⊥) → r ≡ None
found_at w ls None f h = refl
found_at w ls (Some p) f h = absurd (h p f.0 f.1)

-- A name has no byte 10.

goes-plain : (b : ℕ) → goes_on b ≡ true → b ≡ 10 → ⊥
goes-plain b g e = false≢true (rw e at g)

begins-plain : (b : ℕ) → begins_word b ≡ true → b ≡ 10 → ⊥
begins-plain b g e = false≢true (rw e at g)

all_plain : (bs : List ℕ) → all_go_on bs ≡ true → Plain bs
all_plain [] e = tt
all_plain (b ∷ bs) e = let p = and_parts (goes_on b) (all_go_on bs) e in (goes-plain b p.0, all_plain bs p.1)

word-plain : (w : List ℕ) → is_word w ≡ true → Plain w
word-plain [] e = tt
word-plain (b ∷ bs) e = let p = and_parts (begins_word b) (all_go_on bs) e in (begins-plain b p.0, all_plain bs p.1)

names-plain : (ws : List (List ℕ)) → AllByRecursion Name ws → AllByRecursion Plain ws
names-plain ws h = All-weaker Name Plain (λ w n. word-plain w n.word) ws h

-- A line has no complaint exactly if the names with it are fine.

cleared : (t u v x : Bool) (c : Complaint) (o : Option ℕ) → cond t (Some TooMany) (cond u (cond v (Some TooLong) (cond x (Some Reserved) (repeated o))) (Some c)) ≡ None → (t ≡ false) × (u ≡ true) × (v ≡ false) × (x ≡ false) × (o ≡ None)
cleared true u v x c o e = absurd (some-none e)
cleared false false v x c o e = absurd (some-none e)
cleared false true true x c o e = absurd (some-none e)
cleared false true false true c o e = absurd (some-none e)
cleared false true false false c None e = (refl, refl, refl, refl, refl)
cleared false true false false c (Some p) e = absurd (some-none e)

module _ (seen : List (List ℕ)) (l : List ℕ) where
  abbrev Clear : Type 0
  Clear = complaint_of (length seen) seen l ≡ None

  fine_more : Fine seen → Clear → Fine (seen ++ l ∷ [])
  fine_more f e =
      let (t, u, v, x, o) = cleared (leb 64 (length seen)) (is_word l) (ltb 16 (length l)) (is_reserved l) (shape_complaint l) (position l seen) e in
      record {
        few = omega (arith, length_push seen l, leb-false 64 (length seen) t);
        named = All-push Name seen l f.named (record { word = u; short = ltb-false 16 (length l) v; free = x });
        once = λ i j lt in' same.
            elim (cases_lt j (length seen)) [
              | inl k ↦ f.once i j lt k (sym (get_or_append_left seen (l ∷ []) [] i (omega arith)) ∙ same ∙ get_or_append_left seen (l ∷ []) [] j k)
              | inr k ↦
                  let h = length_push seen l in
                  let at : length seen ≡ j = omega arith in
                  nowhere l seen o i (omega arith) (sym (get_or_append_left seen (l ∷ []) [] i (omega arith)) ∙ same ∙ get_or_push seen l [] j at)
            ];
      }

pub front-all : {X : Type 0} (P : X → Type 0) (xs ys : List X) → AllByRecursion P (xs ++ ys) → AllByRecursion P xs × AllByRecursion P ys
front-all P [] ys h = (tt, h)
front-all P (x ∷ xs) ys h = let q = front-all P xs ys h.1 in ((h.0, q.0), q.1)

fine-front : (xs ys : List (List ℕ)) → Fine (xs ++ ys) → Fine xs
fine-front xs ys f =
    let h = length-append xs ys in
    let few = f.few in
    record {
      few = omega arith;
      named = (front-all Name xs ys f.named).0;
      once = λ i j lt in' same. f.once i j lt (omega arith) (get_or_append_left xs ys [] i (omega arith) ∙ same ∙ sym (get_or_append_left xs ys [] j in'));
    }

fine-clear : (seen : List (List ℕ)) (l : List ℕ) → Fine (seen ++ l ∷ []) → Clear seen l
fine-clear seen l f =
    let h = length_push seen l in
    let few = f.few in
    let name = (front-all Name seen (l ∷ []) f.named).1.0 in
    let room = lt-leb 64 (length seen) (omega arith) in
    let short = le-ltb 16 (length l) name.short in
    let new = found_at l seen (position l seen) (finds l seen) (λ p in' e. f.once p (length seen) in' (omega arith) (get_or_append_left seen (l ∷ []) [] p in' ∙ e ∙ sym (get_or_push seen l [] (length seen) refl))) in
    rw (room, name.word, short, name.free, new)

-- From line to line.

pub written-append : (xs ys : List (List ℕ)) → written (xs ++ ys) ≡ written xs ++ written ys
written-append [] ys = refl
written-append (x ∷ xs) ys =
    ap (λ (z : List ℕ). x ++ 10 ∷ z) (written-append xs ys) ∙ sym (append_assoc x (10 ∷ written xs) (written ys))

pub length-written-push : (seen : List (List ℕ)) (l : List ℕ) → length (written (seen ++ l ∷ [])) ≡ suc (length (written seen) + length l)
length-written-push seen l =
    let a = length-append (written seen) (l ++ 10 ∷ []) in
    let b = length_push l 10 in
    ap length (written-append seen (l ∷ [])) ∙ omega (arith, a, b)

not-nil : (w after : List ℕ) → w ++ 10 ∷ after ≡ [] → ⊥
not-nil w after e = omega (arith, ap length e, length-append w (10 ∷ after))

plain-rest : (rest name after : List ℕ) → Plain rest → rest ≡ name ++ 10 ∷ after → ⊥
plain-rest rest name after p e = (front-all (λ b. b ≡ 10 → ⊥) name (10 ∷ after) (subst Plain e p)).1.0 refl

same_line : (l m a z : List ℕ) → Plain l → Plain m → l ++ 10 ∷ a ≡ m ++ 10 ∷ z → l ≡ m
same_line l m a z p q e =
    let h : l ∷ lines_of a ≡ m ∷ lines_of z = sym (one_line l a p) ∙ ap lines_of e ∙ one_line m z q in
    cc

none-map : {P P' : Type 0} (text : List ℕ) (o : Option BadLine) → (P → P') → MatchOption o P (λ bad. Breaks text bad.start) → MatchOption o P' (λ bad. Breaks text bad.start)
none-map text None f h = f h
none-map text (Some x) f h = h

abbrev Walked : List ℕ → List (List ℕ) → List (List ℕ) → List ℕ → Option BadLine → Type 0
Walked text seen ls rest o = MatchOption o (Fine (seen ++ ls) × (rest ≡ [])) (λ bad. Breaks text bad.start)

walk : (text : List ℕ) (seen : List (List ℕ)) (start : ℕ) (ls : List (List ℕ)) (rest : List ℕ) → Fine seen → start ≡ length (written seen) → AllByRecursion Plain ls → Plain rest → text ≡ written seen ++ (written ls ++ rest) → Walked text seen ls rest (first_bad seen start ls rest)
walk text seen start [] [] f at p q e = (subst Fine (sym (append-nil seen)) f, refl)
walk text seen start [] (b ∷ bs) f at p q e =
    record {
      names = seen;
      rest = b ∷ bs;
      fine = f;
      spelled = e;
      here = at;
      stands = λ z. absurd (omega (arith, ap length z));
      next = λ name after z _. plain-rest (b ∷ bs) name after q z;
    }
walk text seen start (l ∷ ls) rest f at p q e =
    elim (complaint_of (length seen) seen l) as (λ (o : Option Complaint). complaint_of (length seen) seen l ≡ o → Walked text seen (l ∷ ls) rest (bad_or start (suc (length seen)) o (first_bad (seen ++ l ∷ []) (suc (start + length l)) ls rest))) [
      | None ↦ λ c.
          none-map text (first_bad (seen ++ l ∷ []) (suc (start + length l)) ls rest)
          (λ h. (subst Fine (append_assoc seen (l ∷ []) ls) h.0, h.1))
          (walk text (seen ++ l ∷ []) (suc (start + length l)) ls rest (fine_more seen l f c) (omega (arith, length-written-push seen l)) p.1 q
          (e ∙ simp (written-append, append_assoc)))
      | Some x ↦ λ c.
          record {
            names = seen;
            rest = written (l ∷ ls) ++ rest;
            fine = f;
            spelled = e;
            here = at;
            stands = λ z. absurd (not-nil l (written ls ++ rest) (sym (append_assoc l (10 ∷ written ls) rest) ∙ z));
            next = λ name after z g.
                let n = (front-all Name seen (name ∷ []) g.named).1.0 in
                let same : l ≡ name = same_line l name (written ls ++ rest) after p.0 (word-plain name n.word) (sym (append_assoc l (10 ∷ written ls) rest) ∙ z) in
                some-none (sym c ∙ fine-clear seen l (subst (λ (m : List ℕ). Fine (seen ++ m ∷ [])) (sym same) g));
          }
    ]
    refl

fine-none : (seen : List (List ℕ)) (start : ℕ) (ls : List (List ℕ)) → Fine (seen ++ ls) → first_bad seen start ls [] ≡ None
fine-none seen start [] f = refl
fine-none seen start (l ∷ ls) f =
    let g = subst Fine (sym (append_assoc seen (l ∷ []) ls)) f in
    let c = fine-clear seen l (fine-front (seen ++ l ∷ []) ls g) in
    ap (λ (o : Option Complaint). bad_or start (suc (length seen)) o (first_bad (seen ++ l ∷ []) (suc (start + length l)) ls [])) c
    ∙ fine-none (seen ++ l ∷ []) (suc (start + length l)) ls g

no_names : Fine []
no_names = record { few = omega arith; named = tt; once = λ i j lt in' same. omega arith }

walked : (text : List ℕ) → Walked text [] (lines_of text) (rest_of text) (first_bad [] 0 (lines_of text) (rest_of text))
walked text = walk text [] 0 (lines_of text) (rest_of text) no_names refl (lines-plain text) (rest_plain text) (parts text)

some-from : (names : List (List ℕ)) (b : ℕ) (bs : List ℕ) → b ∷ bs ≡ written names → 0 < length names
some-from [] b bs e = absurd (omega (arith, ap length e))
some-from (w ∷ ws) b bs e = omega arith

accepted : (text : List ℕ) → bad_line_of text ≡ None → (names : List (List ℕ)) × Lists names text
accepted [] e = absurd (some-none e)
accepted (b ∷ bs) e =
    let text : List ℕ = b ∷ bs in
    let h = subst (λ (o : Option BadLine). Walked text [] (lines_of text) (rest_of text) o) e (walked text) in
    let s : text ≡ written (lines_of text) = parts text ∙ ap (λ (r : List ℕ). written (lines_of text) ++ r) h.1 ∙ append-nil (written (lines_of text)) in
    (lines_of text, record { some = some-from (lines_of text) b bs s; fine = h.0; spelled = s })

no_text : (names : List (List ℕ)) → 0 < length names → [] ≡ written names → ⊥
no_text [] h e = omega arith
no_text (w ∷ ws) h e = not-nil w (written ws) (sym e)

accepts : (names : List (List ℕ)) (text : List ℕ) → Lists names text → bad_line_of text ≡ None
accepts names [] h = absurd (no_text names h.some h.spelled)
accepts names (b ∷ bs) h =
    let p = names-plain names h.fine.named in
    let e = ap lines_of h.spelled ∙ lines-written names p in
    let r = ap rest_of h.spelled ∙ rest-written names p in
    ap (λ (ls : List (List ℕ)). first_bad [] 0 ls (rest_of (b ∷ bs))) e ∙ ap (first_bad [] 0 names) r ∙ fine-none [] 0 names h.fine

breaks : (text : List ℕ) → IfSome (bad_line_of text) (λ bad. Breaks text bad.start)
breaks [] =
    record {
      names = [];
      rest = [];
      fine = no_names;
      spelled = refl;
      here = refl;
      stands = λ e. e;
      next = λ name after z _. not-nil name after (sym z);
    }
breaks (b ∷ bs) = none-map (b ∷ bs) (first_bad [] 0 (lines_of (b ∷ bs)) (rest_of (b ∷ bs))) (λ _. tt) (walked (b ∷ bs))

-- What reading answers, by the laws.

accepts-at : (text : List ℕ) (o : Option BadLine) → bad_line_of text ≡ o → Accepts text (or_fault text o)
accepts-at text None e = record { only = λ _. accepted text e; each = λ names h. refl }
accepts-at text (Some bad) e =
    record { only = λ h. absurd (false≢true h); each = λ names h. absurd (some-none (sym e ∙ accepts names text h)) }

first-bad-at : (text : List ℕ) (o : Option BadLine) → bad_line_of text ≡ o → FirstBad text (or_fault text o)
first-bad-at text None e = tt
first-bad-at text (Some bad) e = subst (λ (o : Option BadLine). IfSome o (λ b. Breaks text b.start)) e (breaks text)

-- the names of a list are its lines
pub listed-lines : (names : List (List ℕ)) (text : List ℕ) → Lists names text → lines_of text ≡ names
listed-lines names text h = ap lines_of h.spelled ∙ lines-written names (names-plain names h.fine.named)

pub accepts-law : (text : List ℕ) → Accepts text (list_read text)
accepts-law text = accepts-at text (bad_line_of text) refl

pub first-bad-law : (text : List ℕ) → FirstBad text (list_read text)
first-bad-law text = first-bad-at text (bad_line_of text) refl

-- and so of any answer that is that one
pub accepts-as : (text : List ℕ) (r : Result (List ℕ) Fault) → r ≡ list_read text → Accepts text r
accepts-as text r e = subst (Accepts text) (sym e) (accepts-law text)

pub first-bad-as : (text : List ℕ) (r : Result (List ℕ) Fault) → r ≡ list_read text → FirstBad text r
first-bad-as text r e = subst (FirstBad text) (sym e) (first-bad-law text)

pub few-lines : (text : List ℕ) → bad_line_of text ≡ None → length (lines_of text) ≤ 64
few-lines text e =
    let (names, lists) = accepted text e in
    rw (listed-lines names text lists) lists.fine.few
