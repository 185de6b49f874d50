-- Where every row fits, each row is the last of a tree's rows: so the check accepts only tables.
use Rattle.std.proofs.Common.{◌≡◌, ℕ, zero, suc, ◌+◌, ◌-◌, ◌<◌, ◌≤◌, Bool, true, false, cond, ◌&&◌, eqb, leb, List, [], ◌∷◌, ◌++◌, length, get_or, take, ℤ, pos, negsuc, Some, None, Option, sym, refl, ap, ◌∙◌, subst, inl, inr, add-one, arith}
use Rattle.std.proofs.lemmas.List.{append_assoc, take_more, take_all}
use Rattle.std.proofs.lemmas.Bool.{and_parts, eqb-true, eqb-false, leb-true, ltb-true, cases_order, false≢true}
use Rattle.arith.specs.declared.operator.Operator.TheVariants as operator
use Rattle.arith.specs.declared.comparison.Comparison.{Comparison}
use Rattle.arith.specs.declared.comparison.Comparison.TheVariants.{Less, LessOrEqual, Greater, GreaterOrEqual, Equal, NotEqual}
use Rattle.arith.specs.Comparisons.{comparison_number}
use Rattle.tables.specs.declared.kind.Kind.{Kind}
use Rattle.tables.specs.declared.kind.Kind.TheVariants.{Number, Name, Add, Sub, Mul, Div, Truth, Compare, Not, And, Or, Set, If, IfElse, While, Joint}
use Rattle.tables.specs.declared.row.Row.{Row}
use Rattle.tables.specs.declared.sort.Sort as sort
use Rattle.tables.specs.declared.sort.Sort.TheVariants.{Sum, Condition, Command, Sheet}
use Rattle.tables.specs.Trees.{number, name, work, both, either, truth, compare, negate, connect, set, when, choose, while, only, joint}
use Rattle.tables.specs.Rows.{blank, row, bit}
use Rattle.tables.specs.Tables.{Table}
use Rattle.tables.specs.Sorts.{sort_of, parts_of, serves_as}
use Rattle.tables.specs.Checks.{allowed_value, below, and_then, start_by, part_start, first_start, sized, fits_at, fit_up_to, from_start, whole_sheet, is_table}
use Rattle.tables.proofs.Fitting.{each_fits}
use Rattle.tables.proofs.OfSort.{Of, rows_in, size_in, OverIn}

-- what a test tells

none-some : {X : Type 0} {x : X} → ◌≡◌ {A = Option X} None (Some x) → ⊥
none-some e = let z : ◌≡◌ {A = ℕ} 0 1 = cc in omega arith

started : (b : Bool) (m n : ℕ) → cond b (Some m) None ≡ Some n → (b ≡ true) × (m ≡ n)
started true m n e = let h : m ≡ n = cc in (refl, h)
started false m n e = absurd (none-some e)

not_none : (b : Bool) (o : Option ℕ) (n : ℕ) → cond b None o ≡ Some n → (b ≡ false) × (o ≡ Some n)
not_none true o n e = absurd (none-some e)
not_none false o n e = (refl, e)

then_some : (o : Option ℕ) (f : ℕ → Option ℕ) (n : ℕ) → and_then o f ≡ Some n → (m : ℕ) × (o ≡ Some m) × (f m ≡ Some n)
then_some None f n e = absurd (none-some e)
then_some (Some m) f n e = (m, refl, e)

sized-some : (n i : ℕ) (o : Option ℕ) → sized n i o ≡ true → (m : ℕ) × (o ≡ Some m) × (n ≡ suc (i - m))
sized-some n i None e = absurd (false≢true e)
sized-some n i (Some m) e = (m, refl, eqb-true n (suc (i - m)) e)

below-point : (c : ℕ) (v : ℤ) → below c v ≡ true → (p : ℕ) × (v ≡ pos p) × (p < c)
below-point c (pos p) e = (p, refl, ltb-true p c e)
below-point c (negsuc p) e = absurd (false≢true e)

below_one : (v : ℤ) → below 1 v ≡ true → v ≡ pos 0
below_one v e =
    let (p, f, l) = below-point 1 v e in
    let z : p ≡ 0 = omega arith in
    f ∙ ap pos z

below_two : (v : ℤ) → below 2 v ≡ true → (b : Bool) × (v ≡ bit b)
below_two (pos zero) e = (false, refl)
below_two (pos (suc zero)) e = (true, refl)
below_two (pos (suc (suc n))) e = let l = ltb-true (suc (suc n)) 2 e in absurd (omega arith)
below_two (negsuc p) e = absurd (false≢true e)

below-six : (v : ℤ) → below 6 v ≡ true → (r : Comparison) × (v ≡ pos (comparison_number r))
below-six (pos zero) e = (Less, refl)
below-six (pos (suc zero)) e = (LessOrEqual, refl)
below-six (pos (suc (suc zero))) e = (Greater, refl)
below-six (pos (suc (suc (suc zero)))) e = (GreaterOrEqual, refl)
below-six (pos (suc (suc (suc (suc zero))))) e = (Equal, refl)
below-six (pos (suc (suc (suc (suc (suc zero)))))) e = (NotEqual, refl)
below-six (pos (suc (suc (suc (suc (suc (suc n))))))) e =
    let l = ltb-true (suc (suc (suc (suc (suc (suc n)))))) 6 e in absurd (omega arith)
below-six (negsuc p) e = absurd (false≢true e)

module _ (c : ℕ) (rows : List Row) where
  -- a tree of this sort spans the rows from start to end
  record Span (s : sort.Sort) (start end : ℕ) : Type 0 where
    t : Of s
    over : OverIn c s t
    long : end ≡ start + size_in s t
    split : take end rows ≡ take start rows ++ rows_in s t

  -- the row before `end` is the last of a tree of every sort that it serves as
  abbrev Grown : ℕ → Type 0
  Grown end = (s : sort.Sort) → serves_as (sort_of (get_or rows (end - 1) blank).kind) s ≡ true → (get_or rows (end - 1) blank).size ≤ end → Span s (end - (get_or rows (end - 1) blank).size) end

  found : (s : sort.Sort) (start end : ℕ) → (1 ≤ end → Grown end) → part_start s rows end ≡ Some start → Span s start end
  found s start end grown e =
      let r = get_or rows (end - 1) blank in
      let p = not_none (eqb end 0) (start_by s r end) start e in
      let z = eqb-false end 0 p.0 in
      let q = started (serves_as (sort_of r.kind) s && leb r.size end) (end - r.size) start p.1 in
      let t = and_parts (serves_as (sort_of r.kind) s) (leb r.size end) q.0 in
      let some : 1 ≤ end = omega (arith, cases_order end 0, z) in
      subst (λ (m : ℕ). Span s m end) q.1 (grown some s t.0 (leb-true r.size end t.1))

  -- a tree of this sort, whose last row is x, has n rows and ends after row i
  record Built (s : sort.Sort) (i n : ℕ) (x : Row) : Type 0 where
    t : Of s
    over : OverIn c s t
    long : n ≡ size_in s t
    within : n ≤ suc i
    split : take i rows ++ x ∷ [] ≡ take (suc i - n) rows ++ rows_in s t

  abbrev Before : ℕ → Type 0
  Before i = (e : ℕ) → e ≤ i → 1 ≤ e → Grown e

  zero-built : (s : sort.Sort) (t : Of s) (k : Kind) (v v' : ℤ) (n q i : ℕ) → rows_in s t ≡ row k v' 1 q ∷ [] → size_in s t ≡ 1 → OverIn c s t → v ≡ v' → sized n i (Some i) ≡ true → Built s i n (row k v n q)
  zero-built s t k v v' n q i listed size over e f =
      let g = eqb-true n (suc (i - i)) f in
      let one : n ≡ 1 = omega arith in
      let at : i ≡ suc i - n = omega arith in
      record {
        t = t;
        over = over;
        long = omega arith;
        within = omega arith;
        split = ap (λ (m : ℕ). take m rows ++ row k v n q ∷ []) at ∙ ap (λ (x : ℤ). take (suc i - n) rows ++ row k x n q ∷ []) e ∙ ap (λ (m : ℕ). take (suc i - n) rows ++ row k v' m q ∷ []) one ∙ ap (λ (l : List Row). take (suc i - n) rows ++ l) (sym listed);
      }

  one-built : (s a : sort.Sort) (mk : Of a → Of s) (k : Kind) (v v' : ℤ) (n q i : ℕ) → ((l : Of a) → rows_in s (mk l) ≡ rows_in a l ++ row k v' (suc (size_in a l)) q ∷ []) → ((l : Of a) → size_in s (mk l) ≡ suc (size_in a l)) → ((l : Of a) → OverIn c a l → OverIn c s (mk l)) → v ≡ v' → Before i → sized n i (part_start a rows i) ≡ true → Built s i n (row k v n q)
  one-built s a mk k v v' n q i listed size over e before f =
      let (start, f1, f2) = sized-some n i (part_start a rows i) f in
      let L = found a start i (before i (omega arith)) f1 in
      let long = L.long in
      let size' = size L.t in
      let all : n ≡ suc (size_in a L.t) = omega arith in
      let at : start ≡ suc i - n = omega arith in
      record {
        t = mk L.t;
        over = over L.t L.over;
        long = omega arith;
        within = omega arith;
        split =
            ap (λ (l : List Row). l ++ row k v n q ∷ []) L.split
            ∙ append_assoc (take start rows) (rows_in a L.t) (row k v n q ∷ [])
            ∙ ap (λ (m : ℕ). take m rows ++ (rows_in a L.t ++ row k v n q ∷ [])) at
            ∙ ap (λ (x : ℤ). take (suc i - n) rows ++ (rows_in a L.t ++ row k x n q ∷ [])) e
            ∙ ap (λ (m : ℕ). take (suc i - n) rows ++ (rows_in a L.t ++ row k v' m q ∷ [])) all
            ∙ ap (λ (l : List Row). take (suc i - n) rows ++ l) (sym (listed L.t));
      }

  two-built : (s a b : sort.Sort) (mk : Of a → Of b → Of s) (k : Kind) (v v' : ℤ) (n q i : ℕ) → ((l : Of a) (r : Of b) → rows_in s (mk l r) ≡ rows_in a l ++ (rows_in b r ++ row k v' (suc (size_in a l + size_in b r)) q ∷ [])) → ((l : Of a) (r : Of b) → size_in s (mk l r) ≡ suc (size_in a l + size_in b r)) → ((l : Of a) (r : Of b) → OverIn c a l → OverIn c b r → OverIn c s (mk l r)) → v ≡ v' → Before i → sized n i (and_then (part_start b rows i) (part_start a rows)) ≡ true → Built s i n (row k v n q)
  two-built s a b mk k v v' n q i listed size over e before f =
      let (start, f1, f2) = sized-some n i (and_then (part_start b rows i) (part_start a rows)) f in
      let (m, g1, g2) = then_some (part_start b rows i) (part_start a rows) start f1 in
      let R = found b m i (before i (omega arith)) g1 in
      let r-long = R.long in
      let L = found a start m (before m (omega arith)) g2 in
      let l-long = L.long in
      let size' = size L.t R.t in
      let all : n ≡ suc (size_in a L.t + size_in b R.t) = omega arith in
      let at : start ≡ suc i - n = omega arith in
      let x : Row = row k v n q in
      record {
        t = mk L.t R.t;
        over = over L.t R.t L.over R.over;
        long = omega arith;
        within = omega arith;
        split =
            ap (λ (l : List Row). l ++ x ∷ []) (R.split ∙ ap (λ (l : List Row). l ++ rows_in b R.t) L.split)
            ∙ append_assoc (take start rows ++ rows_in a L.t) (rows_in b R.t) (x ∷ [])
            ∙ append_assoc (take start rows) (rows_in a L.t) (rows_in b R.t ++ x ∷ [])
            ∙ ap (λ (j : ℕ). take j rows ++ (rows_in a L.t ++ (rows_in b R.t ++ x ∷ []))) at
            ∙ ap (λ (z : ℤ). take (suc i - n) rows ++ (rows_in a L.t ++ (rows_in b R.t ++ row k z n q ∷ []))) e
            ∙ ap (λ (j : ℕ). take (suc i - n) rows ++ (rows_in a L.t ++ (rows_in b R.t ++ row k v' j q ∷ []))) all
            ∙ ap (λ (l : List Row). take (suc i - n) rows ++ l) (sym (listed L.t R.t));
      }

  choose-built : (v : ℤ) (n q i : ℕ) → v ≡ pos 0 → Before i → sized n i (and_then (part_start Sheet rows i) (λ late. and_then (part_start Sheet rows late) (part_start Condition rows))) ≡ true → Built Command i n (row IfElse v n q)
  choose-built v n q i e before f =
      let (start, f1, f2) = sized-some n i _ f in
      let (late, g1, g2) = then_some (part_start Sheet rows i) (λ late. and_then (part_start Sheet rows late) (part_start Condition rows)) start f1 in
      let (early, h1, h2) = then_some (part_start Sheet rows late) (part_start Condition rows) start g2 in
      let U = found Sheet late i (before i (omega arith)) g1 in
      let u-long = U.long in
      let T = found Sheet early late (before late (omega arith)) h1 in
      let t-long = T.long in
      let C = found Condition start early (before early (omega arith)) h2 in
      let c-long = C.long in
      let xs = rows_in Condition C.t in
      let ys = rows_in Sheet T.t in
      let zs = rows_in Sheet U.t in
      let all : n ≡ suc (size_in Condition C.t + (size_in Sheet T.t + size_in Sheet U.t)) = omega arith in
      let at : start ≡ suc i - n = omega arith in
      let x : Row = row IfElse v n q in
      record {
        t = choose q C.t T.t U.t;
        over = (C.over, T.over, U.over);
        long = all;
        within = omega arith;
        split =
            ap (λ (l : List Row). l ++ x ∷ []) (U.split ∙ ap (λ (l : List Row). l ++ zs) (T.split ∙ ap (λ (l : List Row). l ++ ys) C.split))
            ∙ append_assoc ((take start rows ++ xs) ++ ys) zs (x ∷ [])
            ∙ append_assoc (take start rows ++ xs) ys (zs ++ x ∷ [])
            ∙ append_assoc (take start rows) xs (ys ++ (zs ++ x ∷ []))
            ∙ ap (λ (j : ℕ). take j rows ++ (xs ++ (ys ++ (zs ++ x ∷ [])))) at
            ∙ ap (λ (z : ℤ). take (suc i - n) rows ++ (xs ++ (ys ++ (zs ++ row IfElse z n q ∷ [])))) e
            ∙ ap (λ (j : ℕ). take (suc i - n) rows ++ (xs ++ (ys ++ (zs ++ row IfElse (pos 0) j q ∷ [])))) all;
      }

  -- a row of each kind
  built : (k : Kind) (v : ℤ) (n q i : ℕ) → allowed_value c k v ≡ true → Before i → sized n i (first_start (parts_of k) rows i) ≡ true → Built (sort_of k) i n (row k v n q)
  built Number v n q i w b f = zero-built Sum (number q v) Number v v n q i refl refl w refl f
  built Name v n q i w b f =
      let (p, e, l) = below-point c v w in
      zero-built Sum (name q p) Name v (pos p) n q i refl refl l e f
  built Add v n q i w b f =
      two-built Sum Sum Sum (work q operator.Add) Add v (pos 0) n q i (λ l r. refl) (λ l r. refl) (λ l r o p. (o, p)) (below_one v w) b f
  built Sub v n q i w b f =
      two-built Sum Sum Sum (work q operator.Sub) Sub v (pos 0) n q i (λ l r. refl) (λ l r. refl) (λ l r o p. (o, p)) (below_one v w) b f
  built Mul v n q i w b f =
      two-built Sum Sum Sum (work q operator.Mul) Mul v (pos 0) n q i (λ l r. refl) (λ l r. refl) (λ l r o p. (o, p)) (below_one v w) b f
  built Div v n q i w b f =
      two-built Sum Sum Sum (work q operator.Div) Div v (pos 0) n q i (λ l r. refl) (λ l r. refl) (λ l r o p. (o, p)) (below_one v w) b f
  built Truth v n q i w b f =
      let (t, e) = below_two v w in
      zero-built Condition (truth q t) Truth v (bit t) n q i refl refl tt e f
  built Compare v n q i w b f =
      let (r, e) = below-six v w in
      two-built Condition Sum Sum (compare q r) Compare v (pos (comparison_number r)) n q i (λ l x. refl) (λ l x. refl) (λ l x o p. (o, p)) e b f
  built Not v n q i w b f = one-built Condition Condition (negate q) Not v (pos 0) n q i (λ l. refl) (λ l. refl) (λ l o. o) (below_one v w) b f
  built And v n q i w b f =
      two-built Condition Condition Condition (connect q both) And v (pos 0) n q i (λ l r. refl) (λ l r. refl) (λ l r o p. (o, p)) (below_one v w) b f
  built Or v n q i w b f =
      two-built Condition Condition Condition (connect q either) Or v (pos 0) n q i (λ l r. refl) (λ l r. refl) (λ l r o p. (o, p)) (below_one v w) b f
  built Set v n q i w b f =
      let (p, e, l) = below-point c v w in
      one-built Command Sum (set q p) Set v (pos p) n q i (λ x. refl) (λ x. refl) (λ x o. (l, o)) e b f
  built If v n q i w b f =
      two-built Command Condition Sheet (when q) If v (pos 0) n q i (λ l r. refl) (λ l r. refl) (λ l r o p. (o, p)) (below_one v w) b f
  built IfElse v n q i w b f = choose-built v n q i (below_one v w) b f
  built While v n q i w b f =
      two-built Command Condition Sheet (while q) While v (pos 0) n q i (λ l r. refl) (λ l r. refl) (λ l r o p. (o, p)) (below_one v w) b f
  built Joint v n q i w b f =
      two-built Sheet Command Sheet (joint q) Joint v (pos 0) n q i (λ l r. refl) (λ l r. refl) (λ l r o p. (o, p)) (below_one v w) b f

  -- a command is a sheet too
  served : (a b : sort.Sort) → serves_as a b ≡ true → (i n : ℕ) (x : Row) → Built a i n x → Built b i n x
  served Sum Sum e i n x B = B
  served Sum Condition e i n x B = absurd (false≢true e)
  served Sum Command e i n x B = absurd (false≢true e)
  served Sum Sheet e i n x B = absurd (false≢true e)
  served Condition Sum e i n x B = absurd (false≢true e)
  served Condition Condition e i n x B = B
  served Condition Command e i n x B = absurd (false≢true e)
  served Condition Sheet e i n x B = absurd (false≢true e)
  served Command Sum e i n x B = absurd (false≢true e)
  served Command Condition e i n x B = absurd (false≢true e)
  served Command Command e i n x B = B
  served Command Sheet e i n x B =
      record { t = only B.t; over = B.over; long = B.long; within = B.within; split = B.split }
  served Sheet Sum e i n x B = absurd (false≢true e)
  served Sheet Condition e i n x B = absurd (false≢true e)
  served Sheet Command e i n x B = absurd (false≢true e)
  served Sheet Sheet e i n x B = B

  grown-at : (i : ℕ) → i < length rows → fits_at c rows i ≡ true → Before i → Grown (suc i)
  grown-at i l f before =
      let at : suc i - 1 ≡ i = omega arith in
      subst (λ (j : ℕ). (s : sort.Sort) → serves_as (sort_of (get_or rows j blank).kind) s ≡ true → (get_or rows j blank).size ≤ suc i → Span s (suc i - (get_or rows j blank).size) (suc i)) (sym at)
      (λ s e h.
      let r = get_or rows i blank in
      let p = and_parts (allowed_value c r.kind r.value) _ f in
      let B = served (sort_of r.kind) s e i r.size r (built r.kind r.value r.size r.place i p.0 before p.1) in
      let long = B.long in
      record {
        t = B.t;
        over = B.over;
        long = omega arith;
        split = ap (λ (j : ℕ). take j rows) (sym (add-one i)) ∙ take_more rows i blank l ∙ B.split;
      })

  grown : (n : ℕ) → n ≤ length rows → fit_up_to c rows (length rows) ≡ true → Before n
  grown zero l f e b s = absurd (omega arith)
  grown (suc n) l f e b s =
      elim (cases_order e (suc n)) [
        | inl q ↦ subst Grown (sym q) (grown-at n l (each_fits c rows (length rows) n f l) (grown n (omega arith) f))
        | inr o ↦ elim o [ inl q ↦ grown n (omega arith) f e (omega arith) s | inr q ↦ absurd (omega arith) ]
      ]

  whole-start : (o : Option ℕ) → from_start o ≡ true → o ≡ Some 0
  whole-start None e = absurd (false≢true e)
  whole-start (Some m) e = ap Some (eqb-true m 0 e)

  pub only-tables : is_table c rows ≡ true → Table c rows
  only-tables e =
      let (few, rest) = and_parts (leb (length rows) 2048) _ e in
      let (fit, whole) = and_parts (fit_up_to c rows (length rows)) (whole_sheet rows) rest in
      let S = found Sheet 0 (length rows) (grown (length rows) (omega arith) fit (length rows) (omega arith)) (whole-start (part_start Sheet rows (length rows)) whole) in
      record {
        tree = S.t;
        over = S.over;
        listed = sym S.split ∙ take_all (length rows) rows (omega arith);
        few = leb-true (length rows) 2048 few;
      }
