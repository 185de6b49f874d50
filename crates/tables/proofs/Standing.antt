-- The rows of a tree fit, wherever they stand: so the check accepts every table.
use Rattle.std.proofs.Common.{◌≡◌, ℕ, suc, ◌+◌, ◌-◌, ◌<◌, ◌≤◌, Bool, true, false, cond, ◌&&◌, eqb, leb, List, [], ◌∷◌, ◌++◌, length, get_or, ℤ, pos, Some, None, Option, refl, ap, ◌∙◌, subst, arith}
use Rattle.std.proofs.lemmas.List.{get_or_append_left, get_or-append-add, get_or_at, length-append}
use Rattle.std.proofs.lemmas.Bool.{and_from, eq-eqb, ne_eqb, le-leb, lt-ltb}
use Rattle.arith.specs.declared.operator.Operator.{Operator}
use Rattle.arith.specs.declared.operator.Operator.TheVariants as operator
use Rattle.arith.specs.declared.comparison.Comparison.{Comparison}
use Rattle.arith.specs.declared.comparison.Comparison.TheVariants.{Less, LessOrEqual, Greater, GreaterOrEqual, Equal, NotEqual}
use Rattle.arith.specs.Comparisons.{comparison_number}
use Rattle.tables.specs.declared.kind.Kind.{Kind}
use Rattle.tables.specs.declared.kind.Kind.TheVariants as kind
use Rattle.tables.specs.declared.row.Row.{Row}
use Rattle.tables.specs.declared.sort.Sort as sort
use Rattle.tables.specs.declared.sort.Sort.TheVariants.{Sum, Condition, Command, Sheet}
use Rattle.tables.specs.declared.sort.Parts.{Parts}
use Rattle.tables.specs.declared.sort.Parts.TheVariants.{Zero, One, Two, Three}
use Rattle.tables.specs.Trees as tree
use Rattle.tables.specs.Trees.{number, name, work, Connective, both, either, truth, compare, negate, connect, set, when, choose, while, only, joint}
use Rattle.tables.specs.Rows.{blank, row, operator_kind, connective_kind, bit, sheet_rows, sheet_size}
use Rattle.tables.specs.Tables.{SumOver, ConditionOver, CommandOver, SheetOver, Table}
use Rattle.tables.specs.Sorts.{parts_of}
use Rattle.tables.specs.Checks.{allowed_value, and_then, start_by, part_start, first_start, sized, fits_at, fit_up_to, from_start, is_table}
use Rattle.tables.proofs.OfSort.{Of, rows_in, size_in, length-in, top_in, some-rows}

-- the rows stand in R from a on
abbrev pub Stands : List Row → ℕ → List Row → Type 0
Stands R a xs = (j : ℕ) → j < length xs → get_or R (a + j) blank ≡ get_or xs j blank

module _ (R : List Row) where
  left-stands : (a : ℕ) (xs ys : List Row) → Stands R a (xs ++ ys) → Stands R a xs
  left-stands a xs ys h j l = h j (omega (arith, length-append xs ys)) ∙ get_or_append_left xs ys blank j l

  right-stands : (a m : ℕ) (xs ys : List Row) → m ≡ a + length xs → Stands R a (xs ++ ys) → Stands R m ys
  right-stands a m xs ys e h j l =
      let at : m + j ≡ a + (length xs + j) = omega arith in
      ap (λ (k : ℕ). get_or R k blank) at ∙ h (length xs + j) (omega (arith, length-append xs ys)) ∙ get_or-append-add xs ys j blank

  row-stands : (i : ℕ) (r : Row) → Stands R i (r ∷ []) → get_or R i blank ≡ r
  row-stands i r h = let e : i ≡ i + 0 = omega arith in ap (λ (k : ℕ). get_or R k blank) e ∙ h 0 (omega arith)

  -- the part that ends at e is found
  start-found : (s : sort.Sort) (t : Of s) (m e : ℕ) → Stands R m (rows_in s t) → e ≡ m + size_in s t → part_start s R e ≡ Some m
  start-found s t m e h at =
      let p = top_in s t in
      let n = length-in s t in
      let f = length-append p.front (p.top ∷ []) in
      let g = ap length p.split in
      let some = some-rows s t in
      let z : eqb e 0 ≡ false = ne_eqb e 0 (λ (q : e ≡ 0). omega arith) in
      let here : e - 1 ≡ m + length p.front = omega arith in
      let last : get_or R (e - 1) blank ≡ p.top =
      ap (λ (k : ℕ). get_or R k blank) here ∙ h (length p.front) (omega arith) ∙ ap (λ (l : List Row). get_or l (length p.front) blank) p.split ∙ get_or_at p.front p.top [] blank (length p.front) refl in
      let w : leb p.top.size e ≡ true = le-leb p.top.size e (omega (arith, p.size)) in
      let start : e - p.top.size ≡ m = omega (arith, p.size) in
      ap (λ (b : Bool). cond b None (start_by s (get_or R (e - 1) blank) e)) z
      ∙ ap (λ (r : Row). start_by s r e) last
      ∙ ap (λ (b : Bool). cond (b && leb p.top.size e) (Some (e - p.top.size)) None) p.serves
      ∙ ap (λ (b : Bool). cond b (Some (e - p.top.size)) None) w
      ∙ ap Some start

  module _ (c : ℕ) where
    fits_by : (i m : ℕ) (k : Kind) (v : ℤ) (n q : ℕ) → get_or R i blank ≡ row k v n q → allowed_value c k v ≡ true → first_start (parts_of k) R i ≡ Some m → n ≡ suc (i - m) → fits_at c R i ≡ true
    fits_by i m k v n q e f g h =
        ap (λ (r : Row). allowed_value c r.kind r.value && sized r.size i (first_start (parts_of r.kind) R i)) e
        ∙ and_from (allowed_value c k v) _ f (ap (sized n i) g ∙ eq-eqb n (suc (i - m)) h)

    -- what a tree does: from where it stands, its rows fit
    abbrev Goes : (s : sort.Sort) → Of s → Type 0
    Goes s t = (a : ℕ) → Stands R a (rows_in s t) → fit_up_to c R a ≡ true → fit_up_to c R (a + size_in s t) ≡ true

    up_to : (i j : ℕ) → i ≡ j → fit_up_to c R i ≡ true → fit_up_to c R j ≡ true
    up_to i j e f = subst (λ (k : ℕ). fit_up_to c R k ≡ true) e f

    zero-goes : (k : Kind) (v : ℤ) (q a : ℕ) → parts_of k ≡ Zero → allowed_value c k v ≡ true → Stands R a (row k v 1 q ∷ []) → fit_up_to c R a ≡ true → fit_up_to c R (a + 1) ≡ true
    zero-goes k v q a p f h u =
        up_to (suc a) (a + 1) (omega arith)
        (and_from _ _ u (fits_by a a k v 1 q (row-stands a _ h) f (ap (λ (x : Parts). first_start x R a) p) (omega arith)))

    one-goes : (s : sort.Sort) (t : Of s) (k : Kind) (v : ℤ) (q a : ℕ) → parts_of k ≡ One s → allowed_value c k v ≡ true → Goes s t → Stands R a (rows_in s t ++ row k v (suc (size_in s t)) q ∷ []) → fit_up_to c R a ≡ true → fit_up_to c R (a + suc (size_in s t)) ≡ true
    one-goes s t k v q a p f g h u =
        let n = length-in s t in
        let i : ℕ = a + size_in s t in
        let st = left-stands a (rows_in s t) _ h in
        let sr = right-stands a (a + size_in s t) (rows_in s t) _ (omega arith) h in
        up_to (suc (a + size_in s t)) (a + suc (size_in s t)) (omega arith)
        (and_from _ _ (g a st u)
        (fits_by (a + size_in s t) a k v _ q (row-stands _ _ sr) f (ap (λ (x : Parts). first_start x R (a + size_in s t)) p ∙ start-found s t a (a + size_in s t) st refl) (omega arith)))

    two-goes : (s s' : sort.Sort) (t : Of s) (t' : Of s') (k : Kind) (v : ℤ) (q a : ℕ) → parts_of k ≡ Two s s' → allowed_value c k v ≡ true → Goes s t → Goes s' t' → Stands R a (rows_in s t ++ (rows_in s' t' ++ row k v (suc (size_in s t + size_in s' t')) q ∷ [])) → fit_up_to c R a ≡ true → fit_up_to c R (a + suc (size_in s t + size_in s' t')) ≡ true
    two-goes s s' t t' k v q a p f g g' h u =
        let n = length-in s t in
        let n' = length-in s' t' in
        let m : ℕ = a + size_in s t in
        let i : ℕ = a + size_in s t + size_in s' t' in
        let st = left-stands a (rows_in s t) _ h in
        let more = right-stands a (a + size_in s t) (rows_in s t) _ (omega arith) h in
        let st' = left-stands (a + size_in s t) (rows_in s' t') _ more in
        let sr = right-stands (a + size_in s t) (a + size_in s t + size_in s' t') (rows_in s' t') _ (omega arith) more in
        let starts : first_start (Two s s') R (a + size_in s t + size_in s' t') ≡ Some a =
        ap (λ (o : Option ℕ). and_then o (part_start s R)) (start-found s' t' (a + size_in s t) (a + size_in s t + size_in s' t') st' refl) ∙ start-found s t a (a + size_in s t) st refl in
        up_to (suc (a + size_in s t + size_in s' t')) (a + suc (size_in s t + size_in s' t')) (omega arith)
        (and_from _ _ (g' (a + size_in s t) st' (g a st u))
        (fits_by (a + size_in s t + size_in s' t') a k v _ q (row-stands _ _ sr) f (ap (λ (x : Parts). first_start x R (a + size_in s t + size_in s' t')) p ∙ starts) (omega arith)))

    three-goes : (s s' s'' : sort.Sort) (t : Of s) (t' : Of s') (t'' : Of s'') (k : Kind) (v : ℤ) (q a : ℕ) → parts_of k ≡ Three s s' s'' → allowed_value c k v ≡ true → Goes s t → Goes s' t' → Goes s'' t'' → Stands R a (rows_in s t ++ (rows_in s' t' ++ (rows_in s'' t'' ++ row k v (suc (size_in s t + (size_in s' t' + size_in s'' t''))) q ∷ []))) → fit_up_to c R a ≡ true → fit_up_to c R (a + suc (size_in s t + (size_in s' t' + size_in s'' t''))) ≡ true
    three-goes s s' s'' t t' t'' k v q a p f g g' g'' h u =
        let n = length-in s t in
        let n' = length-in s' t' in
        let n'' = length-in s'' t'' in
        let st = left-stands a (rows_in s t) _ h in
        let more = right-stands a (a + size_in s t) (rows_in s t) _ (omega arith) h in
        let st' = left-stands (a + size_in s t) (rows_in s' t') _ more in
        let more' = right-stands (a + size_in s t) (a + size_in s t + size_in s' t') (rows_in s' t') _ (omega arith) more in
        let st'' = left-stands (a + size_in s t + size_in s' t') (rows_in s'' t'') _ more' in
        let sr = right-stands (a + size_in s t + size_in s' t') (a + size_in s t + size_in s' t' + size_in s'' t'') (rows_in s'' t'') _ (omega arith) more' in
        let starts : first_start (Three s s' s'') R (a + size_in s t + size_in s' t' + size_in s'' t'') ≡ Some a =
        ap (λ (o : Option ℕ). and_then o (λ late. and_then (part_start s' R late) (part_start s R))) (start-found s'' t'' (a + size_in s t + size_in s' t') (a + size_in s t + size_in s' t' + size_in s'' t'') st'' refl)
        ∙ ap (λ (o : Option ℕ). and_then o (part_start s R)) (start-found s' t' (a + size_in s t) (a + size_in s t + size_in s' t') st' refl)
        ∙ start-found s t a (a + size_in s t) st refl in
        up_to (suc (a + size_in s t + size_in s' t' + size_in s'' t'')) (a + suc (size_in s t + (size_in s' t' + size_in s'' t''))) (omega arith)
        (and_from _ _ (g'' (a + size_in s t + size_in s' t') st'' (g' (a + size_in s t) st' (g a st u)))
        (fits_by (a + size_in s t + size_in s' t' + size_in s'' t'') a k v _ q (row-stands _ _ sr) f (ap (λ (x : Parts). first_start x R (a + size_in s t + size_in s' t' + size_in s'' t'')) p ∙ starts) (omega arith)))

    operator-parts : (o : Operator) → parts_of (operator_kind o) ≡ Two Sum Sum
    operator-parts operator.Add = refl
    operator-parts operator.Sub = refl
    operator-parts operator.Mul = refl
    operator-parts operator.Div = refl

    operator-value : (o : Operator) → allowed_value c (operator_kind o) (pos 0) ≡ true
    operator-value operator.Add = refl
    operator-value operator.Sub = refl
    operator-value operator.Mul = refl
    operator-value operator.Div = refl

    connective-parts : (j : Connective) → parts_of (connective_kind j) ≡ Two Condition Condition
    connective-parts both = refl
    connective-parts either = refl

    connective-value : (j : Connective) → allowed_value c (connective_kind j) (pos 0) ≡ true
    connective-value both = refl
    connective-value either = refl

    truth-value : (b : Bool) → allowed_value c kind.Truth (bit b) ≡ true
    truth-value true = refl
    truth-value false = refl

    comparison-value : (r : Comparison) → allowed_value c kind.Compare (pos (comparison_number r)) ≡ true
    comparison-value Less = refl
    comparison-value LessOrEqual = refl
    comparison-value Greater = refl
    comparison-value GreaterOrEqual = refl
    comparison-value Equal = refl
    comparison-value NotEqual = refl

    sum_goes : (t : tree.Sum) → SumOver c t → Goes Sum t
    sum_goes (number q v) w a h u = zero-goes kind.Number v q a refl w h u
    sum_goes (name q p) w a h u = zero-goes kind.Name (pos p) q a refl (lt-ltb p c w) h u
    sum_goes (work q o l r) w a h u =
        two-goes Sum Sum l r (operator_kind o) (pos 0) q a (operator-parts o) (operator-value o) (sum_goes l w.0) (sum_goes r w.1) h u

    condition-goes : (t : tree.Condition) → ConditionOver c t → Goes Condition t
    condition-goes (truth q b) w a h u = zero-goes kind.Truth (bit b) q a refl (truth-value b) h u
    condition-goes (compare q r l e) w a h u =
        two-goes Sum Sum l e kind.Compare (pos (comparison_number r)) q a refl (comparison-value r) (sum_goes l w.0) (sum_goes e w.1) h u
    condition-goes (negate q d) w a h u = one-goes Condition d kind.Not (pos 0) q a refl refl (condition-goes d w) h u
    condition-goes (connect q j d e) w a h u =
        two-goes Condition Condition d e (connective_kind j) (pos 0) q a (connective-parts j) (connective-value j) (condition-goes d w.0) (condition-goes e w.1) h u

    mutual
      command-goes : (t : tree.Command) → CommandOver c t → Goes Command t
      command-goes (set q p e) w a h u = one-goes Sum e kind.Set (pos p) q a refl (lt-ltb p c w.0) (sum_goes e w.1) h u
      command-goes (when q d t) w a h u =
          two-goes Condition Sheet d t kind.If (pos 0) q a refl refl (condition-goes d w.0) (sheet-goes t w.1) h u
      command-goes (choose q d t e) w a h u =
          three-goes Condition Sheet Sheet d t e kind.IfElse (pos 0) q a refl refl (condition-goes d w.0) (sheet-goes t w.1) (sheet-goes e w.2) h u
      command-goes (while q d t) w a h u =
          two-goes Condition Sheet d t kind.While (pos 0) q a refl refl (condition-goes d w.0) (sheet-goes t w.1) h u

      sheet-goes : (t : tree.Sheet) → SheetOver c t → Goes Sheet t
      sheet-goes (only d) w a h u = command-goes d w a h u
      sheet-goes (joint q d t) w a h u =
          two-goes Command Sheet d t kind.Joint (pos 0) q a refl refl (command-goes d w.0) (sheet-goes t w.1) h u

    whole : (t : tree.Sheet) → SheetOver c t → Stands R 0 (sheet_rows t) → length R ≡ sheet_size t → length R ≤ 2048 → is_table c R ≡ true
    whole t w h e few =
        let n : 0 + sheet_size t ≡ length R = omega arith in
        and_from _ _ (le-leb (length R) 2048 few)
        (and_from _ _ (up_to (0 + sheet_size t) (length R) n (sheet-goes t w 0 h refl))
        (ap from_start (start-found Sheet t 0 (length R) h (omega arith))))

pub accepts-table : (c : ℕ) (rows : List Row) → Table c rows → is_table c rows ≡ true
accepts-table c rows t =
    let n = length-in Sheet t.tree in
    let few = t.few in
    let at : (j : ℕ) → 0 + j ≡ j = λ j. omega arith in
    subst (λ (R : List Row). is_table c R ≡ true) t.listed
    (whole (sheet_rows t.tree) c t.tree t.over (λ j l. ap (λ (k : ℕ). get_or (sheet_rows t.tree) k blank) (at j)) n
    (omega (arith, ap length t.listed)))
