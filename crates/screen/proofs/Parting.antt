-- The parts of a tree whose rows stand before an end: where each of them ends, and what the rows there say.
use Rattle.std.proofs.Common.{◌≡◌, ℕ, suc, ◌+◌, ◌-◌, ◌<◌, ◌≤◌, List, [], ◌∷◌, ◌++◌, length, get_or, ℤ, pos, sym, refl, ap, ◌∙◌, subst, arith}
use Rattle.std.proofs.lemmas.List.{get_or_append_left, get_or-append-add, length-append}
use Rattle.arith.specs.declared.operator.Operator.{Operator}
use Rattle.arith.specs.declared.operator.Operator.TheVariants as operator
use Rattle.tables.specs.declared.kind.Kind.TheVariants.{Number, Name}
use Rattle.tables.specs.declared.row.Row.{Row}
use Rattle.tables.specs.declared.sort.Sort as sorts
use Rattle.tables.specs.declared.sort.Sort.TheVariants as sort
use Rattle.tables.specs.Trees.{Sum, number, name, work, Condition}
use Rattle.tables.specs.Rows.{blank, row, operator_kind, sum_rows, sum_size}
use Rattle.tables.specs.Tables.{SumOver}
use Rattle.tables.proofs.OfSort.{Of, rows_in, size_in, length-in, top_in}
use Rattle.screen.specs.Works.{done, sum_work}
use Rattle.screen.specs.Values.{operator_at}
use Rattle.screen.specs.Parts.{Before, SumAt, ConditionAt}

-- a tree stands at an end however that was come by

pub sum-at : {R : List Row} {m n count : ℕ} {t : Sum} → n ≡ m → SumAt R m count t → SumAt R n count t
sum-at {R} {m} {n} {count} {t} e at = subst (λ (k : ℕ). SumAt R k count t) (sym e) at

pub condition-at : {R : List Row} {m n count : ℕ} {t : Condition} → n ≡ m → ConditionAt R m count t → ConditionAt R n count t
condition-at {R} {m} {n} {count} {t} e at = subst (λ (k : ℕ). ConditionAt R k count t) (sym e) at

module _ (R : List Row) (end : ℕ) (xs ys : List Row) (b : Before R end (xs ++ ys)) where
  pub right-before : Before R end ys
  right-before =
      let n = length-append xs ys in
      let f = b.fits in
      record {
        fits = omega arith;
        within = b.within;
        same = λ j l.
            let at : end - length ys + j ≡ end - length (xs ++ ys) + (length xs + j) = omega arith in
            ap (λ (k : ℕ). get_or R k blank) at ∙ b.same (length xs + j) (omega arith) ∙ get_or-append-add xs ys j blank;
      }

  pub left-before : (m : ℕ) → m ≡ end - length ys → Before R m xs
  left-before m e =
      let n = length-append xs ys in
      let f = b.fits in
      let w = b.within in
      record {
        fits = omega arith;
        within = omega arith;
        same = λ j l.
            let at : m - length xs + j ≡ end - length (xs ++ ys) + j = omega arith in
            ap (λ (k : ℕ). get_or R k blank) at ∙ b.same j (omega arith) ∙ get_or_append_left xs ys blank j l;
      }

pub row_before : (R : List Row) (end : ℕ) (r : Row) → Before R end (r ∷ []) → get_or R (end - 1) blank ≡ r
row_before R end r b =
    let f = b.fits in
    let at : end - 1 ≡ end - 1 + 0 = omega arith in
    ap (λ (k : ℕ). get_or R k blank) at ∙ b.same 0 (omega arith)

-- parts by their sort

pub size_in_lem : (s : sorts.Sort) (R : List Row) (end : ℕ) (t : Of s) → Before R end (rows_in s t) → (get_or R (end - 1) blank).size ≡ size_in s t
size_in_lem s R end t b =
    let p = top_in s t in
    let c = right-before R end p.front (p.top ∷ []) (subst (Before R end) p.split b) in
    ap (λ (r : Row). r.size) (row_before R end p.top c) ∙ p.size

pub end-in : (s : sorts.Sort) (R : List Row) (end : ℕ) (t : Of s) → Before R end (rows_in s t) → (1 ≤ end) × (end ≤ length R)
end-in s R end t b =
    let p = top_in s t in
    let c = right-before R end p.front (p.top ∷ []) (subst (Before R end) p.split b) in
    let f = c.fits in
    (omega arith, b.within)

pub record OneIn (a : sorts.Sort) (R : List Row) (end : ℕ) (l : Of a) (x : Row) : Type 0 where
  pub own : get_or R (end - 1) blank ≡ x
  pub left : Before R (end - 1) (rows_in a l)

pub one_in : (a : sorts.Sort) (R : List Row) (end : ℕ) (l : Of a) (x : Row) → Before R end (rows_in a l ++ x ∷ []) → OneIn a R end l x
one_in a R end l x b =
    record {
      own = row_before R end x (right-before R end (rows_in a l) (x ∷ []) b);
      left = left-before R end (rows_in a l) (x ∷ []) b (end - 1) refl;
    }

-- a row with two parts, as the code finds them
pub record Pair (a b : sorts.Sort) (R : List Row) (end : ℕ) (l : Of a) (r : Of b) (x : Row) : Type 0 where
  pub own : get_or R (end - 1) blank ≡ x
  pub some : 1 ≤ end
  pub last_some : 1 ≤ end - 1
  pub within : end ≤ length R
  pub room : (get_or R (end - 1 - 1) blank).size ≤ end - 1
  pub left : Before R (end - 1 - (get_or R (end - 1 - 1) blank).size) (rows_in a l)
  pub right : Before R (end - 1) (rows_in b r)
  pub left-size : (get_or R (end - 1 - (get_or R (end - 1 - 1) blank).size - 1) blank).size ≡ size_in a l
  pub right-size : (get_or R (end - 1 - 1) blank).size ≡ size_in b r

pub pair : (a b : sorts.Sort) (R : List Row) (end : ℕ) (l : Of a) (r : Of b) (x : Row) → Before R end (rows_in a l ++ (rows_in b r ++ x ∷ [])) → Pair a b R end l r x
pair a b R end l r x before =
    let more = right-before R end (rows_in a l) (rows_in b r ++ x ∷ []) before in
    let rb = left-before R end (rows_in b r) (x ∷ []) more (end - 1) refl in
    let rs = size_in_lem b R (end - 1) r rb in
    let n = length-append (rows_in b r) (x ∷ []) in
    let nr = length-in b r in
    let lb = left-before R end (rows_in a l) (rows_in b r ++ x ∷ []) before (end - 1 - (get_or R (end - 1 - 1) blank).size) (omega arith) in
    let k = end-in b R (end - 1) r rb in
    let k0 = k.0 in
    let g = rb.fits in
    record {
      own = row_before R end x (right-before R end (rows_in b r) (x ∷ []) more);
      some = omega arith;
      last_some = k0;
      within = before.within;
      room = omega arith;
      left = lb;
      right = rb;
      left-size = size_in_lem a R (end - 1 - (get_or R (end - 1 - 1) blank).size) l lb;
      right-size = rs;
    }

-- a row with two sums
pub record Sides (R : List Row) (end count : ℕ) (l r : Sum) (x : Row) : Type 0 where
  pub pair : Pair sort.Sum sort.Sum R end l r x
  pub left : SumAt R (end - 1 - (get_or R (end - 1 - 1) blank).size) count l
  pub right : SumAt R (end - 1) count r

pub sides : (R : List Row) (end count : ℕ) (l r : Sum) (x : Row) → Before R end (sum_rows l ++ (sum_rows r ++ x ∷ [])) → SumOver count l → SumOver count r → Sides R end count l r x
sides R end count l r x before ol or =
    let P = pair sort.Sum sort.Sum R end l r x before in
    record { pair = P; left = record { stands = P.left; over = ol }; right = record { stands = P.right; over = or } }

pub sum-end : {R : List Row} {end count : ℕ} {t : Sum} → SumAt R end count t → (1 ≤ end) × (end ≤ length R)
sum-end {R} {end} {count} {t} at = end-in sort.Sum R end t at.stands

pub sum-size : {R : List Row} {end count : ℕ} {t : Sum} → SumAt R end count t → (get_or R (end - 1) blank).size ≡ sum_size t
sum-size {R} {end} {count} {t} at = size_in_lem sort.Sum R end t at.stands

pub kind-is : {x y : Row} → x ≡ y → x.kind ≡ y.kind
kind-is e = ap (λ (r : Row). r.kind) e

number-row : (R : List Row) (end count q : ℕ) (v : ℤ) → SumAt R end count (number q v) → get_or R (end - 1) blank ≡ row Number v 1 q
number-row R end count q v at = row_before R end (row Number v 1 q) at.stands

name-row : (R : List Row) (end count q p : ℕ) → SumAt R end count (name q p) → get_or R (end - 1) blank ≡ row Name (pos p) 1 q
name-row R end count q p at = row_before R end (row Name (pos p) 1 q) at.stands

work-sides : (R : List Row) (end count q : ℕ) (o : Operator) (l r : Sum) → SumAt R end count (work q o l r) → Sides R end count l r (row (operator_kind o) (pos 0) (suc (sum_size l + sum_size r)) q)
work-sides R end count q o l r at = sides R end count l r _ at.stands at.over.0 at.over.1

-- a sum whose last row is neither a number nor a name has two parts
pub record Parted (R : List Row) (end count : ℕ) (t : Sum) : Type 0 where
  pub place : ℕ
  pub op : Operator
  pub l : Sum
  pub r : Sum
  pub is : t ≡ work place op l r
  pub sides : Sides R end count l r (row (operator_kind op) (pos 0) (suc (sum_size l + sum_size r)) place)

pub parted : {R : List Row} {end count : ℕ} {t : Sum} → SumAt R end count t → ((get_or R (end - 1) blank).kind ≡ Number → ⊥) → ((get_or R (end - 1) blank).kind ≡ Name → ⊥) → Parted R end count t
parted {R} {end} {count} {t = number q v} at m n = absurd (m (kind-is (number-row R end count q v at)))
parted {R} {end} {count} {t = name q p} at m n = absurd (n (kind-is (name-row R end count q p at)))
parted {R} {end} {count} {t = work q o l r} at m n =
    record { place = q; op = o; l = l; r = r; is = refl; sides = work-sides R end count q o l r at }

-- no operator's row is a number or a name
operator-apart : (o : Operator) → (operator_kind o ≡ Number → ⊥) × (operator_kind o ≡ Name → ⊥)
operator-apart operator.Add = (λ e. cc, λ e. cc)
operator-apart operator.Sub = (λ e. cc, λ e. cc)
operator-apart operator.Mul = (λ e. cc, λ e. cc)
operator-apart operator.Div = (λ e. cc, λ e. cc)

-- a number's row, and a name's

pub number-work : {R : List Row} {end count : ℕ} (p : List ℤ) {t : Sum} → SumAt R end count t → (get_or R (end - 1) blank).kind ≡ Number → sum_work t p ≡ done 1 (get_or R (end - 1) blank).value
number-work {R} {end} {count} p {t = number q v} at k = ap (λ (x : Row). done 1 x.value) (sym (number-row R end count q v at))
number-work {R} {end} {count} p {t = name q x} at k = let r = kind-is (name-row R end count q x at) in cc
number-work {R} {end} {count} p {t = work q o l r} at k =
    absurd ((operator-apart o).0 (sym (kind-is (work-sides R end count q o l r at).pair.own) ∙ k))

pub record Named (R : List Row) (end count : ℕ) (p : List ℤ) (t : Sum) : Type 0 where
  pub point : ℕ
  pub value : (get_or R (end - 1) blank).value ≡ pos point
  pub below : point < count
  pub work : sum_work t p ≡ done 1 (get_or p point (pos 0))

pub named : {R : List Row} {end count : ℕ} (p : List ℤ) {t : Sum} → SumAt R end count t → (get_or R (end - 1) blank).kind ≡ Name → Named R end count p t
named {R} {end} {count} p {t = number q v} at k = let r = kind-is (number-row R end count q v at) in absurd cc
named {R} {end} {count} p {t = name q x} at k =
    record { point = x; value = ap (λ (y : Row). y.value) (name-row R end count q x at); below = at.over; work = refl }
named {R} {end} {count} p {t = work q o l r} at k =
    absurd ((operator-apart o).1 (sym (kind-is (work-sides R end count q o l r at).pair.own) ∙ k))

-- the operator of a row is its tree's
pub operator-is : (o : Operator) → operator_at (operator_kind o) ≡ o
operator-is operator.Add = refl
operator-is operator.Sub = refl
operator-is operator.Mul = refl
operator-is operator.Div = refl
