-- The parts of a condition, by the kind of its last row.
use Rattle.std.proofs.Common.{◌≡◌, ℕ, suc, ◌+◌, ◌-◌, ◌≤◌, Bool, List, length, get_or, pos, Some, sym, refl, ap, ◌∙◌, arith}
use Rattle.arith.specs.declared.comparison.Comparison.{Comparison}
use Rattle.arith.specs.declared.comparison.Comparison.TheVariants.{Less, LessOrEqual, Greater, GreaterOrEqual, Equal, NotEqual}
use Rattle.arith.specs.Comparisons.{comparison_number}
use Rattle.arith.proofs.Numbered.{numbered-back}
use Rattle.tables.specs.declared.kind.Kind.{Kind}
use Rattle.tables.specs.declared.kind.Kind.TheVariants.{Truth, Compare, Not}
use Rattle.tables.specs.declared.row.Row.{Row}
use Rattle.tables.specs.declared.sort.Sort.TheVariants as sort
use Rattle.tables.specs.Trees.{Sum, Connective, both, either, Condition, truth, compare, negate, connect}
use Rattle.tables.specs.Rows.{blank, row, bit, connective_kind, sum_size, condition_size}
use Rattle.tables.specs.Kinds.{comparison_in}
use Rattle.tables.proofs.OfSort.{length-in}
use Rattle.screen.specs.Works.{connected}
use Rattle.screen.specs.Values.{connected_at}
use Rattle.screen.specs.Parts.{ConditionAt}
use Rattle.screen.proofs.Parting.{size_in_lem, end-in, one_in, Pair, pair, Sides, sides, row_before, kind-is}

compare-sides : {R : List Row} {end count q : ℕ} {k : Comparison} {l r : Sum} → ConditionAt R end count (compare q k l r) → Sides R end count l r (row Compare (pos (comparison_number k)) (suc (sum_size l + sum_size r)) q)
compare-sides {R} {end} {count} {q} {k} {l} {r} at = sides R end count l r _ at.stands at.over.0 at.over.1

-- a comparison's row names it
pub names : (k : Comparison) → comparison_in (pos (comparison_number k)) ≡ Some k
names k = numbered-back k

abbrev kind_of : Condition → Kind
kind_of (truth q b) = Truth
kind_of (compare q k l r) = Compare
kind_of (negate q d) = Not
kind_of (connect q j d e) = connective_kind j

top-kind : {R : List Row} {end count : ℕ} (t : Condition) → ConditionAt R end count t → (get_or R (end - 1) blank).kind ≡ kind_of t
top-kind {R} {end} (truth q b) at = kind-is (row_before R end (row Truth (bit b) 1 q) at.stands)
top-kind {R} {end} (compare q k l r) at = kind-is (compare-sides at).pair.own
top-kind {R} {end} (negate q d) at = kind-is (one_in sort.Condition R end d _ at.stands).own
top-kind {R} {end} (connect q j d e) at = kind-is (pair sort.Condition sort.Condition R end d e _ at.stands).own

pub condition-end : {R : List Row} {end count : ℕ} {t : Condition} → ConditionAt R end count t → (1 ≤ end) × (end ≤ length R)
condition-end {R} {end} {count} {t} at = end-in sort.Condition R end t at.stands

pub condition-size : {R : List Row} {end count : ℕ} {t : Condition} → ConditionAt R end count t → (get_or R (end - 1) blank).size ≡ condition_size t
condition-size {R} {end} {count} {t} at = size_in_lem sort.Condition R end t at.stands

-- a condition's rows are among the table's
pub condition-few : {R : List Row} {end count : ℕ} {h : Condition} → ConditionAt R end count h → condition_size h ≤ length R
condition-few {R} {end} {count} {h} at =
    let f = at.stands.fits in
    let w = at.stands.within in
    let n = length-in sort.Condition h in
    omega arith

pub record Truthful (R : List Row) (end : ℕ) (t : Condition) : Type 0 where
  pub place : ℕ
  pub holds : Bool
  pub is : t ≡ truth place holds
  pub value : (get_or R (end - 1) blank).value ≡ bit holds

truthful-at : (R : List Row) (end count : ℕ) (t : Condition) → ConditionAt R end count t → kind_of t ≡ Truth → Truthful R end t
truthful-at R end count (truth q b) at k =
    record { place = q; holds = b; is = refl; value = ap (λ (x : Row). x.value) (row_before R end (row Truth (bit b) 1 q) at.stands) }
truthful-at R end count (compare q r l e) at k = absurd cc
truthful-at R end count (negate q d) at k = absurd cc
truthful-at R end count (connect q both d e) at k = absurd cc
truthful-at R end count (connect q either d e) at k = absurd cc

pub truthful : {R : List Row} {end count : ℕ} {t : Condition} → ConditionAt R end count t → (get_or R (end - 1) blank).kind ≡ Truth → Truthful R end t
truthful {R} {end} {count} {t} at k = truthful-at R end count t at (sym (top-kind t at) ∙ k)

pub record Comparing (R : List Row) (end count : ℕ) (t : Condition) : Type 0 where
  pub place : ℕ
  pub k : Comparison
  pub l : Sum
  pub r : Sum
  pub is : t ≡ compare place k l r
  pub sides : Sides R end count l r (row Compare (pos (comparison_number k)) (suc (sum_size l + sum_size r)) place)
  pub names : comparison_in (get_or R (end - 1) blank).value ≡ Some k

comparing-at : (R : List Row) (end count : ℕ) (t : Condition) → ConditionAt R end count t → kind_of t ≡ Compare → Comparing R end count t
comparing-at R end count (truth q b) at k = absurd cc
comparing-at R end count (compare q k l r) at e =
    let S = compare-sides at in
    record {
      place = q;
      k = k;
      l = l;
      r = r;
      is = refl;
      sides = S;
      names = ap (λ (x : Row). comparison_in x.value) S.pair.own ∙ names k;
    }
comparing-at R end count (negate q d) at k = absurd cc
comparing-at R end count (connect q both d e) at k = absurd cc
comparing-at R end count (connect q either d e) at k = absurd cc

pub comparing : {R : List Row} {end count : ℕ} {t : Condition} → ConditionAt R end count t → (get_or R (end - 1) blank).kind ≡ Compare → Comparing R end count t
comparing {R} {end} {count} {t} at k = comparing-at R end count t at (sym (top-kind t at) ∙ k)

pub record Negating (R : List Row) (end count : ℕ) (t : Condition) : Type 0 where
  pub place : ℕ
  pub d : Condition
  pub is : t ≡ negate place d
  pub size : (get_or R (end - 1) blank).size ≡ suc (condition_size d)
  pub part : ConditionAt R (end - 1) count d
  pub part-size : (get_or R (end - 1 - 1) blank).size ≡ condition_size d

negating-at : (R : List Row) (end count : ℕ) (t : Condition) → ConditionAt R end count t → kind_of t ≡ Not → Negating R end count t
negating-at R end count (truth q b) at k = absurd cc
negating-at R end count (compare q r l e) at k = absurd cc
negating-at R end count (negate q d) at k =
    let O = one_in sort.Condition R end d _ at.stands in
    record {
      place = q;
      d = d;
      is = refl;
      size = ap (λ (x : Row). x.size) O.own;
      part = record { stands = O.left; over = at.over };
      part-size = size_in_lem sort.Condition R (end - 1) d O.left;
    }
negating-at R end count (connect q both d e) at k = absurd cc
negating-at R end count (connect q either d e) at k = absurd cc

pub negating : {R : List Row} {end count : ℕ} {t : Condition} → ConditionAt R end count t → (get_or R (end - 1) blank).kind ≡ Not → Negating R end count t
negating {R} {end} {count} {t} at k = negating-at R end count t at (sym (top-kind t at) ∙ k)

pub record Connecting (R : List Row) (end count : ℕ) (t : Condition) : Type 0 where
  pub place : ℕ
  pub j : Connective
  pub l : Condition
  pub r : Condition
  pub is : t ≡ connect place j l r
  pub pair : Pair sort.Condition sort.Condition R end l r (row (connective_kind j) (pos 0) (suc (condition_size l + condition_size r)) place)
  pub left : ConditionAt R (end - 1 - (get_or R (end - 1 - 1) blank).size) count l
  pub right : ConditionAt R (end - 1) count r
  pub joined : (x y : Bool) → connected_at (get_or R (end - 1) blank).kind x y ≡ connected j x y

connected-is : (j : Connective) (x y : Bool) → connected_at (connective_kind j) x y ≡ connected j x y
connected-is both x y = refl
connected-is either x y = refl

pub connecting : {R : List Row} {end count : ℕ} {t : Condition} → ConditionAt R end count t → ((get_or R (end - 1) blank).kind ≡ Truth → ⊥) → ((get_or R (end - 1) blank).kind ≡ Compare → ⊥) → ((get_or R (end - 1) blank).kind ≡ Not → ⊥) → Connecting R end count t
connecting {t = truth q b} at m n o = absurd (m (top-kind (truth q b) at))
connecting {t = compare q k l r} at m n o = absurd (n (top-kind (compare q k l r) at))
connecting {t = negate q d} at m n o = absurd (o (top-kind (negate q d) at))
connecting {R} {end} {t = connect q j l r} at m n o =
    let P = pair sort.Condition sort.Condition R end l r _ at.stands in
    record {
      place = q;
      j = j;
      l = l;
      r = r;
      is = refl;
      pair = P;
      left = record { stands = P.left; over = at.over.0 };
      right = record { stands = P.right; over = at.over.1 };
      joined = λ x y. ap (λ (k : Kind). connected_at k x y) (kind-is P.own) ∙ connected-is j x y;
    }
