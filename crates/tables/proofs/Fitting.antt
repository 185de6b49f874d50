-- Rows that fit up to some place, each of them, and the test of the whole.
use Rattle.std.proofs.Common.{[], ◌∷◌, ◌++◌, ◌≡◌, ℕ, zero, suc, ◌+◌, ◌<◌, ◌≤◌, Bool, true, false, ◌&&◌, leb, List, length, sym, refl, ap, ◌∙◌, subst, inl, inr, add-one, arith}
use Rattle.std.proofs.lemmas.Bool.{and_parts, and_from, and_left, and_right, cases_order, false≢true, le-leb, lt-leb}
use Rattle.std.specs.List.{range_with_len, list_all}
use Rattle.std.proofs.lemmas.List.Folds.{list_all-append}
use Rattle.tables.specs.declared.row.Row.{Row}
use Rattle.tables.specs.Checks.{fits_at, fit_up_to, whole_sheet, is_table}

range-more : (a n : ℕ) → range_with_len a (suc n) ≡ range_with_len a n ++ (a + n) ∷ []
range-more a zero = let e : a ≡ a + 0 = omega arith in ap (λ (k : ℕ). k ∷ []) e
range-more a (suc n) =
    let e : (a + 1) + n ≡ a + suc n = omega arith in
    ap (λ (xs : List ℕ). a ∷ xs) (range-more (a + 1) n ∙ ap (λ (k : ℕ). range_with_len (a + 1) n ++ k ∷ []) e)

last-one : (x y : Bool) → (x && (y && true)) ≡ (x && y)
last-one x true = refl
last-one x false = refl

module _ (c : ℕ) (rows : List Row) where
  -- each row below n fits
  pub each_fits : (n i : ℕ) → fit_up_to c rows n ≡ true → i < n → fits_at c rows i ≡ true
  each_fits zero i f l = absurd (omega arith)
  each_fits (suc n) i f l =
      let p = and_parts (fit_up_to c rows n) (fits_at c rows n) f in
      elim (cases_order i n) [
        | inl e ↦ subst (λ (k : ℕ). fits_at c rows k ≡ true) (sym e) p.1
        | inr o ↦ elim o [ inl b ↦ each_fits n i p.0 b | inr b ↦ absurd (omega arith) ]
      ]

  pub all_fit : (n : ℕ) → ((i : ℕ) → i < n → fits_at c rows i ≡ true) → fit_up_to c rows n ≡ true
  all_fit zero h = refl
  all_fit (suc n) h = and_from _ _ (all_fit n (λ i l. h i (omega arith))) (h n (omega arith))

  -- testing the rows at one place after another
  pub all-below : (n : ℕ) → list_all (fits_at c rows) (range_with_len 0 n) ≡ fit_up_to c rows n
  all-below zero = refl
  all-below (suc n) =
      let e : 0 + n ≡ n = omega arith in
      ap (list_all (fits_at c rows)) (range-more 0 n ∙ ap (λ (k : ℕ). range_with_len 0 n ++ k ∷ []) e)
      ∙ (list_all-append (fits_at c rows) (range_with_len 0 n) (n ∷ [])
      ∙ (last-one (list_all (fits_at c rows) (range_with_len 0 n)) (fits_at c rows n) ∙ ap (λ (b : Bool). b && fits_at c rows n) (all-below n)))
