-- A run, one byte on.
use Rattle.std.proofs.Common.{◌≡◌, ℕ, suc, Bool, true, false, List, ◌∷◌, length, drop, inl, inr, arith}
use Rattle.std.proofs.lemmas.List.Sums.{prefix_len-drop_no, prefix_len-drop_all, prefix_len_stops}
use Rattle.std.proofs.lemmas.Bool.{cases_lt}
use Rattle.scanner.specs.Tokens.{run_of}

module _ (test : ℕ → Bool) where
  pub run_on : (b : ℕ) (bs : List ℕ) → test b ≡ true → run_of test (b ∷ bs) ≡ suc (run_of test bs)
  run_on b bs e = grind arith

  pub run-off : (b : ℕ) (bs : List ℕ) → test b ≡ false → run_of test (b ∷ bs) ≡ 0
  run-off b bs e = grind arith

  pub run_none : (b : ℕ) (bs : List ℕ) → run_of test (b ∷ bs) ≡ 0 → test b ≡ false
  run_none b bs h = grind (arith, run_on b bs)

  -- a run does not go on where it stopped
  pub run-whole : (bs : List ℕ) → run_of test (drop (run_of test bs) bs) ≡ 0
  run-whole bs =
      elim (cases_lt (run_of test bs) (length bs)) [
        | inl h ↦ prefix_len-drop_no test bs _ 0 h (prefix_len_stops test bs 0 h)
        | inr h ↦ prefix_len-drop_all test bs _ h
      ]
