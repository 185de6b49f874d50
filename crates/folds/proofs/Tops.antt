-- A stack in slots, seen from its top.
use Rattle.std.proofs.Common.{◌≡◌, ℕ, ◌-◌, ◌<◌, ◌≤◌, List, length, get_or, drop, arith}
use Rattle.std.proofs.lemmas.Grind.{common_steps}
use Rattle.std.proofs.lemmas.List.{length-take-le, length-drop, get_or-reverse, get_or-take, get_or-drop, same_lists}
use Rattle.folds.specs.Stacks.{top_first}

module _ {T : Type 0} (xs : List T) where
  pub length-top : (n : ℕ) → n ≤ length xs → length (top_first n xs) ≡ n
  length-top n h = grind (arith, common_steps)

  get_or-top : (n k : ℕ) (d : T) → n ≤ length xs → k < n → get_or (top_first n xs) k d ≡ get_or xs (n - 1 - k) d
  get_or-top n k d h l = grind (arith, length-take-le {A = T}, get_or-reverse {X = T}, get_or-take {A = T})

  pub drop-top : (n m : ℕ) → n ≤ length xs → m ≤ n → drop m (top_first n xs) ≡ top_first (n - m) xs
  drop-top n m h l =
      let e = length-top n h in
      let f = length-top (n - m) (omega arith) in
      same_lists (drop m (top_first n xs)) (top_first (n - m) xs) (omega (arith, length-drop {A = T}))
      (λ k d q. grind (arith, length-drop {A = T}, get_or-drop {A = T}, get_or-top))
