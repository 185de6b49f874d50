-- Bytes put into others: one after another they are put together, and a list of things is put down thing by thing.
use Rattle.std.proofs.Common.{◌≡◌, ℕ, ◌+◌, ◌*◌, ◌<◌, ◌≤◌, List, [], ◌∷◌, ◌++◌, length, get_or, take, drop, sym, ap, ◌∙◌, arith}
use Rattle.std.specs.List.{flat_map}
use Rattle.std.proofs.Math.Nat.{mul-le-mul_left}
use Rattle.std.proofs.lemmas.Grind.{common_steps}
use Rattle.std.proofs.lemmas.List.{append_assoc, length-append, length-take-le, take_at, drop_at, drop-drop, take_more, flat_map_more}
use Rattle.station_file.specs.Layout.{put}

-- some bytes, and others right after them
pub put-put : (at k : ℕ) (xs ys bs : List ℕ) → k ≡ at + length xs → k ≤ length bs → put k ys (put at xs bs) ≡ put at (xs ++ ys) bs
put-put at k xs ys bs e h =
    let front : length (take at bs ++ xs) ≡ k = length-append (take at bs) xs ∙ ap (λ n. n + length xs) (length-take-le at bs (omega arith)) ∙ sym e in
    let rest = drop (length xs) (drop at bs) in
    let apart : put at xs bs ≡ (take at bs ++ xs) ++ rest = sym (append_assoc (take at bs) xs rest) in
    let first : take k (put at xs bs) ≡ take at bs ++ xs = ap (take k) apart ∙ take_at (take at bs ++ xs) rest k front in
    let last : drop k (put at xs bs) ≡ rest = ap (drop k) apart ∙ drop_at (take at bs ++ xs) rest k front in
    let both : drop (length ys) rest ≡ drop (length (xs ++ ys)) (drop at bs) = drop-drop (length ys) (length xs) (drop at bs) ∙ ap (λ n. drop n (drop at bs)) (sym (length-append xs ys)) in
    let joined = append_assoc (take at bs) xs (ys ++ drop (length ys) rest) in
    let parts = append_assoc xs ys (drop (length (xs ++ ys)) (drop at bs)) in
    cc

module _ {X : Type 0} (f : X → List ℕ) (k : ℕ) (sized : (x : X) → length (f x) ≡ k) where
  pub length-joined : (xs : List X) → length (flat_map f xs) ≡ k * length xs
  length-joined [] = grind (arith, common_steps)
  length-joined (x ∷ xs) = grind (arith, common_steps, sized x, length-joined xs)

  -- one thing more
  pub put-more : (at i : ℕ) (xs : List X) (bs cs ds : List ℕ) (d : X) → i < length xs → at + k * length xs ≤ length bs → cs ≡ put at (flat_map f (take i xs)) bs → ds ≡ put (at + k * i) (f (get_or xs i d)) cs → ds ≡ put at (flat_map f (take (i + 1) xs)) bs
  put-more at i xs bs cs ds d h room e g =
      let fit : at + k * i ≤ length bs = omega (arith, mul-le-mul_left {m = i} {n = length xs} k (omega arith)) in
      let n : length (flat_map f (take i xs)) ≡ k * i = length-joined (take i xs) ∙ ap (λ m. k * m) (length-take-le i xs (omega arith)) in
      let j = flat_map_more f [] (take i xs) (get_or xs i d) in
      let t = take_more xs i d h in
      let p = put-put at (at + k * i) (flat_map f (take i xs)) (f (get_or xs i d)) bs (omega arith) fit in
      cc
