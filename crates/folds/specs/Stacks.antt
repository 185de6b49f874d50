-- What a stack in lent slots holds, its top first: the first n slots, the last of them on top.
use Rattle.std.specs.Prelude.{ℕ, List, reverse, take}

abbrev pub top_first : {T : Type 0} → ℕ → List T → List T
top_first n xs = reverse (take n xs)
