-- The depth of every row of a sheet with its place, in the table's order, and the first row that is too deep. The depth
-- of a row is the folds' depth of the tree that ends with it.
use Rattle.std.specs.Prelude.{ℕ, cond, List, [], ◌∷◌, ◌++◌, Some, None, Option, nat_lt}
use Rattle.tables.specs.Trees.{Sum, number, name, work, Condition, truth, compare, negate, connect, Command, set, when, choose, while, Sheet, only, joint}
use Rattle.folds.specs.StackDepths.{sum_depth, condition_depth, command_depth, sheet_depth}

-- a depth and a place
abbrev pub Depth : Type 0
Depth = ℕ × ℕ

abbrev pub sum_depths : Sum → List Depth
sum_depths (number q v) = (1, q) ∷ []
sum_depths (name q p) = (1, q) ∷ []
sum_depths (work q o l r) = sum_depths l ++ (sum_depths r ++ (sum_depth (work q o l r), q) ∷ [])

abbrev pub condition_depths : Condition → List Depth
condition_depths (truth q b) = (1, q) ∷ []
condition_depths (compare q k l r) = sum_depths l ++ (sum_depths r ++ (condition_depth (compare q k l r), q) ∷ [])
condition_depths (negate q c) = condition_depths c ++ (condition_depth (negate q c), q) ∷ []
condition_depths (connect q j c d) =
    condition_depths c ++ (condition_depths d ++ (condition_depth (connect q j c d), q) ∷ [])

abbrev mutual
  pub command_depths : Command → List Depth
  command_depths (set q p e) = sum_depths e ++ (command_depth (set q p e), q) ∷ []
  command_depths (when q c t) = condition_depths c ++ (sheet_depths t ++ (command_depth (when q c t), q) ∷ [])
  command_depths (choose q c t u) =
      condition_depths c ++ (sheet_depths t ++ (sheet_depths u ++ (command_depth (choose q c t u), q) ∷ []))
  command_depths (while q c t) = condition_depths c ++ (sheet_depths t ++ (command_depth (while q c t), q) ∷ [])

  pub sheet_depths : Sheet → List Depth
  sheet_depths (only c) = command_depths c
  sheet_depths (joint q c t) = command_depths c ++ (sheet_depths t ++ (sheet_depth (joint q c t), q) ∷ [])

-- the first of two that is there
abbrev pub first_of : {X : Type 0} → Option X → Option X → Option X
first_of None y = y
first_of (Some x) y = Some x

-- the place of a row that is too deep
abbrev pub too_deep : ℕ → ℕ → Option ℕ
too_deep d q = cond (nat_lt 64 d) (Some q) None

abbrev pub first_deep : List Depth → Option ℕ
first_deep [] = None
first_deep (x ∷ xs) = first_of (too_deep x.0 x.1) (first_deep xs)
