-- A pass over the rows of a tree puts the tree's value on the stack, in every algebra.
use Rattle.std.proofs.Common.{◌≡◌, List, ◌∷◌, ◌++◌, refl, ap, ◌∙◌, append_assoc}
use Rattle.arith.specs.declared.operator.Operator.TheVariants as operator
use Rattle.tables.specs.declared.row.Row.{Row}
use Rattle.tables.specs.Trees.{Sum, number, name, work, both, either, Condition, truth, compare, negate, connect, Command, set, when, choose, while, Sheet, only, joint}
use Rattle.tables.specs.Rows.{sum_rows, condition_rows, command_rows, sheet_rows}
use Rattle.tables.specs.Values.{Sums, Rest, sum_value, condition_value, command_value, sheet_value}
use Rattle.tables.specs.Passes.{passes}

module _ {V : Type 0} (s : Sums V) (a : Rest V) where
  -- two lists of rows, one after the other, and what comes after them
  apart : (xs ys more : List Row) (st : List V) → passes s a ((xs ++ ys) ++ more) st ≡ passes s a (xs ++ (ys ++ more)) st
  apart xs ys more st = ap (λ (l : List Row). passes s a l st) (append_assoc xs ys more)

  pub pass-sum : (t : Sum) (more : List Row) (st : List V) → passes s a (sum_rows t ++ more) st ≡ passes s a more (sum_value s t ∷ st)
  pass-sum (number q v) more st = refl
  pass-sum (name q p) more st = refl
  pass-sum (work q operator.Add l r) more st = apart (sum_rows l) _ more st ∙ pass-sum l _ st ∙ apart (sum_rows r) _ more _ ∙ pass-sum r _ _
  pass-sum (work q operator.Sub l r) more st = apart (sum_rows l) _ more st ∙ pass-sum l _ st ∙ apart (sum_rows r) _ more _ ∙ pass-sum r _ _
  pass-sum (work q operator.Mul l r) more st = apart (sum_rows l) _ more st ∙ pass-sum l _ st ∙ apart (sum_rows r) _ more _ ∙ pass-sum r _ _
  pass-sum (work q operator.Div l r) more st = apart (sum_rows l) _ more st ∙ pass-sum l _ st ∙ apart (sum_rows r) _ more _ ∙ pass-sum r _ _

  pub pass-condition : (t : Condition) (more : List Row) (st : List V) → passes s a (condition_rows t ++ more) st ≡ passes s a more (condition_value s a t ∷ st)
  pass-condition (truth q b) more st = refl
  pass-condition (compare q c l r) more st = apart (sum_rows l) _ more st ∙ pass-sum l _ st ∙ apart (sum_rows r) _ more _ ∙ pass-sum r _ _
  pass-condition (negate q c) more st = apart (condition_rows c) _ more st ∙ pass-condition c _ st
  pass-condition (connect q both c d) more st =
      apart (condition_rows c) _ more st ∙ pass-condition c _ st ∙ apart (condition_rows d) _ more _ ∙ pass-condition d _ _
  pass-condition (connect q either c d) more st =
      apart (condition_rows c) _ more st ∙ pass-condition c _ st ∙ apart (condition_rows d) _ more _ ∙ pass-condition d _ _

  mutual
    pub pass-command : (t : Command) (more : List Row) (st : List V) → passes s a (command_rows t ++ more) st ≡ passes s a more (command_value s a t ∷ st)
    pass-command (set q p e) more st = apart (sum_rows e) _ more st ∙ pass-sum e _ st
    pass-command (when q c t) more st =
        apart (condition_rows c) _ more st ∙ pass-condition c _ st ∙ apart (sheet_rows t) _ more _ ∙ pass-sheet t _ _
    pass-command (choose q c t u) more st =
        apart (condition_rows c) _ more st ∙ pass-condition c _ st ∙ apart (sheet_rows t) _ more _ ∙ pass-sheet t _ _
        ∙ apart (sheet_rows u) _ more _
        ∙ pass-sheet u _ _
    pass-command (while q c t) more st =
        apart (condition_rows c) _ more st ∙ pass-condition c _ st ∙ apart (sheet_rows t) _ more _ ∙ pass-sheet t _ _

    pub pass-sheet : (t : Sheet) (more : List Row) (st : List V) → passes s a (sheet_rows t ++ more) st ≡ passes s a more (sheet_value s a t ∷ st)
    pass-sheet (only c) more st = pass-command c more st
    pass-sheet (joint q c t) more st =
        apart (command_rows c) _ more st ∙ pass-command c _ st ∙ apart (sheet_rows t) _ more _ ∙ pass-sheet t _ _
