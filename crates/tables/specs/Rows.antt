-- The rows of a tree, in the table's order: a row stands after its parts, the left part first, and its size counts
-- itself and the rows of its parts.
use Rattle.std.specs.Prelude.{ℕ, suc, ◌+◌, Bool, true, false, List, [], ◌∷◌, ◌++◌, ℤ, pos}
use Rattle.arith.specs.declared.operator.Operator.{Operator}
use Rattle.arith.specs.declared.operator.Operator.TheVariants as operator
use Rattle.arith.specs.Comparisons.{comparison_number}
use Rattle.tables.specs.declared.kind.Kind.{Kind}
use Rattle.tables.specs.declared.kind.Kind.TheVariants.{Number, Name, Add, Sub, Mul, Div, Truth, Compare, Not, And, Or, Set, If, IfElse, While, Joint}
use Rattle.tables.specs.declared.row.Row.{Row}
use Rattle.tables.specs.Trees.{Sum, number, name, work, Connective, both, either, Condition, truth, compare, negate, connect, Command, set, when, choose, while, Sheet, only, joint}

-- a number row of zeros
abbrev pub blank : Row
blank = record { kind = Number; value = pos 0; size = 0; place = 0 }

abbrev pub row : Kind → ℤ → ℕ → ℕ → Row
row k v n q = record { kind = k; value = v; size = n; place = q }

abbrev pub operator_kind : Operator → Kind
operator_kind operator.Add = Add
operator_kind operator.Sub = Sub
operator_kind operator.Mul = Mul
operator_kind operator.Div = Div

abbrev pub connective_kind : Connective → Kind
connective_kind both = And
connective_kind either = Or

-- true is 1, false is 0
abbrev pub bit : Bool → ℤ
bit true = pos 1
bit false = pos 0

-- how many rows a tree has

abbrev pub sum_size : Sum → ℕ
sum_size (number q v) = 1
sum_size (name q p) = 1
sum_size (work q o l r) = suc (sum_size l + sum_size r)

abbrev pub condition_size : Condition → ℕ
condition_size (truth q b) = 1
condition_size (compare q c l r) = suc (sum_size l + sum_size r)
condition_size (negate q c) = suc (condition_size c)
condition_size (connect q j c d) = suc (condition_size c + condition_size d)

abbrev mutual
  pub command_size : Command → ℕ
  command_size (set q p e) = suc (sum_size e)
  command_size (when q c t) = suc (condition_size c + sheet_size t)
  command_size (choose q c t u) = suc (condition_size c + (sheet_size t + sheet_size u))
  command_size (while q c t) = suc (condition_size c + sheet_size t)

  pub sheet_size : Sheet → ℕ
  sheet_size (only c) = command_size c
  sheet_size (joint q c t) = suc (command_size c + sheet_size t)

-- the rows, in order

abbrev pub sum_rows : Sum → List Row
sum_rows (number q v) = row Number v 1 q ∷ []
sum_rows (name q p) = row Name (pos p) 1 q ∷ []
sum_rows (work q o l r) = sum_rows l ++ (sum_rows r ++ row (operator_kind o) (pos 0) (sum_size (work q o l r)) q ∷ [])

abbrev pub condition_rows : Condition → List Row
condition_rows (truth q b) = row Truth (bit b) 1 q ∷ []
condition_rows (compare q c l r) =
    sum_rows l ++ (sum_rows r ++ row Compare (pos (comparison_number c)) (condition_size (compare q c l r)) q ∷ [])
condition_rows (negate q c) = condition_rows c ++ row Not (pos 0) (condition_size (negate q c)) q ∷ []
condition_rows (connect q j c d) =
    condition_rows c ++ (condition_rows d ++ row (connective_kind j) (pos 0) (condition_size (connect q j c d)) q ∷ [])

abbrev mutual
  pub command_rows : Command → List Row
  command_rows (set q p e) = sum_rows e ++ row Set (pos p) (command_size (set q p e)) q ∷ []
  command_rows (when q c t) = condition_rows c ++ (sheet_rows t ++ row If (pos 0) (command_size (when q c t)) q ∷ [])
  command_rows (choose q c t u) =
      condition_rows c ++ (sheet_rows t ++ (sheet_rows u ++ row IfElse (pos 0) (command_size (choose q c t u)) q ∷ []))
  command_rows (while q c t) = condition_rows c ++ (sheet_rows t ++ row While (pos 0) (command_size (while q c t)) q ∷ [])

  pub sheet_rows : Sheet → List Row
  sheet_rows (only c) = command_rows c
  sheet_rows (joint q c t) = command_rows c ++ (sheet_rows t ++ row Joint (pos 0) (sheet_size (joint q c t)) q ∷ [])
