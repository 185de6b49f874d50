-- A tree's value in an algebra: a kind of value, and for each of the sixteen kinds of rows a function from the row and
-- its parts' values. The six functions of sums stand in a record of their own, since a sum needs no others.
use Rattle.std.specs.Prelude.{pos}
use Rattle.arith.specs.declared.operator.Operator.{Operator}
use Rattle.arith.specs.declared.operator.Operator.TheVariants as operator
use Rattle.arith.specs.Comparisons.{comparison_number}
use Rattle.tables.specs.declared.kind.Kind.TheVariants as kind
use Rattle.tables.specs.declared.row.Row.{Row}
use Rattle.tables.specs.Trees.{Sum, number, name, work, Connective, both, either, Condition, truth, compare, negate, connect, Command, set, when, choose, while, Sheet, only, joint}
use Rattle.tables.specs.Rows.{row, operator_kind, connective_kind, bit, sum_size, condition_size, command_size, sheet_size}

pub record Sums (V : Type 0) : Type 0 where
  pub at_number : Row → V
  pub at_name : Row → V
  pub at_add : Row → V → V → V
  pub at_sub : Row → V → V → V
  pub at_mul : Row → V → V → V
  pub at_div : Row → V → V → V

pub record Rest (V : Type 0) : Type 0 where
  pub at_truth : Row → V
  pub at_compare : Row → V → V → V
  pub at_not : Row → V → V
  pub at_and : Row → V → V → V
  pub at_or : Row → V → V → V
  pub at_set : Row → V → V
  pub at_if : Row → V → V → V
  pub at_if_else : Row → V → V → V → V
  pub at_while : Row → V → V → V
  pub at_joint : Row → V → V → V

module _ {V : Type 0} (s : Sums V) where
  abbrev pub at_operator : Operator → Row → V → V → V
  at_operator operator.Add = s.at_add
  at_operator operator.Sub = s.at_sub
  at_operator operator.Mul = s.at_mul
  at_operator operator.Div = s.at_div

  abbrev pub sum_value : Sum → V
  sum_value (number q v) = s.at_number (row kind.Number v 1 q)
  sum_value (name q p) = s.at_name (row kind.Name (pos p) 1 q)
  sum_value (work q o l r) =
      at_operator o (row (operator_kind o) (pos 0) (sum_size (work q o l r)) q) (sum_value l) (sum_value r)

module _ {V : Type 0} (s : Sums V) (a : Rest V) where
  abbrev pub at_connective : Connective → Row → V → V → V
  at_connective both = a.at_and
  at_connective either = a.at_or

  abbrev pub condition_value : Condition → V
  condition_value (truth q b) = a.at_truth (row kind.Truth (bit b) 1 q)
  condition_value (compare q c l r) =
      a.at_compare (row kind.Compare (pos (comparison_number c)) (condition_size (compare q c l r)) q) (sum_value s l) (sum_value s r)
  condition_value (negate q c) = a.at_not (row kind.Not (pos 0) (condition_size (negate q c)) q) (condition_value c)
  condition_value (connect q j c d) =
      at_connective j (row (connective_kind j) (pos 0) (condition_size (connect q j c d)) q) (condition_value c) (condition_value d)

  abbrev mutual
    pub command_value : Command → V
    command_value (set q p e) = a.at_set (row kind.Set (pos p) (command_size (set q p e)) q) (sum_value s e)
    command_value (when q c t) = a.at_if (row kind.If (pos 0) (command_size (when q c t)) q) (condition_value c) (sheet_value t)
    command_value (choose q c t u) =
        a.at_if_else (row kind.IfElse (pos 0) (command_size (choose q c t u)) q) (condition_value c) (sheet_value t) (sheet_value u)
    command_value (while q c t) =
        a.at_while (row kind.While (pos 0) (command_size (while q c t)) q) (condition_value c) (sheet_value t)

    pub sheet_value : Sheet → V
    sheet_value (only c) = command_value c
    sheet_value (joint q c t) = a.at_joint (row kind.Joint (pos 0) (sheet_size (joint q c t)) q) (command_value c) (sheet_value t)
