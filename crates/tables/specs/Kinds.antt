-- What a kind of row says beside its place in a table: the operator of a sum, and the word by which a listing shows it.
use Rattle.std.specs.Prelude.{◌≡◌, List, ℕ, ℤ, pos, negsuc, Some, None, Option, codes}
use Rattle.arith.specs.declared.operator.Operator.{Operator}
use Rattle.arith.specs.declared.operator.Operator.TheVariants as operator
use Rattle.arith.specs.declared.comparison.Comparison.{Comparison}
use Rattle.arith.specs.Comparisons.{comparison_at}
use Rattle.tables.specs.declared.kind.Kind.{Kind}
use Rattle.tables.specs.declared.kind.Kind.TheVariants.{Number, Name, Add, Sub, Mul, Div, Truth, Compare, Not, And, Or, Set, If, IfElse, While, Joint}
use Rattle.tables.specs.Rows.{operator_kind}

abbrev pub IsKindOf : Operator → Kind → Type 0
IsKindOf o k = k ≡ operator_kind o

abbrev pub operator_in : Kind → Option Operator
operator_in Number = None
operator_in Name = None
operator_in Add = Some operator.Add
operator_in Sub = Some operator.Sub
operator_in Mul = Some operator.Mul
operator_in Div = Some operator.Div
operator_in Truth = None
operator_in Compare = None
operator_in Not = None
operator_in And = None
operator_in Or = None
operator_in Set = None
operator_in If = None
operator_in IfElse = None
operator_in While = None
operator_in Joint = None

-- the comparison that a row's value names; only from 0 to 5 is there one
abbrev pub comparison_in : ℤ → Option Comparison
comparison_in (pos n) = comparison_at n
comparison_in (negsuc n) = None

abbrev pub kind_word : Kind → List ℕ
kind_word Number = codes "number"
kind_word Name = codes "name"
kind_word Add = codes "add"
kind_word Sub = codes "sub"
kind_word Mul = codes "mul"
kind_word Div = codes "div"
kind_word Truth = codes "truth"
kind_word Compare = codes "compare"
kind_word Not = codes "not"
kind_word And = codes "and"
kind_word Or = codes "or"
kind_word Set = codes "set"
kind_word If = codes "if"
kind_word IfElse = codes "if-else"
kind_word While = codes "while"
kind_word Joint = codes "joint"
