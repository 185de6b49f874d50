-- What sort of thing each kind of row is, and of what sorts its parts are, left part first. It is the shape of the
-- trees read off the kinds: the laws of the check say that it is the right one.
use Rattle.std.specs.Prelude.{ℕ, Bool, true, false}
use Rattle.tables.specs.declared.kind.Kind.{Kind}
use Rattle.tables.specs.declared.kind.Kind.TheVariants.{Number, Name, Add, Sub, Mul, Div, Truth, Compare, Not, And, Or, Set, If, IfElse, While, Joint}
use Rattle.tables.specs.declared.sort.Sort as sort
use Rattle.tables.specs.declared.sort.Sort.TheVariants.{Sum, Condition, Command, Sheet}
use Rattle.tables.specs.declared.sort.Parts.{Parts}
use Rattle.tables.specs.declared.sort.Parts.TheVariants.{Zero, One, Two, Three}

abbrev pub sort_of : Kind → sort.Sort
sort_of Number = Sum
sort_of Name = Sum
sort_of Add = Sum
sort_of Sub = Sum
sort_of Mul = Sum
sort_of Div = Sum
sort_of Truth = Condition
sort_of Compare = Condition
sort_of Not = Condition
sort_of And = Condition
sort_of Or = Condition
sort_of Set = Command
sort_of If = Command
sort_of IfElse = Command
sort_of While = Command
sort_of Joint = Sheet

abbrev pub parts_of : Kind → Parts
parts_of Number = Zero
parts_of Name = Zero
parts_of Add = Two Sum Sum
parts_of Sub = Two Sum Sum
parts_of Mul = Two Sum Sum
parts_of Div = Two Sum Sum
parts_of Truth = Zero
parts_of Compare = Two Sum Sum
parts_of Not = One Condition
parts_of And = Two Condition Condition
parts_of Or = Two Condition Condition
parts_of Set = One Sum
parts_of If = Two Condition Sheet
parts_of IfElse = Three Condition Sheet Sheet
parts_of While = Two Condition Sheet
parts_of Joint = Two Command Sheet

-- one command is a sheet too; otherwise only the sort itself serves
abbrev pub serves_as : sort.Sort → sort.Sort → Bool
serves_as Sum Sum = true
serves_as Sum Condition = false
serves_as Sum Command = false
serves_as Sum Sheet = false
serves_as Condition Sum = false
serves_as Condition Condition = true
serves_as Condition Command = false
serves_as Condition Sheet = false
serves_as Command Sum = false
serves_as Command Condition = false
serves_as Command Command = true
serves_as Command Sheet = true
serves_as Sheet Sum = false
serves_as Sheet Condition = false
serves_as Sheet Command = false
serves_as Sheet Sheet = true

abbrev pub count_of : Parts → ℕ
count_of Zero = 0
count_of (One a) = 1
count_of (Two a b) = 2
count_of (Three a b c) = 3

-- how many parts a row has
abbrev pub part_count : Kind → ℕ
part_count k = count_of (parts_of k)
