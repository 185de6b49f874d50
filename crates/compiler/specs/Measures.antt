-- What is measured of a row's tree, from its parts' measures: how long its code is, how deep the stack becomes, and the
-- first row of it that is too deep. On a whole sheet these are the folds' length and depth, and the first of all depths.
use Rattle.std.specs.Prelude.{◌≡◌, ℕ, ◌+◌, max, None, Option}
use Rattle.tables.specs.declared.kind.Kind.{Kind}
use Rattle.tables.specs.declared.kind.Kind.TheVariants as kind
use Rattle.compiler.specs.declared.shape.Shape.{Shape}
use Rattle.compiler.specs.declared.shape.Shape.TheVariants.{Leaf, Not, Pair, Set, If, IfElse, While, Joint}
use Rattle.compiler.specs.declared.measure.Measure.{Measure}
use Rattle.compiler.specs.Depths.{first_of, too_deep}

abbrev pub shape_of : Kind → Shape
shape_of kind.Number = Leaf
shape_of kind.Name = Leaf
shape_of kind.Add = Pair
shape_of kind.Sub = Pair
shape_of kind.Mul = Pair
shape_of kind.Div = Pair
shape_of kind.Truth = Leaf
shape_of kind.Compare = Pair
shape_of kind.Not = Not
shape_of kind.And = Pair
shape_of kind.Or = Pair
shape_of kind.Set = Set
shape_of kind.If = If
shape_of kind.IfElse = IfElse
shape_of kind.While = While
shape_of kind.Joint = Joint

abbrev pub IsShapeOf : Kind → Shape → Type 0
IsShapeOf k s = s ≡ shape_of k

abbrev pub part_count : Shape → ℕ
part_count Leaf = 0
part_count Not = 1
part_count Pair = 2
part_count Set = 1
part_count If = 2
part_count IfElse = 3
part_count While = 2
part_count Joint = 2

-- how many instructions a row adds to its parts' code
abbrev pub own_length : Shape → ℕ
own_length Leaf = 1
own_length Not = 1
own_length Pair = 1
own_length Set = 2
own_length If = 1
own_length IfElse = 2
own_length While = 2
own_length Joint = 0

-- only where both parts are values is the second worked out above the first
abbrev pub two_depth : Shape → ℕ → ℕ → ℕ
two_depth Leaf l r = max l r
two_depth Not l r = max l r
two_depth Pair l r = max l (r + 1)
two_depth Set l r = max l r
two_depth If l r = max l r
two_depth IfElse l r = max l r
two_depth While l r = max l r
two_depth Joint l r = max l r

-- a row of this place, after the rows of its parts
abbrev pub judged : ℕ → ℕ → ℕ → Option ℕ → Measure
judged q n d before = record { length = n; depth = d; deep = first_of before (too_deep d q) }

abbrev pub leaf_measure : Measure
leaf_measure = record { length = 1; depth = 1; deep = None }

-- what is worked out above one value more
abbrev pub above_measure : Measure → Measure
above_measure x = record x { depth = x.depth + 1 }

-- one part and then another
abbrev pub then_measure : Measure → Measure → Measure
then_measure x y = record { length = x.length + y.length; depth = max x.depth y.depth; deep = first_of x.deep y.deep }

abbrev pub one_measure : Shape → ℕ → Measure → Measure
one_measure s q x = judged q (x.length + own_length s) x.depth x.deep

abbrev pub two_measure : Shape → ℕ → Measure → Measure → Measure
two_measure s q x y =
    judged q (x.length + y.length + own_length s) (two_depth s x.depth y.depth) (first_of x.deep y.deep)

abbrev pub three_measure : ℕ → Measure → Measure → Measure → Measure
three_measure q x y z =
    judged q (x.length + y.length + z.length + 2) (max x.depth (max y.depth z.depth)) (first_of x.deep (first_of y.deep z.deep))
