-- A row's kind with its parts' values: what it is worth in an algebra, and which one stands on top of a stack.
use Rattle.std.specs.Prelude.{List, Some, Option, slice_get, option_map, option_and_then}
use Rattle.tables.specs.declared.kind.Kind.{Kind}
use Rattle.tables.specs.declared.kind.Kind.TheVariants as kind
use Rattle.tables.specs.declared.row.Row.{Row}
use Rattle.tables.specs.Values.{Sums, Rest}
use Rattle.folds.specs.declared.node.Node.{Node}
use Rattle.folds.specs.declared.node.Node.TheVariants.{Number, Name, Add, Sub, Mul, Div, Truth, Compare, Not, And, Or, Set, If, IfElse, While, Joint}

-- a row's value, by the algebra's function for its kind
abbrev pub node_value : {V : Type 0} → Sums V → Rest V → Row → Node V → V
node_value s a r Number = s.at_number r
node_value s a r Name = s.at_name r
node_value s a r (Add x y) = s.at_add r x y
node_value s a r (Sub x y) = s.at_sub r x y
node_value s a r (Mul x y) = s.at_mul r x y
node_value s a r (Div x y) = s.at_div r x y
node_value s a r Truth = a.at_truth r
node_value s a r (Compare x y) = a.at_compare r x y
node_value s a r (Not x) = a.at_not r x
node_value s a r (And x y) = a.at_and r x y
node_value s a r (Or x y) = a.at_or r x y
node_value s a r (Set x) = a.at_set r x
node_value s a r (If x y) = a.at_if r x y
node_value s a r (IfElse x y z) = a.at_if_else r x y z
node_value s a r (While x y) = a.at_while r x y
node_value s a r (Joint x y) = a.at_joint r x y

-- none where the stack has too few

abbrev pub over_one : {V : Type 0} → (V → Node V) → List V → Option (Node V)
over_one f st = option_map f (slice_get st 0)

abbrev pub over_two : {V : Type 0} → (V → V → Node V) → List V → Option (Node V)
over_two f st = option_and_then (λ x. over_one (f x) st) (slice_get st 1)

abbrev pub over_three : {V : Type 0} → (V → V → V → Node V) → List V → Option (Node V)
over_three f st = option_and_then (λ x. over_two (f x) st) (slice_get st 2)

-- with the values on top of a stack, its top first
abbrev pub node_of : {V : Type 0} → Kind → List V → Option (Node V)
node_of kind.Number st = Some Number
node_of kind.Name st = Some Name
node_of kind.Add st = over_two Add st
node_of kind.Sub st = over_two Sub st
node_of kind.Mul st = over_two Mul st
node_of kind.Div st = over_two Div st
node_of kind.Truth st = Some Truth
node_of kind.Compare st = over_two Compare st
node_of kind.Not st = over_one Not st
node_of kind.And st = over_two And st
node_of kind.Or st = over_two Or st
node_of kind.Set st = over_one Set st
node_of kind.If st = over_two If st
node_of kind.IfElse st = over_three IfElse st
node_of kind.While st = over_two While st
node_of kind.Joint st = over_two Joint st
