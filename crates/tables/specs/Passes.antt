-- A pass over rows with a stack of values, its top first: each row takes its parts' values off and puts its own on.
-- That a pass over the rows of a tree leaves the tree's value is a lemma (`proofs/Passing.antt`).
use Rattle.std.specs.Prelude.{List, [], ◌∷◌, Some, None, Option}
use Rattle.tables.specs.declared.kind.Kind.{Kind}
use Rattle.tables.specs.declared.kind.Kind.TheVariants.{Number, Name, Add, Sub, Mul, Div, Truth, Compare, Not, And, Or, Set, If, IfElse, While, Joint}
use Rattle.tables.specs.declared.row.Row.{Row}
use Rattle.tables.specs.Checks.{and_then}
use Rattle.tables.specs.Values.{Sums, Rest}

-- none where the stack has too few

abbrev pub on_one : {V : Type 0} → (V → V) → List V → Option (List V)
on_one f [] = None
on_one f (x ∷ st) = Some (f x ∷ st)

abbrev pub on_two : {V : Type 0} → (V → V → V) → List V → Option (List V)
on_two f [] = None
on_two f (y ∷ st) = on_one (λ x. f x y) st

abbrev pub on_three : {V : Type 0} → (V → V → V → V) → List V → Option (List V)
on_three f [] = None
on_three f (z ∷ st) = on_two (λ x y. f x y z) st

module _ {V : Type 0} (s : Sums V) (a : Rest V) where
  abbrev pub passed : Kind → Row → List V → Option (List V)
  passed Number r st = Some (s.at_number r ∷ st)
  passed Name r st = Some (s.at_name r ∷ st)
  passed Add r st = on_two (s.at_add r) st
  passed Sub r st = on_two (s.at_sub r) st
  passed Mul r st = on_two (s.at_mul r) st
  passed Div r st = on_two (s.at_div r) st
  passed Truth r st = Some (a.at_truth r ∷ st)
  passed Compare r st = on_two (a.at_compare r) st
  passed Not r st = on_one (a.at_not r) st
  passed And r st = on_two (a.at_and r) st
  passed Or r st = on_two (a.at_or r) st
  passed Set r st = on_one (a.at_set r) st
  passed If r st = on_two (a.at_if r) st
  passed IfElse r st = on_three (a.at_if_else r) st
  passed While r st = on_two (a.at_while r) st
  passed Joint r st = on_two (a.at_joint r) st

  abbrev pub passes : List Row → List V → Option (List V)
  passes [] st = Some st
  passes (r ∷ rs) st = and_then (passed r.kind r st) (passes rs)
