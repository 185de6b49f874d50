-- What the evaluator's functions answer, as outcomes: a value and the steps so far, or a stop with its cause, its place and
-- the steps so far.
use Rattle.std.specs.Prelude.{ℕ, Bool, ◌&&◌, ◌||◌, Ok, Err, Result, unwrap_or}
use Rattle.arith.specs.declared.operator.Operator.{Operator}
use Rattle.arith.specs.declared.operator.Operator.TheVariants.{Div}
use Rattle.tables.specs.declared.kind.Kind.{Kind}
use Rattle.tables.specs.declared.kind.Kind.TheVariants.{And}
use Rattle.tables.specs.Kinds.{operator_in}
use Rattle.screen.specs.declared.halt.Stop.{Stop}
use Rattle.screen.specs.Works.{Out, done, stop}

-- the operator that a row of a sum's kind has
abbrev pub operator_at : Kind → Operator
operator_at k = unwrap_or (operator_in k) Div

-- the connective of a row that has one
abbrev pub connected_at : Kind → Bool → Bool → Bool
connected_at And x y = x && y
connected_at _ x y = x || y

abbrev pub out_of : {A : Type 0} → Result (A × ℕ) Stop → Out A
out_of (Ok v) = done v.1 v.0
out_of (Err s) = stop s.spent s.cause s.place
