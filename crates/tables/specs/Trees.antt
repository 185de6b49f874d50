-- A sheet as a tree: what a table, an answer and a code are all about. The shape is the language's own: sums,
-- conditions, commands, and a sheet of one command or of a command and a sheet after it, so that commands a b c are
-- joined in one way only. The first number of every case is its place in the sheet's text.
use Rattle.std.specs.Prelude.{ℕ, Bool, ℤ}
use Rattle.arith.specs.declared.operator.Operator.{Operator}
use Rattle.arith.specs.declared.comparison.Comparison.{Comparison}

pub data Sum : Type 0 where
  number : ℕ → ℤ → Sum
  name : ℕ → ℕ → Sum
  work : ℕ → Operator → Sum → Sum → Sum

pub data Connective : Type 0 where
  both either : Connective

pub data Condition : Type 0 where
  truth : ℕ → Bool → Condition
  compare : ℕ → Comparison → Sum → Sum → Condition
  negate : ℕ → Condition → Condition
  connect : ℕ → Connective → Condition → Condition → Condition

mutual
  pub data Command : Type 0 where
    set : ℕ → ℕ → Sum → Command
    when : ℕ → Condition → Sheet → Command
    choose : ℕ → Condition → Sheet → Sheet → Command
    while : ℕ → Condition → Sheet → Command

  pub data Sheet : Type 0 where
    only : Command → Sheet
    joint : ℕ → Command → Sheet → Sheet
