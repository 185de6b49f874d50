-- Where a node stands: in which table, and before which end.
use Rattle.std.specs.Prelude.{◌≡◌, ℕ, List}
use Rattle.tables.specs.declared.row.Row.{Row}
use Rattle.compiler.specs.declared.node.Node.{Node}

pub record StandsBefore (R : List Row) (e : ℕ) (n : Node) : Type 0 where
  pub rows : n.rows.now ≡ R
  pub end : n.end ≡ e
