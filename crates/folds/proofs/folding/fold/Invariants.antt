use Rattle.std.proofs.Common.{◌≡◌, ◌≤◌, [], length, drop}
use Rattle.tables.specs.Passes.{passes}
use Rattle.folds.specs.Stacks.{top_first}
use Rattle.folds.proofs.folding.fold.Given as goal

-- what is left of the rows gives the answer; the slots that no row has used are as they were
abbrev pub invariant-loop-row : goal.invariant-loop-row
invariant-loop-row g l = record {
  passes :
      passes g.A.Algebra.sums g.A.Algebra.rest (drop l.row-index l.rows) (top_first l.stack.held l.stack.slots.now)
      ≡ passes g.A.Algebra.sums g.A.Algebra.rest l.rows [];
  held : l.stack.held ≤ l.row-index;
  size : length l.stack.slots.now ≡ length l.initial.stack.slots.now;
  spare : drop (length l.rows) l.stack.slots.now ≡ drop (length l.rows) l.initial.stack.slots.now;
  lender : l.stack.slots.ghost_name ≡ l.initial.stack.slots.ghost_name;
}
