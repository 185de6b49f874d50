-- That no table's depth comes near the largest 32-bit number, so that what the algebra counts is the depth: the law
-- that `StackDepth` keeps as a measure.
use Rattle.std.proofs.Common.{◌≡◌, ◌≤◌, refl, arith}
use Rattle.arith.specs.declared.operator.Operator.TheVariants as operator
use Rattle.tables.specs.declared.sort.Sort.TheVariants as sort
use Rattle.tables.specs.Trees.{Sum, number, name, work, both, either, Condition, truth, compare, negate, connect, Command, set, when, choose, while, Sheet, only, joint}
use Rattle.tables.specs.Rows.{sum_size, condition_size, command_size, sheet_size}
use Rattle.tables.specs.Values.{sum_value, condition_value, command_value, sheet_value}
use Rattle.tables.proofs.OfSort.{length-in}
use Rattle.folds.specs.Folds.{Exact}
use Rattle.folds.specs.StackDepths.{depth_sums, depth_rest, sum_depth, condition_depth, command_depth, sheet_depth}

-- of few rows the depth is small, and then it is what the algebra counts

same-sum : (t : Sum) → sum_size t ≤ 2048 → (sum_value depth_sums t ≡ sum_depth t) × (sum_depth t ≤ sum_size t)
same-sum (number q v) h = (refl, omega arith)
same-sum (name q p) h = (refl, omega arith)
same-sum (work q operator.Add l r) h = let x = same-sum l (omega arith) in let y = same-sum r (omega arith) in (omega arith, omega arith)
same-sum (work q operator.Sub l r) h = let x = same-sum l (omega arith) in let y = same-sum r (omega arith) in (omega arith, omega arith)
same-sum (work q operator.Mul l r) h = let x = same-sum l (omega arith) in let y = same-sum r (omega arith) in (omega arith, omega arith)
same-sum (work q operator.Div l r) h = let x = same-sum l (omega arith) in let y = same-sum r (omega arith) in (omega arith, omega arith)

same-condition : (t : Condition) → condition_size t ≤ 2048 → (condition_value depth_sums depth_rest t ≡ condition_depth t) × (condition_depth t ≤ condition_size t)
same-condition (truth q b) h = (refl, omega arith)
same-condition (compare q k l r) h = let x = same-sum l (omega arith) in let y = same-sum r (omega arith) in (omega arith, omega arith)
same-condition (negate q c) h = let x = same-condition c (omega arith) in (omega arith, omega arith)
same-condition (connect q both c d) h = let x = same-condition c (omega arith) in let y = same-condition d (omega arith) in (omega arith, omega arith)
same-condition (connect q either c d) h = let x = same-condition c (omega arith) in let y = same-condition d (omega arith) in (omega arith, omega arith)

mutual
  same-command : (t : Command) → command_size t ≤ 2048 → (command_value depth_sums depth_rest t ≡ command_depth t) × (command_depth t ≤ command_size t)
  same-command (set q p e) h = let x = same-sum e (omega arith) in (omega arith, omega arith)
  same-command (when q c t) h = let x = same-condition c (omega arith) in let y = same-sheet t (omega arith) in (omega arith, omega arith)
  same-command (choose q c t u) h = let x = same-condition c (omega arith) in let y = same-sheet t (omega arith) in let z = same-sheet u (omega arith) in (omega arith, omega arith)
  same-command (while q c t) h = let x = same-condition c (omega arith) in let y = same-sheet t (omega arith) in (omega arith, omega arith)

  same-sheet : (t : Sheet) → sheet_size t ≤ 2048 → (sheet_value depth_sums depth_rest t ≡ sheet_depth t) × (sheet_depth t ≤ sheet_size t)
  same-sheet (only c) h = same-command c h
  same-sheet (joint q c t) h = let x = same-command c (omega arith) in let y = same-sheet t (omega arith) in (omega arith, omega arith)

pub exact_depths : Exact depth_sums depth_rest sheet_depth
exact_depths c t over few m = (same-sheet t (omega (arith, length-in sort.Sheet t))).0
