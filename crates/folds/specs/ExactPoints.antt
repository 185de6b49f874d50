-- That over at most 64 points every point has its bit, so that the algebra's bits are the points: the law that
-- `PointsUsed` keeps as a measure.
use Rattle.std.proofs.Common.{◌≡◌, ℕ, ◌^◌, ◌<◌, ◌≤◌, pos, refl, arith}
use Rattle.std.proofs.lemmas.Bool.{cond-true, lt-ltb}
use Rattle.arith.specs.declared.operator.Operator.TheVariants as operator
use Rattle.tables.specs.Trees.{Sum, number, name, work, both, either, Condition, truth, compare, negate, connect, Command, set, when, choose, while, Sheet, only, joint}
use Rattle.tables.specs.Values.{sum_value, condition_value, command_value, sheet_value}
use Rattle.tables.specs.Tables.{SumOver, ConditionOver, CommandOver, SheetOver}
use Rattle.folds.specs.Folds.{Exact}
use Rattle.folds.specs.PointSets.{bit_of, point_sums, point_rest, sum_points, condition_points, command_points, sheet_points}

module _ (c : ℕ) (few : c ≤ 64) where
  has-bit : (p : ℕ) → p < c → bit_of (pos p) ≡ 2 ^ p
  has-bit p l = cond-true _ _ _ (lt-ltb p 64 (omega arith))

  same-sum : (t : Sum) → SumOver c t → sum_value point_sums t ≡ sum_points t
  same-sum (number q v) w = refl
  same-sum (name q p) w = has-bit p w
  same-sum (work q operator.Add l r) w = cc (same-sum l w.0, same-sum r w.1)
  same-sum (work q operator.Sub l r) w = cc (same-sum l w.0, same-sum r w.1)
  same-sum (work q operator.Mul l r) w = cc (same-sum l w.0, same-sum r w.1)
  same-sum (work q operator.Div l r) w = cc (same-sum l w.0, same-sum r w.1)

  same-condition : (t : Condition) → ConditionOver c t → condition_value point_sums point_rest t ≡ condition_points t
  same-condition (truth q b) w = refl
  same-condition (compare q k l r) w = cc (same-sum l w.0, same-sum r w.1)
  same-condition (negate q d) w = same-condition d w
  same-condition (connect q both d e) w = cc (same-condition d w.0, same-condition e w.1)
  same-condition (connect q either d e) w = cc (same-condition d w.0, same-condition e w.1)

  mutual
    same-command : (t : Command) → CommandOver c t → command_value point_sums point_rest t ≡ command_points t
    same-command (set q p e) w = cc (same-sum e w.1, has-bit p w.0)
    same-command (when q d t) w = cc (same-condition d w.0, same-sheet t w.1)
    same-command (choose q d t u) w = cc (same-condition d w.0, same-sheet t w.1, same-sheet u w.2)
    same-command (while q d t) w = cc (same-condition d w.0, same-sheet t w.1)

    same-sheet : (t : Sheet) → SheetOver c t → sheet_value point_sums point_rest t ≡ sheet_points t
    same-sheet (only d) w = same-command d w
    same-sheet (joint q d t) w = cc (same-command d w.0, same-sheet t w.1)

pub exact_points : Exact point_sums point_rest sheet_points
exact_points c t over few m = same-sheet c few t over
