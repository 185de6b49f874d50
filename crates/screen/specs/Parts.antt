-- Where a tree's rows stand in a table: just before `end`. It is how the evaluator's inner functions say which tree
-- they work out; whole tables are spoken of by their tree alone.
use Rattle.std.specs.Prelude.{◌≡◌, ℕ, ◌+◌, ◌-◌, ◌<◌, ◌≤◌, List, length, slice_index_or}
use Rattle.tables.specs.declared.row.Row.{Row}
use Rattle.tables.specs.Trees.{Sum, Condition, Sheet}
use Rattle.tables.specs.Rows.{blank, sum_rows, condition_rows, sheet_rows}
use Rattle.tables.specs.Tables.{SumOver, ConditionOver, SheetOver}

-- the rows xs are the last ones before `end`
pub record Before (rows : List Row) (end : ℕ) (xs : List Row) : Type 0 where
  pub fits : length xs ≤ end
  pub within : end ≤ length rows
  pub same : (j : ℕ) → j < length xs → slice_index_or rows (end - length xs + j) blank ≡ slice_index_or xs j blank

-- a tree over so many points that ends there

pub record SumAt (rows : List Row) (end count : ℕ) (t : Sum) : Type 0 where
  pub stands : Before rows end (sum_rows t)
  pub over : SumOver count t

pub record ConditionAt (rows : List Row) (end count : ℕ) (t : Condition) : Type 0 where
  pub stands : Before rows end (condition_rows t)
  pub over : ConditionOver count t

pub record SheetAt (rows : List Row) (end count : ℕ) (t : Sheet) : Type 0 where
  pub stands : Before rows end (sheet_rows t)
  pub over : SheetOver count t
