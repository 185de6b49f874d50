-- What a table is: rows form a table over a point count when some sheet has just these rows, its numbers are ones that
-- a number row may hold, its points are below the count, and there are at most 2,048. Places are not judged. Nothing
-- here speaks of how rows are checked; that the check accepts just these is a law on its contract.
use Rattle.std.specs.Prelude.{◌≡◌, ℕ, ◌<◌, ◌≤◌, Bool, true, List, length, ℤ, is_ok, Result}
use Rattle.std.specs.Int.Signed.{non_neg}
use Rattle.faults.specs.declared.fault.Fault.{Fault}
use Rattle.tables.specs.declared.row.Row.{Row}
use Rattle.tables.specs.Trees.{Sum, number, name, work, Condition, truth, compare, negate, connect, Command, set, when, choose, while, Sheet, only, joint}
use Rattle.tables.specs.Rows.{sheet_rows}

-- what a number row may hold
abbrev pub allowed_number : ℤ → Bool
allowed_number v = non_neg v

-- a tree over a point count

abbrev pub SumOver : ℕ → Sum → Type 0
SumOver c (number q v) = allowed_number v ≡ true
SumOver c (name q p) = p < c
SumOver c (work q o l r) = SumOver c l × SumOver c r

abbrev pub ConditionOver : ℕ → Condition → Type 0
ConditionOver c (truth q b) = Unit {0}
ConditionOver c (compare q k l r) = SumOver c l × SumOver c r
ConditionOver c (negate q d) = ConditionOver c d
ConditionOver c (connect q j d e) = ConditionOver c d × ConditionOver c e

abbrev mutual
  pub CommandOver : ℕ → Command → Type 0
  CommandOver c (set q p e) = (p < c) × SumOver c e
  CommandOver c (when q d t) = ConditionOver c d × SheetOver c t
  CommandOver c (choose q d t u) = ConditionOver c d × SheetOver c t × SheetOver c u
  CommandOver c (while q d t) = ConditionOver c d × SheetOver c t

  pub SheetOver : ℕ → Sheet → Type 0
  SheetOver c (only d) = CommandOver c d
  SheetOver c (joint q d t) = CommandOver c d × SheetOver c t

pub record Table (count : ℕ) (rows : List Row) : Type 0 where
  pub tree : Sheet
  pub over : SheetOver count tree
  pub listed : sheet_rows tree ≡ rows
  pub few : length rows ≤ 2048

-- rows are accepted exactly if they form a table over at most 64 points
pub record Accepts (count : ℕ) (rows : List Row) (r : Result (List Row) Fault) : Type 0 where
  pub only : is_ok r ≡ true → Table count rows × (count ≤ 64)
  pub each : Table count rows → count ≤ 64 → is_ok r ≡ true

-- no two sheets have these rows
abbrev pub OneTree : List Row → Type 0
OneTree rows = (t u : Sheet) → sheet_rows t ≡ rows → sheet_rows u ≡ rows → t ≡ u
