-- Sheets and rows without places: what is left when nobody asks where in a text they stood.
use Rattle.std.specs.Prelude.{List, [], ◌∷◌}
use Rattle.tables.specs.declared.row.Row.{Row}
use Rattle.tables.specs.Trees.{Sum, number, name, work, Condition, truth, compare, negate, connect, Command, set, when, choose, while, Sheet, only, joint}
use Rattle.tables.specs.Rows.{row}

abbrev pub bare_sum : Sum → Sum
bare_sum (number q v) = number 0 v
bare_sum (name q p) = name 0 p
bare_sum (work q o l r) = work 0 o (bare_sum l) (bare_sum r)

abbrev pub bare_condition : Condition → Condition
bare_condition (truth q b) = truth 0 b
bare_condition (compare q k l r) = compare 0 k (bare_sum l) (bare_sum r)
bare_condition (negate q c) = negate 0 (bare_condition c)
bare_condition (connect q j c d) = connect 0 j (bare_condition c) (bare_condition d)

abbrev mutual
  pub bare_command : Command → Command
  bare_command (set q p e) = set 0 p (bare_sum e)
  bare_command (when q c t) = when 0 (bare_condition c) (bare_sheet t)
  bare_command (choose q c t u) = choose 0 (bare_condition c) (bare_sheet t) (bare_sheet u)
  bare_command (while q c t) = while 0 (bare_condition c) (bare_sheet t)

  pub bare_sheet : Sheet → Sheet
  bare_sheet (only c) = only (bare_command c)
  bare_sheet (joint q c t) = joint 0 (bare_command c) (bare_sheet t)

abbrev pub bare_rows : List Row → List Row
bare_rows [] = []
bare_rows (r ∷ rs) = row r.kind r.value r.size 0 ∷ bare_rows rs
