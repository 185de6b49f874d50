-- Where a reader may stand: in a sheet that is not too long, under few enough names, behind at least as many bytes as there
-- are rows so far. So points, sizes and places fit their rows, and no count passes its limits.
use Rattle.std.specs.Prelude.{ℕ, ◌≤◌, List, length}
use Rattle.reader.specs.declared.progress.Progress.{Progress}

pub record Stands (names : List (List ℕ)) (text : List ℕ) (a : Progress) : Type 0 where
  pub short : length text ≤ 8192
  pub listed : length names ≤ 64
  pub within : a.position.at ≤ length text
  pub few : a.count ≤ a.position.at
  pub depth : a.depth ≤ 32
