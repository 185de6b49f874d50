-- What reading is for, in the words of the grammar alone: a table is answered for just the sheets that the grammar derives
-- from their tokens within the limits, and its rows are those of the derived tree; and a sheet derives no two trees. So
-- neither a reader that refuses too much nor one that accepts too much keeps this law.
use Rattle.std.specs.Prelude.{◌≡◌, ℕ, ◌≤◌, List, length, Ok, Result}
use Rattle.faults.specs.declared.fault.Fault.{Fault}
use Rattle.tables.specs.declared.row.Row.{Row}
use Rattle.tables.specs.Trees.{Sheet}
use Rattle.tables.specs.Rows.{sheet_size}
use Rattle.names.specs.Names.{Lists}
use Rattle.grammar.specs.Lexemes.{lexemes}
use Rattle.grammar.specs.Limits.{FewOpen}
use Rattle.grammar.specs.Theorem.{Derives}
use Rattle.reader.specs.Reading.{filled}

-- the list names points, and the sheet has this tree, under those names and within the limits: 8,192 bytes, 32 brackets
-- open together, 2,048 rows, and the slots given
pub record Within (list sheet : List ℕ) (slots : ℕ) (t : Sheet) : Type 0 where
  pub names : List (List ℕ)
  pub listed : Lists names list
  pub short : length sheet ≤ 8192
  pub derives : Derives (lexemes names sheet) t
  pub shallow : FewOpen 0 (lexemes names sheet)
  pub few : sheet_size t ≤ 2048
  pub room : sheet_size t ≤ slots

pub record ReadsExactly (list sheet : List ℕ) (old : List Row) (r : Result ℕ Fault) (new : List Row) : Type 0 where
  pub only : (n : ℕ) → r ≡ Ok n → (t : Sheet) × Within list sheet (length old) t × (n ≡ sheet_size t) × (new ≡ filled t old)
  pub each : (t : Sheet) → Within list sheet (length old) t → (r ≡ Ok (sheet_size t)) × (new ≡ filled t old)
  pub once : (names : List (List ℕ)) (t u : Sheet) → Derives (lexemes names sheet) t → Derives (lexemes names sheet) u → t ≡ u
