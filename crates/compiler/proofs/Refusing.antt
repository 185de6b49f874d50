-- What is refused of a table, and what is known of one that is not refused.
use Rattle.std.proofs.Common.{◌≡◌, ℕ, ◌≤◌, true, List, length, None, sym, ap, ◌∙◌, arith}
use Rattle.std.proofs.lemmas.Bool.Decides.{nat_tests}
use Rattle.tables.specs.declared.row.Row.{Row}
use Rattle.tables.specs.Trees.{Sheet}
use Rattle.tables.specs.Tables.{Table}
use Rattle.tables.specs.Checks.{is_table}
use Rattle.tables.proofs.Growing.{only-tables}
use Rattle.tables.proofs.Standing.{accepts-table}
use Rattle.compiler.specs.Laws.{Compilable}
use Rattle.compiler.proofs.Shallow.{none-sheet}
use Rattle.folds.specs.CodeLengths.{sheet_length}
use Rattle.compiler.specs.declared.measure.Measure.{Measure}
use Rattle.compiler.specs.declared.node.Node.{Node}
use Rattle.compiler.specs.Nodes.{StandsBefore}
use Rattle.compiler.specs.Depths.{first_of, first_deep, sheet_depths}
use Rattle.compiler.specs.Sheets.{sheet_of}
use Rattle.compiler.specs.Compiles.{depth_refusal, room_refusal, code_refusal, refusal}
use Rattle.compiler.specs.Parts.{Part, Stands}
use Rattle.compiler.proofs.Parting.{standing-at}
use Rattle.compiler.proofs.Standing.{sheet-stands}
use Rattle.compiler.proofs.Sheeting.{sheet-of}

-- the limits on code, by what was measured
pub by-measure : {c : ℕ} {rows : List Row} {n : Node} (T : Table c rows) (slots : ℕ) (m : Measure) → StandsBefore rows (length rows) n → ((v : Part) → Stands n.rows.now n.end v → m ≡ v.measure) → code_refusal (sheet_of rows) slots ≡ first_of (depth_refusal m.deep) (room_refusal m.length slots)
by-measure {rows = rows} T slots m at f =
    let S = sheet-stands T.tree rows T.listed in
    ap (λ (u : Sheet). code_refusal u slots) (sheet-of T.tree rows T.listed)
    ∙ sym (ap (λ (w : Measure). first_of (depth_refusal w.deep) (room_refusal w.length slots)) (f S.part (standing-at at S.stands) ∙ S.measure))

-- what is known of a table that is not refused

pub record Passed (c slots : ℕ) (rows : List Row) : Type 0 where
  pub table : Table c rows
  pub few : c ≤ 64
  pub same : sheet_of rows ≡ table.tree
  pub shallow : first_deep (sheet_depths table.tree) ≡ None
  pub short : sheet_length table.tree ≤ 1024
  pub slots-enough : sheet_length table.tree ≤ slots

pub passed : (c slots : ℕ) (rows : List Row) → refusal c rows slots ≡ None → Passed c slots rows
unfolding refusal
passed c slots rows e =
    let is : is_table c rows ≡ true = grind (arith, nat_tests) in
    let T = only-tables c rows is in
    let same = sheet-of T.tree rows T.listed in
    let code : code_refusal T.tree slots ≡ None = ap (λ (u : Sheet). code_refusal u slots) (sym same) ∙ grind (arith, nat_tests) in
    record {
      table = T;
      few = grind (arith, nat_tests);
      same = same;
      shallow = grind (arith, nat_tests);
      short = grind (arith, nat_tests);
      slots-enough = grind (arith, nat_tests);
    }

-- and these tables are not refused
pub not_refused : (c slots : ℕ) (rows : List Row) → Compilable c rows slots → refusal c rows slots ≡ None
unfolding refusal
not_refused c slots rows k =
    rw (accepts-table c rows k.table, sheet-of k.table.tree rows k.table.listed, none-sheet k.table.tree k.shallow)
    (grind (arith, nat_tests, k.few, k.short, k.room))
