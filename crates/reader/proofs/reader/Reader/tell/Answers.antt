use Rattle.std.proofs.Common.{◌≡◌, ℕ, suc, ◌+◌, ◌-◌, List, set, ℤ, ap, ◌∙◌, arith, w32, to_z, of_z}
use Rattle.std.proofs.lemmas.Int.{to_z-of_z}
use Rattle.tables.specs.declared.row.Row.{Row}
use Rattle.tables.specs.Rows.{row}
use Rattle.reader.specs.declared.progress.Progress.{Progress}
use Rattle.reader.proofs.reader.Reader.tell.Goals as goal

pub returns-clause-value : goal.returns-clause-value
returns-clause-value c =
    let n : ℕ = c.args.self.now.progress.count in
    let more : n + 1 ≡ suc n = omega arith in
    let size : n - c.args.first + 1 ≡ suc (n - c.args.first) = omega arith in
    let told : ℤ → ℕ → List Row = λ v s. set c.args.self.now.rows.now n (row c.args.kind v s c.args.place) in
    let pair : List Row → ℕ → List Row × Progress = λ rs k. (rs, record { position = c.args.self.now.progress.position; count = k; depth = c.args.self.now.progress.depth }) in
    let rows : c.put_row.new.rows ≡ told (to_z w32 (of_z w32 c.args.value)) (n - c.args.first + 1) = c.put_row.ensures in
    ap (λ rs. pair rs (n + 1)) (rows ∙ ap (λ v. told v (n - c.args.first + 1)) (to_z-of_z w32 c.args.value c.ranges.value) ∙ ap (told c.args.value) size)
    ∙ ap (pair (told c.args.value (suc (n - c.args.first)))) more
