use Rattle.std.proofs.Common.{◌≡◌, ℕ, ◌<◌, ◌≤◌, ◌⊎◌, List, length, replicate, Ok, Err, Result, sym, ap, ◌∙◌, subst, inl, inr, ⊎_elim, arith}
use Rattle.std.proofs.lemmas.Result.{err_from_is_err_and}
use Rattle.faults.specs.declared.fault.Fault.{Fault}
use Rattle.tables.specs.declared.row.Row.{Row}
use Rattle.names.specs.Lines.{lines_of}
use Rattle.tables.specs.Rows.{blank}
use Rattle.reader.specs.Reading.{Told, blanks, too_few_slots, reading}
use Rattle.reader.specs.Laws.{ReadsExactly}
use Rattle.reader.specs.Wholes.{UnderRead}
use Rattle.reader.proofs.Wholly.{list-refused, sheet-refused, slots-refused, sheet-read}
use Rattle.reader.proofs.ReadLaws.{reads-exactly}
use Rattle.reader.proofs.sheet.read.Goals as goal

-- the law goes with the value
exactly : (list sheet : List ℕ) (old : List Row) (r : Result ℕ Fault) (new : List Row) → (r, new) ≡ reading list sheet old → ReadsExactly list sheet old r new
exactly list sheet old r new e =
    let P : Told → Type 0 = λ p. ReadsExactly list sheet old p.0 p.1 in
    subst P (sym e) (reads-exactly list sheet old)

pub returns-in_err-names : goal.returns-in_err-names
returns-in_err-names c =
    let p = err_from_is_err_and c.from_residual.result c.from_residual.ensures.1 in
    let old : List Row = c.args.rows.now in
    let e : (c.from_residual.result, old) ≡ reading c.args.list.now c.args.sheet.now old =
    ap (λ r. (r, old)) p.1 ∙ ap (λ f. (Err f, old)) p.2 ∙ list-refused c.args.list.now c.args.sheet.now old c.in_err-names.field-0.0 c.in_err-names.ensures.value in
    record { value = e; exactly = exactly _ _ _ _ _ e }

pub returns-in-Err : goal.returns-in-Err
returns-in-Err c =
    let old : List Row = c.args.rows.now in
    let long : length c.read_under.new.rows ≡ length old = c.read_under.auto.rows ∙ c.clear.auto.rows in
    let e : (Err c.in-Err.fault, c.clear-in-Err.new.rows) ≡ reading c.args.list.now c.args.sheet.now old =
    ap (λ rs. (Err c.in-Err.fault, rs)) (c.clear-in-Err.ensures ∙ ap (λ n. replicate n blank) long)
    ∙ sheet-refused c.args.list.now c.args.sheet.now old c.in_ok-names.names.text.now c.in_ok-names.ensures.value c.in-Err.fault c.in-Err.ensures in
    record { value = e; exactly = exactly _ _ _ _ _ e }

pub returns-then-needed-gt-MOST_ROWS : goal.returns-then-needed-gt-MOST_ROWS
returns-then-needed-gt-MOST_ROWS c =
    let old : List Row = c.args.rows.now in
    let n : ℕ = c.in-Ok.needed in
    let long : length c.read_under.new.rows ≡ length old = c.read_under.auto.rows ∙ c.clear.auto.rows in
    let P : List Row → Type 0 = λ rs. UnderRead (lines_of c.in_ok-names.names.text.now) c.args.sheet.now rs c.read_under.new.rows n in
    let under : P (blanks old) = subst P c.clear.ensures c.in-Ok.ensures in
    let more : (2048 < n) ⊎ (length old < n) = ⊎_elim (λ h. inl h) (λ h. inr (omega (arith, h.1))) c.then-needed-gt-MOST_ROWS.either in
    let e : (Err c.new.result, c.clear-then-needed-gt-MOST_ROWS.new.rows) ≡ reading c.args.list.now c.args.sheet.now old =
    ap (λ f. (Err f, c.clear-then-needed-gt-MOST_ROWS.new.rows)) c.new.ensures
    ∙ ap (λ rs. (Err (too_few_slots n), rs)) (c.clear-then-needed-gt-MOST_ROWS.ensures ∙ ap (λ k. replicate k blank) long)
    ∙ slots-refused c.args.list.now c.args.sheet.now old c.in_ok-names.names.text.now c.in_ok-names.ensures.value c.read_under.new.rows n under more in
    record { value = e; exactly = exactly _ _ _ _ _ e }

pub returns : goal.returns
returns c =
    let old : List Row = c.args.rows.now in
    let n : ℕ = c.in-Ok.needed in
    let long : length c.read_under.new.rows ≡ length old = c.read_under.auto.rows ∙ c.clear.auto.rows in
    let P : List Row → Type 0 = λ rs. UnderRead (lines_of c.in_ok-names.names.text.now) c.args.sheet.now rs c.read_under.new.rows n in
    let under : P (blanks old) = subst P c.clear.ensures c.in-Ok.ensures in
    let room : n ≤ length old = omega (arith, c.if-needed-rows.false) in
    let e : (Ok n, c.read_under.new.rows) ≡ reading c.args.list.now c.args.sheet.now old =
    sheet-read c.args.list.now c.args.sheet.now old c.in_ok-names.names.text.now c.in_ok-names.ensures.value c.read_under.new.rows n under c.if-needed-gt-MOST_ROWS.false room in
    record { value = e; exactly = exactly _ _ _ _ _ e }
