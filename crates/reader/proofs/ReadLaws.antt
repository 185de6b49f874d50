-- Reading keeps its law.
use Rattle.std.proofs.Common.{◌≡◌, ℕ, ◌≤◌, Bool, true, false, cond, ◌&&◌, leb, List, length, is_ok, Some, None, Ok, Err, Option, sym, refl, ap, ◌∙◌, subst, arith}
use Rattle.std.proofs.lemmas.Bool.{leb-false, leb-true, le-leb, false≢true, and_parts, and_from}
use Rattle.faults.specs.declared.causes.ReaderCause.TheVariants.{SheetTooLong}
use Rattle.faults.specs.declared.fault.Fault.{Fault}
use Rattle.tables.specs.declared.row.Row.{Row}
use Rattle.tables.specs.Trees.{Sheet}
use Rattle.tables.specs.Rows.{sheet_size}
use Rattle.names.specs.declared.bad_line.BadLine.{BadLine}
use Rattle.names.specs.Lines.{lines_of}
use Rattle.names.specs.Complaints.{bad_line_of, or_fault, list_read}
use Rattle.names.proofs.NameLaws.{accepts-law, listed-lines}
use Rattle.grammar.specs.Lexemes.{lexemes}
use Rattle.grammar.specs.Machine.{State, want, have, lit, had, cmd, becomes, opening, blocking, else_or, done, refused, run, start}
use Rattle.grammar.proofs.Complete.{one-tree}
use Rattle.grammar.proofs.Whole.{reads-just}
use Rattle.reader.specs.Reading.{Told, filled, blanks, reader_fault, too_few_slots, told_by, list_told, reading}
use Rattle.reader.specs.Laws.{Within, ReadsExactly}

abbrev IsDone : State → Type 0
IsDone (want s m k) = ⊥
IsDone (have s e k) = ⊥
IsDone (lit nots ands ors u) = ⊥
IsDone (had c ands ors u) = ⊥
IsDone (cmd cs b) = ⊥
IsDone (becomes q x cs b) = ⊥
IsDone (opening u) = ⊥
IsDone (blocking b) = ⊥
IsDone (else_or q c t cs b) = ⊥
IsDone (done t) = Unit {0}
IsDone (refused c q) = ⊥

err-ok : (f : Fault) (n : ℕ) → Err f ≡ Ok n → ⊥
err-ok f n e = let z : ◌≡◌ {A = ℕ} 0 1 = cc in omega arith

module _ (list sheet : List ℕ) (old : List Row) where
  abbrev Answers : Told → Type 0
  Answers p = ReadsExactly list sheet old p.0 p.1

  -- what is derived is read by the machine
  reads : (t : Sheet) → Within list sheet (length old) t → run (lexemes (lines_of list) sheet) 0 start ≡ done t
  reads t w =
      ap (λ ns. run (lexemes ns sheet) 0 start) (listed-lines w.names list w.listed)
      ∙ (reads-just w.names sheet t).each w.derives w.shallow

  refuses : (f : Fault) (new : List Row) → ((t : Sheet) → Within list sheet (length old) t → ⊥) → Answers (Err f, new)
  refuses f new none =
      record {
        only = λ n e. absurd (err-ok f n e);
        each = λ t w. absurd (none t w);
        once = λ ns. one-tree (lexemes ns sheet);
      }

  module _ (accepted : is_ok (list_read list) ≡ true) (short : length sheet ≤ 8192) (t : Sheet) (is : run (lexemes (lines_of list) sheet) 0 start ≡ done t) where
    same-tree : (u : Sheet) → Within list sheet (length old) u → t ≡ u
    same-tree u w = let e : done t ≡ done u = sym is ∙ reads u w in cc

    within : sheet_size t ≤ 2048 → sheet_size t ≤ length old → Within list sheet (length old) t
    within few room =
        let ns = (accepts-law list).only accepted in
        let e : lines_of list ≡ ns.0 = listed-lines ns.0 list ns.1 in
        let d = (reads-just ns.0 sheet t).only (ap (λ ls. run (lexemes ls sheet) 0 start) (sym e) ∙ is) in
        record { names = ns.0; listed = ns.1; short = short; derives = d.0; shallow = d.1; few = few; room = room }

    slots-told : (b : Bool) → (leb (sheet_size t) 2048 && leb (sheet_size t) (length old)) ≡ b → Answers (cond b (Ok (sheet_size t), filled t old) (Err (too_few_slots (sheet_size t)), blanks old))
    slots-told true e =
        let p = and_parts (leb (sheet_size t) 2048) (leb (sheet_size t) (length old)) e in
        record {
          only = λ n q. (t, within (leb-true (sheet_size t) 2048 p.0) (leb-true (sheet_size t) (length old) p.1), cc, refl);
          each = λ u w. (ap (λ v. Ok (sheet_size v)) (same-tree u w), ap (λ v. filled v old) (same-tree u w));
          once = λ ns. one-tree (lexemes ns sheet);
        }
    slots-told false e =
        refuses _ _ (λ u w.
        let few : sheet_size t ≤ 2048 = subst (λ (v : Sheet). sheet_size v ≤ 2048) (sym (same-tree u w)) w.few in
        let room : sheet_size t ≤ length old = subst (λ (v : Sheet). sheet_size v ≤ length old) (sym (same-tree u w)) w.room in
        false≢true (sym e ∙ and_from _ _ (le-leb (sheet_size t) 2048 few) (le-leb (sheet_size t) (length old) room)))

  module _ (accepted : is_ok (list_read list) ≡ true) (short : length sheet ≤ 8192) where
    not_done : (s : State) → run (lexemes (lines_of list) sheet) 0 start ≡ s → (IsDone s → ⊥) → (f : Fault) → Answers (Err f, blanks old)
    not_done s e n f = refuses f _ (λ t w. let P : State → Type 0 = IsDone in n (subst P (sym (sym e ∙ reads t w)) tt))

    state-told : (s : State) → run (lexemes (lines_of list) sheet) 0 start ≡ s → Answers (told_by s old)
    state-told (want s m k) e = not_done (want s m k) e (λ h. h) _
    state-told (have s x k) e = not_done (have s x k) e (λ h. h) _
    state-told (lit nots ands ors u) e = not_done (lit nots ands ors u) e (λ h. h) _
    state-told (had c ands ors u) e = not_done (had c ands ors u) e (λ h. h) _
    state-told (cmd cs b) e = not_done (cmd cs b) e (λ h. h) _
    state-told (becomes q x cs b) e = not_done (becomes q x cs b) e (λ h. h) _
    state-told (opening u) e = not_done (opening u) e (λ h. h) _
    state-told (blocking b) e = not_done (blocking b) e (λ h. h) _
    state-told (else_or q c t cs b) e = not_done (else_or q c t cs b) e (λ h. h) _
    state-told (done t) e = slots-told accepted short t e _ refl
    state-told (refused c q) e = not_done (refused c q) e (λ h. h) _

  sheet-told : is_ok (list_read list) ≡ true → (b : Bool) → leb (length sheet) 8192 ≡ b → Answers (cond b (told_by (run (lexemes (lines_of list) sheet) 0 start) old) (Err (reader_fault SheetTooLong 8192), blanks old))
  sheet-told accepted true e = state-told accepted (leb-true (length sheet) 8192 e) _ refl
  sheet-told accepted false e = refuses _ _ (λ t w. omega (arith, w.short, leb-false (length sheet) 8192 e))

  list-told : (o : Option BadLine) → bad_line_of list ≡ o → Answers (list_told (or_fault list o) sheet old)
  list-told None e = sheet-told (ap (λ o. is_ok (or_fault list o)) e) (leb (length sheet) 8192) refl
  list-told (Some bad) e = refuses _ _ (λ t w. false≢true (sym (ap (λ o. is_ok (or_fault list o)) e) ∙ (accepts-law list).each w.names w.listed))

  pub reads-exactly : ReadsExactly list sheet old (reading list sheet old).0 (reading list sheet old).1
  reads-exactly = list-told (bad_line_of list) refl
