-- A whole sheet: the machine starts at its first token, and its commands, gathered, are its tree.
use Rattle.std.proofs.Common.{◌≡◌, ℕ, suc, ◌+◌, ◌<◌, ◌≤◌, false, ◌&&◌, leb, ◌⊎◌, List, [], ◌∷◌, ◌++◌, length, drop, set, Ok, Err, sym, refl, ap, ◌∙◌, subst, ⊎_elim, arith}
use lib.ListN.{length-replicate}
use lib.Seq.{sets, sets-eq}
use Rattle.std.proofs.lemmas.List.{drop-replicate}
use Rattle.std.proofs.lemmas.Bool.{cond-true, cond-false, le-leb, lt-leb, and_from, and_left, and_right}
use Rattle.faults.specs.declared.causes.ReaderCause.TheVariants.{Unexpected}
use Rattle.faults.specs.declared.fault.Fault.{Fault}
use Rattle.names.specs.Lines.{lines_of}
use Rattle.names.specs.Complaints.{list_read}
use Rattle.tables.specs.declared.row.Row.{Row}
use Rattle.tables.specs.Rows.{blank, sheet_size, sheet_rows}
use Rattle.tables.specs.Trees.{Command, Sheet, only, joint}
use Rattle.grammar.specs.declared.lexeme.Lexeme.TheVariants as lexeme
use Rattle.grammar.specs.declared.choice.CommandStart.TheVariants as command
use Rattle.grammar.specs.Choices.{command_of, refusal_of}
use Rattle.grammar.specs.Lexemes.{Tok, lexemes}
use Rattle.grammar.specs.Machine.{gathered, whole, State, cmd, done, refused, closed, finished, commanded, run, start}
use Rattle.reader.specs.declared.seen.Seen.{Seen}
use Rattle.reader.specs.Ahead.{ahead, HereIs}
use Rattle.reader.specs.Progressing.{put}
use Rattle.reader.specs.Reading.{blanks, filled, too_few_slots, told_by, list_told, reading}
use Rattle.reader.specs.Wholes.{UnderRead, UnderRefused, long, refuses}
use Rattle.reader.specs.Ordering.{pushed, JoinedInPlace, EndAhead}
use Rattle.reader.proofs.Writing.{sheet-long}
use Rattle.reader.proofs.Nexts.{sheet-ends, close-block-taken, end-taken, taking, refusing}

pub all-ahead : (names : List (List ℕ)) (text : List ℕ) → lexemes names text ≡ ahead names text 0
unfolding ahead
all-ahead names text = refl

pub finished-whole : (p : ℕ) (t : Sheet) (cs : List Command) → JoinedInPlace t → finished p (pushed t cs) whole ≡ done (gathered t cs)
finished-whole p (only c) cs j = refl
finished-whole p (joint q c t) cs j = finished-whole p t (c ∷ cs) j.1 ∙ ap (λ n. done (gathered (joint n c t) cs)) (sym j.0)

closed-whole : (p : ℕ) (t : Sheet) (cs : List Command) → closed p (pushed t cs) whole ≡ refused Unexpected p
closed-whole p (only c) cs = refl
closed-whole p (joint q c t) cs = closed-whole p t (c ∷ cs)

module _ {names : List (List ℕ)} {text : List ℕ} {at : ℕ} {s : Seen} (h : HereIs names text at s) (d : ℕ) (t : Sheet) where
  pub ends-here : command_of s.lexeme ≡ Ok command.End → JoinedInPlace t → run (ahead names text at) d (cmd (pushed t []) whole) ≡ done t
  ends-here e j = taking lexeme.End h (end-taken e) d (cmd (pushed t []) whole) ∙ finished-whole s.place t [] j

  -- a bracket that closes no block
  pub goes_on : EndAhead (ahead names text at) → (command_of s.lexeme ≡ Ok command.End → ⊥) → run (ahead names text at) d (cmd (pushed t []) whole) ≡ refused (refusal_of s.lexeme) s.place
  goes_on e n =
      let P : List Tok → Type 0 = EndAhead in
      let l : s.lexeme ≡ lexeme.CloseBlock = close-block-taken (⊎_elim (λ close. close) (λ end. absurd (n end)) (sheet-ends (command_of s.lexeme) (subst P h.tokens e))) in
      refusing h d (cmd (pushed t []) whole) (refusal_of s.lexeme) s.place
      (ap (λ x. commanded (command_of x) s.place (pushed t []) whole) l ∙ closed-whole s.place t [] ∙ ap (λ x. refused (refusal_of x) s.place) (sym l))

-- the rows of a sheet, where there are slots for them, and blank ones behind
pub filled-up : (t : Sheet) (old : List Row) → sheet_size t ≤ length old → put (blanks old) 0 (sheet_rows t) ≡ filled t old
filled-up t old h =
    let n : length (sheet_rows t) ≡ sheet_size t = sheet-long t in
    let z : 0 + length (sheet_rows t) ≡ sheet_size t = omega arith in
    let fits : 0 + length (sheet_rows t) ≤ length (blanks old) = simp length-replicate (omega arith) in
    put-sets (blanks old) 0 (sheet_rows t)
    ∙ sets-eq (sheet_rows t) (blanks old) 0 fits
    ∙ ap (λ k. sheet_rows t ++ drop k (blanks old)) z
    ∙ ap (λ rs. sheet_rows t ++ rs) (drop-replicate (sheet_size t) (length old) blank)
  where
    put-sets : (rows : List Row) (i : ℕ) (rs : List Row) → put rows i rs ≡ sets rows i rs
    put-sets rows i [] = refl
    put-sets rows i (r ∷ rs) = put-sets (set rows i r) (suc i) rs

-- what reading answers, by what came of it

module _ (list sheet : List ℕ) (old : List Row) where
  pub list-refused : (f : Fault) → Err f ≡ list_read list → (Err f, old) ≡ reading list sheet old
  list-refused f e = ap (λ r. list_told r sheet old) e

  module _ (l : List ℕ) (is : Ok l ≡ list_read list) where
    by_state : length sheet ≤ 8192 → (s : State) → run (lexemes (lines_of l) sheet) 0 start ≡ s → told_by s old ≡ reading list sheet old
    by_state h s e =
        sym (ap (λ q. told_by q old) e) ∙ sym (cond-true (leb (length sheet) 8192) _ _ (le-leb (length sheet) 8192 h)) ∙ ap (λ r. list_told r sheet old) is

    pub sheet-refused : (f : Fault) → UnderRefused (lines_of l) sheet f → (Err f, blanks old) ≡ reading list sheet old
    sheet-refused f (long h e) =
        ap (λ g. (Err g, blanks old)) e ∙ sym (cond-false (leb (length sheet) 8192) _ _ (lt-leb (length sheet) 8192 h)) ∙ ap (λ r. list_told r sheet old) is
    sheet-refused f (refuses r h s e) = ap (λ g. (Err g, blanks old)) e ∙ by_state h _ s

    pub slots-refused : (new : List Row) (n : ℕ) → UnderRead (lines_of l) sheet (blanks old) new n → (2048 < n) ⊎ (length old < n) → (Err (too_few_slots n), blanks old) ≡ reading list sheet old
    slots-refused new n u more =
        let t : Sheet = u.all.tree in
        let no_room : (leb (sheet_size t) 2048 && leb (sheet_size t) (length old)) ≡ false =
        ⊎_elim (λ h. and_left _ _ (lt-leb (sheet_size t) 2048 (omega (arith, u.all.count)))) (λ h. and_right _ _ (lt-leb (sheet_size t) (length old) (omega (arith, u.all.count)))) more in
        ap (λ m. (Err (too_few_slots m), blanks old)) u.all.count ∙ sym (cond-false _ _ _ no_room) ∙ by_state u.short (done t) u.all.is

    pub sheet-read : (new : List Row) (n : ℕ) → UnderRead (lines_of l) sheet (blanks old) new n → n ≤ 2048 → n ≤ length old → (Ok n, new) ≡ reading list sheet old
    sheet-read new n u few room =
        let t : Sheet = u.all.tree in
        let a : sheet_size t ≤ 2048 = omega (arith, u.all.count) in
        let b : sheet_size t ≤ length old = omega (arith, u.all.count) in
        ap (λ m. (Ok m, new)) u.all.count ∙ ap (λ rs. (Ok (sheet_size t), rs)) (u.all.rows ∙ filled-up t old b)
        ∙ sym (cond-true _ _ _ (and_from _ _ (le-leb (sheet_size t) 2048 a) (le-leb (sheet_size t) (length old) b))) ∙ by_state u.short (done t) u.all.is
