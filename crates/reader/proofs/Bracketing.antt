-- The one sign or word that was expected, the machine at a bracket, and what was told between brackets.
use Rattle.std.proofs.Common.{◌≡◌, ℕ, suc, pred, ◌≤◌, List, length, sym, ap, ◌∙◌}
use Rattle.faults.specs.declared.causes.ReaderCause.TheVariants.{TooManyOpen}
use Rattle.tables.specs.declared.row.Row.{Row}
use Rattle.grammar.specs.declared.choice.Mark.{Mark}
use Rattle.grammar.specs.Choices.{mark_of}
use Rattle.grammar.specs.Lexemes.{Tok, tok}
use Rattle.grammar.specs.Machine.{State, refused, refuse, room, run}
use Rattle.grammar.proofs.Lexing.{run-refused}
use Rattle.reader.specs.declared.seen.Seen.{Seen}
use Rattle.reader.specs.declared.seen.Refusal.{Refusal}
use Rattle.reader.specs.declared.progress.Progress.{Progress}
use Rattle.reader.specs.Ahead.{ahead, follow}
use Rattle.reader.specs.Progressing.{if_mark, Missed, Wrote}
use Rattle.reader.proofs.Entering.{Entered, Barred}
use Rattle.reader.proofs.Writing.{within-told}

-- the machine refuses what is not the one that was expected

pub missing : {names : List (List ℕ)} {text : List ℕ} {wanted : Mark} {a : Progress} {r : Refusal} (m : Missed wanted names text a r) (d : ℕ) (go : State) → run (follow m.seen.lexeme (ahead names text m.seen.end)) d (if_mark wanted (mark_of m.seen.lexeme) go (refuse (tok m.seen.place m.seen.lexeme))) ≡ refused r.cause r.place
missing {names} {text} m d go =
    let rest : List Tok = follow m.seen.lexeme (ahead names text m.seen.end) in
    ap (λ q. run rest d q) (m.not _ _) ∙ run-refused rest d _ _ ∙ sym (ap (λ (r : Refusal). refused r.cause r.place) m.refusal)

-- the machine goes on behind a bracket, or refuses it

pub room-left : {a z : Progress} {s : Seen} → Entered a s z → (ts : List Tok) (m : State) → run ts (suc a.depth) (room a.depth s.place m) ≡ run ts (suc a.depth) m
room-left {a} {z} {s} e ts m = ap (λ q. run ts (suc a.depth) q) (e.room_for s.place m)

pub no_room : {a : Progress} {s : Seen} {r : Refusal} → Barred a s r → (ts : List Tok) (d : ℕ) (m : State) → run ts d (room a.depth s.place m) ≡ refused r.cause r.place
no_room {a} {s} {r} e ts d m =
    ap (λ q. run ts d q) (e.no_room s.place m) ∙ run-refused ts d TooManyOpen s.place
    ∙ sym (ap (λ c. refused c r.place) e.cause ∙ ap (λ p. refused TooManyOpen p) e.place)

-- what was told between brackets was told with them
pub between : {text : List ℕ} (a : Progress) {y z : Progress} (w : Progress) {old new rs : List Row} → y.count ≡ a.count → y.depth ≡ suc a.depth → a.position.at ≤ y.position.at → Wrote text y old z new rs → w.count ≡ z.count → w.depth ≡ pred z.depth → z.position.at ≤ w.position.at → w.position.at ≤ length text → Wrote text a old w new rs
between a w n d le wrote m e up inside = within-told a w n le m (e ∙ ap pred (wrote.depth ∙ d)) up inside wrote
