-- What is known of the names and the text of a reader is known of any that holds the same.
use Rattle.std.proofs.Common.{◌≡◌, ℕ, List, Err, Result, subst}
use Rattle.names.specs.Lines.{lines_of}
use Rattle.grammar.specs.declared.choice.Mark.{Mark}
use Rattle.reader.specs.declared.seen.Seen.{Seen}
use Rattle.reader.specs.declared.seen.Refusal.{Refusal}
use Rattle.reader.specs.declared.progress.Progress.{Progress}
use Rattle.reader.specs.declared.reader.Reader.{Reader}
use Rattle.reader.specs.Ahead.{HereIs}
use Rattle.reader.specs.Progressing.{Passed, Missed}
use Rattle.reader.specs.Holding.{Held, held, Answer, Reads}

carried : (P : List (List ℕ) → List ℕ → Type 0) {h o : Held} → h ≡ o → P (lines_of h.names) h.text → P (lines_of o.names) o.text
carried P e x = let Q : Held → Type 0 = λ (h : Held). P (lines_of h.names) h.text in subst Q e x

pub on : {A : Answer} {p q : Reader} {r : Result (Unit {0}) Refusal} {o : Held} → Reads A p q r → held p ≡ o → A (lines_of o.names) o.text p.progress p.rows.now q.progress q.rows.now r
on {A} {p} {q} {r} h same = carried (λ names text. A names text p.progress p.rows.now q.progress q.rows.now r) same h.answer

pub here : {h o : Held} {at : ℕ} {s : Seen} → h ≡ o → HereIs (lines_of h.names) h.text at s → HereIs (lines_of o.names) o.text at s
here {h} {o} {at} {s} same = carried (λ names text. HereIs names text at s) same

pub passed : {h o : Held} {wanted : Mark} {a z : Progress} {s : Seen} → h ≡ o → Passed wanted (lines_of h.names) h.text a z s → Passed wanted (lines_of o.names) o.text a z s
passed {h} {o} {wanted} {a} {z} {s} same = carried (λ names text. Passed wanted names text a z s) same

pub missed : {h o : Held} {wanted : Mark} {a : Progress} {r : Refusal} → h ≡ o → Missed wanted (lines_of h.names) h.text a r → Missed wanted (lines_of o.names) o.text a r
missed {h} {o} {wanted} {a} {r} same = carried (λ names text. Missed wanted names text a r) same

-- a refusal of a part that is passed on
pub stops : {A : Answer} {o q : Reader} {res : Result (Unit {0}) Refusal} {r : Refusal} → (x : Refusal) × (res ≡ Err x) × (x ≡ r) → held q ≡ held o → A (lines_of o.names.text.now) o.text.now o.progress o.rows.now q.progress q.rows.now (Err r) → Reads A o q res
stops p same h = rw (p.1, p.2) (record { answer = h; same = same })
