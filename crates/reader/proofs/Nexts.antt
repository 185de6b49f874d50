-- The next token, once it was seen, and what was seen, once it was taken or refused.
use Rattle.std.proofs.Common.{◌≡◌, ℕ, ◌<◌, Bool, ◌⊎◌, inl, inr, List, ◌∷◌, ℤ, Some, Ok, Err, Result, sym, refl, ap, ◌∙◌, subst, arith}
use Rattle.faults.specs.declared.causes.ReaderCause.{ReaderCause}
use Rattle.arith.specs.declared.operator.Operator.{Operator}
use Rattle.arith.specs.declared.comparison.Comparison.{Comparison}
use Rattle.grammar.specs.declared.lexeme.Lexeme.{Lexeme}
use Rattle.grammar.specs.declared.lexeme.Lexeme.TheVariants as lexeme
use Rattle.grammar.specs.declared.choice.Operand.TheVariants as operand
use Rattle.grammar.specs.declared.choice.Join.TheVariants as join
use Rattle.grammar.specs.declared.choice.LiteralStart.TheVariants as literal
use Rattle.grammar.specs.declared.choice.Link.TheVariants as link
use Rattle.grammar.specs.declared.choice.CommandStart.{CommandStart}
use Rattle.grammar.specs.declared.choice.CommandStart.TheVariants as command
use Rattle.grammar.specs.declared.choice.Mark.TheVariants as mark
use Rattle.grammar.specs.Choices.{operand_of, join_of, comparison_of, literal_of, link_of, command_of, mark_of, depth_after}
use Rattle.grammar.specs.Lexemes.{Tok, tok}
use Rattle.grammar.specs.Machine.{State, refused, step, run}
use Rattle.grammar.proofs.Backwards.{operand-back, join-back, comparison-back, literal-back, link-back, command-back, mark-back}
use Rattle.grammar.proofs.Lexing.{run-refused}
use Rattle.reader.specs.declared.seen.Seen.{Seen}
use Rattle.reader.specs.declared.seen.Refusal.{Refusal}
use Rattle.reader.specs.Ahead.{ahead, follow, HereIs, seen_as}
use Rattle.reader.specs.Ordering.{EndsSheet}

-- the lexemes that are taken

pub number-taken : {l : Lexeme} {v : ℤ} → operand_of l ≡ Ok (operand.Number v) → l ≡ lexeme.Number v
number-taken {l} e = operand-back l e

pub name-taken : {l : Lexeme} {x : ℕ} → operand_of l ≡ Ok (operand.Name x) → l ≡ lexeme.Name x
name-taken {l} e = operand-back l e

pub bracket-taken : {l : Lexeme} → operand_of l ≡ Ok operand.Bracket → l ≡ lexeme.Open
bracket-taken {l} e = operand-back l e

pub additive-taken : {l : Lexeme} {o : Operator} → join_of l ≡ Some (join.Additive o) → l ≡ lexeme.Additive o
additive-taken {l} e = join-back l e

pub multiplicative-taken : {l : Lexeme} {o : Operator} → join_of l ≡ Some (join.Multiplicative o) → l ≡ lexeme.Multiplicative o
multiplicative-taken {l} e = join-back l e

pub comparison-taken : {l : Lexeme} {c : Comparison} → comparison_of l ≡ Some c → l ≡ lexeme.Compare c
comparison-taken {l} e = comparison-back l e

pub truth-taken : {l : Lexeme} {b : Bool} → literal_of l ≡ literal.Truth b → l ≡ lexeme.Truth b
truth-taken {l} e = literal-back l e

pub not_taken : {l : Lexeme} → literal_of l ≡ literal.Not → l ≡ lexeme.Not
not_taken {l} e = literal-back l e

pub literal-bracket-taken : {l : Lexeme} → literal_of l ≡ literal.Bracket → l ≡ lexeme.Open
literal-bracket-taken {l} e = literal-back l e

pub and-taken : {l : Lexeme} → link_of l ≡ Some link.And → l ≡ lexeme.And
and-taken {l} e = link-back l e

pub or-taken : {l : Lexeme} → link_of l ≡ Some link.Or → l ≡ lexeme.Or
or-taken {l} e = link-back l e

pub set-taken : {l : Lexeme} {x : ℕ} → command_of l ≡ Ok (command.Set x) → l ≡ lexeme.Name x
set-taken {l} e = command-back l e

pub if-taken : {l : Lexeme} → command_of l ≡ Ok command.If → l ≡ lexeme.If
if-taken {l} e = command-back l e

pub while-taken : {l : Lexeme} → command_of l ≡ Ok command.While → l ≡ lexeme.While
while-taken {l} e = command-back l e

pub close-block-taken : {l : Lexeme} → command_of l ≡ Ok command.CloseBlock → l ≡ lexeme.CloseBlock
close-block-taken {l} e = command-back l e

pub end-taken : {l : Lexeme} → command_of l ≡ Ok command.End → l ≡ lexeme.End
end-taken {l} e = command-back l e

pub else-taken : {l : Lexeme} → mark_of l ≡ Some mark.Else → l ≡ lexeme.Else
else-taken {l} e = mark-back l e

pub open-taken : {l : Lexeme} → mark_of l ≡ Some mark.Open → l ≡ lexeme.Open
open-taken {l} e = mark-back l e

pub close-taken : {l : Lexeme} → mark_of l ≡ Some mark.Close → l ≡ lexeme.Close
close-taken {l} e = mark-back l e

pub open-block-taken : {l : Lexeme} → mark_of l ≡ Some mark.OpenBlock → l ≡ lexeme.OpenBlock
open-block-taken {l} e = mark-back l e

pub semicolon-taken : {l : Lexeme} → mark_of l ≡ Some mark.Semicolon → l ≡ lexeme.Semicolon
semicolon-taken {l} e = mark-back l e

pub becomes-taken : {l : Lexeme} → mark_of l ≡ Some mark.Becomes → l ≡ lexeme.Becomes
becomes-taken {l} e = mark-back l e

-- what was taken at a place, or refused there

taken : {A : Type 0} (s : Seen) (x : Result A ReaderCause) {y z : A} → Ok y ≡ seen_as s x → y ≡ z → x ≡ Ok z
taken s (Ok v) {y} {z} e is = let same : v ≡ z = cc in ap Ok same
taken s (Err c) e is = absurd (let z : ◌≡◌ {A = ℕ} 0 1 = cc in omega arith)

pub seen-taken : {A : Type 0} (s : Seen) {x w : Result A ReaderCause} {y z : A} → w ≡ x → Ok y ≡ seen_as s w → y ≡ z → x ≡ Ok z
seen-taken s {x} {w} same e is = sym same ∙ taken s w e is

pub seen-refused : {A : Type 0} (s : Seen) (x : Result A ReaderCause) {r : Refusal} → Err r ≡ seen_as s x → (x ≡ Err r.cause) × (r.place ≡ s.place)
seen-refused s (Ok z) e = absurd (let z : ◌≡◌ {A = ℕ} 0 1 = cc in omega arith)
seen-refused s (Err c) {r} e =
    let same : r ≡ record { cause = c; place = s.place } = cc in
    (sym (ap (λ (r : Refusal). Err r.cause) same), ap (λ (r : Refusal). r.place) same)

-- all lexemes but the end have a byte; where a command is wanted, the end is told from all others

abbrev HasByteAs : Result CommandStart ReaderCause → Type 0
HasByteAs (Ok (command.Set x)) = Unit {0}
HasByteAs (Ok command.If) = Unit {0}
HasByteAs (Ok command.While) = Unit {0}
HasByteAs (Ok command.CloseBlock) = Unit {0}
HasByteAs (Ok command.End) = ⊥
HasByteAs (Err c) = Unit {0}

abbrev pub HasByte : Lexeme → Type 0
HasByte l = HasByteAs (command_of l)

pub further : {names : List (List ℕ)} {text : List ℕ} {at : ℕ} {s : Seen} (l : Lexeme) → HereIs names text at s → s.lexeme ≡ l → HasByte l → at < s.end
further l h e b = let P : Lexeme → Type 0 = HasByte in h.moved (λ end. subst P (sym e ∙ end) b)

-- the next token, whose lexeme is known
pub next : {names : List (List ℕ)} {text : List ℕ} {at : ℕ} {s : Seen} (l : Lexeme) → HereIs names text at s → s.lexeme ≡ l → ahead names text at ≡ tok s.place l ∷ follow l (ahead names text s.end)
next {names} {text} {at} {s} l h e = h.tokens ∙ ap (λ k. tok s.place k ∷ follow k (ahead names text s.end)) e

-- the machine takes it
pub taking : {names : List (List ℕ)} {text : List ℕ} {at : ℕ} {s : Seen} (l : Lexeme) → HereIs names text at s → s.lexeme ≡ l → (d : ℕ) (m : State) → run (ahead names text at) d m ≡ run (follow l (ahead names text s.end)) (depth_after l d) (step d m (tok s.place l) (follow l (ahead names text s.end)))
taking l h e d m = ap (λ ts. run ts d m) (next l h e)

-- the machine refuses it, whatever it is
pub refusing : {names : List (List ℕ)} {text : List ℕ} {at : ℕ} {s : Seen} → HereIs names text at s → (d : ℕ) (m : State) (c : ReaderCause) (p : ℕ) → step d m (tok s.place s.lexeme) (follow s.lexeme (ahead names text s.end)) ≡ refused c p → run (ahead names text at) d m ≡ refused c p
refusing {names} {text} {at} {s} h d m c p e =
    let rest : List Tok = follow s.lexeme (ahead names text s.end) in
    taking s.lexeme h refl d m ∙ ap (λ q. run rest (depth_after s.lexeme d) q) e ∙ run-refused rest (depth_after s.lexeme d) c p

-- what ends a sheet: the end of its block, or of the text
pub sheet-ends : (k : Result CommandStart ReaderCause) → EndsSheet k → (k ≡ Ok command.CloseBlock) ⊎ (k ≡ Ok command.End)
sheet-ends (Ok (command.Set x)) e = absurd e
sheet-ends (Ok command.If) e = absurd e
sheet-ends (Ok command.While) e = absurd e
sheet-ends (Ok command.CloseBlock) e = inl refl
sheet-ends (Ok command.End) e = inr refl
sheet-ends (Err c) e = absurd e
