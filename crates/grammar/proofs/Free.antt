-- The machine without its limit: where no bracket is counted, there is always room. Within the limit it is the machine.
use Rattle.std.proofs.Common.{◌≡◌, ℕ, ◌<◌, ◌≤◌, ltb, List, [], ◌∷◌, Some, None, Ok, Err, Option, Result, refl, ap, ◌∙◌, subst, arith}
use Rattle.std.proofs.lemmas.Bool.{cond-true, lt-ltb}
use Rattle.faults.specs.declared.causes.ReaderCause.{ReaderCause}
use Rattle.grammar.specs.declared.lexeme.Lexeme.{Lexeme}
use Rattle.grammar.specs.declared.lexeme.Lexeme.TheVariants as lexeme
use Rattle.grammar.specs.declared.choice.Operand.{Operand}
use Rattle.grammar.specs.declared.choice.Operand.TheVariants as operand
use Rattle.grammar.specs.declared.choice.LiteralStart.{LiteralStart}
use Rattle.grammar.specs.declared.choice.LiteralStart.TheVariants as literal
use Rattle.grammar.specs.declared.choice.Mark.{Mark}
use Rattle.grammar.specs.declared.choice.Mark.TheVariants as mark
use Rattle.grammar.specs.Lexemes.{Tok, tok}
use Rattle.grammar.specs.Choices.{operand_of, literal_of, mark_of, depth_after}
use Rattle.grammar.specs.Limits.{FewOpen}
use Rattle.grammar.specs.Machine.{Left, Pending, Purpose, Use, State, want, have, lit, had, cmd, becomes, opening, blocking, else_or, done, refused, if_open, if_open_block, room, wanted, begun, step, run}
use Rattle.grammar.proofs.Backwards.{Operands, operand-of, Starts, literal-of, Marks, mark-of}

abbrev pub free : List Tok → State → State
free [] s = s
free (x ∷ xs) s = free xs (step 0 s x xs)

room-free : (d p : ℕ) (s : State) → d < 32 → room d p s ≡ s
room-free d p s h = cond-true (ltb d 32) _ _ (lt-ltb d 32 h)

-- where a bracket has room, nothing else asks how many are open

deeper : {l : Lexeme} (k : Lexeme) (d : ℕ) → l ≡ k → depth_after l d ≤ 32 → depth_after k d ≤ 32
deeper k d e h = subst (λ (l : Lexeme). depth_after l d ≤ 32) e h

wanted-free : (l : Lexeme) (o : Result Operand ReaderCause) → Operands o l → (d p : ℕ) → depth_after l d ≤ 32 → (s m : Left) (k : Use) → wanted d p o s m k ≡ wanted 0 p o s m k
wanted-free l (Ok (operand.Number v)) e d p h s m k = refl
wanted-free l (Ok (operand.Name x)) e d p h s m k = refl
wanted-free l (Ok operand.Bracket) e d p h s m k = room-free d p _ (omega (arith, deeper lexeme.Open d e h))
wanted-free l (Err c) e d p h s m k = refl

begun-free : (l : Lexeme) (o : LiteralStart) → Starts o l → (d p : ℕ) → depth_after l d ≤ 32 → (xs : List Tok) (nots : List ℕ) (ands ors : List Pending) (u : Purpose) → begun o d (tok p l) xs nots ands ors u ≡ begun o 0 (tok p l) xs nots ands ors u
begun-free l (literal.Truth b) e d p h xs nots ands ors u = refl
begun-free l literal.Not e d p h xs nots ands ors u = refl
begun-free l literal.Bracket e d p h xs nots ands ors u = room-free d p _ (omega (arith, deeper lexeme.Open d e h))
begun-free l literal.Sum e d p h xs nots ands ors u = wanted-free l (operand_of l) (operand-of l) d p h _ _ _

open_free : (l : Lexeme) (m : Option Mark) → Marks m l → (d p : ℕ) → depth_after l d ≤ 32 → (s t : State) → if_open m (room d p s) t ≡ if_open m (room 0 p s) t
open_free l (Some mark.Else) e d p h s t = refl
open_free l (Some mark.Open) e d p h s t = room-free d p _ (omega (arith, deeper lexeme.Open d e h))
open_free l (Some mark.Close) e d p h s t = refl
open_free l (Some mark.OpenBlock) e d p h s t = refl
open_free l (Some mark.Semicolon) e d p h s t = refl
open_free l (Some mark.Becomes) e d p h s t = refl
open_free l None e d p h s t = refl

open-block-free : (l : Lexeme) (m : Option Mark) → Marks m l → (d p : ℕ) → depth_after l d ≤ 32 → (s t : State) → if_open_block m (room d p s) t ≡ if_open_block m (room 0 p s) t
open-block-free l (Some mark.Else) e d p h s t = refl
open-block-free l (Some mark.Open) e d p h s t = refl
open-block-free l (Some mark.Close) e d p h s t = refl
open-block-free l (Some mark.OpenBlock) e d p h s t = room-free d p _ (omega (arith, deeper lexeme.OpenBlock d e h))
open-block-free l (Some mark.Semicolon) e d p h s t = refl
open-block-free l (Some mark.Becomes) e d p h s t = refl
open-block-free l None e d p h s t = refl

step-free : (s : State) (d : ℕ) (x : Tok) (xs : List Tok) → depth_after x.lexeme d ≤ 32 → step d s x xs ≡ step 0 s x xs
step-free (want s m k) d x xs h = wanted-free x.lexeme (operand_of x.lexeme) (operand-of x.lexeme) d x.place h s m k
step-free (have s e k) d x xs h = refl
step-free (lit nots ands ors u) d x xs h = begun-free x.lexeme (literal_of x.lexeme) (literal-of x.lexeme) d x.place h xs nots ands ors u
step-free (had c ands ors u) d x xs h = refl
step-free (cmd cs b) d x xs h = refl
step-free (becomes p y cs b) d x xs h = refl
step-free (opening u) d x xs h = open_free x.lexeme (mark_of x.lexeme) (mark-of x.lexeme) d x.place h _ _
step-free (blocking b) d x xs h = open-block-free x.lexeme (mark_of x.lexeme) (mark-of x.lexeme) d x.place h _ _
step-free (else_or p c t cs b) d x xs h = refl
step-free (done t) d x xs h = refl
step-free (refused c p) d x xs h = refl

few-now : (d : ℕ) (xs : List Tok) → FewOpen d xs → d ≤ 32
few-now d [] h = h
few-now d (x ∷ xs) h = h.0

pub within-limit : (ts : List Tok) (d : ℕ) (s : State) → FewOpen d ts → run ts d s ≡ free ts s
within-limit [] d s h = refl
within-limit (x ∷ ts) d s h =
    within-limit ts (depth_after x.lexeme d) (step d s x ts) h.1
    ∙ ap (free ts) (step-free s d x ts (few-now (depth_after x.lexeme d) ts h.1))
