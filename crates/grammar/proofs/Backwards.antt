-- Which lexeme a choice came from: the tables of choices, read backwards. Where nothing of the place may stand, nothing is
-- said. What a table answered tells which lexeme was taken.
use Rattle.std.proofs.Common.{◌≡◌, Some, None, Ok, Err, Option, Result, refl, subst}
use Rattle.faults.specs.declared.causes.ReaderCause.{ReaderCause}
use Rattle.arith.specs.declared.comparison.Comparison.{Comparison}
use Rattle.grammar.specs.declared.lexeme.Lexeme.{Lexeme}
use Rattle.grammar.specs.declared.lexeme.Lexeme.TheVariants as lexeme
use Rattle.grammar.specs.declared.choice.Operand.{Operand}
use Rattle.grammar.specs.declared.choice.Operand.TheVariants as operand
use Rattle.grammar.specs.declared.choice.Join.{Join}
use Rattle.grammar.specs.declared.choice.Join.TheVariants as join
use Rattle.grammar.specs.declared.choice.LiteralStart.{LiteralStart}
use Rattle.grammar.specs.declared.choice.LiteralStart.TheVariants as literal
use Rattle.grammar.specs.declared.choice.Link.{Link}
use Rattle.grammar.specs.declared.choice.Link.TheVariants as link
use Rattle.grammar.specs.declared.choice.CommandStart.{CommandStart}
use Rattle.grammar.specs.declared.choice.CommandStart.TheVariants as command
use Rattle.grammar.specs.declared.choice.Mark.{Mark}
use Rattle.grammar.specs.declared.choice.Mark.TheVariants as mark
use Rattle.grammar.specs.Choices.{operand_of, join_of, comparison_of, literal_of, link_of, command_of, mark_of}

abbrev pub Operands : Result Operand ReaderCause → Lexeme → Type 0
Operands (Ok (operand.Number v)) l = l ≡ lexeme.Number v
Operands (Ok (operand.Name x)) l = l ≡ lexeme.Name x
Operands (Ok operand.Bracket) l = l ≡ lexeme.Open
Operands (Err c) l = Unit {0}

pub operand-of : (l : Lexeme) → Operands (operand_of l) l
operand-of (lexeme.Number v) = refl
operand-of lexeme.TooLarge = tt
operand-of (lexeme.Name x) = refl
operand-of lexeme.Unlisted = tt
operand-of (lexeme.Truth b) = tt
operand-of lexeme.If = tt
operand-of lexeme.Else = tt
operand-of lexeme.While = tt
operand-of (lexeme.Additive o) = tt
operand-of (lexeme.Multiplicative o) = tt
operand-of (lexeme.Compare k) = tt
operand-of lexeme.Not = tt
operand-of lexeme.And = tt
operand-of lexeme.Or = tt
operand-of lexeme.Open = refl
operand-of lexeme.Close = tt
operand-of lexeme.OpenBlock = tt
operand-of lexeme.CloseBlock = tt
operand-of lexeme.Semicolon = tt
operand-of lexeme.Becomes = tt
operand-of lexeme.End = tt
operand-of lexeme.Stray = tt

pub operand-back : (l : Lexeme) {x : Result Operand ReaderCause} → operand_of l ≡ x → Operands x l
operand-back l e = subst (λ (x : Result Operand ReaderCause). Operands x l) e (operand-of l)

abbrev pub Joins : Option Join → Lexeme → Type 0
Joins (Some (join.Additive o)) l = l ≡ lexeme.Additive o
Joins (Some (join.Multiplicative o)) l = l ≡ lexeme.Multiplicative o
Joins None l = Unit {0}

pub join-of : (l : Lexeme) → Joins (join_of l) l
join-of (lexeme.Number v) = tt
join-of lexeme.TooLarge = tt
join-of (lexeme.Name x) = tt
join-of lexeme.Unlisted = tt
join-of (lexeme.Truth b) = tt
join-of lexeme.If = tt
join-of lexeme.Else = tt
join-of lexeme.While = tt
join-of (lexeme.Additive o) = refl
join-of (lexeme.Multiplicative o) = refl
join-of (lexeme.Compare k) = tt
join-of lexeme.Not = tt
join-of lexeme.And = tt
join-of lexeme.Or = tt
join-of lexeme.Open = tt
join-of lexeme.Close = tt
join-of lexeme.OpenBlock = tt
join-of lexeme.CloseBlock = tt
join-of lexeme.Semicolon = tt
join-of lexeme.Becomes = tt
join-of lexeme.End = tt
join-of lexeme.Stray = tt

pub join-back : (l : Lexeme) {x : Option Join} → join_of l ≡ x → Joins x l
join-back l e = subst (λ (x : Option Join). Joins x l) e (join-of l)

abbrev pub Compares : Option Comparison → Lexeme → Type 0
Compares (Some k) l = l ≡ lexeme.Compare k
Compares None l = Unit {0}

pub comparison-of : (l : Lexeme) → Compares (comparison_of l) l
comparison-of (lexeme.Number v) = tt
comparison-of lexeme.TooLarge = tt
comparison-of (lexeme.Name x) = tt
comparison-of lexeme.Unlisted = tt
comparison-of (lexeme.Truth b) = tt
comparison-of lexeme.If = tt
comparison-of lexeme.Else = tt
comparison-of lexeme.While = tt
comparison-of (lexeme.Additive o) = tt
comparison-of (lexeme.Multiplicative o) = tt
comparison-of (lexeme.Compare k) = refl
comparison-of lexeme.Not = tt
comparison-of lexeme.And = tt
comparison-of lexeme.Or = tt
comparison-of lexeme.Open = tt
comparison-of lexeme.Close = tt
comparison-of lexeme.OpenBlock = tt
comparison-of lexeme.CloseBlock = tt
comparison-of lexeme.Semicolon = tt
comparison-of lexeme.Becomes = tt
comparison-of lexeme.End = tt
comparison-of lexeme.Stray = tt

pub comparison-back : (l : Lexeme) {x : Option Comparison} → comparison_of l ≡ x → Compares x l
comparison-back l e = subst (λ (x : Option Comparison). Compares x l) e (comparison-of l)

abbrev pub Starts : LiteralStart → Lexeme → Type 0
Starts (literal.Truth b) l = l ≡ lexeme.Truth b
Starts literal.Not l = l ≡ lexeme.Not
Starts literal.Bracket l = l ≡ lexeme.Open
Starts literal.Sum l = Unit {0}

pub literal-of : (l : Lexeme) → Starts (literal_of l) l
literal-of (lexeme.Number v) = tt
literal-of lexeme.TooLarge = tt
literal-of (lexeme.Name x) = tt
literal-of lexeme.Unlisted = tt
literal-of (lexeme.Truth b) = refl
literal-of lexeme.If = tt
literal-of lexeme.Else = tt
literal-of lexeme.While = tt
literal-of (lexeme.Additive o) = tt
literal-of (lexeme.Multiplicative o) = tt
literal-of (lexeme.Compare k) = tt
literal-of lexeme.Not = refl
literal-of lexeme.And = tt
literal-of lexeme.Or = tt
literal-of lexeme.Open = refl
literal-of lexeme.Close = tt
literal-of lexeme.OpenBlock = tt
literal-of lexeme.CloseBlock = tt
literal-of lexeme.Semicolon = tt
literal-of lexeme.Becomes = tt
literal-of lexeme.End = tt
literal-of lexeme.Stray = tt

pub literal-back : (l : Lexeme) {x : LiteralStart} → literal_of l ≡ x → Starts x l
literal-back l e = subst (λ (x : LiteralStart). Starts x l) e (literal-of l)

abbrev pub Links : Option Link → Lexeme → Type 0
Links (Some link.And) l = l ≡ lexeme.And
Links (Some link.Or) l = l ≡ lexeme.Or
Links None l = Unit {0}

pub link-of : (l : Lexeme) → Links (link_of l) l
link-of (lexeme.Number v) = tt
link-of lexeme.TooLarge = tt
link-of (lexeme.Name x) = tt
link-of lexeme.Unlisted = tt
link-of (lexeme.Truth b) = tt
link-of lexeme.If = tt
link-of lexeme.Else = tt
link-of lexeme.While = tt
link-of (lexeme.Additive o) = tt
link-of (lexeme.Multiplicative o) = tt
link-of (lexeme.Compare k) = tt
link-of lexeme.Not = tt
link-of lexeme.And = refl
link-of lexeme.Or = refl
link-of lexeme.Open = tt
link-of lexeme.Close = tt
link-of lexeme.OpenBlock = tt
link-of lexeme.CloseBlock = tt
link-of lexeme.Semicolon = tt
link-of lexeme.Becomes = tt
link-of lexeme.End = tt
link-of lexeme.Stray = tt

pub link-back : (l : Lexeme) {x : Option Link} → link_of l ≡ x → Links x l
link-back l e = subst (λ (x : Option Link). Links x l) e (link-of l)

abbrev pub Commands : Result CommandStart ReaderCause → Lexeme → Type 0
Commands (Ok (command.Set x)) l = l ≡ lexeme.Name x
Commands (Ok command.If) l = l ≡ lexeme.If
Commands (Ok command.While) l = l ≡ lexeme.While
Commands (Ok command.CloseBlock) l = l ≡ lexeme.CloseBlock
Commands (Ok command.End) l = l ≡ lexeme.End
Commands (Err c) l = Unit {0}

pub command-of : (l : Lexeme) → Commands (command_of l) l
command-of (lexeme.Number v) = tt
command-of lexeme.TooLarge = tt
command-of (lexeme.Name x) = refl
command-of lexeme.Unlisted = tt
command-of (lexeme.Truth b) = tt
command-of lexeme.If = refl
command-of lexeme.Else = tt
command-of lexeme.While = refl
command-of (lexeme.Additive o) = tt
command-of (lexeme.Multiplicative o) = tt
command-of (lexeme.Compare k) = tt
command-of lexeme.Not = tt
command-of lexeme.And = tt
command-of lexeme.Or = tt
command-of lexeme.Open = tt
command-of lexeme.Close = tt
command-of lexeme.OpenBlock = tt
command-of lexeme.CloseBlock = refl
command-of lexeme.Semicolon = tt
command-of lexeme.Becomes = tt
command-of lexeme.End = refl
command-of lexeme.Stray = tt

pub command-back : (l : Lexeme) {x : Result CommandStart ReaderCause} → command_of l ≡ x → Commands x l
command-back l e = subst (λ (x : Result CommandStart ReaderCause). Commands x l) e (command-of l)

abbrev pub Marks : Option Mark → Lexeme → Type 0
Marks (Some mark.Else) l = l ≡ lexeme.Else
Marks (Some mark.Open) l = l ≡ lexeme.Open
Marks (Some mark.Close) l = l ≡ lexeme.Close
Marks (Some mark.OpenBlock) l = l ≡ lexeme.OpenBlock
Marks (Some mark.Semicolon) l = l ≡ lexeme.Semicolon
Marks (Some mark.Becomes) l = l ≡ lexeme.Becomes
Marks None l = Unit {0}

pub mark-of : (l : Lexeme) → Marks (mark_of l) l
mark-of (lexeme.Number v) = tt
mark-of lexeme.TooLarge = tt
mark-of (lexeme.Name x) = tt
mark-of lexeme.Unlisted = tt
mark-of (lexeme.Truth b) = tt
mark-of lexeme.If = tt
mark-of lexeme.Else = refl
mark-of lexeme.While = tt
mark-of (lexeme.Additive o) = tt
mark-of (lexeme.Multiplicative o) = tt
mark-of (lexeme.Compare k) = tt
mark-of lexeme.Not = tt
mark-of lexeme.And = tt
mark-of lexeme.Or = tt
mark-of lexeme.Open = refl
mark-of lexeme.Close = refl
mark-of lexeme.OpenBlock = refl
mark-of lexeme.CloseBlock = tt
mark-of lexeme.Semicolon = refl
mark-of lexeme.Becomes = refl
mark-of lexeme.End = tt
mark-of lexeme.Stray = tt

pub mark-back : (l : Lexeme) {x : Option Mark} → mark_of l ≡ x → Marks x l
mark-back l e = subst (λ (x : Option Mark). Marks x l) e (mark-of l)
