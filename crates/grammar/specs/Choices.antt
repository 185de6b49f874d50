-- What a lexeme is to each place in a sheet at which it can stand. These are tables, a line for each lexeme; what is not
-- taken at a place is refused there, as a byte that begins no token, a number too large, a name that is not
-- listed, or else as unexpected.
use Rattle.std.specs.Prelude.{ℕ, suc, pred, Some, None, Ok, Err, Option, Result}
use Rattle.faults.specs.declared.causes.ReaderCause.{ReaderCause}
use Rattle.faults.specs.declared.causes.ReaderCause.TheVariants.{NoToken, NumberTooLarge, UnlistedName, Unexpected}
use Rattle.arith.specs.declared.comparison.Comparison.{Comparison}
use Rattle.scanner.specs.declared.look.Sight.{Sight}
use Rattle.scanner.specs.declared.look.Sight.TheVariants as sight
use Rattle.grammar.specs.declared.lexeme.Lexeme.{Lexeme}
use Rattle.grammar.specs.declared.lexeme.Lexeme.TheVariants as lexeme
use Rattle.grammar.specs.declared.choice.Operand.{Operand}
use Rattle.grammar.specs.declared.choice.Operand.TheVariants as operand
use Rattle.grammar.specs.declared.choice.Join.{Join}
use Rattle.grammar.specs.declared.choice.Join.TheVariants as join
use Rattle.grammar.specs.declared.choice.LiteralStart.{LiteralStart}
use Rattle.grammar.specs.declared.choice.LiteralStart.TheVariants as literal
use Rattle.grammar.specs.declared.choice.Link.{Link}
use Rattle.grammar.specs.declared.choice.Link.TheVariants as link
use Rattle.grammar.specs.declared.choice.CommandStart.{CommandStart}
use Rattle.grammar.specs.declared.choice.CommandStart.TheVariants as command
use Rattle.grammar.specs.declared.choice.Mark.{Mark}
use Rattle.grammar.specs.declared.choice.Mark.TheVariants as mark

-- where a factor is wanted
abbrev pub operand_of : Lexeme → Result Operand ReaderCause
operand_of (lexeme.Number v) = Ok (operand.Number v)
operand_of lexeme.TooLarge = Err NumberTooLarge
operand_of (lexeme.Name x) = Ok (operand.Name x)
operand_of lexeme.Unlisted = Err UnlistedName
operand_of (lexeme.Truth b) = Err Unexpected
operand_of lexeme.If = Err Unexpected
operand_of lexeme.Else = Err Unexpected
operand_of lexeme.While = Err Unexpected
operand_of (lexeme.Additive o) = Err Unexpected
operand_of (lexeme.Multiplicative o) = Err Unexpected
operand_of (lexeme.Compare c) = Err Unexpected
operand_of lexeme.Not = Err Unexpected
operand_of lexeme.And = Err Unexpected
operand_of lexeme.Or = Err Unexpected
operand_of lexeme.Open = Ok operand.Bracket
operand_of lexeme.Close = Err Unexpected
operand_of lexeme.OpenBlock = Err Unexpected
operand_of lexeme.CloseBlock = Err Unexpected
operand_of lexeme.Semicolon = Err Unexpected
operand_of lexeme.Becomes = Err Unexpected
operand_of lexeme.End = Err Unexpected
operand_of lexeme.Stray = Err NoToken

-- behind a factor
abbrev pub join_of : Lexeme → Option Join
join_of (lexeme.Number v) = None
join_of lexeme.TooLarge = None
join_of (lexeme.Name x) = None
join_of lexeme.Unlisted = None
join_of (lexeme.Truth b) = None
join_of lexeme.If = None
join_of lexeme.Else = None
join_of lexeme.While = None
join_of (lexeme.Additive o) = Some (join.Additive o)
join_of (lexeme.Multiplicative o) = Some (join.Multiplicative o)
join_of (lexeme.Compare c) = None
join_of lexeme.Not = None
join_of lexeme.And = None
join_of lexeme.Or = None
join_of lexeme.Open = None
join_of lexeme.Close = None
join_of lexeme.OpenBlock = None
join_of lexeme.CloseBlock = None
join_of lexeme.Semicolon = None
join_of lexeme.Becomes = None
join_of lexeme.End = None
join_of lexeme.Stray = None

-- behind the left sum of a comparison
abbrev pub comparison_of : Lexeme → Option Comparison
comparison_of (lexeme.Number v) = None
comparison_of lexeme.TooLarge = None
comparison_of (lexeme.Name x) = None
comparison_of lexeme.Unlisted = None
comparison_of (lexeme.Truth b) = None
comparison_of lexeme.If = None
comparison_of lexeme.Else = None
comparison_of lexeme.While = None
comparison_of (lexeme.Additive o) = None
comparison_of (lexeme.Multiplicative o) = None
comparison_of (lexeme.Compare c) = Some c
comparison_of lexeme.Not = None
comparison_of lexeme.And = None
comparison_of lexeme.Or = None
comparison_of lexeme.Open = None
comparison_of lexeme.Close = None
comparison_of lexeme.OpenBlock = None
comparison_of lexeme.CloseBlock = None
comparison_of lexeme.Semicolon = None
comparison_of lexeme.Becomes = None
comparison_of lexeme.End = None
comparison_of lexeme.Stray = None

-- where a literal is wanted; a sum begins where nothing else does
abbrev pub literal_of : Lexeme → LiteralStart
literal_of (lexeme.Number v) = literal.Sum
literal_of lexeme.TooLarge = literal.Sum
literal_of (lexeme.Name x) = literal.Sum
literal_of lexeme.Unlisted = literal.Sum
literal_of (lexeme.Truth b) = literal.Truth b
literal_of lexeme.If = literal.Sum
literal_of lexeme.Else = literal.Sum
literal_of lexeme.While = literal.Sum
literal_of (lexeme.Additive o) = literal.Sum
literal_of (lexeme.Multiplicative o) = literal.Sum
literal_of (lexeme.Compare c) = literal.Sum
literal_of lexeme.Not = literal.Not
literal_of lexeme.And = literal.Sum
literal_of lexeme.Or = literal.Sum
literal_of lexeme.Open = literal.Bracket
literal_of lexeme.Close = literal.Sum
literal_of lexeme.OpenBlock = literal.Sum
literal_of lexeme.CloseBlock = literal.Sum
literal_of lexeme.Semicolon = literal.Sum
literal_of lexeme.Becomes = literal.Sum
literal_of lexeme.End = literal.Sum
literal_of lexeme.Stray = literal.Sum

-- behind a literal
abbrev pub link_of : Lexeme → Option Link
link_of (lexeme.Number v) = None
link_of lexeme.TooLarge = None
link_of (lexeme.Name x) = None
link_of lexeme.Unlisted = None
link_of (lexeme.Truth b) = None
link_of lexeme.If = None
link_of lexeme.Else = None
link_of lexeme.While = None
link_of (lexeme.Additive o) = None
link_of (lexeme.Multiplicative o) = None
link_of (lexeme.Compare c) = None
link_of lexeme.Not = None
link_of lexeme.And = Some link.And
link_of lexeme.Or = Some link.Or
link_of lexeme.Open = None
link_of lexeme.Close = None
link_of lexeme.OpenBlock = None
link_of lexeme.CloseBlock = None
link_of lexeme.Semicolon = None
link_of lexeme.Becomes = None
link_of lexeme.End = None
link_of lexeme.Stray = None

-- where a command is wanted, or the end of its block
abbrev pub command_of : Lexeme → Result CommandStart ReaderCause
command_of (lexeme.Number v) = Err Unexpected
command_of lexeme.TooLarge = Err Unexpected
command_of (lexeme.Name x) = Ok (command.Set x)
command_of lexeme.Unlisted = Err UnlistedName
command_of (lexeme.Truth b) = Err Unexpected
command_of lexeme.If = Ok command.If
command_of lexeme.Else = Err Unexpected
command_of lexeme.While = Ok command.While
command_of (lexeme.Additive o) = Err Unexpected
command_of (lexeme.Multiplicative o) = Err Unexpected
command_of (lexeme.Compare c) = Err Unexpected
command_of lexeme.Not = Err Unexpected
command_of lexeme.And = Err Unexpected
command_of lexeme.Or = Err Unexpected
command_of lexeme.Open = Err Unexpected
command_of lexeme.Close = Err Unexpected
command_of lexeme.OpenBlock = Err Unexpected
command_of lexeme.CloseBlock = Ok command.CloseBlock
command_of lexeme.Semicolon = Err Unexpected
command_of lexeme.Becomes = Err Unexpected
command_of lexeme.End = Ok command.End
command_of lexeme.Stray = Err NoToken

-- where one sign or word alone may stand
abbrev pub mark_of : Lexeme → Option Mark
mark_of (lexeme.Number v) = None
mark_of lexeme.TooLarge = None
mark_of (lexeme.Name x) = None
mark_of lexeme.Unlisted = None
mark_of (lexeme.Truth b) = None
mark_of lexeme.If = None
mark_of lexeme.Else = Some mark.Else
mark_of lexeme.While = None
mark_of (lexeme.Additive o) = None
mark_of (lexeme.Multiplicative o) = None
mark_of (lexeme.Compare c) = None
mark_of lexeme.Not = None
mark_of lexeme.And = None
mark_of lexeme.Or = None
mark_of lexeme.Open = Some mark.Open
mark_of lexeme.Close = Some mark.Close
mark_of lexeme.OpenBlock = Some mark.OpenBlock
mark_of lexeme.CloseBlock = None
mark_of lexeme.Semicolon = Some mark.Semicolon
mark_of lexeme.Becomes = Some mark.Becomes
mark_of lexeme.End = None
mark_of lexeme.Stray = None

-- why a token is refused that no rule takes
abbrev pub refusal_of : Lexeme → ReaderCause
refusal_of (lexeme.Number v) = Unexpected
refusal_of lexeme.TooLarge = Unexpected
refusal_of (lexeme.Name x) = Unexpected
refusal_of lexeme.Unlisted = Unexpected
refusal_of (lexeme.Truth b) = Unexpected
refusal_of lexeme.If = Unexpected
refusal_of lexeme.Else = Unexpected
refusal_of lexeme.While = Unexpected
refusal_of (lexeme.Additive o) = Unexpected
refusal_of (lexeme.Multiplicative o) = Unexpected
refusal_of (lexeme.Compare c) = Unexpected
refusal_of lexeme.Not = Unexpected
refusal_of lexeme.And = Unexpected
refusal_of lexeme.Or = Unexpected
refusal_of lexeme.Open = Unexpected
refusal_of lexeme.Close = Unexpected
refusal_of lexeme.OpenBlock = Unexpected
refusal_of lexeme.CloseBlock = Unexpected
refusal_of lexeme.Semicolon = Unexpected
refusal_of lexeme.Becomes = Unexpected
refusal_of lexeme.End = Unexpected
refusal_of lexeme.Stray = NoToken

-- what a token is to the look ahead
abbrev pub sight_in : Lexeme → Sight
sight_in (lexeme.Number v) = sight.Passes
sight_in lexeme.TooLarge = sight.Passes
sight_in (lexeme.Name x) = sight.Passes
sight_in lexeme.Unlisted = sight.Passes
sight_in (lexeme.Truth b) = sight.Clue
sight_in lexeme.If = sight.Passes
sight_in lexeme.Else = sight.Passes
sight_in lexeme.While = sight.Passes
sight_in (lexeme.Additive o) = sight.Passes
sight_in (lexeme.Multiplicative o) = sight.Passes
sight_in (lexeme.Compare c) = sight.Clue
sight_in lexeme.Not = sight.Clue
sight_in lexeme.And = sight.Clue
sight_in lexeme.Or = sight.Clue
sight_in lexeme.Open = sight.Opens
sight_in lexeme.Close = sight.Closes
sight_in lexeme.OpenBlock = sight.Passes
sight_in lexeme.CloseBlock = sight.Passes
sight_in lexeme.Semicolon = sight.Passes
sight_in lexeme.Becomes = sight.Passes
sight_in lexeme.End = sight.Stops
sight_in lexeme.Stray = sight.Stops

-- how many brackets of either sort are open behind a token
abbrev pub depth_after : Lexeme → ℕ → ℕ
depth_after (lexeme.Number v) = λ d. d
depth_after lexeme.TooLarge = λ d. d
depth_after (lexeme.Name x) = λ d. d
depth_after lexeme.Unlisted = λ d. d
depth_after (lexeme.Truth b) = λ d. d
depth_after lexeme.If = λ d. d
depth_after lexeme.Else = λ d. d
depth_after lexeme.While = λ d. d
depth_after (lexeme.Additive o) = λ d. d
depth_after (lexeme.Multiplicative o) = λ d. d
depth_after (lexeme.Compare c) = λ d. d
depth_after lexeme.Not = λ d. d
depth_after lexeme.And = λ d. d
depth_after lexeme.Or = λ d. d
depth_after lexeme.Open = λ d. suc d
depth_after lexeme.Close = λ d. pred d
depth_after lexeme.OpenBlock = λ d. suc d
depth_after lexeme.CloseBlock = λ d. pred d
depth_after lexeme.Semicolon = λ d. d
depth_after lexeme.Becomes = λ d. d
depth_after lexeme.End = λ d. d
depth_after lexeme.Stray = λ d. d
