-- What reading a sheet answers, as a machine that takes one token after another. A state is what has been read so far:
-- the tree at hand, and around it all that was begun and not yet ended. It looks ahead at one place only, a `(` where
-- a literal is wanted. A refusal is the first token that no rule takes, and stays.
--
-- A reader need not believe it: that it reads just the sheets that the grammar derives within the limits, and as
-- their trees, is a law on the contract of reading. What it adds is which refusal is given, and where.
use Rattle.std.specs.Prelude.{ℕ, Bool, false, cond, List, [], ◌∷◌, Some, None, Ok, Err, Option, Result, nat_lt}
use Rattle.faults.specs.declared.causes.ReaderCause.{ReaderCause}
use Rattle.faults.specs.declared.causes.ReaderCause.TheVariants.{Unexpected, TooManyOpen}
use Rattle.arith.specs.declared.operator.Operator.{Operator}
use Rattle.arith.specs.declared.comparison.Comparison.{Comparison}
use Rattle.scanner.specs.Looks.{seen_by}
use Rattle.tables.specs.Trees.{Sum, number, name, work, Connective, both, either, Condition, truth, compare, negate, connect, Command, set, when, choose, while, Sheet, only, joint}
use Rattle.grammar.specs.declared.choice.Operand.{Operand}
use Rattle.grammar.specs.declared.choice.Operand.TheVariants as operand
use Rattle.grammar.specs.declared.choice.Join.{Join}
use Rattle.grammar.specs.declared.choice.Join.TheVariants as join
use Rattle.grammar.specs.declared.choice.LiteralStart.{LiteralStart}
use Rattle.grammar.specs.declared.choice.LiteralStart.TheVariants as literal
use Rattle.grammar.specs.declared.choice.Link.{Link}
use Rattle.grammar.specs.declared.choice.Link.TheVariants as link
use Rattle.grammar.specs.declared.choice.CommandStart.{CommandStart}
use Rattle.grammar.specs.declared.choice.CommandStart.TheVariants as command
use Rattle.grammar.specs.declared.choice.Mark.{Mark}
use Rattle.grammar.specs.declared.choice.Mark.TheVariants.{Else, Open, Close, OpenBlock, Semicolon, Becomes}
use Rattle.grammar.specs.Choices.{operand_of, join_of, comparison_of, literal_of, link_of, command_of, mark_of, refusal_of, sight_in, depth_after}
use Rattle.grammar.specs.Lexemes.{Tok}
use Rattle.grammar.specs.Grammar.{first_place}

-- the left part of a sum or of a prod, with its sign, where there is one
pub data Left : Type 0 where
  none : Left
  left : ℕ → Operator → Sum → Left

abbrev pub onto : Left → Sum → Sum
onto none e = e
onto (left p o l) e = work p o l e

-- a part on the left of && or ||, and the sign's place
pub record Pending : Type 0 where
  pub place : ℕ
  pub part : Condition

abbrev pub pending : ℕ → Condition → Pending
pending p c = record { place = p; part = c }

-- what a condition is with the parts before it, the latest first
abbrev pub joined : Connective → List Pending → Condition → Condition
joined j [] c = c
joined j (a ∷ ands) c = joined j ands (connect a.place j a.part c)

-- and with the ! before it, the innermost first
abbrev pub negated : List ℕ → Condition → Condition
negated [] c = c
negated (p ∷ ps) c = negated ps (negate p c)

-- the sheet of commands, the latest first
abbrev pub gathered : Sheet → List Command → Sheet
gathered t [] = t
gathered t (c ∷ cs) = gathered (joint (first_place t) c t) cs

abbrev pub sheet_of : Command → List Command → Sheet
sheet_of c cs = gathered (only c) cs

-- which block commands stand in; a block keeps the commands before it, the latest first
pub data Block : Type 0 where
  whole : Block
  if_body : ℕ → Condition → List Command → Block → Block
  else_body : ℕ → Condition → Sheet → List Command → Block → Block
  while_body : ℕ → Condition → List Command → Block → Block

-- what a condition is for: behind if, behind while, or in the brackets of a literal, with the ! and the parts before it
pub data Purpose : Type 0 where
  if_head : ℕ → List Command → Block → Purpose
  while_head : ℕ → List Command → Block → Purpose
  bracket : List ℕ → List Pending → List Pending → Purpose → Purpose

-- what a sum is for: to set a point, on the left of a comparison, on its right, or in brackets
pub data Use : Type 0 where
  to_set : ℕ → ℕ → List Command → Block → Use
  left_of : List ℕ → List Pending → List Pending → Purpose → Use
  right_of : ℕ → Comparison → Sum → List ℕ → List Pending → List Pending → Purpose → Use
  within : Left → Left → Use → Use

pub data State : Type 0 where
  -- a factor is wanted, behind the left parts of its sum and of its prod
  want : Left → Left → Use → State
  -- a prod stands
  have : Left → Sum → Use → State
  -- a literal is wanted, behind the ! and the left parts of its conjunct and of its condition
  lit : List ℕ → List Pending → List Pending → Purpose → State
  -- a literal stands
  had : Condition → List Pending → List Pending → Purpose → State
  -- a command is wanted, or the end of its block
  cmd : List Command → Block → State
  -- = is wanted behind a name
  becomes : ℕ → ℕ → List Command → Block → State
  -- ( is wanted behind if or while
  opening : Purpose → State
  -- { is wanted
  blocking : Block → State
  -- behind an if and its block
  else_or : ℕ → Condition → Sheet → List Command → Block → State
  done : Sheet → State
  refused : ReaderCause → ℕ → State

-- by the one sign or word that may stand

abbrev pub if_else : {A : Type 0} → Option Mark → A → A → A
if_else (Some Else) x y = x
if_else (Some Open) x y = y
if_else (Some Close) x y = y
if_else (Some OpenBlock) x y = y
if_else (Some Semicolon) x y = y
if_else (Some Becomes) x y = y
if_else None x y = y

abbrev pub if_open : {A : Type 0} → Option Mark → A → A → A
if_open (Some Else) x y = y
if_open (Some Open) x y = x
if_open (Some Close) x y = y
if_open (Some OpenBlock) x y = y
if_open (Some Semicolon) x y = y
if_open (Some Becomes) x y = y
if_open None x y = y

abbrev pub if_close : {A : Type 0} → Option Mark → A → A → A
if_close (Some Else) x y = y
if_close (Some Open) x y = y
if_close (Some Close) x y = x
if_close (Some OpenBlock) x y = y
if_close (Some Semicolon) x y = y
if_close (Some Becomes) x y = y
if_close None x y = y

abbrev pub if_open_block : {A : Type 0} → Option Mark → A → A → A
if_open_block (Some Else) x y = y
if_open_block (Some Open) x y = y
if_open_block (Some Close) x y = y
if_open_block (Some OpenBlock) x y = x
if_open_block (Some Semicolon) x y = y
if_open_block (Some Becomes) x y = y
if_open_block None x y = y

abbrev pub if_semicolon : {A : Type 0} → Option Mark → A → A → A
if_semicolon (Some Else) x y = y
if_semicolon (Some Open) x y = y
if_semicolon (Some Close) x y = y
if_semicolon (Some OpenBlock) x y = y
if_semicolon (Some Semicolon) x y = x
if_semicolon (Some Becomes) x y = y
if_semicolon None x y = y

abbrev pub if_becomes : {A : Type 0} → Option Mark → A → A → A
if_becomes (Some Else) x y = y
if_becomes (Some Open) x y = y
if_becomes (Some Close) x y = y
if_becomes (Some OpenBlock) x y = y
if_becomes (Some Semicolon) x y = y
if_becomes (Some Becomes) x y = x
if_becomes None x y = y

abbrev pub refuse : Tok → State
refuse x = refused (refusal_of x.lexeme) x.place

-- a bracket at this place, where d are open already
abbrev pub room : ℕ → ℕ → State → State
room d p s = cond (nat_lt d 32) s (refused TooManyOpen p)

-- whether a clue stands before the partner of a bracket, d more being open
abbrev pub clue_in : List Tok → ℕ → Bool
clue_in [] d = false
clue_in (x ∷ xs) d = seen_by (sight_in x.lexeme) d (clue_in xs)

-- a token where a factor is wanted
abbrev pub wanted : ℕ → ℕ → Result Operand ReaderCause → Left → Left → Use → State
wanted d p (Ok (operand.Number v)) s m k = have s (onto m (number p v)) k
wanted d p (Ok (operand.Name x)) s m k = have s (onto m (name p x)) k
wanted d p (Ok operand.Bracket) s m k = room d p (want none none (within s m k))
wanted d p (Err c) s m k = refused c p

-- the condition of a bracket or of a command is closed
abbrev pub shut : Condition → Purpose → State
shut c (if_head p cs b) = blocking (if_body p c cs b)
shut c (while_head p cs b) = blocking (while_body p c cs b)
shut c (bracket nots ands ors u) = had (negated nots c) ands ors u

-- a token behind a literal
abbrev pub linked : Option Link → Condition → List Pending → List Pending → Purpose → Tok → State
linked (Some link.And) c ands ors u x = lit [] (pending x.place c ∷ ands) ors u
linked (Some link.Or) c ands ors u x = lit [] [] (pending x.place (joined both ands c) ∷ ors) u
linked None c ands ors u x = if_close (mark_of x.lexeme) (shut (joined either ors (joined both ands c)) u) (refuse x)

abbrev pub behind : Condition → List Pending → List Pending → Purpose → Tok → State
behind c ands ors u x = linked (link_of x.lexeme) c ands ors u x

abbrev pub compared : Option Comparison → Sum → List ℕ → List Pending → List Pending → Purpose → Tok → State
compared (Some k) e nots ands ors u x = want none none (right_of x.place k e nots ands ors u)
compared None e nots ands ors u x = refuse x

-- a token behind a whole sum
abbrev pub ended : Use → Sum → Tok → State
ended (to_set p y cs b) e x = if_semicolon (mark_of x.lexeme) (cmd (set p y e ∷ cs) b) (refuse x)
ended (left_of nots ands ors u) e x = compared (comparison_of x.lexeme) e nots ands ors u x
ended (right_of p k l nots ands ors u) e x = behind (negated nots (compare p k l e)) ands ors u x
ended (within s m k) e x = if_close (mark_of x.lexeme) (have s (onto m e) k) (refuse x)

-- a token behind a factor
abbrev pub continued : Option Join → Left → Sum → Use → Tok → State
continued (Some (join.Additive o)) s e k x = want (left x.place o (onto s e)) none k
continued (Some (join.Multiplicative o)) s e k x = want s (left x.place o e) k
continued None s e k x = ended k (onto s e) x

-- a token where a literal is wanted
abbrev pub begun : LiteralStart → ℕ → Tok → List Tok → List ℕ → List Pending → List Pending → Purpose → State
begun (literal.Truth b) d x rest nots ands ors u = had (negated nots (truth x.place b)) ands ors u
begun literal.Not d x rest nots ands ors u = lit (x.place ∷ nots) ands ors u
begun literal.Bracket d x rest nots ands ors u =
    room d x.place (cond (clue_in rest 0) (lit [] [] [] (bracket nots ands ors u)) (want none none (within none none (left_of nots ands ors u))))
begun literal.Sum d x rest nots ands ors u = wanted d x.place (operand_of x.lexeme) none none (left_of nots ands ors u)

-- the block of a sheet is closed at this place
abbrev pub left-block : ℕ → Sheet → Block → State
left-block p t whole = refused Unexpected p
left-block p t (if_body q c cs b) = else_or q c t cs b
left-block p t (else_body q c u cs b) = cmd (choose q c u t ∷ cs) b
left-block p t (while_body q c cs b) = cmd (while q c t ∷ cs) b

-- a block has a command
abbrev pub closed : ℕ → List Command → Block → State
closed p [] b = refused Unexpected p
closed p (c ∷ cs) b = left-block p (sheet_of c cs) b

-- the text ends in no block, behind a command
abbrev pub finished : ℕ → List Command → Block → State
finished p [] b = refused Unexpected p
finished p (c ∷ cs) whole = done (sheet_of c cs)
finished p (c ∷ cs) (if_body q d ds b) = refused Unexpected p
finished p (c ∷ cs) (else_body q d t ds b) = refused Unexpected p
finished p (c ∷ cs) (while_body q d ds b) = refused Unexpected p

-- a token where a command is wanted
abbrev pub commanded : Result CommandStart ReaderCause → ℕ → List Command → Block → State
commanded (Ok (command.Set x)) p cs b = becomes p x cs b
commanded (Ok command.If) p cs b = opening (if_head p cs b)
commanded (Ok command.While) p cs b = opening (while_head p cs b)
commanded (Ok command.CloseBlock) p cs b = closed p cs b
commanded (Ok command.End) p cs b = finished p cs b
commanded (Err c) p cs b = refused c p

-- one token, where d brackets are open and the rest is still to come
abbrev pub step : ℕ → State → Tok → List Tok → State
step d (want s m k) x rest = wanted d x.place (operand_of x.lexeme) s m k
step d (have s e k) x rest = continued (join_of x.lexeme) s e k x
step d (lit nots ands ors u) x rest = begun (literal_of x.lexeme) d x rest nots ands ors u
step d (had c ands ors u) x rest = behind c ands ors u x
step d (cmd cs b) x rest = commanded (command_of x.lexeme) x.place cs b
step d (becomes p y cs b) x rest = if_becomes (mark_of x.lexeme) (want none none (to_set p y cs b)) (refuse x)
step d (opening u) x rest = if_open (mark_of x.lexeme) (room d x.place (lit [] [] [] u)) (refuse x)
step d (blocking b) x rest = if_open_block (mark_of x.lexeme) (room d x.place (cmd [] b)) (refuse x)
step d (else_or p c t cs b) x rest =
    if_else (mark_of x.lexeme) (blocking (else_body p c t cs b)) (commanded (command_of x.lexeme) x.place (when p c t ∷ cs) b)
step d (done t) x rest = done t
step d (refused c p) x rest = refused c p

abbrev pub run : List Tok → ℕ → State → State
run [] d s = s
run (x ∷ xs) d s = run xs (depth_after x.lexeme d) (step d s x xs)

abbrev pub start : State
start = cmd [] whole
