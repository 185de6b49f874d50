-- Code back to its sheet, places aside: one pass over the instructions from the first to the last. Sums and conditions
-- come back on a stack of values, as postfix code always does; a pushed number may still turn out to be a truth. Pop
-- ends a set. JumpF opens a body, which knows where it ends. A Jump belongs to the body opened last: backward it makes
-- a while of it, forward it begins the second body of an if-else; a body that reaches its end without one is an if.
-- That this brings every sheet back from its code is a law of compiling; of other instructions it says nothing.
use Rattle.std.specs.Prelude.{ℕ, ◌+◌, cond, List, [], ◌∷◌, ℤ, Some, None, Option, ◌==◌, nat_lt}
use Rattle.arith.specs.declared.operator.Operator.TheVariants as operator
use Rattle.instructions.specs.declared.instruction.Instruction.{Instruction}
use Rattle.instructions.specs.declared.instruction.Instruction.TheVariants.{Push, Load, Save, Pop, Add, Sub, Mul, Div, Cmp, Inv, And, Or, JumpF, Jump}
use Rattle.tables.specs.Trees.{Sum, number, name, work, both, either, Condition, truth, compare, negate, connect, Command, set, when, choose, while, Sheet, only, joint}
use Rattle.compiler.specs.Sheets.{no_sum, no_condition, no_command, truth_of}

-- what the code so far has left to work on
pub data Value : Type 0 where
  plain : ℤ → Value
  of_sum : Sum → Value
  of_condition : Condition → Value
  saved : ℕ → Sum → Value

abbrev pub value_sum : Value → Sum
value_sum (plain n) = number 0 n
value_sum (of_sum t) = t
value_sum (of_condition t) = no_sum
value_sum (saved p t) = no_sum

abbrev pub value_condition : Value → Condition
value_condition (plain n) = truth 0 (truth_of n)
value_condition (of_sum t) = no_condition
value_condition (of_condition t) = t
value_condition (saved p t) = no_condition

abbrev pub value_command : Value → Command
value_command (plain n) = no_command
value_command (of_sum t) = no_command
value_command (of_condition t) = no_command
value_command (saved p t) = set 0 p t

-- a body that is open: its condition, the first body if this is a second one, where it ends, and the commands before
pub record Body : Type 0 where
  pub test : Condition
  pub first : Option Sheet
  pub end : ℕ
  pub before : List Command

-- the address, the values, the commands of the body opened last, newest first, and the bodies, innermost first
pub record Reading : Type 0 where
  pub at : ℕ
  pub values : List Value
  pub commands : List Command
  pub bodies : List Body

abbrev pub reading : ℕ → List Value → List Command → List Body → Reading
reading a vs cs bs = record { at = a; values = vs; commands = cs; bodies = bs }

-- commands, newest first, as a sheet
abbrev pub before : List Command → Sheet → Sheet
before [] t = t
before (c ∷ cs) t = before cs (joint 0 c t)

abbrev pub gathered : List Command → Sheet
gathered [] = only no_command
gathered (c ∷ cs) = before cs (only c)

abbrev pub closed_by : Option Sheet → Condition → Sheet → Command
closed_by None c t = when 0 c t
closed_by (Some u) c t = choose 0 c u t

-- where a command has come to an end, every body that ends there is closed
abbrev pub settle : ℕ → List Command → List Body → List Command × List Body
settle n cs [] = (cs, [])
settle n cs (b ∷ bs) =
    cond (b.end == n) (settle n (closed_by b.first b.test (gathered cs) ∷ b.before) bs) (cs, b ∷ bs)

abbrev pub settled : ℕ → List Value → List Command → List Body → Reading
settled n vs cs bs = reading n vs (settle n cs bs).0 (settle n cs bs).1

abbrev pub on_one : (Value → Value) → List Value → List Value
on_one f [] = []
on_one f (x ∷ vs) = f x ∷ vs

abbrev pub on_two : (Value → Value → Value) → List Value → List Value
on_two f [] = []
on_two f (y ∷ []) = []
on_two f (y ∷ (x ∷ vs)) = f x y ∷ vs

abbrev pub worked : (List Value → List Value) → Reading → Reading
worked f s = reading (s.at + 1) (f s.values) s.commands s.bodies

abbrev pub popped : List Value → Reading → Reading
popped [] s = s
popped (x ∷ vs) s = settled (s.at + 1) vs (value_command x ∷ s.commands) s.bodies

abbrev pub opened : ℕ → List Value → Reading → Reading
opened b [] s = s
opened b (x ∷ vs) s =
    reading (s.at + 1) vs [] (record { test = value_condition x; first = None; end = b; before = s.commands } ∷ s.bodies)

abbrev pub jumped : ℕ → List Body → Reading → Reading
jumped d [] s = s
jumped d (b ∷ bs) s =
    cond (nat_lt d s.at) (settled (s.at + 1) s.values (while 0 b.test (gathered s.commands) ∷ b.before) bs)
    (reading (s.at + 1) s.values [] (record { test = b.test; first = Some (gathered s.commands); end = d; before = b.before } ∷ bs))

abbrev pub read_one : Instruction → Reading → Reading
read_one (Push n) s = worked (λ vs. plain n ∷ vs) s
read_one (Load p) s = worked (λ vs. of_sum (name 0 p) ∷ vs) s
read_one (Save p) s = worked (on_one (λ x. saved p (value_sum x))) s
read_one Pop s = popped s.values s
read_one Add s = worked (on_two (λ x y. of_sum (work 0 operator.Add (value_sum x) (value_sum y)))) s
read_one Sub s = worked (on_two (λ x y. of_sum (work 0 operator.Sub (value_sum x) (value_sum y)))) s
read_one Mul s = worked (on_two (λ x y. of_sum (work 0 operator.Mul (value_sum x) (value_sum y)))) s
read_one Div s = worked (on_two (λ x y. of_sum (work 0 operator.Div (value_sum x) (value_sum y)))) s
read_one (Cmp k) s = worked (on_two (λ x y. of_condition (compare 0 k (value_sum x) (value_sum y)))) s
read_one Inv s = worked (on_one (λ x. of_condition (negate 0 (value_condition x)))) s
read_one And s = worked (on_two (λ x y. of_condition (connect 0 both (value_condition x) (value_condition y)))) s
read_one Or s = worked (on_two (λ x y. of_condition (connect 0 either (value_condition x) (value_condition y)))) s
read_one (JumpF a) s = opened a s.values s
read_one (Jump a) s = jumped a s.bodies s

abbrev pub read_all : List Instruction → Reading → Reading
read_all [] s = s
read_all (i ∷ is) s = read_all is (read_one i s)

unfoldable pub sheet_back : List Instruction → Sheet
sheet_back is = gathered (read_all is (reading 0 [] [] [])).commands
