-- The state model's own equations, with cost and stops: a sequence is one thing after another, an assignment replaces
-- one point's number, a condition chooses what comes next, and a loop is its condition and then, where that holds, its
-- body and the loop again. They hold of the rules in Model, and with them a reader who knows the language recognises it.
use Rattle.std.specs.Prelude.{◌≡◌, ℕ, ◌+◌, Bool, true, false, set as put}
use Rattle.tables.specs.Trees.{Sum, Condition, Command, set, when, choose, while, Sheet, joint}
use Rattle.screen.specs.Works.{Points, Out, done, stop, lost, after, then, sum_work, condition_work}
use Rattle.screen.specs.Model.{Does, Ends}

abbrev pub BothWays : Type 0 → Type 0 → Type 0
BothWays A B = (A → B) × (B → A)

-- an outcome and then what begins at the points it leaves; a stop stays what it is
abbrev pub Onward : Out Points → (Points → Out Points → Type 0) → Out Points → Type 0
Onward (done n p) next o = (o' : Out Points) × next p o' × (o ≡ after n o')
Onward (stop n x q) next o = o ≡ stop n x q
Onward lost next o = ⊥

-- a condition, one step, and then one way or the other
abbrev pub Tested : Out Bool → (Out Points → Type 0) → (Out Points → Type 0) → Out Points → Type 0
Tested (done n true) holds fails o = (o' : Out Points) × holds o' × (o ≡ after (n + 1) o')
Tested (done n false) holds fails o = (o' : Out Points) × fails o' × (o ≡ after (n + 1) o')
Tested (stop n x q) holds fails o = o ≡ stop n x q
Tested lost holds fails o = ⊥

abbrev pub Untouched : Points → Out Points → Type 0
Untouched p o = o ≡ done 0 p

-- the body of an if-else that held, and one step
abbrev pub FirstBody : Sheet → Points → Out Points → Type 0
FirstBody t p o = (o' : Out Points) × Ends t p o' × (o ≡ then o' (done 1))

-- one step, and the command
abbrev pub OneAnd : Command → Points → Out Points → Type 0
OneAnd c p o = (o' : Out Points) × Does c p o' × (o ≡ after 1 o')

abbrev pub Sequence : Type 0
Sequence =
    (q : ℕ) (c : Command) (t : Sheet) (p : Points) (o : Out Points) →
    BothWays (Ends (joint q c t) p o) ((o' : Out Points) × Does c p o' × Onward o' (Ends t) o)

abbrev pub Assignment : Type 0
Assignment =
    (q x : ℕ) (e : Sum) (p : Points) (o : Out Points) →
    BothWays (Does (set q x e) p o) ((o ≡ then (sum_work e p) (λ v. done 2 (put p x v))))

abbrev pub If : Type 0
If =
    (q : ℕ) (h : Condition) (t : Sheet) (p : Points) (o : Out Points) →
    BothWays (Does (when q h t) p o) (Tested (condition_work h p) (Ends t p) (Untouched p) o)

abbrev pub IfElse : Type 0
IfElse =
    (q : ℕ) (h : Condition) (t u : Sheet) (p : Points) (o : Out Points) →
    BothWays (Does (choose q h t u) p o) (Tested (condition_work h p) (FirstBody t p) (Ends u p) o)

-- the body, and then one step and the whole loop again
abbrev pub Round : Command → Sheet → Points → Out Points → Type 0
Round loop t p o = (o' : Out Points) × Ends t p o' × Onward o' (OneAnd loop) o

abbrev pub Unfolding : Type 0
Unfolding =
    (q : ℕ) (h : Condition) (t : Sheet) (p : Points) (o : Out Points) →
    BothWays (Does (while q h t) p o) (Tested (condition_work h p) (Round (while q h t) t p) (Untouched p) o)

-- and no sheet has two outcomes
abbrev pub OneOutcome : Type 0
OneOutcome = (t : Sheet) (p : Points) (o o' : Out Points) → Ends t p o → Ends t p o' → o ≡ o'

pub record StateModel : Type 0 where
  pub sequence : Sequence
  pub assignment : Assignment
  pub conditional : If
  pub alternative : IfElse
  pub unfolding-loop : Unfolding
  pub outcome : OneOutcome
