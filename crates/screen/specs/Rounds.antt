-- The state model as a function of a number of rounds: with enough of them it is the outcome, with too few it is lost.
-- More rounds than the cost are always enough, since every turn of a loop costs at least three steps.
use Rattle.std.specs.Prelude.{ℕ, zero, suc, Bool, true, false, set as put}
use Rattle.tables.specs.Trees.{Command, set, when, choose, while, Sheet, only, joint}
use Rattle.screen.specs.Works.{Points, Out, done, lost, after, then, sum_work, condition_work}

abbrev pub fork : Bool → (Points → Out Points) → (Points → Out Points) → Points → Out Points
fork true f g p = f p
fork false f g p = g p

-- one round: a loop that goes round asks `again`
module _ (again : Command → Points → Out Points) where
  abbrev mutual
    pub round_of : Command → Points → Out Points
    round_of (set q x e) p = then (sum_work e p) (λ v. done 2 (put p x v))
    round_of (when q h t) p = then (condition_work h p) (λ b. after 1 (fork b (round t) (done 0) p))
    round_of (choose q h t u) p = then (condition_work h p) (λ b. after 1 (fork b (λ p'. then (round t p') (done 1)) (round u) p))
    round_of (while q h t) p =
        then (condition_work h p) (λ b. after 1 (fork b (λ p'. then (round t p') (λ p''. after 1 (again (while q h t) p''))) (done 0) p))

    pub round : Sheet → Points → Out Points
    round (only c) p = round_of c p
    round (joint q c t) p = then (round_of c p) (round t)

abbrev pub rounds_of : ℕ → Command → Points → Out Points
rounds_of zero c p = lost
rounds_of (suc n) c p = round_of (rounds_of n) c p

abbrev pub rounds : ℕ → Sheet → Points → Out Points
rounds zero t p = lost
rounds (suc n) t p = round (rounds_of n) t p
