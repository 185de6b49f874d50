-- The state model with its cost: how a command or a sheet, begun at some points, ends. There is one rule for each way
-- it can go, and none that would make an endless loop end, so a sheet that never ends is related to nothing and has no
-- answer and no cost. A stop keeps no points: they are those from before the run.
use Rattle.std.specs.Prelude.{◌≡◌, ℕ, ◌+◌, true, false, set as put, ℤ}
use Rattle.faults.specs.declared.causes.RunCause.{RunCause}
use Rattle.tables.specs.Trees.{Sum, Condition, Command, set, when, choose, while, Sheet, only, joint}
use Rattle.screen.specs.Works.{Points, Out, done, stop, after, then, sum_work, condition_work}

mutual
  pub data Does : Command → Points → Out Points → Type 0 where
    set-ends : {q x : ℕ} {e : Sum} {p : Points} {c : ℕ} {v : ℤ} → sum_work e p ≡ done c v → Does (set q x e) p (done (c + 2) (put p x v))
    set-stops : {q x : ℕ} {e : Sum} {p : Points} {c : ℕ} {x' : RunCause} {r : ℕ} → sum_work e p ≡ stop c x' r → Does (set q x e) p (stop c x' r)
    when-stops : {q : ℕ} {h : Condition} {t : Sheet} {p : Points} {c : ℕ} {x : RunCause} {r : ℕ} → condition_work h p ≡ stop c x r → Does (when q h t) p (stop c x r)
    when-not : {q : ℕ} {h : Condition} {t : Sheet} {p : Points} {c : ℕ} → condition_work h p ≡ done c false → Does (when q h t) p (done (c + 1) p)
    when-holds : {q : ℕ} {h : Condition} {t : Sheet} {p : Points} {c : ℕ} {o : Out Points} → condition_work h p ≡ done c true → Ends t p o → Does (when q h t) p (after (c + 1) o)
    choose-stops : {q : ℕ} {h : Condition} {t u : Sheet} {p : Points} {c : ℕ} {x : RunCause} {r : ℕ} → condition_work h p ≡ stop c x r → Does (choose q h t u) p (stop c x r)
    choose-not : {q : ℕ} {h : Condition} {t u : Sheet} {p : Points} {c : ℕ} {o : Out Points} → condition_work h p ≡ done c false → Ends u p o → Does (choose q h t u) p (after (c + 1) o)
    choose-holds : {q : ℕ} {h : Condition} {t u : Sheet} {p : Points} {c : ℕ} {o : Out Points} → condition_work h p ≡ done c true → Ends t p o → Does (choose q h t u) p (after (c + 1) (then o (done 1)))
    while-stops : {q : ℕ} {h : Condition} {t : Sheet} {p : Points} {c : ℕ} {x : RunCause} {r : ℕ} → condition_work h p ≡ stop c x r → Does (while q h t) p (stop c x r)
    while-not : {q : ℕ} {h : Condition} {t : Sheet} {p : Points} {c : ℕ} → condition_work h p ≡ done c false → Does (while q h t) p (done (c + 1) p)
    while-body-stops : {q : ℕ} {h : Condition} {t : Sheet} {p : Points} {c d : ℕ} {x : RunCause} {r : ℕ} → condition_work h p ≡ done c true → Ends t p (stop d x r) → Does (while q h t) p (stop (c + 1 + d) x r)
    while-again : {q : ℕ} {h : Condition} {t : Sheet} {p p' : Points} {c d : ℕ} {o : Out Points} → condition_work h p ≡ done c true → Ends t p (done d p') → Does (while q h t) p' o → Does (while q h t) p (after (c + 1 + d + 1) o)

  pub data Ends : Sheet → Points → Out Points → Type 0 where
    only-ends : {c : Command} {p : Points} {o : Out Points} → Does c p o → Ends (only c) p o
    joint-stops : {q : ℕ} {c : Command} {t : Sheet} {p : Points} {n : ℕ} {x : RunCause} {r : ℕ} → Does c p (stop n x r) → Ends (joint q c t) p (stop n x r)
    joint-ends : {q : ℕ} {c : Command} {t : Sheet} {p p' : Points} {n : ℕ} {o : Out Points} → Does c p (done n p') → Ends t p' o → Ends (joint q c t) p (after n o)
