-- A bracket, which is entered where there is room for one more, and by the machine too.
use Rattle.std.proofs.Common.{◌≡◌, ℕ, suc, ◌<◌, Bool, true, false, cond, ltb, Ok, Err, Result, sym, refl, ap, subst, arith, ltb-true}
use Rattle.faults.specs.declared.causes.ReaderCause.TheVariants.{TooManyOpen}
use Rattle.grammar.specs.Machine.{State, refused, room}
use Rattle.reader.specs.declared.seen.Seen.{Seen}
use Rattle.reader.specs.declared.seen.Refusal.{Refusal}
use Rattle.reader.specs.declared.progress.Progress.{Progress}
use Rattle.reader.specs.Progressing.{opened}

abbrev pub inside : Progress → Seen → Progress
inside a s = record { position = record { at = s.end }; count = a.count; depth = suc a.depth }

-- there was room
pub record Entered (a : Progress) (s : Seen) (y : Progress) : Type 0 where
  pub few : a.depth < 32
  pub on : y ≡ inside a s
  pub room_for : (p : ℕ) (m : State) → room a.depth p m ≡ m

-- there was none
pub record Barred (a : Progress) (s : Seen) (r : Refusal) : Type 0 where
  pub cause : r.cause ≡ TooManyOpen
  pub place : r.place ≡ s.place
  pub no_room : (p : ℕ) (m : State) → room a.depth p m ≡ refused TooManyOpen p

abbrev Answered : Progress → Seen → Progress → Result (Unit {0}) Refusal → Type 0
Answered a s y (Ok u) = Entered a s y
Answered a s y (Err r) = Barred a s r

answered : (a : Progress) (s : Seen) (b : Bool) → ltb a.depth 32 ≡ b → (p : Result (Unit {0}) Refusal × Progress) → p ≡ cond b (Ok tt, inside a s) (Err (record { cause = TooManyOpen; place = s.place }), a) → Answered a s p.1 p.0
answered a s true t p e =
    let P : Result (Unit {0}) Refusal × Progress → Type 0 = λ q. Answered a s q.1 q.0 in
    subst P (sym e) (record { few = omega (arith, ltb-true a.depth 32 t); on = refl; room_for = λ q m. ap (λ b. cond b m (refused TooManyOpen q)) t })
answered a s false t p e =
    let P : Result (Unit {0}) Refusal × Progress → Type 0 = λ q. Answered a s q.1 q.0 in
    subst P (sym e) (record { cause = refl; place = refl; no_room = λ q m. ap (λ b. cond b m (refused TooManyOpen q)) t })

pub entered : {a y : Progress} {s : Seen} {u : Unit {0}} → (Ok u, y) ≡ opened a s → Entered a s y
entered {a} {y} {s} {u} e = answered a s (ltb a.depth 32) refl (Ok u, y) e

pub barred : {a y : Progress} {s : Seen} {r : Refusal} → (Err r, y) ≡ opened a s → Barred a s r
barred {a} {y} {s} {r} e = answered a s (ltb a.depth 32) refl (Err r, y) e
