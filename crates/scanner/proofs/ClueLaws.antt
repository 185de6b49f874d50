-- The look finds a clue exactly where one stands before the partner.
use Rattle.std.proofs.Common.{◌≡◌, ℕ, zero, suc, ◌+◌, ◌≤◌, Bool, true, List, [], ◌∷◌, ◌++◌, take, sym, refl, ap, ◌∙◌, arith}
use Rattle.std.specs.List.{AllByRecursion}
use Rattle.std.proofs.lemmas.Bool.{false≢true}
use Rattle.scanner.specs.Tokens.{tokens_at}
use Rattle.scanner.specs.Cursors.{Held, look_held}
use Rattle.scanner.specs.Looks.{sight_of, seen_by, clue_ahead}
use Rattle.scanner.specs.Clues.{opens_one, closes_one, opened, closed, ClueStands, OpensCondition}
use Rattle.scanner.specs.declared.token.Token.{Token}
use Rattle.scanner.specs.declared.look.Sight.{Sight}
use Rattle.scanner.specs.declared.look.Sight.TheVariants.{Clue, Opens, Closes, Stops, Passes}
use Rattle.scanner.specs.declared.position.Position.{Position}
use Rattle.scanner.proofs.LookSteps.{opens-on, closes-on, passes_on, opens, closes, passes, clue_seen, partner_seen, stop_seen}

module _ (text : List ℕ) where
  abbrev Reached : Token → Type 0
  Reached t = sight_of text t ≡ Stops → ⊥

  abbrev Unpartnered : ℕ → List Token → Type 0
  Unpartnered d before = (n : ℕ) → closed text (take n before) ≤ d + opened text (take n before)

  none-closed : (d : ℕ) → Unpartnered d []
  none-closed d zero = omega arith
  none-closed d (suc n) = omega arith

  -- one token in front, whose brackets make d of e
  in-front : (d e : ℕ) (t : Token) (s : Sight) → sight_of text t ≡ s → closes_one s + e ≤ d + opens_one s → (ts : List Token) → (s ≡ Stops → ⊥) → ClueStands text e ts → ClueStands text d (t ∷ ts)
  in-front d e t s is fits ts reached h =
      let o : opens_one (sight_of text t) ≡ opens_one s = ap opens_one is in
      let c : closes_one (sight_of text t) ≡ closes_one s = ap closes_one is in
      record {
        before = t ∷ h.before;
        clue = h.clue;
        behind = h.behind;
        split = ap (λ (ts : List Token). t ∷ ts) h.split;
        is = h.is;
        unpartnered = more o c;
        tokens = (λ stops. reached (sym is ∙ stops), h.tokens);
      }
    where
      more : opens_one (sight_of text t) ≡ opens_one s → closes_one (sight_of text t) ≡ closes_one s → Unpartnered d (t ∷ h.before)
      more o c zero = omega arith
      more o c (suc n) = omega (arith, h.unpartnered n)

  stands : (ts : List Token) (d : ℕ) → clue_ahead text ts d ≡ true → ClueStands text d ts
  stands [] d h = absurd (false≢true h)
  stands (t ∷ ts) d h = by (stands ts) (sight_of text t) d refl h
    where
      by : ((d : ℕ) → clue_ahead text ts d ≡ true → ClueStands text d ts) → (s : Sight) (d : ℕ) → sight_of text t ≡ s → seen_by s d (clue_ahead text ts) ≡ true → ClueStands text d (t ∷ ts)
      by go Clue d e h = record { before = []; clue = t; behind = ts; split = refl; is = e; unpartnered = none-closed d; tokens = tt }
      by go Opens d e h = in-front d (suc d) t Opens e (omega arith) ts opens-on (go (suc d) h)
      by go Closes zero e h = absurd (false≢true h)
      by go Closes (suc d) e h = in-front (suc d) d t Closes e (omega arith) ts closes-on (go d h)
      by go Stops d e h = absurd (false≢true h)
      by go Passes d e h = in-front d d t Passes e (omega arith) ts passes_on (go d h)

  -- without the first token, whose brackets make d of e
  without : (d e : ℕ) (t : Token) (s : Sight) (before : List Token) → sight_of text t ≡ s → d + opens_one s ≤ closes_one s + e → Unpartnered d (t ∷ before) → Unpartnered e before
  without d e t s before is fits h n =
      let o : opens_one (sight_of text t) ≡ opens_one s = ap opens_one is in
      let c : closes_one (sight_of text t) ≡ closes_one s = ap closes_one is in
      omega (arith, h (suc n))

  finds : (before : List Token) (clue : Token) (behind : List Token) (d : ℕ) → sight_of text clue ≡ Clue → Unpartnered d before → AllByRecursion Reached before → clue_ahead text (before ++ clue ∷ behind) d ≡ true
  finds [] clue behind d is u r = ap (λ (s : Sight). seen_by s d (clue_ahead text behind)) is
  finds (t ∷ before) clue behind d is u (reach, r) =
      by (λ e v. finds before clue behind e is v r) (sight_of text t) d refl u
    where
      at : (s : Sight) (d : ℕ) → sight_of text t ≡ s → clue_ahead text ((t ∷ before) ++ clue ∷ behind) d ≡ seen_by s d (clue_ahead text (before ++ clue ∷ behind))
      at s d e = ap (λ (s : Sight). seen_by s d (clue_ahead text (before ++ clue ∷ behind))) e

      by : ((e : ℕ) → Unpartnered e before → clue_ahead text (before ++ clue ∷ behind) e ≡ true) → (s : Sight) (d : ℕ) → sight_of text t ≡ s → Unpartnered d (t ∷ before) → clue_ahead text ((t ∷ before) ++ clue ∷ behind) d ≡ true
      by go Clue d e u = at Clue d e
      by go Opens d e u = at Opens d e ∙ go (suc d) (without d (suc d) t Opens before e (omega arith) u)
      by go Closes zero e u =
          let o : opens_one (sight_of text t) ≡ 0 = ap opens_one e in
          let c : closes_one (sight_of text t) ≡ 1 = ap closes_one e in
          absurd (omega (arith, u 1))
      by go Closes (suc d) e u = at Closes (suc d) e ∙ go d (without (suc d) d t Closes before e (omega arith) u)
      by go Stops d e u = absurd (reach e)
      by go Passes d e u = at Passes d e ∙ go d (without d d t Passes before e (omega arith) u)

  pub look_law : (ts : List Token) (r : Bool) → r ≡ clue_ahead text ts 0 → OpensCondition text ts r
  look_law ts r e =
      record {
        only = λ h. stands ts 0 (sym e ∙ h);
        each = λ h. e ∙ ap (λ (us : List Token). clue_ahead text us 0) h.split ∙ finds h.before h.clue h.behind 0 h.is h.unpartnered h.tokens;
      }

-- the look gives its answer, and puts the position back
pub looked : (h : Held) (q : Position) (r : Bool) → r ≡ clue_ahead h.text (tokens_at h.text h.position.at) 0 → q ≡ h.position → (r, record { text = h.text; position = q }) ≡ look_held h
looked h q r e p = cc

-- what ends the look and what goes on with it
pub ruleset look_steps = (opens, closes, passes, clue_seen, partner_seen, stop_seen, look_law, looked)
