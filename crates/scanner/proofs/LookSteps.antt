-- The look, one token on.
use Rattle.std.proofs.Common.{◌≡◌, ℕ, zero, suc, ◌+◌, ◌-◌, ◌≤◌, Bool, true, false, List, length, sym, refl, ap, ◌∙◌, arith}
use Rattle.scanner.specs.Tokens.{tokens_at, token_at, after, spelled, Placed}
use Rattle.scanner.specs.Looks.{kind_sight, sight_of, seen_by, clue_ahead}
use Rattle.scanner.specs.declared.token.Kind.{Kind}
use Rattle.scanner.specs.declared.token.Kind.TheVariants.{Word, Number, Sign, End, Stray}
use Rattle.scanner.specs.declared.token.Token.{Token}
use Rattle.scanner.specs.declared.look.Sight.{Sight}
use Rattle.scanner.specs.declared.look.Sight.TheVariants.{Clue, Opens, Closes, Stops, Passes}
use Rattle.scanner.proofs.NextToken.{next-token}

-- the look does not see that the tokens end where it stops
past : (text : List ℕ) (k : Kind) (w : List ℕ) (d : ℕ) (ts : List Token) → seen_by (kind_sight k w) d (clue_ahead text (after k ts)) ≡ seen_by (kind_sight k w) d (clue_ahead text ts)
past text Word w d ts = refl
past text Number w d ts = refl
past text (Sign s) w d ts = refl
past text End w d ts = refl
past text Stray w d ts = refl

-- one token of the look, whatever is seen of it
seen : (text : List ℕ) (at d : ℕ) (t : Token) (s : Sight) → t ≡ token_at text at → s ≡ sight_of text t → seen_by s d (clue_ahead text (tokens_at text t.end)) ≡ clue_ahead text (tokens_at text at) d
seen text at d t s e is =
    let next : Token = token_at text at in
    let whole = ap (λ (ts : List Token). clue_ahead text ts d) (next-token text at) ∙ past text next.kind (spelled text next) d (tokens_at text next.end) in
    ap (λ (s : Sight). seen_by s d (clue_ahead text (tokens_at text t.end))) is
    ∙ ap (λ (t : Token). seen_by (sight_of text t) d (clue_ahead text (tokens_at text t.end))) e
    ∙ sym whole

-- the look began at a place and has come to another, with some brackets open: each of them took a byte, and what is
-- left of the look answers
pub record Looking (text : List ℕ) (from at depth : ℕ) : Type 0 where
  pub few : depth ≤ length text
  pub deep : depth ≤ at
  pub left : clue_ahead text (tokens_at text at) depth ≡ clue_ahead text (tokens_at text from) 0

pub opens-on : Opens ≡ Stops → ⊥
opens-on e = cc

pub closes-on : Closes ≡ Stops → ⊥
closes-on e = cc

pub passes_on : Passes ≡ Stops → ⊥
passes_on e = cc

module _ {text : List ℕ} {from at d : ℕ} {t : Token} (l : Looking text from at d) (is : t ≡ token_at text at) where
  -- the look goes on behind the token
  on : (s : Sight) (n : ℕ) → s ≡ sight_of text t → (s ≡ Stops → ⊥) → ((rest : ℕ → Bool) → rest n ≡ seen_by s d rest) → n ≤ d + 1 → Placed text at t → Looking text from t.end n
  on s n e goes rests more p =
      let taken = p.taken (λ k. goes (e ∙ ap (λ (k : Kind). kind_sight k (spelled text t)) k)) in
      record {
        few = omega (arith, taken.0, taken.1, p.ahead, l.deep);
        deep = omega (arith, taken.0, p.ahead, l.deep);
        left = rests (clue_ahead text (tokens_at text t.end)) ∙ seen text at d t s is e ∙ l.left;
      }

  pub opens : Opens ≡ sight_of text t → Placed text at t → Looking text from t.end (d + 1)
  opens e p = on Opens (d + 1) e opens-on (λ rest. let n : d + 1 ≡ suc d = omega arith in ap rest n) (omega arith) p

  pub closes : Closes ≡ sight_of text t → (d ≡ 0 → ⊥) → Placed text at t → Looking text from t.end (d - 1)
  closes e h p = on Closes (d - 1) e closes-on (less d h) (omega arith) p
    where
      less : (d : ℕ) → (d ≡ 0 → ⊥) → (rest : ℕ → Bool) → rest (d - 1) ≡ seen_by Closes d rest
      less zero h rest = absurd (h refl)
      less (suc d) h rest = let n : suc d - 1 ≡ d = omega arith in ap rest n

  pub passes : Passes ≡ sight_of text t → Placed text at t → Looking text from t.end d
  passes e p = on Passes d e passes_on (λ rest. refl) (omega arith) p

  -- the look ends with the token
  pub clue_seen : Clue ≡ sight_of text t → true ≡ clue_ahead text (tokens_at text from) 0
  clue_seen e = seen text at d t Clue is e ∙ l.left

  pub partner_seen : Closes ≡ sight_of text t → d ≡ 0 → false ≡ clue_ahead text (tokens_at text from) 0
  partner_seen e h = none d h (clue_ahead text (tokens_at text t.end)) ∙ seen text at d t Closes is e ∙ l.left
    where
      none : (d : ℕ) → d ≡ 0 → (rest : ℕ → Bool) → false ≡ seen_by Closes d rest
      none zero h rest = refl
      none (suc d) h rest = absurd (omega arith)

  pub stop_seen : Stops ≡ sight_of text t → false ≡ clue_ahead text (tokens_at text from) 0
  stop_seen e = seen text at d t Stops is e ∙ l.left
