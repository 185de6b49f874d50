-- The lexemes of a text, one at a time, and the machine over them. This is all that a reader of lexemes goes by.
use Rattle.std.proofs.Common.{◌≡◌, ℕ, zero, suc, Bool, cond, List, [], ◌∷◌, Some, None, Option, sym, refl, ap, ◌∙◌, arith}
use Rattle.std.proofs.lemmas.Slice.Eq.{bytes_eq-Decides}
use Rattle.faults.specs.declared.causes.ReaderCause.{ReaderCause}
use Rattle.scanner.specs.Tokens.{tokens_at, token_at, after, spelled}
use Rattle.scanner.specs.Looks.{is_truth, kind_sight, symbol_sight, sight_of, seen_by, clue_ahead}
use Rattle.scanner.specs.declared.look.Sight.{Sight}
use Rattle.scanner.specs.declared.look.Sight.TheVariants.{Clue, Opens, Closes, Stops, Passes}
use Rattle.scanner.specs.declared.token.Symbol.{Symbol}
use Rattle.scanner.specs.declared.token.Symbol.TheVariants as symbol
use Rattle.scanner.specs.declared.token.Kind.{Kind}
use Rattle.scanner.specs.declared.token.Kind.TheVariants as kind
use Rattle.scanner.specs.declared.token.Token.{Token}
use Rattle.scanner.proofs.NextToken.{next-token}
use Rattle.names.specs.Lines.{position}
use Rattle.tables.specs.Trees.{Sum, Command, Sheet}
use Rattle.tables.specs.Trees as tree
use Rattle.grammar.specs.declared.lexeme.Lexeme.{Lexeme}
use Rattle.grammar.specs.declared.lexeme.Lexeme.TheVariants as lexeme
use Rattle.grammar.specs.Choices.{sight_in, depth_after}
use Rattle.grammar.specs.Lexemes.{Tok, tok, lexeme_of, lexed, listed, numeral, number_lexeme, word_lexeme, sign_lexeme, kind_lexeme}
use Rattle.grammar.specs.Machine.{onto, Block, whole, if_body, else_body, while_body, Use, to_set, left_of, right_of, within, State, want, have, lit, had, cmd, becomes, opening, blocking, else_or, done, refused, clue_in, ended, finished, step, run}

-- a refusal stays, and so does a sheet

pub run-refused : (ts : List Tok) (d : ℕ) (c : ReaderCause) (p : ℕ) → run ts d (refused c p) ≡ refused c p
run-refused [] d c p = refl
run-refused (x ∷ ts) d c p = run-refused ts _ c p

pub run-done : (ts : List Tok) (d : ℕ) (t : Sheet) → run ts d (done t) ≡ done t
run-done [] d t = refl
run-done (x ∷ ts) d t = run-done ts _ t

-- the look sees lexemes as it sees tokens

listed-passes : (o : Option ℕ) → Passes ≡ sight_in (listed o)
listed-passes (Some x) = refl
listed-passes None = refl

word-sight : (names : List (List ℕ)) (w : List ℕ) → cond (is_truth w) Clue Passes ≡ sight_in (word_lexeme names w)
word-sight names w =
    let named = listed-passes (position w names) in
    grind (arith, bytes_eq-Decides)

number-sight : (n : ℕ) → Passes ≡ sight_in (number_lexeme n)
number-sight n = grind arith

sign-sight : (s : Symbol) → symbol_sight s ≡ sight_in (sign_lexeme s)
sign-sight symbol.OpenBlock = refl
sign-sight symbol.CloseBlock = refl
sign-sight symbol.Open = refl
sign-sight symbol.Close = refl
sign-sight symbol.Semicolon = refl
sign-sight symbol.Becomes = refl
sign-sight symbol.Plus = refl
sign-sight symbol.Minus = refl
sign-sight symbol.Times = refl
sign-sight symbol.Over = refl
sign-sight symbol.Not = refl
sign-sight symbol.And = refl
sign-sight symbol.Or = refl
sign-sight (symbol.Compare c) = refl

kind-sight : (names : List (List ℕ)) (k : Kind) (w : List ℕ) → kind_sight k w ≡ sight_in (kind_lexeme names k w)
kind-sight names kind.Word w = word-sight names w
kind-sight names kind.Number w = number-sight (numeral w)
kind-sight names (kind.Sign s) w = sign-sight s
kind-sight names kind.End w = refl
kind-sight names kind.Stray w = refl

seen_same : (s : Sight) (d : ℕ) (f g : ℕ → Bool) → ((n : ℕ) → f n ≡ g n) → seen_by s d f ≡ seen_by s d g
seen_same Clue d f g h = refl
seen_same Opens d f g h = h (suc d)
seen_same Closes zero f g h = refl
seen_same Closes (suc d) f g h = h d
seen_same Stops d f g h = refl
seen_same Passes d f g h = h d

-- behind the end, or a byte that begins no token, nothing goes on

abbrev Final : State → Type 0
Final (want s m k) = ⊥
Final (have s e k) = ⊥
Final (lit nots ands ors u) = ⊥
Final (had c ands ors u) = ⊥
Final (cmd cs b) = ⊥
Final (becomes p x cs b) = ⊥
Final (opening u) = ⊥
Final (blocking b) = ⊥
Final (else_or p c t cs b) = ⊥
Final (done t) = Unit {0}
Final (refused c p) = Unit {0}

run-final : (s : State) → Final s → (ts : List Tok) (d : ℕ) → run ts d s ≡ s
run-final (want s m k) h ts d = absurd h
run-final (have s e k) h ts d = absurd h
run-final (lit nots ands ors u) h ts d = absurd h
run-final (had c ands ors u) h ts d = absurd h
run-final (cmd cs b) h ts d = absurd h
run-final (becomes p x cs b) h ts d = absurd h
run-final (opening u) h ts d = absurd h
run-final (blocking b) h ts d = absurd h
run-final (else_or p c t cs b) h ts d = absurd h
run-final (done t) h ts d = run-done ts d t
run-final (refused c p) h ts d = run-refused ts d c p

finished-final : (p : ℕ) (cs : List Command) (b : Block) → Final (finished p cs b)
finished-final p [] b = tt
finished-final p (c ∷ cs) whole = tt
finished-final p (c ∷ cs) (if_body q e ds b) = tt
finished-final p (c ∷ cs) (else_body q e t ds b) = tt
finished-final p (c ∷ cs) (while_body q e ds b) = tt

ended-final : (k : Use) (e : Sum) (p : ℕ) → Final (ended k e (tok p lexeme.End)) × Final (ended k e (tok p lexeme.Stray))
ended-final (to_set q x cs b) e p = (tt, tt)
ended-final (left_of nots ands ors u) e p = (tt, tt)
ended-final (right_of q k l nots ands ors u) e p = (tt, tt)
ended-final (within s m k) e p = (tt, tt)

end-final : (s : State) (d p : ℕ) (ts : List Tok) → Final (step d s (tok p lexeme.End) ts)
end-final (want s m k) d p ts = tt
end-final (have s e k) d p ts = (ended-final k (onto s e) p).0
end-final (lit nots ands ors u) d p ts = tt
end-final (had c ands ors u) d p ts = tt
end-final (cmd cs b) d p ts = finished-final p cs b
end-final (becomes q x cs b) d p ts = tt
end-final (opening u) d p ts = tt
end-final (blocking b) d p ts = tt
end-final (else_or q c t cs b) d p ts = finished-final p (tree.when q c t ∷ cs) b
end-final (done t) d p ts = tt
end-final (refused c q) d p ts = tt

stray-final : (s : State) (d p : ℕ) (ts : List Tok) → Final (step d s (tok p lexeme.Stray) ts)
stray-final (want s m k) d p ts = tt
stray-final (have s e k) d p ts = (ended-final k (onto s e) p).1
stray-final (lit nots ands ors u) d p ts = tt
stray-final (had c ands ors u) d p ts = tt
stray-final (cmd cs b) d p ts = tt
stray-final (becomes q x cs b) d p ts = tt
stray-final (opening u) d p ts = tt
stray-final (blocking b) d p ts = tt
stray-final (else_or q c t cs b) d p ts = tt
stray-final (done t) d p ts = tt
stray-final (refused c q) d p ts = tt

-- neither does what is to come matter to them
end-alone : (s : State) (d p : ℕ) (ts us : List Tok) → step d s (tok p lexeme.End) ts ≡ step d s (tok p lexeme.End) us
end-alone (want s m k) d p ts us = refl
end-alone (have s e k) d p ts us = refl
end-alone (lit nots ands ors u) d p ts us = refl
end-alone (had c ands ors u) d p ts us = refl
end-alone (cmd cs b) d p ts us = refl
end-alone (becomes q x cs b) d p ts us = refl
end-alone (opening u) d p ts us = refl
end-alone (blocking b) d p ts us = refl
end-alone (else_or q c t cs b) d p ts us = refl
end-alone (done t) d p ts us = refl
end-alone (refused c q) d p ts us = refl

stray-alone : (s : State) (d p : ℕ) (ts us : List Tok) → step d s (tok p lexeme.Stray) ts ≡ step d s (tok p lexeme.Stray) us
stray-alone (want s m k) d p ts us = refl
stray-alone (have s e k) d p ts us = refl
stray-alone (lit nots ands ors u) d p ts us = refl
stray-alone (had c ands ors u) d p ts us = refl
stray-alone (cmd cs b) d p ts us = refl
stray-alone (becomes q x cs b) d p ts us = refl
stray-alone (opening u) d p ts us = refl
stray-alone (blocking b) d p ts us = refl
stray-alone (else_or q c t cs b) d p ts us = refl
stray-alone (done t) d p ts us = refl
stray-alone (refused c q) d p ts us = refl

module _ (names : List (List ℕ)) (text : List ℕ) where
  pub same-sight : (t : Token) → sight_of text t ≡ sight_in (lexeme_of names text t)
  same-sight t = kind-sight names t.kind (spelled text t)

  pub same-clue : (ts : List Token) (d : ℕ) → clue_ahead text ts d ≡ clue_in (lexed names text ts) d
  same-clue [] d = refl
  same-clue (t ∷ ts) d =
      ap (λ (s : Sight). seen_by s d (clue_ahead text ts)) (same-sight t)
      ∙ seen_same (sight_in (lexeme_of names text t)) d (clue_ahead text ts) (clue_in (lexed names text ts)) (same-clue ts)

  -- the next lexeme at a place, then the lexemes after it
  pub next-lexeme : (at : ℕ) → lexed names text (tokens_at text at) ≡ tok (token_at text at).start (lexeme_of names text (token_at text at)) ∷ lexed names text (after (token_at text at).kind (tokens_at text (token_at text at).end))
  next-lexeme at = ap (lexed names text) (next-token text at)

  -- one lexeme of a run, and the tokens behind it; the machine does not see that they end at the end
  stepped : List Token → ℕ → State → ℕ → Lexeme → State
  stepped ts d s p l = run (lexed names text ts) (depth_after l d) (step d s (tok p l) (lexed names text ts))

  behind-last : (k : Kind) (w : List ℕ) (ts : List Token) (d : ℕ) (s : State) (p : ℕ) → stepped (after k ts) d s p (kind_lexeme names k w) ≡ stepped ts d s p (kind_lexeme names k w)
  unfolding stepped
  behind-last kind.Word w ts d s p = refl
  behind-last kind.Number w ts d s p = refl
  behind-last (kind.Sign x) w ts d s p = refl
  behind-last kind.End w ts d s p =
      end-alone s d p [] (lexed names text ts) ∙ sym (run-final _ (end-final s d p (lexed names text ts)) (lexed names text ts) d)
  behind-last kind.Stray w ts d s p =
      stray-alone s d p [] (lexed names text ts) ∙ sym (run-final _ (stray-final s d p (lexed names text ts)) (lexed names text ts) d)

  pub run-next : (at d : ℕ) (s : State) → run (lexed names text (tokens_at text at)) d s
      ≡ run (lexed names text (tokens_at text (token_at text at).end)) (depth_after (lexeme_of names text (token_at text at)) d) (step d s (tok (token_at text at).start (lexeme_of names text (token_at text at))) (lexed names text (tokens_at text (token_at text at).end)))
  unfolding stepped
  run-next at d s =
      ap (λ (ts : List Tok). run ts d s) (next-lexeme at)
      ∙ behind-last (token_at text at).kind (spelled text (token_at text at)) (tokens_at text (token_at text at).end) d s (token_at text at).start
