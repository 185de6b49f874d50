-- The lexemes of a text end with the end, or with a byte that begins no token, and neither stands before. So a text is read
-- exactly if its own tokens are a sheet's.
use Rattle.std.proofs.Common.{◌≡◌, ℕ, zero, suc, Bool, true, false, leb, List, [], ◌∷◌, ◌++◌, Some, None, codes, Option, sym, ap, ◌∙◌, subst, arith}
use Rattle.std.specs.Str.{bytes_eq}
use Rattle.std.proofs.lemmas.Bool.{cond_both}
use Rattle.scanner.specs.Tokens.{is_blank, front, token, after, tell, tokens_from, tokens_at, spelled}
use Rattle.scanner.specs.declared.token.Symbol.{Symbol}
use Rattle.scanner.specs.declared.token.Symbol.TheVariants as symbol
use Rattle.scanner.specs.declared.token.Kind.{Kind}
use Rattle.scanner.specs.declared.token.Kind.TheVariants as kind
use Rattle.scanner.specs.declared.token.Token.{Token}
use Rattle.names.specs.Lines.{position}
use Rattle.grammar.specs.declared.lexeme.Lexeme.{Lexeme}
use Rattle.grammar.specs.declared.lexeme.Lexeme.TheVariants as lexeme
use Rattle.grammar.specs.Choices.{depth_after}
use Rattle.grammar.specs.Lexemes.{Tok, tok, numeral, listed, word_lexeme, sign_lexeme, lexed, lexemes}
use Rattle.grammar.specs.Limits.{FewOpen}
use Rattle.grammar.specs.Theorem.{ReadsJust}
use Rattle.grammar.proofs.Complete.{reads_all}
use Rattle.grammar.proofs.Sound.{reads_only}

-- only the end is read as the end

abbrev GoesOn : Lexeme → Type 0
GoesOn (lexeme.Number v) = Unit {0}
GoesOn lexeme.TooLarge = Unit {0}
GoesOn (lexeme.Name y) = Unit {0}
GoesOn lexeme.Unlisted = Unit {0}
GoesOn (lexeme.Truth v) = Unit {0}
GoesOn lexeme.If = Unit {0}
GoesOn lexeme.Else = Unit {0}
GoesOn lexeme.While = Unit {0}
GoesOn (lexeme.Additive o) = Unit {0}
GoesOn (lexeme.Multiplicative o) = Unit {0}
GoesOn (lexeme.Compare o) = Unit {0}
GoesOn lexeme.Not = Unit {0}
GoesOn lexeme.And = Unit {0}
GoesOn lexeme.Or = Unit {0}
GoesOn lexeme.Open = Unit {0}
GoesOn lexeme.Close = Unit {0}
GoesOn lexeme.OpenBlock = Unit {0}
GoesOn lexeme.CloseBlock = Unit {0}
GoesOn lexeme.Semicolon = Unit {0}
GoesOn lexeme.Becomes = Unit {0}
GoesOn lexeme.End = ⊥
GoesOn lexeme.Stray = Unit {0}

listed-goes-on : (o : Option ℕ) → GoesOn (listed o)
listed-goes-on (Some x) = tt
listed-goes-on None = tt

word-goes-on : (names : List (List ℕ)) (w : List ℕ) → GoesOn (word_lexeme names w)
word-goes-on names w =
    cond_both (bytes_eq w (codes "if")) _ _ GoesOn (λ _. tt) (λ _.
    cond_both (bytes_eq w (codes "else")) _ _ GoesOn (λ _. tt) (λ _.
    cond_both (bytes_eq w (codes "while")) _ _ GoesOn (λ _. tt) (λ _.
    cond_both (bytes_eq w (codes "true")) _ _ GoesOn (λ _. tt) (λ _.
    cond_both (bytes_eq w (codes "false")) _ _ GoesOn (λ _. tt) (λ _.
    listed-goes-on (position w names))))))

sign-goes-on : (s : Symbol) → GoesOn (sign_lexeme s)
sign-goes-on symbol.OpenBlock = tt
sign-goes-on symbol.CloseBlock = tt
sign-goes-on symbol.Open = tt
sign-goes-on symbol.Close = tt
sign-goes-on symbol.Semicolon = tt
sign-goes-on symbol.Becomes = tt
sign-goes-on symbol.Plus = tt
sign-goes-on symbol.Minus = tt
sign-goes-on symbol.Times = tt
sign-goes-on symbol.Over = tt
sign-goes-on symbol.Not = tt
sign-goes-on symbol.And = tt
sign-goes-on symbol.Or = tt
sign-goes-on (symbol.Compare c) = tt

-- the lexemes behind the end are none
abbrev pub Last : List Tok → Type 0
Last ts = (body : List Tok) (e : ℕ) (rest : List Tok) → ts ≡ body ++ tok e lexeme.End ∷ rest → rest ≡ []

none_left : (body : List Tok) (x : Tok) (rest : List Tok) → [] ≡ body ++ x ∷ rest → ⊥
none_left [] x rest e = let z : ◌≡◌ {A = ℕ} 0 1 = cc in omega arith
none_left (y ∷ body) x rest e = let z : ◌≡◌ {A = ℕ} 0 1 = cc in omega arith

alone : (x : Tok) → Last (x ∷ [])
alone x [] e rest is = cc
alone x (y ∷ body) e rest is = let n : [] ≡ body ++ tok e lexeme.End ∷ rest = cc in absurd (none_left body _ rest n)

first : List Tok → Lexeme
first [] = lexeme.Stray
first (x ∷ xs) = x.lexeme

before : (x : Tok) (xs : List Tok) → GoesOn x.lexeme → Last xs → Last (x ∷ xs)
unfolding first
before x xs g h [] e rest is = absurd (subst GoesOn (ap first is) g)
before x xs g h (y ∷ body) e rest is = h body e rest (let n : xs ≡ body ++ tok e lexeme.End ∷ rest = cc in n)

module _ (names : List (List ℕ)) (text : List ℕ) where
  told-last : (k : Kind) (s e : ℕ) (ts : List Token) → Last (lexed names text ts) → Last (lexed names text (token k s e ∷ after k ts))
  told-last kind.Word s e ts h = before _ _ (word-goes-on names (spelled text (token kind.Word s e))) h
  told-last kind.Number s e ts h =
      before _ _ (cond_both (leb (numeral (spelled text (token kind.Number s e))) 2147483647) _ _ GoesOn (λ _. tt) (λ _. tt)) h
  told-last (kind.Sign x) s e ts h = before _ _ (sign-goes-on x) h
  told-last kind.End s e ts h = alone _
  told-last kind.Stray s e ts h = alone _

  last-from : (bs : List ℕ) (k p : ℕ) → Last (lexed names text (tokens_from bs k p))
  last-from [] k p = alone _
  last-from (b ∷ bs) (suc k) p = last-from bs k (suc p)
  last-from (b ∷ bs) zero p =
      elim (is_blank b) as (λ (v : Bool). Last (lexed names text (tell v (front b bs) p (tokens_from bs)))) [
        | true ↦ last-from bs 0 (suc p)
        | false ↦ told-last (front b bs).0 p _ (tokens_from bs (front b bs).1 (suc p)) (last-from bs (front b bs).1 (suc p))
      ]

  pub end-last : Last (lexemes names text)
  unfolding tokens_at
  end-last = last-from text 0 0

few-with-end : (us : List Tok) (d p : ℕ) → FewOpen d us → FewOpen d (us ++ tok p lexeme.End ∷ [])
few-with-end [] d p h = (h, h)
few-with-end (x ∷ us) d p h = (h.0, few-with-end us (depth_after x.lexeme d) p h.1)

pub reads-just : ReadsJust
reads-just names text t = record {
  only = λ e.
      let b = reads_only (lexemes names text) t e in
      let n : b.rest ≡ [] = end-last names text b.body b.end b.rest b.split in
      let split : lexemes names text ≡ b.body ++ tok b.end lexeme.End ∷ [] = b.split ∙ ap (λ (l : List Tok). b.body ++ tok b.end lexeme.End ∷ l) n in
      (record { body = b.body; end = b.end; split = split; derived = b.derived }, subst (FewOpen 0) (sym split) (few-with-end b.body 0 b.end b.few));
  each = reads_all (lexemes names text) t;
}
