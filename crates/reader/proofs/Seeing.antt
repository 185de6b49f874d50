-- What is seen at a place: its lexeme is the next one, and the lexemes behind it are those from its end on.
use Rattle.std.proofs.Common.{◌≡◌, ℕ, ◌<◌, leb, List, ◌∷◌, length, Some, None, Ok, Err, codes, Option, Result, sym, refl, ap, ◌∙◌, subst, arith}
use Rattle.std.specs.Str.{bytes_eq}
use Rattle.std.proofs.lemmas.Bool.{cond_both}
use Rattle.faults.specs.declared.causes.ReaderCause.{ReaderCause}
use Rattle.scanner.specs.Tokens.{tokens_at, token_at, after, spelled, Placed}
use Rattle.scanner.specs.declared.token.Symbol.{Symbol}
use Rattle.scanner.specs.declared.token.Symbol.TheVariants as symbol
use Rattle.scanner.specs.declared.token.Kind.{Kind}
use Rattle.scanner.specs.declared.token.Kind.TheVariants as kind
use Rattle.scanner.specs.declared.token.Token.{Token}
use Rattle.names.specs.Lines.{position}
use Rattle.names.specs.Names.{Finds}
use Rattle.names.proofs.NameLaws.{finds}
use Rattle.grammar.specs.declared.lexeme.Lexeme.{Lexeme}
use Rattle.grammar.specs.declared.choice.CommandStart.{CommandStart}
use Rattle.grammar.specs.declared.choice.CommandStart.TheVariants as command
use Rattle.grammar.specs.Choices.{command_of}
use Rattle.grammar.specs.Lexemes.{Tok, tok, lexed, listed, numeral, number_lexeme, word_lexeme, sign_lexeme, kind_lexeme, lexeme_of}
use Rattle.grammar.proofs.Lexing.{next-lexeme}
use Rattle.reader.specs.Ahead.{ahead, follow, HereIs}

-- a name is one of the list's; where a command is wanted, a name is told from all other lexemes

abbrev ListedAs : List (List ℕ) → Result CommandStart ReaderCause → Type 0
ListedAs names (Ok (command.Set x)) = x < length names
ListedAs names (Ok command.If) = Unit {0}
ListedAs names (Ok command.While) = Unit {0}
ListedAs names (Ok command.CloseBlock) = Unit {0}
ListedAs names (Ok command.End) = Unit {0}
ListedAs names (Err c) = Unit {0}

abbrev Listed : List (List ℕ) → Lexeme → Type 0
Listed names l = ListedAs names (command_of l)

-- what a word, a number and a sign are has lexemes behind it
abbrev Inner : List (List ℕ) → Lexeme → Type 0
Inner names l = ((ts : List Tok) → ts ≡ follow l ts) × Listed names l

inner-listed : (names : List (List ℕ)) (w : List ℕ) (o : Option ℕ) → Finds w names o → Inner names (listed o)
inner-listed names w (Some x) f = (λ ts. refl, f.0)
inner-listed names w None f = (λ ts. refl, tt)

inner-word : (names : List (List ℕ)) (w : List ℕ) → Inner names (word_lexeme names w)
inner-word names w =
    cond_both (bytes_eq w (codes "if")) _ _ P (λ _. (λ ts. refl, tt)) (λ _.
    cond_both (bytes_eq w (codes "else")) _ _ P (λ _. (λ ts. refl, tt)) (λ _.
    cond_both (bytes_eq w (codes "while")) _ _ P (λ _. (λ ts. refl, tt)) (λ _.
    cond_both (bytes_eq w (codes "true")) _ _ P (λ _. (λ ts. refl, tt)) (λ _.
    cond_both (bytes_eq w (codes "false")) _ _ P (λ _. (λ ts. refl, tt)) (λ _.
    inner-listed names w (position w names) (finds w names))))))
  where
    P : Lexeme → Type 0
    P l = Inner names l

inner-number : (names : List (List ℕ)) (n : ℕ) → Inner names (number_lexeme n)
inner-number names n = cond_both (leb n 2147483647) _ _ (λ (l : Lexeme). Inner names l) (λ _. (λ ts. refl, tt)) (λ _. (λ ts. refl, tt))

inner-sign : (names : List (List ℕ)) (s : Symbol) → Inner names (sign_lexeme s)
inner-sign names symbol.OpenBlock = (λ ts. refl, tt)
inner-sign names symbol.CloseBlock = (λ ts. refl, tt)
inner-sign names symbol.Open = (λ ts. refl, tt)
inner-sign names symbol.Close = (λ ts. refl, tt)
inner-sign names symbol.Semicolon = (λ ts. refl, tt)
inner-sign names symbol.Becomes = (λ ts. refl, tt)
inner-sign names symbol.Plus = (λ ts. refl, tt)
inner-sign names symbol.Minus = (λ ts. refl, tt)
inner-sign names symbol.Times = (λ ts. refl, tt)
inner-sign names symbol.Over = (λ ts. refl, tt)
inner-sign names symbol.Not = (λ ts. refl, tt)
inner-sign names symbol.And = (λ ts. refl, tt)
inner-sign names symbol.Or = (λ ts. refl, tt)
inner-sign names (symbol.Compare c) = (λ ts. refl, tt)

kind-listed : (names : List (List ℕ)) (k : Kind) (w : List ℕ) → Listed names (kind_lexeme names k w)
kind-listed names kind.Word w = (inner-word names w).1
kind-listed names kind.Number w = (inner-number names (numeral w)).1
kind-listed names (kind.Sign s) w = (inner-sign names s).1
kind-listed names kind.End w = tt
kind-listed names kind.Stray w = tt

behind : (names : List (List ℕ)) (text : List ℕ) (k : Kind) (w : List ℕ) (ts : List Token) → lexed names text (after k ts) ≡ follow (kind_lexeme names k w) (lexed names text ts)
behind names text kind.Word w ts = (inner-word names w).0 (lexed names text ts)
behind names text kind.Number w ts = (inner-number names (numeral w)).0 (lexed names text ts)
behind names text (kind.Sign s) w ts = (inner-sign names s).0 (lexed names text ts)
behind names text kind.End w ts = refl
behind names text kind.Stray w ts = refl

module _ (names : List (List ℕ)) (text : List ℕ) (at : ℕ) where
  here-token : ahead names text at ≡ tok (token_at text at).start (lexeme_of names text (token_at text at)) ∷ follow (lexeme_of names text (token_at text at)) (ahead names text (token_at text at).end)
  unfolding ahead
  here-token =
      next-lexeme names text at
      ∙ ap (λ ts. tok (token_at text at).start (lexeme_of names text (token_at text at)) ∷ ts) (behind names text (token_at text at).kind (spelled text (token_at text at)) (tokens_at text (token_at text at).end))

  here-lexeme : (t : Token) (l : Lexeme) → t ≡ token_at text at → l ≡ lexeme_of names text t → ahead names text at ≡ tok t.start l ∷ follow l (ahead names text t.end)
  here-lexeme t l e f =
      here-token
      ∙ ap (λ (u : Token). tok u.start (lexeme_of names text u) ∷ follow (lexeme_of names text u) (ahead names text u.end)) (sym e)
      ∙ ap (λ (m : Lexeme). tok t.start m ∷ follow m (ahead names text t.end)) (sym f)

  pub here-is : (t : Token) (l : Lexeme) → t ≡ token_at text at → Placed text at t → l ≡ lexeme_of names text t → HereIs names text at (record { lexeme = l; place = t.start; end = t.end })
  here-is t l e p f =
      record {
        tokens = here-lexeme t l e f;
        forward = omega (arith, p.ahead, p.forward);
        placed = p.forward;
        within = p.within;
        moved = λ n. omega (arith, p.ahead, (p.taken (λ (k : t.kind ≡ kind.End). n (f ∙ ap (λ (c : Kind). kind_lexeme names c (spelled text t)) k))).0);
        named = λ x q. let P : Lexeme → Type 0 = Listed names in subst P (sym f ∙ q) (kind-listed names t.kind (spelled text t));
      }
