-- A cursor, by what it holds: a text and a position in it. Each step is one of the position, and leaves the text.
use Rattle.std.specs.Prelude.{ℕ, Bool, List}
use Rattle.scanner.specs.Tokens.{tokens_at, token_at, Placed}
use Rattle.scanner.specs.Steps.{next_of}
use Rattle.scanner.specs.Looks.{look_from}
use Rattle.scanner.specs.Clues.{OpensCondition}
use Rattle.scanner.specs.declared.token.Token.{Token}
use Rattle.scanner.specs.declared.position.Position.{Position}
use Rattle.scanner.specs.declared.cursor.Cursor.{Cursor}

pub record Held : Type 0 where
  pub text : List ℕ
  pub position : Position

abbrev pub held : Cursor → Held
held c = record { text = c.text.now; position = c.position }

abbrev pub at_start : List ℕ → Held
at_start text = record { text = text; position = record { at = 0 } }

abbrev pub peek_held : Held → Token
peek_held h = token_at h.text h.position.at

abbrev pub next_held : Held → Token × Held
next_held h =
    ((next_of h.text h.position).0, record { text = h.text; position = (next_of h.text h.position).1 })

abbrev pub look_held : Held → Bool × Held
look_held h =
    ((look_from h.text h.position).0, record { text = h.text; position = (look_from h.text h.position).1 })

abbrev pub PlacedLaw : Held → Token → Type 0
PlacedLaw h t = Placed h.text h.position.at t

abbrev pub LookLaw : Held → Bool → Type 0
LookLaw h r = OpensCondition h.text (tokens_at h.text h.position.at) r
