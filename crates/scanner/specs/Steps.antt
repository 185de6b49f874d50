-- One token on: the token at a position or after it, and the position behind that token.
use Rattle.std.specs.Prelude.{ℕ, List}
use Rattle.scanner.specs.Tokens.{token_at}
use Rattle.scanner.specs.declared.token.Token.{Token}
use Rattle.scanner.specs.declared.position.Position.{Position}

abbrev pub next_of : List ℕ → Position → Token × Position
next_of text p = (token_at text p.at, record { at = (token_at text p.at).end })
