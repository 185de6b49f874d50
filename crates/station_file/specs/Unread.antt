-- What of a file is still to be read, and that reading has moved on by so many bytes of it.
use Rattle.std.specs.Prelude.{◌≡◌, ℕ, ◌+◌, List, drop}
use Rattle.station_file.specs.declared.unread.Unread.{Unread}

abbrev pub rest_of : Unread → List ℕ
rest_of u = drop u.at u.bytes.now

pub record MovesOn (n : ℕ) (old new : Unread) : Type 0 where
  pub same_bytes : new.bytes.now ≡ old.bytes.now
  pub moved : new.at ≡ old.at + n
