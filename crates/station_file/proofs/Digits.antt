-- Numbers and their bytes, both ways.
use Rattle.std.proofs.Common.{◌≡◌, ℕ, ◌+◌, ◌*◌, ◌^◌, ◌<◌, List, [], ◌∷◌, ◌++◌, Some, arith}
use Rattle.station_file.specs.Layout.{two_bytes, four_bytes}
use Rattle.station_file.specs.Reading.{two_of, four_of}

pub two_back : (n : ℕ) (rest : List ℕ) → n < 65536 → two_of (two_bytes n ++ rest) ≡ Some n
two_back n rest h = grind arith

pub four-back : (n : ℕ) (rest : List ℕ) → n < 2 ^ 32 → four_of (four_bytes n ++ rest) ≡ Some n
four-back n rest h = grind arith

pub two-only : (a b : ℕ) → a < 256 → b < 256 → two_bytes (a + b * 256) ≡ a ∷ b ∷ []
two-only a b ha hb = grind arith

pub four-only : (a b c d : ℕ) → a < 256 → b < 256 → c < 256 → d < 256 → four_bytes (a + b * 256 + c * 65536 + d * 16777216) ≡ a ∷ b ∷ c ∷ d ∷ []
four-only a b c d ha hb hc hd = grind arith
