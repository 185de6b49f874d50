-- Numbers in lent bytes. A point is four bytes, low byte first, in two's complement; the first point stands at the
-- first byte, and there are as many points as whole fours, up to 64. The bytes after the last point are spare.
-- A reader can check the layout against the first two lines, and that no byte is left out of account against
-- `laid` and `spare`: the bytes are always the points laid out and then the spare ones.
use Rattle.std.specs.Prelude.{ℕ, zero, suc, ◌+◌, ◌*◌, ◌/◌, ◌%◌, cond, List, [], ◌∷◌, ◌++◌, length, take, drop, ℤ, Ok, Err, Result, nat_lt, slice_index}
use Rattle.std.proofs.Common.{to_z, of_z}
use Rattle.std.specs.Int.{w32}
use Rattle.faults.specs.declared.fault.Fault.{Fault}
use Rattle.banks.specs.Fixed.{Fixed, in_bytes}
use Rattle.banks.specs.Points.{no_point}
use Rattle.banks.specs.declared.kept.Kept.{Kept}

-- the number that four bytes are, and the four bytes of a number
abbrev pub number : ℕ → ℕ → ℕ → ℕ → ℤ
number a b c d = to_z w32 (a + b * 256 + c * 65536 + d * 16777216)

abbrev pub four : ℤ → List ℕ
four v = (of_z w32 v % 256) ∷ (of_z w32 v / 256 % 256) ∷ (of_z w32 v / 65536 % 256) ∷ (of_z w32 v / 16777216 % 256) ∷ []

-- the number that stands at a place, and the bytes after one was put there: its four, and all others as they were
abbrev pub number_at : List ℕ → ℕ → ℤ
number_at bs at = number (slice_index bs at) (slice_index bs (at + 1)) (slice_index bs (at + 2)) (slice_index bs (at + 3))

abbrev pub put_at : List ℕ → ℕ → ℤ → List ℕ
put_at bs at v = take at bs ++ (four v ++ drop 4 (drop at bs))

-- the numbers of at most n points, and the bytes after them
unfoldable pub words : ℕ → List ℕ → List ℤ
words zero bs = []
words (suc n) [] = []
words (suc n) (a ∷ []) = []
words (suc n) (a ∷ b ∷ []) = []
words (suc n) (a ∷ b ∷ c ∷ []) = []
words (suc n) (a ∷ b ∷ c ∷ d ∷ bs) = number a b c d ∷ words n bs

unfoldable pub after : ℕ → List ℕ → List ℕ
after zero bs = bs
after (suc n) [] = []
after (suc n) (a ∷ []) = a ∷ []
after (suc n) (a ∷ b ∷ []) = a ∷ b ∷ []
after (suc n) (a ∷ b ∷ c ∷ []) = a ∷ b ∷ c ∷ []
after (suc n) (a ∷ b ∷ c ∷ d ∷ bs) = after n bs

-- the points of kept memory, and its spare bytes
abbrev pub numbers_in : List ℕ → List ℤ
numbers_in bs = words 64 bs

abbrev pub spare : List ℕ → List ℕ
spare bs = after 64 bs

-- numbers as bytes, one after another
unfoldable pub laid : List ℤ → List ℕ
laid [] = []
laid (z ∷ zs) = four z ++ laid zs

-- the bytes after a number was put at a point: its four, and all others as they were
abbrev pub put : List ℕ → ℕ → ℤ → List ℕ
put bs p v = take (4 * p) bs ++ (four v ++ drop (4 * p + 4) bs)

-- the answer to a write, and every byte after it
abbrev pub stored : List ℕ → ℕ → ℤ → Result ℤ Fault × List ℕ
stored bs p v = cond (nat_lt p (length (numbers_in bs))) (Ok v, put bs p v) (Err (no_point p), bs)

-- the lent bytes as they are, and what of them no write changes
abbrev pub bytes_of : Kept → List ℕ
bytes_of k = k.bytes.now

abbrev pub lending : Kept → List Fixed
lending k = in_bytes k.bytes.ghost_name (spare (bytes_of k))
