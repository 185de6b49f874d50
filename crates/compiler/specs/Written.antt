-- What becomes of the code that is being laid: a line written over at an address, an address left for a jump, a part
-- laid. It stays in the lists that were lent for it.
use Rattle.std.specs.Prelude.{◌≡◌, ℕ, ◌+◌, List, length, slice_set}
use Rattle.instructions.specs.declared.instruction.Instruction.{Instruction}
use Rattle.tables.specs.declared.row.Row.{Row}
use Rattle.compiler.specs.declared.lay.Code.{Code}
use Rattle.compiler.specs.Parts.{HasRoom, LaidPart}

-- an instruction and its place, over what is at an address
abbrev pub with_line : Code → ℕ → Instruction → ℕ → Code
with_line c a i q =
    record c {
      instructions = record c.instructions { now = slice_set c.instructions.now a i };
      places = record c.places { now = slice_set c.places.now a q };
    }

-- the next address is one further on
abbrev pub stepped : Code → Code
stepped c = record c { next = c.next + 1 }

-- the part that ends at `end` has room from the next address on
pub record HasRoomIn (R : List Row) (end : ℕ) (c : Code) : Type 0 where
  pub room : HasRoom R end c.next (length c.instructions.now) (length c.places.now)

-- the part that ends at `end` has been laid in the same lists
pub record LaysPart (R : List Row) (end : ℕ) (old new : Code) : Type 0 where
  pub laid : LaidPart R end old.next old.instructions.now old.places.now new.next new.instructions.now new.places.now
  pub instructions : new.instructions.ghost_name ≡ old.instructions.ghost_name
  pub places : new.places.ghost_name ≡ old.places.ghost_name
