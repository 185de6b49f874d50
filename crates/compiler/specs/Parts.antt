-- What a part of a table comes to, from the rows just before an end: how many rows, its measure, and its code from any
-- address. It is how the compiler's inner functions say what they are about; whole tables are spoken of by their sheet.
use Rattle.std.specs.Prelude.{◌≡◌, ℕ, suc, ◌+◌, ◌-◌, ◌≤◌, cond, List, [], ◌∷◌, ◌++◌, length, ℤ, pos, negsuc, nat_lt, slice_index_or}
use Rattle.instructions.specs.declared.instruction.Instruction.{Instruction}
use Rattle.instructions.specs.declared.instruction.Instruction.TheVariants.{Push, Load, Save, Pop, Add, Sub, Mul, Div, Cmp, Inv, And, Or, JumpF, Jump}
use Rattle.tables.specs.declared.kind.Kind.{Kind}
use Rattle.tables.specs.declared.kind.Kind.TheVariants as kind
use Rattle.tables.specs.declared.row.Row.{Row}
use Rattle.tables.specs.Rows.{blank}
use Rattle.compiler.specs.declared.shape.Shape.{Shape}
use Rattle.compiler.specs.declared.shape.Shape.TheVariants as shape
use Rattle.compiler.specs.declared.measure.Measure.{Measure}
use Rattle.compiler.specs.Code.{Line, instructions_of, places_of}
use Rattle.compiler.specs.Lists.{over_from}
use Rattle.compiler.specs.Sheets.{comparison_of}
use Rattle.compiler.specs.Measures.{shape_of, part_count, leaf_measure, one_measure, two_measure, three_measure}

-- a row's point; a table over at most 64 points has no other
abbrev pub point_of : ℤ → ℕ
point_of (pos p) = cond (nat_lt p 64) p 0
point_of (negsuc n) = 0

-- the instruction of a row of sums or conditions
abbrev pub operation : Kind → ℤ → Instruction
operation kind.Number v = Push v
operation kind.Name v = Load (point_of v)
operation kind.Add v = Add
operation kind.Sub v = Sub
operation kind.Mul v = Mul
operation kind.Div v = Div
operation kind.Truth v = Push v
operation kind.Compare v = Cmp (comparison_of v)
operation kind.Not v = Inv
operation kind.And v = And
operation kind.Or v = Or
operation kind.Set v = Pop
operation kind.If v = Pop
operation kind.IfElse v = Pop
operation kind.While v = Pop
operation kind.Joint v = Pop

pub record Part : Type 0 where
  pub rows : ℕ
  pub measure : Measure
  pub code : ℕ → List Line

abbrev pub own : Row → Line
own r = (operation r.kind r.value, r.place)

abbrev pub zero_part : Row → Part
zero_part r = record { rows = 1; measure = leaf_measure; code = λ a. own r ∷ [] }

abbrev pub one_code : Shape → Row → List Line → List Line
one_code shape.Leaf r x = []
one_code shape.Not r x = x ++ own r ∷ []
one_code shape.Pair r x = []
one_code shape.Set r x = x ++ (Save (point_of r.value), r.place) ∷ (Pop, r.place) ∷ []
one_code shape.If r x = []
one_code shape.IfElse r x = []
one_code shape.While r x = []
one_code shape.Joint r x = []

abbrev pub one_part : Shape → Row → Part → Part
one_part s r x =
    record { rows = suc x.rows; measure = one_measure s r.place x.measure; code = λ a. one_code s r (x.code a) }

-- of two parts, the first m long and the second n, by their code from any address
abbrev pub two_code : Shape → Row → ℕ → ℕ → (ℕ → List Line) → (ℕ → List Line) → ℕ → List Line
two_code shape.Leaf r m n x y a = []
two_code shape.Not r m n x y a = []
two_code shape.Pair r m n x y a = x a ++ (y (a + m) ++ own r ∷ [])
two_code shape.Set r m n x y a = []
two_code shape.If r m n x y a = x a ++ (JumpF (a + m + 1 + n), r.place) ∷ y (a + m + 1)
two_code shape.IfElse r m n x y a = []
two_code shape.While r m n x y a = x a ++ (JumpF (a + m + 1 + n + 1), r.place) ∷ (y (a + m + 1) ++ (Jump a, r.place) ∷ [])
two_code shape.Joint r m n x y a = x a ++ y (a + m)

abbrev pub two_part : Shape → Row → Part → Part → Part
two_part s r x y =
    record {
      rows = suc (x.rows + y.rows);
      measure = two_measure s r.place x.measure y.measure;
      code = two_code s r x.measure.length y.measure.length x.code y.code;
    }

abbrev pub three_code : Row → ℕ → ℕ → ℕ → (ℕ → List Line) → (ℕ → List Line) → (ℕ → List Line) → ℕ → List Line
three_code r m n k x y z a =
    x a ++ (JumpF (a + m + 1 + n + 1), r.place)
    ∷ (y (a + m + 1) ++ (Jump (a + m + 1 + n + 1 + k), r.place) ∷ z (a + m + 1 + n + 1))

abbrev pub three_part : Row → Part → Part → Part → Part
three_part r x y z =
    record {
      rows = suc (x.rows + (y.rows + z.rows));
      measure = three_measure r.place x.measure y.measure z.measure;
      code = three_code r x.measure.length y.measure.length z.measure.length x.code y.code z.code;
    }

-- the row before `end` is r, of so many rows and so many parts
pub record Own (R : List Row) (end : ℕ) (r : Row) (n k : ℕ) : Type 0 where
  pub some : 1 ≤ end
  pub within : end ≤ length R
  pub row : slice_index_or R (end - 1) blank ≡ r
  pub size : r.size ≡ n
  pub fits : n ≤ end
  pub parts : part_count (shape_of r.kind) ≡ k

-- the rows before `end` end with a part: its own row, and before it its parts, the last one first
pub data Stands (R : List Row) : ℕ → Part → Type 0 where
  zero-stands : {end : ℕ} {r : Row} → Own R end r 1 0 → Stands R end (zero_part r)
  one-stands : {end : ℕ} {r : Row} {x : Part} → Own R end r (suc x.rows) 1 → Stands R (end - 1) x → Stands R end (one_part (shape_of r.kind) r x)
  two-stands : {end : ℕ} {r : Row} {x y : Part} → Own R end r (suc (x.rows + y.rows)) 2 → Stands R (end - 1 - y.rows) x → Stands R (end - 1) y → Stands R end (two_part (shape_of r.kind) r x y)
  three-stands : {end : ℕ} {r : Row} {x y z : Part} → Own R end r (suc (x.rows + (y.rows + z.rows))) 3 → Stands R (end - 1 - z.rows - y.rows) x → Stands R (end - 1 - z.rows) y → Stands R (end - 1) z → Stands R end (three_part r x y z)

-- a part stands before `end`
abbrev pub IsPart : List Row → ℕ → Type 0
IsPart R end = ∥ ((v : Part) × Stands R end v) ∥₁

-- where the part begins that stands before `end`
abbrev pub start_at : List Row → ℕ → ℕ
start_at R end = end - (slice_index_or R (end - 1) blank).size

abbrev pub shape_at : List Row → ℕ → Shape
shape_at R end = shape_of (slice_index_or R (end - 1) blank).kind

-- a part that is to be laid from an address, in lists of i and p slots
pub record Room (R : List Row) (end at i p : ℕ) (v : Part) : Type 0 where
  pub stands : Stands R end v
  pub slots : at + v.measure.length ≤ i
  pub places : at + v.measure.length ≤ p
  pub short : at + v.measure.length ≤ 1024

-- lines have been laid from an address, and the next address is r
pub record Laid (at : ℕ) (code : List Line) (i : List Instruction) (p : List ℕ) (r : ℕ) (i' : List Instruction) (p' : List ℕ) : Type 0 where
  pub next : r ≡ at + length code
  pub instructions : i' ≡ over_from at (instructions_of code) i
  pub places : p' ≡ over_from at (places_of code) p

-- the part that ends at `end` has room
abbrev pub HasRoom : List Row → ℕ → ℕ → ℕ → ℕ → Type 0
HasRoom R end at i p = (v : Part) × Room R end at i p v

-- the part that ends at `end` has been laid
abbrev pub LaidPart : List Row → ℕ → ℕ → List Instruction → List ℕ → ℕ → List Instruction → List ℕ → Type 0
LaidPart R end at i p r i' p' = (v : Part) → Room R end at (length i) (length p) v → Laid at (v.code at) i p r i' p'
