-- The parts of what stands before an end: where each of them ends, how large they are, and how long their code is.
use Rattle.std.proofs.Common.{◌≡◌, ℕ, suc, ◌+◌, ◌-◌, ◌*◌, ◌≤◌, List, length, get_or, sym, refl, ap, ◌∙◌, subst, arith}
use Rattle.std.proofs.Math.Logic.{∥∥₁_elim, ∥∥₁_map}
use Rattle.std.specs.Coded.{×_prop, le_prop}
use Rattle.std.proofs.lemmas.List.{length-append}
use Rattle.tables.specs.declared.row.Row.{Row}
use Rattle.tables.specs.Rows.{blank}
use Rattle.compiler.specs.declared.shape.Shape.{Shape}
use Rattle.compiler.specs.declared.shape.Shape.TheVariants as shape
use Rattle.compiler.specs.declared.node.Node.{Node}
use Rattle.compiler.specs.Nodes.{StandsBefore}
use Rattle.compiler.specs.Code.{Line}
use Rattle.compiler.specs.declared.measure.Measure.{Measure}
use Rattle.compiler.specs.Measures.{shape_of, part_count, own_length, two_depth, one_measure, then_measure, two_measure, three_measure}
use Rattle.compiler.specs.Parts.{Part, zero_part, one_code, one_part, two_code, two_part, three_code, three_part, Own, Stands, zero-stands, one-stands, two-stands, three-stands, IsPart, start_at, shape_at}

-- what the last row of a part says

pub record Last (R : List Row) (e : ℕ) (v : Part) : Type 0 where
  pub some : 1 ≤ e
  pub within : e ≤ length R
  pub size : (get_or R (e - 1) blank).size ≡ v.rows
  pub fits : v.rows ≤ e
  pub rows : 1 ≤ v.rows

last_of : (R : List Row) (e n k : ℕ) (r : Row) (v : Part) → Own R e r n k → n ≡ v.rows → 1 ≤ n → Last R e v
last_of R e n k r v o f l =
    record {
      some = o.some;
      within = o.within;
      size = ap (λ (x : Row). x.size) o.row ∙ o.size ∙ f;
      fits = omega (arith, o.fits);
      rows = omega arith;
    }

pub last : (R : List Row) (e : ℕ) (v : Part) → Stands R e v → Last R e v
last R e v (zero-stands {r = r} o) = last_of R e _ _ r v o refl (omega arith)
last R e v (one-stands {r = r} o f) = last_of R e _ _ r v o refl (omega arith)
last R e v (two-stands {r = r} o f g) = last_of R e _ _ r v o refl (omega arith)
last R e v (three-stands {r = r} o f g h) = last_of R e _ _ r v o refl (omega arith)

-- where a part begins is where the one before it ends

starts : (R : List Row) (e : ℕ) (v : Part) → Stands R e v → e - v.rows ≡ start_at R e
starts R e v s = ap (λ (n : ℕ). e - n) (sym (last R e v s).size)

starting : (R : List Row) (e : ℕ) (v w : Part) → Stands R e v → Stands R (e - v.rows) w → Stands R (start_at R e) w
starting R e v w s = subst (λ (n : ℕ). Stands R n w) (starts R e v s)

-- parts, by how many there are

parts_are : (R : List Row) (e n k : ℕ) (r : Row) → Own R e r n k → part_count (shape_at R e) ≡ k
parts_are R e n k r o = ap (λ (x : Row). part_count (shape_of x.kind)) o.row ∙ o.parts

pub zero_of : (R : List Row) (e : ℕ) (v : Part) → Stands R e v → part_count (shape_at R e) ≡ 0 → v ≡ zero_part (get_or R (e - 1) blank)
zero_of R e v (zero-stands o) k = ap zero_part (sym o.row)
zero_of R e v (one-stands {r = r} o f) k = absurd (omega (arith, parts_are R e _ _ r o))
zero_of R e v (two-stands {r = r} o f g) k = absurd (omega (arith, parts_are R e _ _ r o))
zero_of R e v (three-stands {r = r} o f g h) k = absurd (omega (arith, parts_are R e _ _ r o))

pub record OneOf (R : List Row) (e : ℕ) (v : Part) : Type 0 where
  pub x : Part
  pub part : Stands R (e - 1) x
  pub is : v ≡ one_part (shape_at R e) (get_or R (e - 1) blank) x

pub one_of : (R : List Row) (e : ℕ) (v : Part) → Stands R e v → part_count (shape_at R e) ≡ 1 → OneOf R e v
one_of R e v (zero-stands {r = r} o) k = absurd (omega (arith, parts_are R e _ _ r o))
one_of R e v (one-stands {x = x} o f) k =
    record { x = x; part = f; is = ap (λ (y : Row). one_part (shape_of y.kind) y x) (sym o.row) }
one_of R e v (two-stands {r = r} o f g) k = absurd (omega (arith, parts_are R e _ _ r o))
one_of R e v (three-stands {r = r} o f g h) k = absurd (omega (arith, parts_are R e _ _ r o))

pub record TwoOf (R : List Row) (e : ℕ) (v : Part) : Type 0 where
  pub x : Part
  pub y : Part
  pub left : Stands R (start_at R (e - 1)) x
  pub right : Stands R (e - 1) y
  pub is : v ≡ two_part (shape_at R e) (get_or R (e - 1) blank) x y

pub two-of : (R : List Row) (e : ℕ) (v : Part) → Stands R e v → part_count (shape_at R e) ≡ 2 → TwoOf R e v
two-of R e v (zero-stands {r = r} o) k = absurd (omega (arith, parts_are R e _ _ r o))
two-of R e v (one-stands {r = r} o f) k = absurd (omega (arith, parts_are R e _ _ r o))
two-of R e v (two-stands {x = x} {y = y} o f g) k =
    record { x = x; y = y; left = starting R (e - 1) y x g f; right = g; is = ap (λ (z : Row). two_part (shape_of z.kind) z x y) (sym o.row) }
two-of R e v (three-stands {r = r} o f g h) k = absurd (omega (arith, parts_are R e _ _ r o))

pub record ThreeOf (R : List Row) (e : ℕ) (v : Part) : Type 0 where
  pub x : Part
  pub y : Part
  pub z : Part
  pub left : Stands R (start_at R (start_at R (e - 1))) x
  pub middle : Stands R (start_at R (e - 1)) y
  pub right : Stands R (e - 1) z
  pub is : v ≡ three_part (get_or R (e - 1) blank) x y z

pub three-of : (R : List Row) (e : ℕ) (v : Part) → Stands R e v → part_count (shape_at R e) ≡ 3 → ThreeOf R e v
three-of R e v (zero-stands {r = r} o) k = absurd (omega (arith, parts_are R e _ _ r o))
three-of R e v (one-stands {r = r} o f) k = absurd (omega (arith, parts_are R e _ _ r o))
three-of R e v (two-stands {r = r} o f g) k = absurd (omega (arith, parts_are R e _ _ r o))
three-of R e v (three-stands {x = x} {y = y} {z = z} o f g h) k =
    let m = starting R (e - 1) z y h g in
    let l = subst (λ (n : ℕ). Stands R (n - y.rows) x) (starts R (e - 1) z h) f in
    record { x = x; y = y; z = z; left = starting R (start_at R (e - 1)) y x m l; middle = m; right = h; is = ap (λ (w : Row). three_part w x y z) (sym o.row) }

-- no row adds more than two instructions

pub own-short : (s : Shape) → own_length s ≤ 2
own-short s = grind arith

two-shallow : (s : Shape) (l r m n : ℕ) → l ≤ m → r ≤ n → two_depth s l r ≤ suc (m + n)
two-shallow s l r m n f g = grind arith

pub short : (R : List Row) (e : ℕ) (v : Part) → Stands R e v → v.measure.length ≤ 2 * v.rows
short R e v (zero-stands o) = omega arith
short R e v (one-stands {r = r} {x = x} o f) = omega (arith, own-short (shape_of r.kind), short R (e - 1) x f)
short R e v (two-stands {r = r} {x = x} {y = y} o f g) =
    omega (arith, own-short (shape_of r.kind), short R (e - 1 - y.rows) x f, short R (e - 1) y g)
short R e v (three-stands {r = r} {x = x} {y = y} {z = z} o f g h) =
    omega (arith, short R (e - 1 - z.rows - y.rows) x f, short R (e - 1 - z.rows) y g, short R (e - 1) z h)

pub shallow : (R : List Row) (e : ℕ) (v : Part) → Stands R e v → v.measure.depth ≤ v.rows
shallow R e v (zero-stands o) = omega arith
shallow R e v (one-stands {r = r} {x = x} o f) = omega (arith, shallow R (e - 1) x f)
shallow R e v (two-stands {r = r} {x = x} {y = y} o f g) =
    two-shallow (shape_of r.kind) x.measure.depth y.measure.depth x.rows y.rows (shallow R (e - 1 - y.rows) x f) (shallow R (e - 1) y g)
shallow R e v (three-stands {r = r} {x = x} {y = y} {z = z} o f g h) =
    omega (arith, shallow R (e - 1 - z.rows - y.rows) x f, shallow R (e - 1 - z.rows) y g, shallow R (e - 1) z h)

-- a part's code is as long as was measured

one-long : (s : Shape) (r : Row) (x : List Line) (n : ℕ) → part_count s ≡ 1 → length x ≡ n → length (one_code s r x) ≡ n + own_length s
one-long s r x n k e = grind (arith, length-append {A = Line})

abbrev Long : ℕ → (ℕ → List Line) → Type 0
Long n x = (a : ℕ) → length (x a) ≡ n

two-long : (s : Shape) (r : Row) (m n : ℕ) (x y : ℕ → List Line) → part_count s ≡ 2 → Long m x → Long n y → (a : ℕ) → length (two_code s r m n x y a) ≡ m + n + own_length s
two-long s r m n x y k e f a = grind (arith, length-append {A = Line}, e, f)

three-long : (r : Row) (m n k : ℕ) (x y z : ℕ → List Line) → Long m x → Long n y → Long k z → (a : ℕ) → length (three_code r m n k x y z a) ≡ m + n + k + 2
three-long r m n k x y z e f g a = simp (length-append, e, f, g) (omega arith)

pub long : (R : List Row) (e : ℕ) (v : Part) → Stands R e v → (a : ℕ) → length (v.code a) ≡ v.measure.length
long R e v (zero-stands o) a = refl
long R e v (one-stands {r = r} {x = x} o f) a = one-long (shape_of r.kind) r (x.code a) _ o.parts (long R (e - 1) x f a)
long R e v (two-stands {r = r} {x = x} {y = y} o f g) a =
    two-long (shape_of r.kind) r _ _ x.code y.code o.parts (long R (e - 1 - y.rows) x f) (long R (e - 1) y g) a
long R e v (three-stands {r = r} {x = x} {y = y} {z = z} o f g h) a =
    three-long r _ _ _ x.code y.code z.code (long R (e - 1 - z.rows - y.rows) x f) (long R (e - 1 - z.rows) y g) (long R (e - 1) z h) a

-- what is known of a node, whatever part it is

pub some_row : (R : List Row) (e : ℕ) → IsPart R e → 1 ≤ e
some_row R e h = ∥∥₁_elim h le_prop (λ h. (last R e h.0 h.1).some)

pub fits : (R : List Row) (e : ℕ) → IsPart R e → (get_or R (e - 1) blank).size ≤ e
fits R e h = ∥∥₁_elim h le_prop (λ h. let l = last R e h.0 h.1 in omega (arith, l.size, l.fits))

last_of_some : (R : List Row) (e : ℕ) (v : Part) → Stands R e v → 1 ≤ part_count (shape_at R e) → (w : Part) × Stands R (e - 1) w
last_of_some R e v (zero-stands {r = r} o) k = absurd (omega (arith, parts_are R e _ _ r o))
last_of_some R e v (one-stands {x = x} o f) k = (x, f)
last_of_some R e v (two-stands {y = y} o f g) k = (y, g)
last_of_some R e v (three-stands {z = z} o f g h) k = (z, h)

pub last-part : (R : List Row) (e : ℕ) → IsPart R e → 1 ≤ part_count (shape_at R e) → IsPart R (e - 1)
last-part R e h k = ∥∥₁_map h (λ h. last_of_some R e h.0 h.1 k)

pub left-part : (R : List Row) (e : ℕ) → IsPart R e → part_count (shape_at R e) ≡ 2 → IsPart R (start_at R (e - 1))
left-part R e h k = ∥∥₁_map h (λ h. let O = two-of R e h.0 h.1 k in (O.x, O.left))

pub middle-part : (R : List Row) (e : ℕ) → IsPart R e → part_count (shape_at R e) ≡ 3 → IsPart R (start_at R (e - 1))
middle-part R e h k = ∥∥₁_map h (λ h. let O = three-of R e h.0 h.1 k in (O.y, O.middle))

pub first-part : (R : List Row) (e : ℕ) → IsPart R e → part_count (shape_at R e) ≡ 3 → IsPart R (start_at R (start_at R (e - 1)))
first-part R e h k = ∥∥₁_map h (λ h. let O = three-of R e h.0 h.1 k in (O.x, O.left))

-- where a node says that it stands
pub standing-at : {R : List Row} {e : ℕ} {n : Node} {v : Part} → StandsBefore R e n → Stands R e v → Stands n.rows.now n.end v
standing-at {R} {e} {n} {v} h s =
    subst (λ (xs : List Row). Stands xs n.end v) (sym h.rows) (subst (λ (k : ℕ). Stands R k v) (sym h.end) s)

-- parts one after the other and then their row

pub under-two : (s : Shape) (q : ℕ) (x y : Measure) → (s ≡ shape.Pair → ⊥) → one_measure s q (then_measure x y) ≡ two_measure s q x y
under-two s q x y h = grind (arith, h)

pub under-three : (q : ℕ) (x y z : Measure) → one_measure shape.IfElse q (then_measure (then_measure x y) z) ≡ three_measure q x y z
under-three q x y z = grind arith

-- what was measured of a node in at most 2,048 rows is small
pub record Small (m : Measure) : Type 0 where
  pub length : m.length ≤ 4096
  pub depth : m.depth ≤ 4096

pub small : (R : List Row) (e : ℕ) (m : Measure) → IsPart R e → length R ≤ 2048 → ((v : Part) → Stands R e v → m ≡ v.measure) → Small m
small R e m h few f =
    let both : (m.length ≤ 4096) × (m.depth ≤ 4096) = ∥∥₁_elim h (×_prop le_prop le_prop) (λ h. small_of h.0 h.1) in
    record { length = both.0; depth = both.1 }
  where
    small_of : (v : Part) → Stands R e v → (m.length ≤ 4096) × (m.depth ≤ 4096)
    small_of v s =
        let l = last R e v s in
        let fl = ap (λ (z : Measure). z.length) (f v s) in
        let fd = ap (λ (z : Measure). z.depth) (f v s) in
        (omega (arith, short R e v s, l.fits, l.within, fl), omega (arith, shallow R e v s, l.fits, l.within, fd))
