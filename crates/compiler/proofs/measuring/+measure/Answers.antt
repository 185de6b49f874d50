-- Each part's measure is known, and a row's is made of them.
use Rattle.std.proofs.Common.{◌≡◌, sym, ap, arith, rules}
use Rattle.compiler.specs.declared.shape.Shape.TheVariants as shape
use Rattle.compiler.specs.Measures.{part_count, two_measure, three_measure}
use Rattle.compiler.specs.Parts.{Part, shape_at}
use Rattle.compiler.proofs.Parting.{last-part, small, own-short, two-of, three-of, standing-at, under-two, under-three}
use Rattle.compiler.proofs.measuring.+measure.Goals as goal

-- one part

pub measure_before-last-requires : goal.measure_before-last-requires
measure_before-last-requires t c =
    let k : part_count (shape_at c.args.rows.now c.args.end) ≡ 1 = search rules in
    last-part c.args.rows.now c.args.end c.requires.stands (omega arith)

pub measure_before-under-requires : goal.measure_before-under-requires
measure_before-under-requires t c = omega (arith, (small _ _ _ c.last.result.stands c.last.result.few c.measure.ensures).length, own-short c.from-shape.result)

-- two parts, the second worked out above the first

pub measure_before-above-requires : goal.measure_before-above-requires
measure_before-above-requires t c = omega (arith, (small _ _ _ c.two.result.1.stands c.two.result.1.few c.measure-right.ensures).depth)

pub measure_before-then-parts-requires : goal.measure_before-then-parts-requires
measure_before-then-parts-requires t c =
    let x = small _ _ _ c.two.result.0.stands c.two.result.0.few c.measure-left.ensures in
    let y = small _ _ _ c.two.result.1.stands c.two.result.1.few c.measure-right.ensures in
    rw c.above.ensures (omega (arith, x.length, y.length))

pub measure_before-under-requires-in-Pair : goal.measure_before-under-requires-in-Pair
measure_before-under-requires-in-Pair t c =
    let x = small _ _ _ c.two.result.0.stands c.two.result.0.few c.measure-left.ensures in
    let y = small _ _ _ c.two.result.1.stands c.two.result.1.few c.measure-right.ensures in
    rw (c.then-parts.ensures, c.above.ensures) (omega (arith, x.length, y.length, own-short c.from-shape.result))

pub measure_before-returns-in-Pair : goal.measure_before-returns-in-Pair
measure_before-returns-in-Pair t c v s =
    let k : part_count (shape_at c.args.rows.now c.args.end) ≡ 2 = search rules in
    let O = two-of c.args.rows.now c.args.end v s k in
    let x = c.measure-left.ensures O.x (standing-at c.two.ensures.left O.left) in
    let y = c.measure-right.ensures O.y (standing-at c.two.ensures.right O.right) in
    let m : c.under-in-Pair.result ≡ two_measure c.from-shape.result c.row-row.result.place c.measure-left.result c.measure-right.result = rw (c.under-in-Pair.ensures, c.then-parts.ensures, c.above.ensures, c.in-Pair.is) in
    rw (m, x, y, c.from-shape.ensures, c.row-row.ensures) (sym (ap (λ (w : Part). w.measure) O.is))

-- one part and then another

pub measure_before-then-parts-requires-in-If : goal.measure_before-then-parts-requires-in-If
measure_before-then-parts-requires-in-If t c =
    let x = small _ _ _ c.two-in-If.result.0.stands c.two-in-If.result.0.few c.measure-in-If.ensures in
    let y = small _ _ _ c.two-in-If.result.1.stands c.two-in-If.result.1.few c.measure-in-If-2.ensures in
    omega (arith, x.length, y.length)

pub measure_before-under-requires-in-If : goal.measure_before-under-requires-in-If
measure_before-under-requires-in-If t c =
    let x = small _ _ _ c.two-in-If.result.0.stands c.two-in-If.result.0.few c.measure-in-If.ensures in
    let y = small _ _ _ c.two-in-If.result.1.stands c.two-in-If.result.1.few c.measure-in-If-2.ensures in
    rw c.then-parts-in-If.ensures (omega (arith, x.length, y.length, own-short c.from-shape.result))

pub measure_before-returns-in-If : goal.measure_before-returns-in-If
measure_before-returns-in-If t c v s =
    let k : part_count (shape_at c.args.rows.now c.args.end) ≡ 2 = search rules in
    let O = two-of c.args.rows.now c.args.end v s k in
    let x = c.measure-in-If.ensures O.x (standing-at c.two-in-If.ensures.left O.left) in
    let y = c.measure-in-If-2.ensures O.y (standing-at c.two-in-If.ensures.right O.right) in
    let other : c.from-shape.result ≡ shape.Pair → ⊥ = search rules in
    let m : c.under-in-If.result ≡ two_measure c.from-shape.result c.row-row.result.place c.measure-in-If.result c.measure-in-If-2.result = rw (c.under-in-If.ensures, c.then-parts-in-If.ensures) (under-two c.from-shape.result c.row-row.result.place c.measure-in-If.result c.measure-in-If-2.result other) in
    rw (m, x, y, c.from-shape.ensures, c.row-row.ensures) (sym (ap (λ (w : Part). w.measure) O.is))

-- three parts

pub measure_before-then-requires : goal.measure_before-then-requires
measure_before-then-requires t c =
    let x = small _ _ _ c.three.result.0.stands c.three.result.0.few c.measure-in-IfElse.ensures in
    let y = small _ _ _ c.three.result.1.stands c.three.result.1.few c.measure-in-IfElse-2.ensures in
    omega (arith, x.length, y.length)

pub measure_before-then-parts-requires-in-IfElse : goal.measure_before-then-parts-requires-in-IfElse
measure_before-then-parts-requires-in-IfElse t c =
    let x = small _ _ _ c.three.result.0.stands c.three.result.0.few c.measure-in-IfElse.ensures in
    let y = small _ _ _ c.three.result.1.stands c.three.result.1.few c.measure-in-IfElse-2.ensures in
    let z = small _ _ _ c.three.result.2.stands c.three.result.2.few c.measure-in-IfElse-3.ensures in
    rw c.then.ensures (omega (arith, x.length, y.length, z.length))

pub measure_before-under-requires-in-IfElse : goal.measure_before-under-requires-in-IfElse
measure_before-under-requires-in-IfElse t c =
    let x = small _ _ _ c.three.result.0.stands c.three.result.0.few c.measure-in-IfElse.ensures in
    let y = small _ _ _ c.three.result.1.stands c.three.result.1.few c.measure-in-IfElse-2.ensures in
    let z = small _ _ _ c.three.result.2.stands c.three.result.2.few c.measure-in-IfElse-3.ensures in
    rw (c.then-parts-in-IfElse.ensures, c.then.ensures) (omega (arith, x.length, y.length, z.length, own-short c.from-shape.result))

pub measure_before-returns-in-IfElse : goal.measure_before-returns-in-IfElse
measure_before-returns-in-IfElse t c v s =
    let k : part_count (shape_at c.args.rows.now c.args.end) ≡ 3 = search rules in
    let O = three-of c.args.rows.now c.args.end v s k in
    let x = c.measure-in-IfElse.ensures O.x (standing-at c.three.ensures.first O.left) in
    let y = c.measure-in-IfElse-2.ensures O.y (standing-at c.three.ensures.second O.middle) in
    let z = c.measure-in-IfElse-3.ensures O.z (standing-at c.three.ensures.third O.right) in
    let m : c.under-in-IfElse.result ≡ three_measure c.row-row.result.place c.measure-in-IfElse.result c.measure-in-IfElse-2.result c.measure-in-IfElse-3.result = rw (c.under-in-IfElse.ensures, c.then-parts-in-IfElse.ensures, c.then.ensures, c.in-IfElse.is) (under-three c.row-row.result.place c.measure-in-IfElse.result c.measure-in-IfElse-2.result c.measure-in-IfElse-3.result) in
    rw (m, x, y, z, c.row-row.ensures) (sym (ap (λ (w : Part). w.measure) O.is))
