-- Every call has room for its part, and what the parts and the row's own lines come to is the row's code.
use Rattle.std.proofs.Common.{◌<◌, refl, ap, arith, rules}
use Rattle.tables.specs.declared.row.Row.{Row}
use Rattle.compiler.specs.Measures.{part_count}
use Rattle.compiler.proofs.Parting.{some_row, last-part}
use Rattle.compiler.proofs.Laying.{shaped, lines-own, lays-leaf, one-space, lays-not, lays-set, left-room, gap-space, right-room, right-space, lays-pair, lays-joint, lays-if, lays-while, first-room, first-gap, second_room, second-gap, third-room, third-space, lays-choose, moved-none, moved-step, moved-line, moved-put, moved-then, free, kept, gap-kept, first-kept, second-kept, space-after}
use Rattle.compiler.proofs.lay.Code.+lay.Goals as goal

-- no parts

pub lay_before-returns-in-Leaf : goal.lay_before-returns-in-Leaf
lay_before-returns-in-Leaf t c =
    lays-leaf c.requires.room (shaped c.requires.room c.row-row.ensures c.from.ensures c.in-Leaf.is) (lines-own c.requires.room c.row-row.ensures c.instruction_of.ensures c.put.ensures)

-- one part

pub lay_before-last-requires : goal.lay_before-last-requires
lay_before-last-requires t c =
    let f = shaped c.requires.room c.row-row.ensures c.from.ensures c.in-Not.is in
    last-part _ _ c.requires.stands (omega (arith, ap part_count f))

pub lay_before-put-requires-in-Not : goal.lay_before-put-requires-in-Not
lay_before-put-requires-in-Not t c =
    free (one-space c.requires.room (shaped c.requires.room c.row-row.ensures c.from.ensures c.in-Not.is) refl c.last.ensures c.lay.ensures) (omega arith)

pub lay_before-returns-in-Not : goal.lay_before-returns-in-Not
lay_before-returns-in-Not t c =
    lays-not c.requires.room (shaped c.requires.room c.row-row.ensures c.from.ensures c.in-Not.is) c.last.ensures c.lay.ensures (lines-own c.requires.room c.row-row.ensures c.instruction_of-in-Not.ensures c.put-in-Not.ensures)

pub lay_before-last-requires-in-Set : goal.lay_before-last-requires-in-Set
lay_before-last-requires-in-Set t c =
    let f = shaped c.requires.room c.row-row.ensures c.from.ensures c.in-Set.is in
    last-part _ _ c.requires.stands (omega (arith, ap part_count f))

pub lay_before-put-requires-in-Set : goal.lay_before-put-requires-in-Set
lay_before-put-requires-in-Set t c =
    free (one-space c.requires.room (shaped c.requires.room c.row-row.ensures c.from.ensures c.in-Set.is) refl c.last-in-Set.ensures c.lay-in-Set.ensures) (omega arith)

pub lay_before-put-requires-in-Set-2 : goal.lay_before-put-requires-in-Set-2
lay_before-put-requires-in-Set-2 t c =
    free (space-after 1 (one-space c.requires.room (shaped c.requires.room c.row-row.ensures c.from.ensures c.in-Set.is) refl c.last-in-Set.ensures c.lay-in-Set.ensures) (moved-put _ _ c.put-in-Set.ensures) (omega arith)) (omega arith)

pub lay_before-returns-in-Set : goal.lay_before-returns-in-Set
lay_before-returns-in-Set t c =
    lays-set c.requires.room (shaped c.requires.room c.row-row.ensures c.from.ensures c.in-Set.is) c.last-in-Set.ensures c.lay-in-Set.ensures c.row-row.ensures c.point_of.ensures c.put-in-Set.ensures c.put-in-Set-2.ensures

-- two parts

pub lay_before-lay-requires-in-Pair : goal.lay_before-lay-requires-in-Pair
lay_before-lay-requires-in-Pair t c =
    let f = shaped c.requires.room c.row-row.ensures c.from.ensures c.in-Pair.is in
    let some = some_row _ _ c.requires.stands in
    (search rules, left-room c.requires.room f refl c.two.ensures.left)

pub lay_before-lay-requires-in-Pair-2 : goal.lay_before-lay-requires-in-Pair-2
lay_before-lay-requires-in-Pair-2 t c =
    let f = shaped c.requires.room c.row-row.ensures c.from.ensures c.in-Pair.is in
    let some = some_row _ _ c.requires.stands in
    (search rules, right-room c.requires.room f refl c.two.ensures.left c.lay-in-Pair.ensures moved-none (omega arith) c.two.ensures.right)

pub lay_before-put-requires-in-Pair : goal.lay_before-put-requires-in-Pair
lay_before-put-requires-in-Pair t c =
    free (right-space c.requires.room (shaped c.requires.room c.row-row.ensures c.from.ensures c.in-Pair.is) refl c.two.ensures.left c.lay-in-Pair.ensures moved-none (omega arith) c.two.ensures.right c.lay-in-Pair-2.ensures 1 (omega arith)) (omega arith)

pub lay_before-returns-in-Pair : goal.lay_before-returns-in-Pair
lay_before-returns-in-Pair t c =
    lays-pair c.requires.room (shaped c.requires.room c.row-row.ensures c.from.ensures c.in-Pair.is) c.two.ensures.left c.two.ensures.right c.lay-in-Pair.ensures c.lay-in-Pair-2.ensures (lines-own c.requires.room c.row-row.ensures c.instruction_of-in-Pair.ensures c.put-in-Pair.ensures)

pub lay_before-lay-requires-in-Joint : goal.lay_before-lay-requires-in-Joint
lay_before-lay-requires-in-Joint t c =
    let f = shaped c.requires.room c.row-row.ensures c.from.ensures c.in-Joint.is in
    let some = some_row _ _ c.requires.stands in
    (search rules, left-room c.requires.room f refl c.two-in-Joint.ensures.left)

pub lay_before-lay-requires-in-Joint-2 : goal.lay_before-lay-requires-in-Joint-2
lay_before-lay-requires-in-Joint-2 t c =
    let f = shaped c.requires.room c.row-row.ensures c.from.ensures c.in-Joint.is in
    let some = some_row _ _ c.requires.stands in
    (search rules, right-room c.requires.room f refl c.two-in-Joint.ensures.left c.lay-in-Joint.ensures moved-none (omega arith) c.two-in-Joint.ensures.right)

pub lay_before-returns-in-Joint : goal.lay_before-returns-in-Joint
lay_before-returns-in-Joint t c =
    lays-joint c.requires.room (shaped c.requires.room c.row-row.ensures c.from.ensures c.in-Joint.is) c.two-in-Joint.ensures.left c.two-in-Joint.ensures.right c.lay-in-Joint.ensures c.lay-in-Joint-2.ensures

-- a body behind a jump

pub lay_if-lay-requires : goal.lay_if-lay-requires
lay_if-lay-requires t c =
    let some = some_row _ _ c.args.node.stands in
    (search rules, left-room c.requires.part c.requires.shape refl c.two.ensures.left)

pub lay_if-skip-jump-requires : goal.lay_if-skip-jump-requires
lay_if-skip-jump-requires t c =
    (free (gap-space c.requires.part c.requires.shape refl c.two.ensures.left c.lay.ensures) (omega arith)).0

pub lay_if-lay-requires-2 : goal.lay_if-lay-requires-2
lay_if-lay-requires-2 t c =
    let some = some_row _ _ c.args.node.stands in
    (search rules, right-room c.requires.part c.requires.shape refl c.two.ensures.left c.lay.ensures (moved-step c.skip-jump.ensures.next) (omega arith) c.two.ensures.right)

pub lay_if-overflow_cast-self : goal.lay_if-overflow_cast-self
lay_if-overflow_cast-self t c =
    let s = right-space c.requires.part c.requires.shape refl c.two.ensures.left c.lay.ensures (moved-step c.skip-jump.ensures.next) (omega arith) c.two.ensures.right c.lay-2.ensures 0 (omega arith) in
    let fits : c.lay-2.new.self.next < 2048 = omega (arith, s.short) in
    search rules

pub lay_if-put_at-requires : goal.lay_if-put_at-requires
lay_if-put_at-requires t c =
    gap-kept c.requires.part c.requires.shape refl c.two.ensures.left c.lay.ensures (moved-step c.skip-jump.ensures.next) (omega arith) c.two.ensures.right c.lay-2.ensures c.skip-jump.ensures.address (omega arith)

pub lay_if-returns : goal.lay_if-returns
lay_if-returns t c =
    lays-if c.requires.part c.requires.shape c.two.ensures.left c.two.ensures.right (ap (λ (r : Row). r.place) c.row-place.ensures) c.lay.ensures c.skip-jump.ensures.address c.skip-jump.ensures.next c.lay-2.ensures c.put_at.ensures

-- and back to the condition

pub lay_while-lay-requires : goal.lay_while-lay-requires
lay_while-lay-requires t c =
    let some = some_row _ _ c.args.node.stands in
    (search rules, left-room c.requires.part c.requires.shape refl c.two.ensures.left)

pub lay_while-skip-out-requires : goal.lay_while-skip-out-requires
lay_while-skip-out-requires t c =
    (free (gap-space c.requires.part c.requires.shape refl c.two.ensures.left c.lay.ensures) (omega arith)).0

pub lay_while-lay-requires-2 : goal.lay_while-lay-requires-2
lay_while-lay-requires-2 t c =
    let some = some_row _ _ c.args.node.stands in
    (search rules, right-room c.requires.part c.requires.shape refl c.two.ensures.left c.lay.ensures (moved-step c.skip-out.ensures.next) (omega arith) c.two.ensures.right)

pub lay_while-put-requires : goal.lay_while-put-requires
lay_while-put-requires t c =
    free (right-space c.requires.part c.requires.shape refl c.two.ensures.left c.lay.ensures (moved-step c.skip-out.ensures.next) (omega arith) c.two.ensures.right c.lay-2.ensures 1 (omega arith)) (omega arith)

pub lay_while-overflow_cast-self : goal.lay_while-overflow_cast-self
lay_while-overflow_cast-self t c =
    let s = space-after 0 (right-space c.requires.part c.requires.shape refl c.two.ensures.left c.lay.ensures (moved-step c.skip-out.ensures.next) (omega arith) c.two.ensures.right c.lay-2.ensures 1 (omega arith)) (moved-put _ _ c.put.ensures) (omega arith) in
    let fits : c.put.new.self.next < 2048 = omega (arith, s.short) in
    search rules

pub lay_while-put_at-requires : goal.lay_while-put_at-requires
lay_while-put_at-requires t c =
    kept (gap-kept c.requires.part c.requires.shape refl c.two.ensures.left c.lay.ensures (moved-step c.skip-out.ensures.next) (omega arith) c.two.ensures.right c.lay-2.ensures c.skip-out.ensures.address (omega arith)) (moved-put _ _ c.put.ensures)

pub lay_while-returns : goal.lay_while-returns
lay_while-returns t c =
    lays-while c.requires.part c.requires.shape c.two.ensures.left c.two.ensures.right (ap (λ (r : Row). r.place) c.row-place.ensures) c.lay.ensures c.skip-out.ensures.address c.skip-out.ensures.next c.lay-2.ensures c.put.ensures c.put_at.ensures

-- two bodies, each behind a jump

pub lay_if_else-lay-requires : goal.lay_if_else-lay-requires
lay_if_else-lay-requires t c =
    let some = some_row _ _ c.args.node.stands in
    (search rules, first-room c.requires.part c.requires.shape c.three.ensures.first)

pub lay_if_else-skip-to_other-requires : goal.lay_if_else-skip-to_other-requires
lay_if_else-skip-to_other-requires t c =
    (free (first-gap c.requires.part c.requires.shape c.three.ensures.first c.lay.ensures) (omega arith)).0

pub lay_if_else-lay-requires-2 : goal.lay_if_else-lay-requires-2
lay_if_else-lay-requires-2 t c =
    let some = some_row _ _ c.args.node.stands in
    (search rules, second_room c.requires.part c.requires.shape c.three.ensures.first c.lay.ensures c.skip-to_other.ensures.next c.three.ensures.second)

pub lay_if_else-skip-to_end-requires : goal.lay_if_else-skip-to_end-requires
lay_if_else-skip-to_end-requires t c =
    (free (second-gap c.requires.part c.requires.shape c.three.ensures.first c.lay.ensures c.skip-to_other.ensures.next c.three.ensures.second c.lay-2.ensures) (omega arith)).0

pub lay_if_else-overflow_cast-self : goal.lay_if_else-overflow_cast-self
lay_if_else-overflow_cast-self t c =
    let s = space-after 0 (second-gap c.requires.part c.requires.shape c.three.ensures.first c.lay.ensures c.skip-to_other.ensures.next c.three.ensures.second c.lay-2.ensures) (moved-step c.skip-to_end.ensures.next) (omega arith) in
    let fits : c.skip-to_end.new.self.next < 2048 = omega (arith, s.short) in
    search rules

pub lay_if_else-put_at-requires : goal.lay_if_else-put_at-requires
lay_if_else-put_at-requires t c =
    kept (first-kept c.requires.part c.requires.shape c.three.ensures.first c.lay.ensures c.skip-to_other.ensures.next c.three.ensures.second c.lay-2.ensures c.skip-to_other.ensures.address) (moved-step c.skip-to_end.ensures.next)

pub lay_if_else-lay-requires-3 : goal.lay_if_else-lay-requires-3
lay_if_else-lay-requires-3 t c =
    let some = some_row _ _ c.args.node.stands in
    (search rules, third-room c.requires.part c.requires.shape c.three.ensures.first c.lay.ensures c.skip-to_other.ensures.next c.three.ensures.second c.lay-2.ensures (moved-then (moved-step c.skip-to_end.ensures.next) (moved-line _ _ _ c.put_at.ensures)) c.three.ensures.third)

pub lay_if_else-overflow_cast-self-2 : goal.lay_if_else-overflow_cast-self-2
lay_if_else-overflow_cast-self-2 t c =
    let s = third-space c.requires.part c.requires.shape c.three.ensures.first c.lay.ensures c.skip-to_other.ensures.next c.three.ensures.second c.lay-2.ensures (moved-then (moved-step c.skip-to_end.ensures.next) (moved-line _ _ _ c.put_at.ensures)) c.three.ensures.third c.lay-3.ensures in
    let fits : c.lay-3.new.self.next < 2048 = omega (arith, s.short) in
    search rules

pub lay_if_else-put_at-requires-2 : goal.lay_if_else-put_at-requires-2
lay_if_else-put_at-requires-2 t c =
    second-kept c.requires.part c.requires.shape c.three.ensures.first c.lay.ensures c.skip-to_other.ensures.next c.three.ensures.second c.lay-2.ensures (moved-then (moved-step c.skip-to_end.ensures.next) (moved-line _ _ _ c.put_at.ensures)) c.three.ensures.third c.lay-3.ensures c.skip-to_end.ensures.address

pub lay_if_else-returns : goal.lay_if_else-returns
lay_if_else-returns t c =
    lays-choose c.requires.part c.requires.shape c.three.ensures.first c.three.ensures.second c.three.ensures.third (ap (λ (r : Row). r.place) c.row-place.ensures) c.lay.ensures c.skip-to_other.ensures.address c.skip-to_other.ensures.next c.lay-2.ensures c.skip-to_end.ensures.address c.skip-to_end.ensures.next c.put_at.ensures c.lay-3.ensures c.put_at-2.ensures
