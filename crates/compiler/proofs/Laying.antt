-- Laying the parts of a node and then its own lines lays the node's code.
use Rattle.std.proofs.Common.{◌≡◌, ℕ, ◌+◌, ◌-◌, ◌<◌, ◌≤◌, List, [], ◌∷◌, ◌++◌, length, get_or, sym, refl, ap, ◌∙◌, subst, append_assoc, length-set, arith}
use Rattle.instructions.specs.declared.instruction.Instruction.{Instruction}
use Rattle.instructions.specs.declared.instruction.Instruction.TheVariants.{Save, Pop, JumpF, Jump}
use Rattle.tables.specs.declared.row.Row.{Row}
use Rattle.tables.specs.Rows.{blank}
use Rattle.compiler.specs.declared.shape.Shape.{Shape}
use Rattle.compiler.specs.declared.shape.Shape.TheVariants as shape
use Rattle.compiler.specs.declared.lay.Code.{Code}
use Rattle.compiler.specs.declared.node.Node.{Node}
use Rattle.compiler.specs.Nodes.{StandsBefore}
use Rattle.compiler.specs.Code.{Line, instructions_of, places_of}
use Rattle.compiler.specs.Measures.{shape_of, part_count, own_length}
use Rattle.compiler.specs.Parts.{Part, point_of, operation, own, one_code, two_code, Stands, Room, Laid, start_at, shape_at}
use Rattle.compiler.specs.Written.{with_line, stepped, HasRoomIn, LaysPart}
use Rattle.compiler.proofs.Overs.{length_over, laid_then, laid-put, laid-around}
use Rattle.compiler.proofs.Parting.{zero_of, OneOf, one_of, TwoOf, two-of, ThreeOf, three-of, long, standing-at}

-- lines laid in the same lists

pub record Lines (xs : List Line) (C D : Code) : Type 0 where
  pub laid : Laid C.next xs C.instructions.now C.places.now D.next D.instructions.now D.places.now
  pub instructions : D.instructions.ghost_name ≡ C.instructions.ghost_name
  pub places : D.places.ghost_name ≡ C.places.ghost_name

relaid : {xs ys : List Line} {C D : Code} → xs ≡ ys → Lines xs C D → Lines ys C D
relaid {xs} {ys} {C} {D} e l = subst (λ (zs : List Line). Lines zs C D) e l

lines-then : {xs ys : List Line} {C D E : Code} → Lines xs C D → Lines ys D E → Lines (xs ++ ys) C E
lines-then f g =
    record {
      laid = laid_then f.laid g.laid;
      instructions = g.instructions ∙ f.instructions;
      places = g.places ∙ f.places;
    }

pub lines-put : {C D : Code} (i : Instruction) (q : ℕ) → D ≡ stepped (with_line C C.next i q) → Lines ((i, q) ∷ []) C D
lines-put {C} {D} i q e =
    subst (λ (X : Code). Lines ((i, q) ∷ []) C X) (sym e)
    (record { laid = laid-put C.next q i _ _ _ _ _ refl refl refl; instructions = refl; places = refl })

-- the line between two pieces may be put when both are laid
lines-around : {xs ys : List Line} {C D D' E F : Code} {j : ℕ} (i : Instruction) (q : ℕ) → Lines xs C D → j ≡ D.next → D' ≡ stepped D → Lines ys D' E → F ≡ with_line E j i q → Lines (xs ++ (i, q) ∷ ys) C F
lines-around {xs} {ys} {C} {D} {D'} {E} {F} {j} i q f at skip g e =
    let g' : Lines ys (stepped D) E = subst (λ (X : Code). Lines ys X E) skip g in
    let e' : F ≡ with_line E D.next i q = e ∙ ap (λ (n : ℕ). with_line E n i q) at in
    subst (λ (X : Code). Lines (xs ++ (i, q) ∷ ys) C X) (sym e')
    (record {
      laid = laid-around q i f.laid g'.laid refl refl;
      instructions = g'.instructions ∙ f.instructions;
      places = g'.places ∙ f.places;
    })

-- the line of a row of sums or conditions
pub lines-own : {R : List Row} {e : ℕ} {A : Code} → HasRoomIn R e A → {C D : Code} {r : Row} {i : Instruction} → r ≡ get_or R (e - 1) blank → i ≡ operation r.kind r.value → D ≡ stepped (with_line C C.next i r.place) → Lines (own (get_or R (e - 1) blank) ∷ []) C D
lines-own _ {C} {D} {r} {i} f g h =
    lines-put _ _ (h ∙ ap (λ (x : Instruction). stepped (with_line C C.next x r.place)) g ∙ ap (λ (x : Row). stepped (with_line C C.next (operation x.kind x.value) x.place)) f)

-- where a node says that it stands

pub room-at : {R : List Row} {e a i p : ℕ} {n : Node} {v : Part} → StandsBefore R e n → Room R e a i p v → Room n.rows.now n.end a i p v
room-at h r = record { stands = standing-at h r.stands; slots = r.slots; places = r.places; short = r.short }

pub lines-of : {R : List Row} {e : ℕ} {n : Node} {v : Part} {C D : Code} → StandsBefore R e n → LaysPart n.rows.now n.end C D → Room R e C.next (length C.instructions.now) (length C.places.now) v → Lines (v.code C.next) C D
lines-of {v = v} h l r = record { laid = l.laid v (room-at h r); instructions = l.instructions; places = l.places }

pub lays-part : {R : List Row} {e : ℕ} {C D : Code} → HasRoomIn R e C → ((v : Part) → Room R e C.next (length C.instructions.now) (length C.places.now) v → Lines (v.code C.next) C D) → LaysPart R e C D
lays-part h f =
    let l = f h.room.0 h.room.1 in
    record { laid = λ v r. (f v r).laid; instructions = l.instructions; places = l.places }

-- how far the next address has moved on, in lists of the same lengths

pub record Moved (n : ℕ) (C D : Code) : Type 0 where
  pub at : D.next ≡ C.next + n
  pub instructions : length D.instructions.now ≡ length C.instructions.now
  pub places : length D.places.now ≡ length C.places.now

pub moved-lines : {R : List Row} {e : ℕ} {v : Part} {C D : Code} → Stands R e v → Lines (v.code C.next) C D → Moved v.measure.length C D
moved-lines {R} {e} {v} {C} s l =
    record {
      at = l.laid.next ∙ ap (λ (n : ℕ). C.next + n) (long R e v s C.next);
      instructions = ap length l.laid.instructions ∙ length_over C.next (instructions_of (v.code C.next)) C.instructions.now;
      places = ap length l.laid.places ∙ length_over C.next (places_of (v.code C.next)) C.places.now;
    }

pub moved-line : {C D : Code} (a q : ℕ) (i : Instruction) → D ≡ with_line C a i q → Moved 0 C D
moved-line {C} {D} a q i e =
    subst (λ (X : Code). Moved 0 C X) (sym e)
    (record { at = omega arith; instructions = length-set C.instructions.now a i; places = length-set C.places.now a q })

pub moved-step : {C D : Code} → D ≡ stepped C → Moved 1 C D
moved-step {C} {D} e = subst (λ (X : Code). Moved 1 C X) (sym e) (record { at = refl; instructions = refl; places = refl })

pub moved-put : {C D : Code} (i : Instruction) (q : ℕ) → D ≡ stepped (with_line C C.next i q) → Moved 1 C D
moved-put {C} {D} i q e =
    subst (λ (X : Code). Moved 1 C X) (sym e)
    (record { at = refl; instructions = length-set C.instructions.now C.next i; places = length-set C.places.now C.next q })

pub moved-then : {m n : ℕ} {C D E : Code} → Moved m C D → Moved n D E → Moved (m + n) C E
moved-then f g =
    record {
      at = omega (arith, f.at, g.at);
      instructions = g.instructions ∙ f.instructions;
      places = g.places ∙ f.places;
    }

pub moved-none : {C : Code} → Moved 0 C C
moved-none = record { at = omega arith; instructions = refl; places = refl }

-- space for so many lines

pub record Space (n : ℕ) (C : Code) : Type 0 where
  pub slots : C.next + n ≤ length C.instructions.now
  pub places : C.next + n ≤ length C.places.now
  pub short : C.next + n ≤ 1024

pub space-of : {R : List Row} {e : ℕ} {v : Part} {C : Code} → Room R e C.next (length C.instructions.now) (length C.places.now) v → Space v.measure.length C
space-of r = record { slots = r.slots; places = r.places; short = r.short }

pub room-of : {R : List Row} {e : ℕ} {v : Part} {C : Code} → Stands R e v → Space v.measure.length C → Room R e C.next (length C.instructions.now) (length C.places.now) v
room-of s r = record { stands = s; slots = r.slots; places = r.places; short = r.short }

space-for : {m n : ℕ} {C : Code} → Space m C → n ≤ m → Space n C
space-for s l =
    record {
      slots = omega (arith, s.slots);
      places = omega (arith, s.places);
      short = omega (arith, s.short);
    }

pub space-after : {m n : ℕ} (k : ℕ) {C D : Code} → Space m C → Moved n C D → k + n ≤ m → Space k D
space-after k s d l =
    record {
      slots = omega (arith, s.slots, d.at, d.instructions);
      places = omega (arith, s.places, d.at, d.places);
      short = omega (arith, s.short, d.at);
    }

-- the next address is free, and one that was left before it stays free

pub free : {n : ℕ} {C : Code} → Space n C → 1 ≤ n → (C.next < length C.instructions.now) × (C.next < length C.places.now)
free s l = (omega (arith, s.slots), omega (arith, s.places))

left_free : {m n a : ℕ} {C D : Code} → a ≡ C.next → Space m C → 1 ≤ m → Moved n C D → (a < length D.instructions.now) × (a < length D.places.now)
left_free e s l d = (omega (arith, s.slots, d.instructions), omega (arith, s.places, d.places))

pub kept : {n a : ℕ} {C D : Code} → (a < length C.instructions.now) × (a < length C.places.now) → Moved n C D → (a < length D.instructions.now) × (a < length D.places.now)
kept h d = (omega (arith, h.0, d.instructions), omega (arith, h.1, d.places))

-- no parts

module _ {R : List Row} {e : ℕ} {C : Code} (h : HasRoomIn R e C) (k : part_count (shape_at R e) ≡ 0) where
  leaf-lines : {D : Code} → Lines (own (get_or R (e - 1) blank) ∷ []) C D → Lines (h.room.0.code C.next) C D
  leaf-lines l = relaid (sym (ap (λ (w : Part). w.code C.next) (zero_of R e h.room.0 h.room.1.stands k))) l

pub lays-leaf : {R : List Row} {e : ℕ} {C : Code} (h : HasRoomIn R e C) → shape_at R e ≡ shape.Leaf → {D : Code} → Lines (own (get_or R (e - 1) blank) ∷ []) C D → LaysPart R e C D
lays-leaf h f l = lays-part h (λ v r. leaf-lines (record { room = (v, r) }) (ap part_count f) l)

-- one part

module _ {R : List Row} {e : ℕ} {C : Code} (h : HasRoomIn R e C) {s : Shape} (f : shape_at R e ≡ s) (k : part_count s ≡ 1) where
  pub one : OneOf R e h.room.0
  one = one_of R e h.room.0 h.room.1.stands (ap part_count f ∙ k)

  one-total : h.room.0.measure.length ≡ one.x.measure.length + own_length s
  one-total = ap (λ (w : Part). w.measure.length) one.is ∙ ap (λ (z : Shape). one.x.measure.length + own_length z) f

  one-room : Room R (e - 1) C.next (length C.instructions.now) (length C.places.now) one.x
  one-room = let t = one-total in room-of {C = C} one.part (space-for {C = C} (space-of {C = C} h.room.1) (omega arith))

  one-lines : {n1 : Node} {D : Code} → StandsBefore R (e - 1) n1 → LaysPart n1.rows.now n1.end C D → Lines (one.x.code C.next) C D
  one-lines p l = lines-of p l one-room

  pub one-space : {n1 : Node} {D : Code} → StandsBefore R (e - 1) n1 → LaysPart n1.rows.now n1.end C D → Space (own_length s) D
  one-space p l =
      let t = one-total in
      space-after _ (space-of {C = C} h.room.1) (moved-lines one.part (one-lines p l)) (omega arith)

  one-code : one_code s (get_or R (e - 1) blank) (one.x.code C.next) ≡ h.room.0.code C.next
  one-code = ap (λ (z : Shape). one_code z (get_or R (e - 1) blank) (one.x.code C.next)) (sym f) ∙ sym (ap (λ (w : Part). w.code C.next) one.is)

pub lays-not : {R : List Row} {e : ℕ} {C : Code} (h : HasRoomIn R e C) (f : shape_at R e ≡ shape.Not) {n1 : Node} {D E : Code} → StandsBefore R (e - 1) n1 → LaysPart n1.rows.now n1.end C D → Lines (own (get_or R (e - 1) blank) ∷ []) D E → LaysPart R e C E
lays-not h f p l l' =
    lays-part h (λ v r. relaid (one-code (record { room = (v, r) }) f refl) (lines-then (one-lines (record { room = (v, r) }) f refl p l) l'))

pub lays-set : {R : List Row} {e : ℕ} {C : Code} (h : HasRoomIn R e C) (f : shape_at R e ≡ shape.Set) {n1 : Node} {x : ℕ} {r : Row} {D E F : Code} → StandsBefore R (e - 1) n1 → LaysPart n1.rows.now n1.end C D → r ≡ get_or R (e - 1) blank → x ≡ point_of r.value → E ≡ stepped (with_line D D.next (Save x) r.place) → F ≡ stepped (with_line E E.next Pop r.place) → LaysPart R e C F
lays-set {R} {e} h f {r = r} {D = D} {E = E} {F = F} p l g i j k =
    let save : Lines ((Save (point_of r.value), r.place) ∷ []) D E = lines-put _ _ (j ∙ ap (λ (y : ℕ). stepped (with_line D D.next (Save y) r.place)) i) in
    let both : Lines ((Save (point_of r.value), r.place) ∷ (Pop, r.place) ∷ []) D F = lines-then save (lines-put _ _ k) in
    let both' : Lines ((Save (point_of (get_or R (e - 1) blank).value), (get_or R (e - 1) blank).place) ∷ (Pop, (get_or R (e - 1) blank).place) ∷ []) D F = relaid (ap (λ (z : Row). (Save (point_of z.value), z.place) ∷ (Pop, z.place) ∷ []) g) both in
    lays-part h (λ v r. relaid (one-code (record { room = (v, r) }) f refl) (lines-then (one-lines (record { room = (v, r) }) f refl p l) both'))

-- two parts; the second may come some addresses behind the first

module _ {R : List Row} {e : ℕ} {C : Code} (h : HasRoomIn R e C) {s : Shape} (f : shape_at R e ≡ s) (k : part_count s ≡ 2) where
  two : TwoOf R e h.room.0
  two = two-of R e h.room.0 h.room.1.stands (ap part_count f ∙ k)

  two-total : h.room.0.measure.length ≡ two.x.measure.length + two.y.measure.length + own_length s
  two-total = ap (λ (w : Part). w.measure.length) two.is ∙ ap (λ (z : Shape). two.x.measure.length + two.y.measure.length + own_length z) f

  left_place : Room R (start_at R (e - 1)) C.next (length C.instructions.now) (length C.places.now) two.x
  left_place = let t = two-total in room-of {C = C} two.left (space-for {C = C} (space-of {C = C} h.room.1) (omega arith))

  two-code : two_code s (get_or R (e - 1) blank) two.x.measure.length two.y.measure.length two.x.code two.y.code C.next ≡ h.room.0.code C.next
  two-code =
      ap (λ (z : Shape). two_code z (get_or R (e - 1) blank) two.x.measure.length two.y.measure.length two.x.code two.y.code C.next) (sym f)
      ∙ sym (ap (λ (w : Part). w.code C.next) two.is)

  module _ {n1 : Node} (p : StandsBefore R (start_at R (e - 1)) n1) where
    pub left-room : HasRoomIn n1.rows.now n1.end C
    left-room = record { room = (two.x, room-at p left_place) }

    module _ {D : Code} (l : LaysPart n1.rows.now n1.end C D) where
      left-lines : Lines (two.x.code C.next) C D
      left-lines = lines-of p l left_place

      left-moved : Moved two.x.measure.length C D
      left-moved = moved-lines two.left left-lines

      left-space : Space (two.y.measure.length + own_length s) D
      left-space = let t = two-total in space-after _ (space-of {C = C} h.room.1) left-moved (omega arith)

      -- behind the first part
      pub gap-space : Space (own_length s) D
      gap-space = space-for left-space (omega arith)

      module _ {j : ℕ} {D' : Code} (m : Moved j D D') (i : j ≤ own_length s) {n2 : Node} (q : StandsBefore R (e - 1) n2) where
        right-place : Room R (e - 1) D'.next (length D'.instructions.now) (length D'.places.now) two.y
        right-place = room-of {C = D'} two.right (space-after _ left-space m (omega arith))

        pub right-room : HasRoomIn n2.rows.now n2.end D'
        right-room = record { room = (two.y, room-at q right-place) }

        module _ {E : Code} (l' : LaysPart n2.rows.now n2.end D' E) where
          right-lines : Lines (two.y.code D'.next) D' E
          right-lines = lines-of q l' right-place

          right-moved : Moved two.y.measure.length D' E
          right-moved = moved-lines two.right right-lines

          -- behind both parts
          pub right-space : (n : ℕ) → n + j ≤ own_length s → Space n E
          right-space n b = space-after n (space-after (two.y.measure.length + n) left-space m (omega arith)) right-moved (omega arith)

          pub gap-kept : {a : ℕ} → a ≡ D.next → 1 ≤ own_length s → (a < length E.instructions.now) × (a < length E.places.now)
          gap-kept at some = left_free at gap-space some (moved-then m right-moved)

-- the parts one behind the other, and then the row's own line

pub lays-pair : {R : List Row} {e : ℕ} {C : Code} (h : HasRoomIn R e C) (f : shape_at R e ≡ shape.Pair) {n1 n2 : Node} {D E F : Code} → StandsBefore R (start_at R (e - 1)) n1 → StandsBefore R (e - 1) n2 → LaysPart n1.rows.now n1.end C D → LaysPart n2.rows.now n2.end D E → Lines (own (get_or R (e - 1) blank) ∷ []) E F → LaysPart R e C F
lays-pair {R} {e} {C} h f p q l l' o =
    lays-part h (λ v r.
    let g : HasRoomIn R e C = record { room = (v, r) } in
    let T = two g f refl in
    relaid (ap (λ (b : ℕ). T.x.code C.next ++ (T.y.code b ++ own (get_or R (e - 1) blank) ∷ [])) (left-moved g f refl p l).at ∙ two-code g f refl)
    (lines-then (left-lines g f refl p l) (lines-then (right-lines g f refl p l moved-none (omega arith) q l') o)))

pub lays-joint : {R : List Row} {e : ℕ} {C : Code} (h : HasRoomIn R e C) (f : shape_at R e ≡ shape.Joint) {n1 n2 : Node} {D E : Code} → StandsBefore R (start_at R (e - 1)) n1 → StandsBefore R (e - 1) n2 → LaysPart n1.rows.now n1.end C D → LaysPart n2.rows.now n2.end D E → LaysPart R e C E
lays-joint {R} {e} {C} h f p q l l' =
    lays-part h (λ v r.
    let g : HasRoomIn R e C = record { room = (v, r) } in
    let T = two g f refl in
    relaid (ap (λ (b : ℕ). T.x.code C.next ++ T.y.code b) (left-moved g f refl p l).at ∙ two-code g f refl)
    (lines-then (left-lines g f refl p l) (right-lines g f refl p l moved-none (omega arith) q l')))

-- with a jump between them

pub lays-if : {R : List Row} {e : ℕ} {C : Code} (h : HasRoomIn R e C) (f : shape_at R e ≡ shape.If) {n1 n2 : Node} {j g : ℕ} {D D' E F : Code} → StandsBefore R (start_at R (e - 1)) n1 → StandsBefore R (e - 1) n2 → g ≡ (get_or R (e - 1) blank).place → LaysPart n1.rows.now n1.end C D → j ≡ D.next → D' ≡ stepped D → LaysPart n2.rows.now n2.end D' E → F ≡ with_line E j (JumpF E.next) g → LaysPart R e C F
lays-if {R} {e} {C} h f {g = g} {D' = D'} {E = E} p q at l i step l' put =
    lays-part h (λ v r.
    let w : HasRoomIn R e C = record { room = (v, r) } in
    let T = two w f refl in
    let m = left-moved w f refl p l in
    let m' = moved-step step in
    let m'' = right-moved w f refl p l m' (omega arith) q l' in
    let body : D'.next ≡ C.next + T.x.measure.length + 1 = omega (arith, m.at, m'.at) in
    let to : E.next ≡ C.next + T.x.measure.length + 1 + T.y.measure.length = omega (arith, m''.at) in
    relaid (rw (to, body, at) (two-code w f refl))
    (lines-around (JumpF E.next) g (left-lines w f refl p l) i step (right-lines w f refl p l m' (omega arith) q l') put))

pub lays-while : {R : List Row} {e : ℕ} {C : Code} (h : HasRoomIn R e C) (f : shape_at R e ≡ shape.While) {n1 n2 : Node} {j g : ℕ} {D D' E F G : Code} → StandsBefore R (start_at R (e - 1)) n1 → StandsBefore R (e - 1) n2 → g ≡ (get_or R (e - 1) blank).place → LaysPart n1.rows.now n1.end C D → j ≡ D.next → D' ≡ stepped D → LaysPart n2.rows.now n2.end D' E → F ≡ stepped (with_line E E.next (Jump C.next) g) → G ≡ with_line F j (JumpF F.next) g → LaysPart R e C G
lays-while {R} {e} {C} h f {g = g} {D' = D'} {E = E} {F = F} p q at l i step l' back put =
    lays-part h (λ v r.
    let w : HasRoomIn R e C = record { room = (v, r) } in
    let T = two w f refl in
    let m = left-moved w f refl p l in
    let m' = moved-step step in
    let m'' = right-moved w f refl p l m' (omega arith) q l' in
    let body : D'.next ≡ C.next + T.x.measure.length + 1 = omega (arith, m.at, m'.at) in
    let to : F.next ≡ C.next + T.x.measure.length + 1 + T.y.measure.length + 1 = omega (arith, m''.at, ap (λ (X : Code). X.next) back) in
    relaid (rw (to, body, at) (two-code w f refl))
    (lines-around (JumpF F.next) g (left-lines w f refl p l) i step (lines-then (right-lines w f refl p l m' (omega arith) q l') (lines-put _ _ back)) put))

-- three parts, each of the later ones behind a jump

module _ {R : List Row} {e : ℕ} {C : Code} (h : HasRoomIn R e C) (f : shape_at R e ≡ shape.IfElse) where
  three : ThreeOf R e h.room.0
  three = three-of R e h.room.0 h.room.1.stands (ap part_count f)

  three-total : h.room.0.measure.length ≡ three.x.measure.length + three.y.measure.length + three.z.measure.length + 2
  three-total = ap (λ (w : Part). w.measure.length) three.is

  first-place : Room R (start_at R (start_at R (e - 1))) C.next (length C.instructions.now) (length C.places.now) three.x
  first-place = let t = three-total in room-of {C = C} three.left (space-for {C = C} (space-of {C = C} h.room.1) (omega arith))

  module _ {n1 : Node} (p : StandsBefore R (start_at R (start_at R (e - 1))) n1) where
    pub first-room : HasRoomIn n1.rows.now n1.end C
    first-room = record { room = (three.x, room-at p first-place) }

    module _ {D : Code} (l : LaysPart n1.rows.now n1.end C D) where
      first-lines : Lines (three.x.code C.next) C D
      first-lines = lines-of p l first-place

      first-space : Space (three.y.measure.length + three.z.measure.length + 2) D
      first-space = let t = three-total in space-after _ (space-of {C = C} h.room.1) (moved-lines three.left first-lines) (omega arith)

      pub first-gap : Space 1 D
      first-gap = space-for first-space (omega arith)

      module _ {D' : Code} (step : D' ≡ stepped D) {n2 : Node} (q : StandsBefore R (start_at R (e - 1)) n2) where
        second-place : Room R (start_at R (e - 1)) D'.next (length D'.instructions.now) (length D'.places.now) three.y
        second-place = room-of {C = D'} three.middle (space-after _ first-space (moved-step step) (omega arith))

        pub second_room : HasRoomIn n2.rows.now n2.end D'
        second_room = record { room = (three.y, room-at q second-place) }

        module _ {E : Code} (l' : LaysPart n2.rows.now n2.end D' E) where
          second-lines : Lines (three.y.code D'.next) D' E
          second-lines = lines-of q l' second-place

          second-space : Space (three.z.measure.length + 1) E
          second-space =
              space-after _ (space-after (three.y.measure.length + three.z.measure.length + 1) first-space (moved-step step) (omega arith)) (moved-lines three.middle second-lines) (omega arith)

          pub second-gap : Space 1 E
          second-gap = space-for second-space (omega arith)

          pub first-kept : {i : ℕ} → i ≡ D.next → (i < length E.instructions.now) × (i < length E.places.now)
          first-kept at = left_free at first-gap (omega arith) (moved-then (moved-step step) (moved-lines three.middle second-lines))

          module _ {E' : Code} (m : Moved 1 E E') {n3 : Node} (o : StandsBefore R (e - 1) n3) where
            third-place : Room R (e - 1) E'.next (length E'.instructions.now) (length E'.places.now) three.z
            third-place = room-of {C = E'} three.right (space-after _ second-space m (omega arith))

            pub third-room : HasRoomIn n3.rows.now n3.end E'
            third-room = record { room = (three.z, room-at o third-place) }

            module _ {F : Code} (l'' : LaysPart n3.rows.now n3.end E' F) where
              third-lines : Lines (three.z.code E'.next) E' F
              third-lines = lines-of o l'' third-place

              pub third-space : Space 0 F
              third-space = space-after _ (space-after three.z.measure.length second-space m (omega arith)) (moved-lines three.right third-lines) (omega arith)

              pub second-kept : {j : ℕ} → j ≡ E.next → (j < length F.instructions.now) × (j < length F.places.now)
              second-kept at = left_free at second-gap (omega arith) (moved-then m (moved-lines three.right third-lines))

pub lays-choose : {R : List Row} {e : ℕ} {C : Code} (h : HasRoomIn R e C) (f : shape_at R e ≡ shape.IfElse) {n1 n2 n3 : Node} {i j g : ℕ} {D D' E E' K F G : Code} → StandsBefore R (start_at R (start_at R (e - 1))) n1 → StandsBefore R (start_at R (e - 1)) n2 → StandsBefore R (e - 1) n3 → g ≡ (get_or R (e - 1) blank).place → LaysPart n1.rows.now n1.end C D → i ≡ D.next → D' ≡ stepped D → LaysPart n2.rows.now n2.end D' E → j ≡ E.next → E' ≡ stepped E → K ≡ with_line E' i (JumpF E'.next) g → LaysPart n3.rows.now n3.end K F → G ≡ with_line F j (Jump F.next) g → LaysPart R e C G
lays-choose {R} {e} {C} h f {i = i} {j = j} {g = g} {D' = D'} {E = E} {E' = E'} {K = K} {F = F} p q o at l i-is step l' j-is step' over l'' put =
    lays-part h (λ v r.
    let w : HasRoomIn R e C = record { room = (v, r) } in
    let T = three w f in
    let x = first-lines w f p l in
    let y = second-lines w f p l step q l' in
    let k : K ≡ stepped (with_line E i (JumpF E'.next) g) = over ∙ ap (λ (X : Code). with_line X i (JumpF E'.next) g) step' in
    let m = moved-then (moved-step step') (moved-line i g (JumpF E'.next) over) in
    let z = third-lines w f p l step q l' m o l'' in
    let d = moved-lines T.left x in
    let d' = moved-step step in
    let b = moved-lines T.middle y in
    let b' = moved-step step' in
    let t = moved-lines T.right z in
    let first : D'.next ≡ C.next + T.x.measure.length + 1 = omega (arith, d.at, d'.at) in
    let second : E'.next ≡ C.next + T.x.measure.length + 1 + T.y.measure.length + 1 = omega (arith, b.at, b'.at) in
    let third : K.next ≡ C.next + T.x.measure.length + 1 + T.y.measure.length + 1 = omega (arith, b.at, m.at) in
    let end : F.next ≡ C.next + T.x.measure.length + 1 + T.y.measure.length + 1 + T.z.measure.length = omega (arith, t.at) in
    relaid
    (append_assoc (T.x.code C.next) ((JumpF E'.next, g) ∷ T.y.code D'.next) ((Jump F.next, g) ∷ T.z.code K.next)
    ∙ rw (second, first, end, third, at) (sym (ap (λ (w : Part). w.code C.next) T.is)))
    (lines-around (Jump F.next) g (lines-around (JumpF E'.next) g x i-is step y refl) j-is k z put))

-- the shape that the code looks at is what stands there
pub shaped : {R : List Row} {e : ℕ} {C : Code} → HasRoomIn R e C → {r : Row} {s z : Shape} → r ≡ get_or R (e - 1) blank → s ≡ shape_of r.kind → s ≡ z → shape_at R e ≡ z
shaped _ f g h = ap (λ (x : Row). shape_of x.kind) (sym f) ∙ sym g ∙ h
