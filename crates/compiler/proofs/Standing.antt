-- Where a tree's rows stand in a table, the tree stands there as a part, with its measure and its code.
use Rattle.std.proofs.Common.{◌≡◌, ℕ, suc, ◌+◌, ◌-◌, ◌<◌, Bool, cond, List, [], ◌∷◌, ◌++◌, length, get_or, pos, sym, refl, ap, ◌∙◌, subst, append-nil, arith}
use Rattle.std.proofs.lemmas.List.{append_assoc, length-append, get_or_at}
use Rattle.std.proofs.lemmas.Bool.{lt-ltb}
use Rattle.arith.specs.declared.operator.Operator.{Operator}
use Rattle.arith.specs.Comparisons.{comparison_number}
use Rattle.instructions.specs.declared.instruction.Instruction.{Instruction}
use Rattle.instructions.specs.declared.instruction.Instruction.TheVariants.{Load, Save, Pop, Cmp}
use Rattle.tables.specs.declared.kind.Kind.TheVariants as kind
use Rattle.tables.specs.declared.row.Row.{Row}
use Rattle.tables.specs.declared.sort.Sort.TheVariants as sort
use Rattle.tables.specs.Trees.{Sum, number, name, work, Connective, Condition, truth, compare, negate, connect, Command, set, when, choose, while, Sheet, only, joint}
use Rattle.tables.specs.Rows.{blank, row, bit, operator_kind, connective_kind, sum_rows, condition_rows, command_rows, sheet_rows, sum_size, condition_size, command_size, sheet_size}
use Rattle.tables.specs.Tables.{SumOver, ConditionOver, CommandOver, SheetOver}
use Rattle.tables.proofs.OfSort.{length-in}
use Rattle.compiler.specs.Depths.{sum_depths, condition_depths, command_depths, sheet_depths}
use Rattle.compiler.proofs.Sheeting.{comparison-back}
use Rattle.compiler.specs.declared.shape.Shape.{Shape}
use Rattle.compiler.specs.declared.shape.Shape.TheVariants as shape
use Rattle.compiler.specs.declared.measure.Measure.{Measure}
use Rattle.compiler.specs.Code.{Line, operator_instruction, connective_instruction, sum_code, condition_code, command_code, sheet_code}
use Rattle.compiler.specs.Measures.{shape_of, part_count, leaf_measure, one_measure, two_measure, three_measure}
use Rattle.compiler.specs.Parts.{Part, point_of, operation, own, zero_part, one_code, one_part, two_code, two_part, three_code, three_part, Own, Stands, zero-stands, one-stands, two-stands, three-stands}
use Rattle.compiler.proofs.Measured.{sum_measure, condition_measure, command_measure, sheet_measure, measured, deep-last, deep-two, deep-three}

-- a part of so many rows, with this measure, and with this code where the points are right
pub record Standing (R : List Row) (e n : ℕ) (m : Measure) (ok : Type 0) (lines : ℕ → List Line) : Type 0 where
  pub part : Part
  pub stands : Stands R e part
  pub rows : part.rows ≡ n
  pub measure : part.measure ≡ m
  pub code : ok → (a : ℕ) → part.code a ≡ lines a

-- wherever these rows stand
record Anywhere (R xs : List Row) (n : ℕ) (m : Measure) (ok : Type 0) (code : ℕ → List Line) : Type 0 where
  at : (pre post : List Row) (e : ℕ) → R ≡ pre ++ (xs ++ post) → e ≡ length pre + n → Standing R e n m ok code

turned : {R xs : List Row} {n : ℕ} {m m' : Measure} {ok ok' : Type 0} {code code' : ℕ → List Line} → Anywhere R xs n m ok code → m ≡ m' → (ok' → ok) → (ok' → (a : ℕ) → code a ≡ code' a) → Anywhere R xs n m' ok' code'
turned h e f g =
    record {
      at = λ pre post end i j.
          let S = h.at pre post end i j in
          record {
            part = S.part;
            stands = S.stands;
            rows = S.rows;
            measure = S.measure ∙ e;
            code = λ o a. S.code (f o) a ∙ g o a;
          };
    }

-- the row after xs
own_at : (R pre xs post : List Row) (r : Row) (n k e : ℕ) → R ≡ pre ++ ((xs ++ r ∷ []) ++ post) → length xs + 1 ≡ n → e ≡ length pre + n → r.size ≡ n → part_count (shape_of r.kind) ≡ k → Own R e r n k
own_at R pre xs post r n k e i l j s p =
    let split : R ≡ (pre ++ xs) ++ (r ∷ post) =
    i ∙ ap (λ (z : List Row). pre ++ z) (append_assoc xs (r ∷ []) post) ∙ sym (append_assoc pre xs (r ∷ post)) in
    let long = ap length split in
    let la = length-append (pre ++ xs) (r ∷ post) in
    let lb = length-append pre xs in
    let at : length (pre ++ xs) ≡ e - 1 = omega arith in
    record {
      some = omega arith;
      within = omega (arith, long, la, lb);
      row =
          ap (λ (z : List Row). get_or z (e - 1) blank) split
          ∙ get_or_at (pre ++ xs) r post blank (e - 1) at;
      size = s;
      fits = omega arith;
      parts = p;
    }

-- code by parts with the same code

two-same : (s : Shape) (r : Row) (m m' n n' : ℕ) (x y c c' : ℕ → List Line) → m ≡ m' → n ≡ n' → ((a : ℕ) → x a ≡ c a) → ((a : ℕ) → y a ≡ c' a) → (a : ℕ) → two_code s r m n x y a ≡ two_code s r m' n' c c' a
two-same s r m m' n n' x y c c' e f g h a = rw (e, f) (grind (arith, g, h))

three-same : (r : Row) (m m' n n' k k' : ℕ) (x y z c c' c'' : ℕ → List Line) → m ≡ m' → n ≡ n' → k ≡ k' → ((a : ℕ) → x a ≡ c a) → ((a : ℕ) → y a ≡ c' a) → ((a : ℕ) → z a ≡ c'' a) → (a : ℕ) → three_code r m n k x y z a ≡ three_code r m' n' k' c c' c'' a
three-same r m m' n n' k k' x y z c c' c'' e f g h i j a = rw (e, f, g) (simp (h, i, j))

point-same : (p : ℕ) → p < 64 → point_of (pos p) ≡ p
point-same p l = ap (λ (b : Bool). cond b p 0) (lt-ltb p 64 l)

operator-shape : (o : Operator) → shape_of (operator_kind o) ≡ shape.Pair
operator-shape o = grind arith

operator-own : (o : Operator) → operation (operator_kind o) (pos 0) ≡ operator_instruction o
operator-own o = grind arith

connective-shape : (j : Connective) → shape_of (connective_kind j) ≡ shape.Pair
connective-shape j = grind arith

connective-own : (j : Connective) → operation (connective_kind j) (pos 0) ≡ connective_instruction j
connective-own j = grind arith

module _ {R : List Row} where
  zero-any : (r : Row) → r.size ≡ 1 → part_count (shape_of r.kind) ≡ 0 → Anywhere R (r ∷ []) 1 leaf_measure (Unit {0}) (λ a. own r ∷ [])
  zero-any r s p =
      record {
        at = λ pre post e i j.
            record {
              part = zero_part r;
              stands = zero-stands (own_at R pre [] post r 1 0 e i refl j s p);
              rows = refl;
              measure = refl;
              code = λ o a. refl;
            };
      }

  one-any : {xs : List Row} {n : ℕ} {m : Measure} {ok : Type 0} {code : ℕ → List Line} (r : Row) → length xs ≡ n → Anywhere R xs n m ok code → r.size ≡ suc n → part_count (shape_of r.kind) ≡ 1 → Anywhere R (xs ++ r ∷ []) (suc n) (one_measure (shape_of r.kind) r.place m) ok (λ a. one_code (shape_of r.kind) r (code a))
  one-any {xs} {n} r l h s p =
      record {
        at = λ pre post e i j.
            let inner : R ≡ pre ++ (xs ++ (r ∷ post)) = i ∙ ap (λ (z : List Row). pre ++ z) (append_assoc xs (r ∷ []) post) in
            let S = h.at pre (r ∷ post) (e - 1) inner (omega arith) in
            let O = own_at R pre xs post r (suc n) 1 e i (omega arith) j s p in
            record {
              part = one_part (shape_of r.kind) r S.part;
              stands = one-stands (subst (λ (k : ℕ). Own R e r (suc k) 1) (sym S.rows) O) S.stands;
              rows = ap suc S.rows;
              measure = ap (one_measure (shape_of r.kind) r.place) S.measure;
              code = λ o a. ap (one_code (shape_of r.kind) r) (S.code o a);
            };
      }

  two-any : {xs ys : List Row} {n k : ℕ} {m m' : Measure} {ok ok' : Type 0} {c c' : ℕ → List Line} (r : Row) → length xs ≡ n → length ys ≡ k → Anywhere R xs n m ok c → Anywhere R ys k m' ok' c' → r.size ≡ suc (n + k) → part_count (shape_of r.kind) ≡ 2 → Anywhere R (xs ++ (ys ++ r ∷ [])) (suc (n + k)) (two_measure (shape_of r.kind) r.place m m') (ok × ok') (λ a. two_code (shape_of r.kind) r m.length m'.length c c' a)
  two-any {xs} {ys} {n} {k} {m} {m'} {ok} {ok'} {c} {c'} r l l' h h' s p =
      record {
        at = λ pre post e i j.
            let ll = length-append xs ys in
            let lp = length-append pre xs in
            let il : R ≡ pre ++ (xs ++ ((ys ++ r ∷ []) ++ post)) = i ∙ ap (λ (z : List Row). pre ++ z) (append_assoc xs (ys ++ r ∷ []) post) in
            let ir : R ≡ (pre ++ xs) ++ (ys ++ (r ∷ post)) = i ∙ simp append_assoc in
            let io : R ≡ pre ++ (((xs ++ ys) ++ r ∷ []) ++ post) = i ∙ simp append_assoc in
            let S = h.at pre ((ys ++ r ∷ []) ++ post) (e - 1 - k) il (omega arith) in
            let S' = h'.at (pre ++ xs) (r ∷ post) (e - 1) ir (omega arith) in
            let O = own_at R pre (xs ++ ys) post r (suc (n + k)) 2 e io (omega arith) j s p in
            let all : suc (n + k) ≡ suc (S.part.rows + S'.part.rows) = omega (arith, S.rows, S'.rows) in
            record {
              part = two_part (shape_of r.kind) r S.part S'.part;
              stands =
                  two-stands (subst (λ (w : ℕ). Own R e r w 2) all O)
                  (subst (λ (w : ℕ). Stands R (e - 1 - w) S.part) (sym S'.rows) S.stands) S'.stands;
              rows = sym all;
              measure =
                  ap (λ (w : Measure). two_measure (shape_of r.kind) r.place w S'.part.measure) S.measure
                  ∙ ap (two_measure (shape_of r.kind) r.place m) S'.measure;
              code = λ o a.
                  two-same (shape_of r.kind) r S.part.measure.length m.length S'.part.measure.length m'.length S.part.code S'.part.code c c' (ap (λ (w : Measure). w.length) S.measure) (ap (λ (w : Measure). w.length) S'.measure) (S.code o.0) (S'.code o.1) a;
            };
      }

  three-any : {xs ys zs : List Row} {n k g : ℕ} {m m' m'' : Measure} {ok ok' ok'' : Type 0} {c c' c'' : ℕ → List Line} (r : Row) → length xs ≡ n → length ys ≡ k → length zs ≡ g → Anywhere R xs n m ok c → Anywhere R ys k m' ok' c' → Anywhere R zs g m'' ok'' c'' → r.size ≡ suc (n + (k + g)) → part_count (shape_of r.kind) ≡ 3 → Anywhere R (xs ++ (ys ++ (zs ++ r ∷ []))) (suc (n + (k + g))) (three_measure r.place m m' m'') (ok × ok' × ok'') (λ a. three_code r m.length m'.length m''.length c c' c'' a)
  three-any {xs} {ys} {zs} {n} {k} {g} {m} {m'} {m''} {ok} {ok'} {ok''} {c} {c'} {c''} r l l' l'' h h' h'' s p =
      record {
        at = λ pre post e i j.
            let ll = length-append xs (ys ++ zs) in
            let lm = length-append ys zs in
            let lp = length-append pre xs in
            let lq = length-append (pre ++ xs) ys in
            let il : R ≡ pre ++ (xs ++ ((ys ++ (zs ++ r ∷ [])) ++ post)) = i ∙ ap (λ (z : List Row). pre ++ z) (append_assoc xs (ys ++ (zs ++ r ∷ [])) post) in
            let im : R ≡ (pre ++ xs) ++ (ys ++ ((zs ++ r ∷ []) ++ post)) = i ∙ simp append_assoc in
            let ir : R ≡ ((pre ++ xs) ++ ys) ++ (zs ++ (r ∷ post)) = i ∙ simp append_assoc in
            let io : R ≡ pre ++ (((xs ++ (ys ++ zs)) ++ r ∷ []) ++ post) = i ∙ simp append_assoc in
            let S = h.at pre ((ys ++ (zs ++ r ∷ [])) ++ post) (e - 1 - g - k) il (omega arith) in
            let S' = h'.at (pre ++ xs) ((zs ++ r ∷ []) ++ post) (e - 1 - g) im (omega arith) in
            let S'' = h''.at ((pre ++ xs) ++ ys) (r ∷ post) (e - 1) ir (omega arith) in
            let O = own_at R pre (xs ++ (ys ++ zs)) post r (suc (n + (k + g))) 3 e io (omega arith) j s p in
            let all : suc (n + (k + g)) ≡ suc (S.part.rows + (S'.part.rows + S''.part.rows)) = omega (arith, S.rows, S'.rows, S''.rows) in
            record {
              part = three_part r S.part S'.part S''.part;
              stands =
                  three-stands (subst (λ (w : ℕ). Own R e r w 3) all O)
                  (subst (λ (w : ℕ). Stands R (e - 1 - w - S'.part.rows) S.part) (sym S''.rows) (subst (λ (w : ℕ). Stands R (e - 1 - g - w) S.part) (sym S'.rows) S.stands))
                  (subst (λ (w : ℕ). Stands R (e - 1 - w) S'.part) (sym S''.rows) S'.stands) S''.stands;
              rows = sym all;
              measure =
                  ap (λ (w : Measure). three_measure r.place w S'.part.measure S''.part.measure) S.measure
                  ∙ ap (λ (w : Measure). three_measure r.place m w S''.part.measure) S'.measure
                  ∙ ap (three_measure r.place m m') S''.measure;
              code = λ o a.
                  three-same r S.part.measure.length m.length S'.part.measure.length m'.length S''.part.measure.length m''.length S.part.code S'.part.code S''.part.code c c' c'' (ap (λ (w : Measure). w.length) S.measure) (ap (λ (w : Measure). w.length) S'.measure) (ap (λ (w : Measure). w.length) S''.measure) (S.code o.0) (S'.code o.1) (S''.code o.2) a;
            };
      }

  -- a row that works on two values
  pair-any : {xs ys : List Row} {n k : ℕ} {m m' : Measure} {ok ok' : Type 0} {c c' : List Line} (r : Row) (x : Instruction) → length xs ≡ n → length ys ≡ k → Anywhere R xs n m ok (λ a. c) → Anywhere R ys k m' ok' (λ a. c') → r.size ≡ suc (n + k) → shape_of r.kind ≡ shape.Pair → operation r.kind r.value ≡ x → Anywhere R (xs ++ (ys ++ r ∷ [])) (suc (n + k)) (two_measure shape.Pair r.place m m') (ok × ok') (λ a. c ++ (c' ++ (x, r.place) ∷ []))
  pair-any {m = m} {m' = m'} {c = c} {c' = c'} r x l l' h h' s f g =
      turned (two-any r l l' h h' s (ap part_count f)) (ap (λ (z : Shape). two_measure z r.place m m') f) (λ o. o)
      (λ o a. ap (λ (z : Shape). two_code z r m.length m'.length (λ b. c) (λ b. c') a) f ∙ ap (λ (z : Instruction). c ++ (c' ++ (z, r.place) ∷ [])) g)

  sum_any : (t : Sum) → Anywhere R (sum_rows t) (sum_size t) (sum_measure t) (SumOver 64 t) (λ a. sum_code t)
  sum_any (number q v) = turned (zero-any (row kind.Number v 1 q) refl refl) refl (λ o. tt) (λ o a. refl)
  sum_any (name q p) =
      turned (zero-any (row kind.Name (pos p) 1 q) refl refl) refl (λ o. tt) (λ o a. ap (λ (x : ℕ). (Load x, q) ∷ []) (point-same p o))
  sum_any (work q o l r) =
      turned (pair-any (row (operator_kind o) (pos 0) (suc (sum_size l + sum_size r)) q) (operator_instruction o) (length-in sort.Sum l) (length-in sort.Sum r) (sum_any l) (sum_any r) refl (operator-shape o) (operator-own o))
      (measured refl (deep-two (sum_depths l) (sum_depths r) _ q)) (λ o. o) (λ o a. refl)

  condition-any : (t : Condition) → Anywhere R (condition_rows t) (condition_size t) (condition_measure t) (ConditionOver 64 t) (λ a. condition_code t)
  condition-any (truth q b) = turned (zero-any (row kind.Truth (bit b) 1 q) refl refl) refl (λ o. tt) (λ o a. refl)
  condition-any (compare q k l r) =
      turned (pair-any (row kind.Compare (pos (comparison_number k)) (suc (sum_size l + sum_size r)) q) (Cmp k) (length-in sort.Sum l) (length-in sort.Sum r) (sum_any l) (sum_any r) refl refl (ap Cmp (comparison-back k)))
      (measured refl (deep-two (sum_depths l) (sum_depths r) _ q)) (λ o. o) (λ o a. refl)
  condition-any (negate q c) =
      turned (one-any (row kind.Not (pos 0) (suc (condition_size c)) q) (length-in sort.Condition c) (condition-any c) refl refl)
      (measured refl (deep-last (condition_depths c) _ q)) (λ o. o) (λ o a. refl)
  condition-any (connect q j c d) =
      turned (pair-any (row (connective_kind j) (pos 0) (suc (condition_size c + condition_size d)) q) (connective_instruction j) (length-in sort.Condition c) (length-in sort.Condition d) (condition-any c) (condition-any d) refl (connective-shape j) (connective-own j))
      (measured refl (deep-two (condition_depths c) (condition_depths d) _ q)) (λ o. o) (λ o a. refl)

  mutual
    command-any : (t : Command) → Anywhere R (command_rows t) (command_size t) (command_measure t) (CommandOver 64 t) (λ a. command_code a t)
    command-any (set q p e) =
        turned (one-any (row kind.Set (pos p) (suc (sum_size e)) q) (length-in sort.Sum e) (sum_any e) refl refl)
        (measured refl (deep-last (sum_depths e) _ q)) (λ o. o.1) (λ o a. ap (λ (x : ℕ). sum_code e ++ (Save x, q) ∷ (Pop, q) ∷ []) (point-same p o.0))
    command-any (when q c t) =
        turned (two-any (row kind.If (pos 0) (command_size (when q c t)) q) (length-in sort.Condition c) (length-in sort.Sheet t) (condition-any c) (sheet-any t) refl refl)
        (measured refl (deep-two (condition_depths c) (sheet_depths t) _ q)) (λ o. o) (λ o a. refl)
    command-any (choose q c t u) =
        turned (three-any (row kind.IfElse (pos 0) (command_size (choose q c t u)) q) (length-in sort.Condition c) (length-in sort.Sheet t) (length-in sort.Sheet u) (condition-any c) (sheet-any t) (sheet-any u) refl refl)
        (measured (omega arith) (deep-three (condition_depths c) (sheet_depths t) (sheet_depths u) _ q)) (λ o. o) (λ o a. refl)
    command-any (while q c t) =
        turned (two-any (row kind.While (pos 0) (command_size (while q c t)) q) (length-in sort.Condition c) (length-in sort.Sheet t) (condition-any c) (sheet-any t) refl refl)
        (measured refl (deep-two (condition_depths c) (sheet_depths t) _ q)) (λ o. o) (λ o a. refl)

    sheet-any : (t : Sheet) → Anywhere R (sheet_rows t) (sheet_size t) (sheet_measure t) (SheetOver 64 t) (λ a. sheet_code a t)
    sheet-any (only c) = command-any c
    sheet-any (joint q c t) =
        turned (two-any (row kind.Joint (pos 0) (sheet_size (joint q c t)) q) (length-in sort.Command c) (length-in sort.Sheet t) (command-any c) (sheet-any t) refl refl)
        (measured (omega arith) (deep-two (command_depths c) (sheet_depths t) _ q)) (λ o. o) (λ o a. refl)

-- the whole table
pub sheet-stands : (t : Sheet) (rows : List Row) → sheet_rows t ≡ rows → Standing rows (length rows) (sheet_size t) (sheet_measure t) (SheetOver 64 t) (λ a. sheet_code a t)
sheet-stands t rows e =
    let n = length-in sort.Sheet t in
    let f = ap length e in
    (sheet-any t).at [] [] (length rows) (sym e ∙ sym (append-nil (sheet_rows t))) (omega arith)
