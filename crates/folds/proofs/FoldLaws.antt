-- Why a fold is the tree's value, and why its pass never finds the stack too empty.
use Rattle.std.proofs.Common.{◌≡◌, ℕ, ◌+◌, ◌<◌, ◌≤◌, Bool, true, false, cond, leb, List, [], ◌∷◌, length, get_or, drop, Some, None, Ok, Err, Option, Result, option_map, slice_get, sym, refl, ap, ◌∙◌, subst, append-nil, arith}
use Rattle.std.proofs.lemmas.List.{at_drop_more, at_drop_all}
use Rattle.std.proofs.lemmas.Bool.{le-ltb, le-leb, or_from, cond-false}
use Rattle.faults.specs.declared.fault.Fault.{Fault}
use Rattle.tables.specs.declared.kind.Kind.{Kind}
use Rattle.tables.specs.declared.kind.Kind.TheVariants.{Number, Name, Truth, Not, Set, IfElse}
use Rattle.tables.specs.declared.row.Row.{Row}
use Rattle.tables.specs.Trees.{Sheet}
use Rattle.tables.specs.Rows.{blank, sheet_rows}
use Rattle.tables.specs.Tables.{Table}
use Rattle.tables.specs.Checks.{and_then, is_table, table_checked, no_table_fault, too_many_points}
use Rattle.tables.specs.Values.{Sums, Rest, sheet_value}
use Rattle.tables.specs.Passes.{on_one, on_two, on_three, passed, passes}
use Rattle.tables.proofs.Passing.{pass-sheet}
use Rattle.tables.proofs.Standing.{accepts-table}
use Rattle.folds.specs.declared.node.Node.{Node}
use Rattle.folds.specs.Nodes.{node_value, over_one, over_two, over_three, node_of}
use Rattle.folds.specs.Folds.{part_count, left, folded, spared, fold_leaves, Folds}

then_some : {X Y : Type 0} (o : Option X) (f : X → Option Y) (y : Y) → and_then o f ≡ Some y → (x : X) × (o ≡ Some x)
then_some None f y e = absurd (cc)
then_some (Some x) f y e = (x, refl)

refused-at : {X Y : Type 0} (t few : Bool) (x : X) (r : Result Y Fault) (d b f : Fault) → Err f ≡ cond t (cond few (Ok x) (Err d)) (Err b) → cond t (cond few r (Err d)) (Err b) ≡ Err f
refused-at true true x r d b f e = absurd (cc)
refused-at true false x r d b f e = let h : d ≡ f = cc in ap Err h
refused-at false few x r d b f e = let h : b ≡ f = cc in ap Err h

module _ {V : Type 0} where
  one-enough : (f : V → V) (st w : List V) → on_one f st ≡ Some w → 1 ≤ length st
  one-enough f [] w e = absurd (cc)
  one-enough f (x ∷ st) w e = omega arith

  two-enough : (f : V → V → V) (st w : List V) → on_two f st ≡ Some w → 2 ≤ length st
  two-enough f [] w e = absurd (cc)
  two-enough f (y ∷ st) w e = let h = one-enough (λ x. f x y) st w e in omega arith

  three-enough : (f : V → V → V → V) (st w : List V) → on_three f st ≡ Some w → 3 ≤ length st
  three-enough f [] w e = absurd (cc)
  three-enough f (z ∷ st) w e = let h = two-enough (λ x y. f x y z) st w e in omega arith

module _ {V : Type 0} (s : Sums V) (a : Rest V) where
  enough-at : (k : Kind) (r : Row) (st w : List V) → passed s a k r st ≡ Some w → part_count k ≤ length st
  enough-at Number r st w e = omega arith
  enough-at Name r st w e = omega arith
  enough-at Truth r st w e = omega arith
  enough-at Not r st w e = one-enough _ st w e
  enough-at Set r st w e = one-enough _ st w e
  enough-at IfElse r st w e = three-enough _ st w e
  enough-at _ r st w e = two-enough _ st w e

  -- a row's step, by the node on top of the stack

  module _ (r : Row) where
    one-step : (f : V → Node V) (st : List V) → on_one (λ x. node_value s a r (f x)) st ≡ option_map (λ n. node_value s a r n ∷ drop 1 st) (over_one f st)
    one-step f [] = refl
    one-step f (x ∷ st) = refl

    two-step : (f : V → V → Node V) (st : List V) → on_two (λ x y. node_value s a r (f x y)) st ≡ option_map (λ n. node_value s a r n ∷ drop 2 st) (over_two f st)
    two-step f [] = refl
    two-step f (y ∷ []) = refl
    two-step f (y ∷ (x ∷ st)) = refl

    three-step : (f : V → V → V → Node V) (st : List V) → on_three (λ x y z. node_value s a r (f x y z)) st ≡ option_map (λ n. node_value s a r n ∷ drop 3 st) (over_three f st)
    three-step f [] = refl
    three-step f (z ∷ []) = refl
    three-step f (z ∷ (y ∷ [])) = refl
    three-step f (z ∷ (y ∷ (x ∷ st))) = refl

    step-at : (k : Kind) (st : List V) → passed s a k r st ≡ option_map (λ n. node_value s a r n ∷ drop (part_count k) st) (node_of k st)
    step-at Number st = refl
    step-at Name st = refl
    step-at Truth st = refl
    step-at Not st = one-step _ st
    step-at Set st = one-step _ st
    step-at IfElse st = three-step _ st
    step-at _ st = two-step _ st

  tree-passes : (t : Sheet) → passes s a (sheet_rows t) [] ≡ Some (sheet_value s a t ∷ [])
  tree-passes t = ap (λ (rs : List Row). passes s a rs []) (sym (append-nil (sheet_rows t))) ∙ pass-sheet s a t [] []

  in-room : (c : ℕ) (rows : List Row) (slots : ℕ) → length rows ≤ slots → length rows ≤ 2048 → folded s a c rows slots ≡ cond (is_table c rows) (cond (leb c 64) (left (passes s a rows [])) (Err (too_many_points c))) (Err no_table_fault)
  in-room c rows slots l m = cond-false _ _ _ (or_from _ _ (le-ltb slots (length rows) l) (le-ltb 2048 (length rows) m))

  -- a fold refuses what the check refuses
  pub refused : (c : ℕ) (rows : List Row) (slots : ℕ) (f : Fault) → length rows ≤ slots → length rows ≤ 2048 → Err f ≡ table_checked c rows → folded s a c rows slots ≡ Err f
  refused c rows slots f l m e = in-room c rows slots l m ∙ refused-at (is_table c rows) (leb c 64) rows _ _ _ f e

  -- a pass over the rows of a table, at its row i with the stack st

  module _ {c : ℕ} (rows : List Row) (w : Table c rows × (c ≤ 64)) where
    table-passes : passes s a rows [] ≡ Some (sheet_value s a w.0.tree ∷ [])
    table-passes =
        subst (λ (rs : List Row). passes s a rs [] ≡ Some (sheet_value s a w.0.tree ∷ [])) w.0.listed (tree-passes w.0.tree)

    -- what a fold answers
    folded-table : (slots : ℕ) → length rows ≤ slots → length rows ≤ 2048 → folded s a c rows slots ≡ Ok (sheet_value s a w.0.tree)
    folded-table slots l m =
        in-room c rows slots l m
        ∙ ap (λ (b : Bool). cond b (cond (leb c 64) (left (passes s a rows [])) (Err (too_many_points c))) (Err no_table_fault)) (accepts-table c rows w.0)
        ∙ ap (λ (b : Bool). cond b (left (passes s a rows [])) (Err (too_many_points c))) (le-leb c 64 w.1)
        ∙ ap left table-passes

    module _ (i : ℕ) (st : List V) (way : passes s a (drop i rows) st ≡ passes s a rows []) where
      next_row : i < length rows → and_then (passed s a (get_or rows i blank).kind (get_or rows i blank) st) (passes s a (drop (i + 1) rows)) ≡ passes s a rows []
      next_row l = sym (at_drop_more (λ (rs : List Row). passes s a rs st) rows i blank l) ∙ way

      -- the stack has what the row takes
      pub enough : i < length rows → part_count (get_or rows i blank).kind ≤ length st
      enough l =
          let p = then_some (passed s a (get_or rows i blank).kind (get_or rows i blank) st) (passes s a (drop (i + 1) rows)) _ (next_row l ∙ table-passes) in
          enough-at (get_or rows i blank).kind (get_or rows i blank) st p.0 p.1

      -- one value in the place of as many as the row has parts
      pub onward : i < length rows → (n : Node V) → Some n ≡ node_of (get_or rows i blank).kind st → (v : V) → v ≡ node_value s a (get_or rows i blank) n → (k : ℕ) → k ≡ part_count (get_or rows i blank).kind → (after : List V) → after ≡ v ∷ drop k st → passes s a (drop (i + 1) rows) after ≡ passes s a rows []
      onward l n e v f k g after h =
          ap (passes s a (drop (i + 1) rows)) (h ∙ ap (λ (x : V). x ∷ drop k st) f ∙ ap (λ (m : ℕ). node_value s a (get_or rows i blank) n ∷ drop m st) g)
          ∙ ap (λ o. and_then o (passes s a (drop (i + 1) rows))) (ap (option_map _) e ∙ sym (step-at (get_or rows i blank) (get_or rows i blank).kind st))
          ∙ next_row l

      -- at the end the tree's value is there alone
      pub alone : length rows ≤ i → st ≡ sheet_value s a w.0.tree ∷ []
      alone l =
          let e = sym (at_drop_all (λ (rs : List Row). passes s a rs st) rows i l) ∙ way ∙ table-passes in
          cc

      -- it is the answer; and the slots that stay, in one
      pub leaves : length rows ≤ i → (v : V) → Some v ≡ slice_get st 0 → (after now slots : List V) → length rows ≤ length slots → length rows ≤ 2048 → after ≡ now → drop (length rows) now ≡ drop (length rows) slots → (Ok v, spared (length rows) (Ok v) after) ≡ fold_leaves s a c rows slots
      leaves l v e after now slots room m same f =
          let one = ap (λ (xs : List V). slice_get xs 0) (alone l) in
          let worth : v ≡ sheet_value s a w.0.tree = cc in
          ap (λ (rest : List V). (Ok v, rest)) (ap (drop (length rows)) same ∙ f)
          ∙ ap (λ (r : Result V Fault). (r, spared (length rows) r slots)) (ap Ok worth ∙ sym (folded-table (length slots) room m))

  -- the law, of what is defined and so of what is answered
  pub folds : (c : ℕ) (rows : List Row) (after slots : List V) (r : Result V Fault) → (r, after) ≡ fold_leaves s a c rows slots → Folds s a c rows (length slots) r
  folds c rows after slots r e t listed over few l m =
      let T : Table c rows = record { tree = t; over = over; listed = listed; few = m } in
      ap (λ p. p.0) e ∙ folded-table rows (T, few) (length slots) l m
