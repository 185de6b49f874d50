-- Trees by their sort, so that one lemma serves the parts of every kind of row.
use Rattle.std.proofs.Common.{◌≡◌, ℕ, suc, ◌+◌, ◌≤◌, true, List, [], ◌∷◌, ◌++◌, length, sym, refl, ap, ◌∙◌, arith}
use Rattle.std.proofs.lemmas.List.{append_assoc, length-append}
use Rattle.arith.specs.declared.operator.Operator.TheVariants as operator
use Rattle.tables.specs.declared.row.Row.{Row}
use Rattle.tables.specs.declared.sort.Sort as sort
use Rattle.tables.specs.declared.sort.Sort.TheVariants.{Sum, Condition, Command, Sheet}
use Rattle.tables.specs.Trees as tree
use Rattle.tables.specs.Trees.{number, name, work, both, either, truth, compare, negate, connect, set, when, choose, while, only, joint}
use Rattle.tables.specs.Rows.{row, sum_size, condition_size, command_size, sheet_size, sum_rows, condition_rows, command_rows, sheet_rows}
use Rattle.tables.specs.Tables.{SumOver, ConditionOver, CommandOver, SheetOver}
use Rattle.tables.specs.Sorts.{sort_of, serves_as}

abbrev pub Of : sort.Sort → Type 0
Of Sum = tree.Sum
Of Condition = tree.Condition
Of Command = tree.Command
Of Sheet = tree.Sheet

abbrev pub rows_in : (s : sort.Sort) → Of s → List Row
rows_in Sum t = sum_rows t
rows_in Condition t = condition_rows t
rows_in Command t = command_rows t
rows_in Sheet t = sheet_rows t

abbrev pub size_in : (s : sort.Sort) → Of s → ℕ
size_in Sum t = sum_size t
size_in Condition t = condition_size t
size_in Command t = command_size t
size_in Sheet t = sheet_size t

abbrev pub OverIn : ℕ → (s : sort.Sort) → Of s → Type 0
OverIn c Sum t = SumOver c t
OverIn c Condition t = ConditionOver c t
OverIn c Command t = CommandOver c t
OverIn c Sheet t = SheetOver c t

-- a tree has as many rows as its size says

one-long : (xs : List Row) (r : Row) (m : ℕ) → length xs ≡ m → length (xs ++ r ∷ []) ≡ suc m
one-long xs r m e = omega (arith, length-append xs (r ∷ []))

two-long : (xs ys : List Row) (r : Row) (m n : ℕ) → length xs ≡ m → length ys ≡ n → length (xs ++ (ys ++ r ∷ [])) ≡ suc (m + n)
two-long xs ys r m n e f = omega (arith, length-append xs (ys ++ r ∷ []), length-append ys (r ∷ []))

three-long : (xs ys zs : List Row) (r : Row) (m n k : ℕ) → length xs ≡ m → length ys ≡ n → length zs ≡ k → length (xs ++ (ys ++ (zs ++ r ∷ []))) ≡ suc (m + (n + k))
three-long xs ys zs r m n k e f g = omega (arith, length-append xs (ys ++ (zs ++ r ∷ [])), two-long ys zs r n k f g)

length-sum : (t : tree.Sum) → length (sum_rows t) ≡ sum_size t
length-sum (number q v) = refl
length-sum (name q p) = refl
length-sum (work q o l r) = two-long (sum_rows l) (sum_rows r) _ _ _ (length-sum l) (length-sum r)

length-condition : (t : tree.Condition) → length (condition_rows t) ≡ condition_size t
length-condition (truth q b) = refl
length-condition (compare q c l r) = two-long (sum_rows l) (sum_rows r) _ _ _ (length-sum l) (length-sum r)
length-condition (negate q c) = one-long (condition_rows c) _ _ (length-condition c)
length-condition (connect q j c d) = two-long (condition_rows c) (condition_rows d) _ _ _ (length-condition c) (length-condition d)

mutual
  length-command : (t : tree.Command) → length (command_rows t) ≡ command_size t
  length-command (set q p e) = one-long (sum_rows e) _ _ (length-sum e)
  length-command (when q c t) = two-long (condition_rows c) (sheet_rows t) _ _ _ (length-condition c) (length-sheet t)
  length-command (choose q c t u) =
      three-long (condition_rows c) (sheet_rows t) (sheet_rows u) _ _ _ _ (length-condition c) (length-sheet t) (length-sheet u)
  length-command (while q c t) = two-long (condition_rows c) (sheet_rows t) _ _ _ (length-condition c) (length-sheet t)

  length-sheet : (t : tree.Sheet) → length (sheet_rows t) ≡ sheet_size t
  length-sheet (only c) = length-command c
  length-sheet (joint q c t) = two-long (command_rows c) (sheet_rows t) _ _ _ (length-command c) (length-sheet t)

pub length-in : (s : sort.Sort) (t : Of s) → length (rows_in s t) ≡ size_in s t
length-in Sum t = length-sum t
length-in Condition t = length-condition t
length-in Command t = length-command t
length-in Sheet t = length-sheet t

-- a tree's last row tells its sort and its size

pub record Top (s : sort.Sort) (rows : List Row) (n : ℕ) : Type 0 where
  pub front : List Row
  pub top : Row
  pub split : rows ≡ front ++ top ∷ []
  pub serves : serves_as (sort_of top.kind) s ≡ true
  pub size : top.size ≡ n

two-top : (s : sort.Sort) (xs ys : List Row) (r : Row) → serves_as (sort_of r.kind) s ≡ true → Top s (xs ++ (ys ++ r ∷ [])) r.size
two-top s xs ys r e = record { front = xs ++ ys; top = r; split = sym (append_assoc xs ys (r ∷ [])); serves = e; size = refl }

one-top : (s : sort.Sort) (xs : List Row) (r : Row) → serves_as (sort_of r.kind) s ≡ true → Top s (xs ++ r ∷ []) r.size
one-top s xs r e = record { front = xs; top = r; split = refl; serves = e; size = refl }

top-sum : (t : tree.Sum) → Top Sum (sum_rows t) (sum_size t)
top-sum (number q v) = one-top Sum [] _ refl
top-sum (name q p) = one-top Sum [] _ refl
top-sum (work q operator.Add l r) = two-top Sum (sum_rows l) (sum_rows r) _ refl
top-sum (work q operator.Sub l r) = two-top Sum (sum_rows l) (sum_rows r) _ refl
top-sum (work q operator.Mul l r) = two-top Sum (sum_rows l) (sum_rows r) _ refl
top-sum (work q operator.Div l r) = two-top Sum (sum_rows l) (sum_rows r) _ refl

top-condition : (t : tree.Condition) → Top Condition (condition_rows t) (condition_size t)
top-condition (truth q b) = one-top Condition [] _ refl
top-condition (compare q c l r) = two-top Condition (sum_rows l) (sum_rows r) _ refl
top-condition (negate q c) = one-top Condition (condition_rows c) _ refl
top-condition (connect q both c d) = two-top Condition (condition_rows c) (condition_rows d) _ refl
top-condition (connect q either c d) = two-top Condition (condition_rows c) (condition_rows d) _ refl

-- a command serves as a command and as a sheet
top-command : (s : sort.Sort) → serves_as Command s ≡ true → (t : tree.Command) → Top s (command_rows t) (command_size t)
top-command s e (set q p d) = one-top s (sum_rows d) _ e
top-command s e (when q c t) = two-top s (condition_rows c) (sheet_rows t) _ e
top-command s e (choose q c t u) =
    record {
      front = condition_rows c ++ (sheet_rows t ++ sheet_rows u);
      top = row _ _ _ q;
      split = sym (append_assoc (condition_rows c) (sheet_rows t ++ sheet_rows u) _ ∙ ap (λ (l : List Row). condition_rows c ++ l) (append_assoc (sheet_rows t) (sheet_rows u) _));
      serves = e;
      size = refl;
    }
top-command s e (while q c t) = two-top s (condition_rows c) (sheet_rows t) _ e

top-sheet : (t : tree.Sheet) → Top Sheet (sheet_rows t) (sheet_size t)
top-sheet (only c) = top-command Sheet refl c
top-sheet (joint q c t) = two-top Sheet (command_rows c) (sheet_rows t) _ refl

pub top_in : (s : sort.Sort) (t : Of s) → Top s (rows_in s t) (size_in s t)
top_in Sum t = top-sum t
top_in Condition t = top-condition t
top_in Command t = top-command Command refl t
top_in Sheet t = top-sheet t

pub some-rows : (s : sort.Sort) (t : Of s) → 1 ≤ size_in s t
some-rows s t =
    let p = top_in s t in
    omega (arith, length-in s t, ap length p.split, length-append p.front (p.top ∷ []))
