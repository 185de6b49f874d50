-- The measure of a tree is its code's length, its depth, and the first of its rows that is too deep.
use Rattle.std.proofs.Common.{◌≡◌, ℕ, List, [], ◌∷◌, ◌++◌, None, Option, sym, refl, ap, ◌∙◌, arith}
use Rattle.tables.specs.Trees.{Sum, Condition, Command, Sheet}
use Rattle.folds.specs.CodeLengths.{sum_length, condition_length, command_length, sheet_length}
use Rattle.folds.specs.StackDepths.{sum_depth, condition_depth, command_depth, sheet_depth}
use Rattle.compiler.specs.declared.measure.Measure.{Measure}
use Rattle.compiler.specs.Depths.{Depth, first_of, too_deep, first_deep, sum_depths, condition_depths, command_depths, sheet_depths}

abbrev pub measure_of : ℕ → ℕ → List Depth → Measure
measure_of n d xs = record { length = n; depth = d; deep = first_deep xs }

abbrev pub sum_measure : Sum → Measure
sum_measure t = measure_of (sum_length t) (sum_depth t) (sum_depths t)

abbrev pub condition_measure : Condition → Measure
condition_measure t = measure_of (condition_length t) (condition_depth t) (condition_depths t)

abbrev pub command_measure : Command → Measure
command_measure t = measure_of (command_length t) (command_depth t) (command_depths t)

abbrev pub sheet_measure : Sheet → Measure
sheet_measure t = measure_of (sheet_length t) (sheet_depth t) (sheet_depths t)

first-assoc : {X : Type 0} (a b c : Option X) → first_of a (first_of b c) ≡ first_of (first_of a b) c
first-assoc a b c = grind arith

first-none : {X : Type 0} (a : Option X) → first_of a None ≡ a
first-none a = grind arith

pub deep-append : (xs ys : List Depth) → first_deep (xs ++ ys) ≡ first_of (first_deep xs) (first_deep ys)
deep-append [] ys = refl
deep-append (x ∷ xs) ys =
    ap (λ (o : Option ℕ). first_of (too_deep x.0 x.1) o) (deep-append xs ys)
    ∙ first-assoc (too_deep x.0 x.1) (first_deep xs) (first_deep ys)

pub deep-last : (xs : List Depth) (d q : ℕ) → first_of (first_deep xs) (too_deep d q) ≡ first_deep (xs ++ (d, q) ∷ [])
deep-last xs d q =
    ap (λ (o : Option ℕ). first_of (first_deep xs) o) (sym (first-none (too_deep d q))) ∙ sym (deep-append xs ((d, q) ∷ []))

pub deep-two : (xs ys : List Depth) (d q : ℕ) → first_of (first_of (first_deep xs) (first_deep ys)) (too_deep d q) ≡ first_deep (xs ++ (ys ++ (d, q) ∷ []))
deep-two xs ys d q =
    sym (first-assoc (first_deep xs) (first_deep ys) (too_deep d q))
    ∙ ap (λ (o : Option ℕ). first_of (first_deep xs) o) (deep-last ys d q)
    ∙ sym (deep-append xs (ys ++ (d, q) ∷ []))

pub deep-three : (xs ys zs : List Depth) (d q : ℕ) → first_of (first_of (first_deep xs) (first_of (first_deep ys) (first_deep zs))) (too_deep d q) ≡ first_deep (xs ++ (ys ++ (zs ++ (d, q) ∷ [])))
deep-three xs ys zs d q =
    sym (first-assoc (first_deep xs) (first_of (first_deep ys) (first_deep zs)) (too_deep d q))
    ∙ ap (λ (o : Option ℕ). first_of (first_deep xs) o) (deep-two ys zs d q)
    ∙ sym (deep-append xs (ys ++ (zs ++ (d, q) ∷ [])))

pub measured : {m n d : ℕ} {o o' : Option ℕ} → m ≡ n → o ≡ o' → ◌≡◌ {A = Measure} (record { length = m; depth = d; deep = o }) (record { length = n; depth = d; deep = o' })
measured {n = n} {d = d} {o = o} e f =
    ap (λ (k : ℕ). record { length = k; depth = d; deep = o }) e ∙ ap (λ (p : Option ℕ). record { length = n; depth = d; deep = p }) f
