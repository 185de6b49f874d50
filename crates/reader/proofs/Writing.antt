-- Rows that were told one after the other, and a row behind the rows of its parts.
use Rattle.std.proofs.Common.{◌≡◌, ℕ, suc, ◌+◌, ◌-◌, ◌<◌, ◌≤◌, List, [], ◌∷◌, ◌++◌, length, set, ℤ, sym, refl, ap, ◌∙◌, subst, arith}
use Rattle.std.proofs.lemmas.List.{append_assoc, length-append}
use Rattle.tables.specs.declared.kind.Kind.{Kind}
use Rattle.tables.specs.declared.row.Row.{Row}
use Rattle.tables.specs.declared.sort.Sort.TheVariants as sort
use Rattle.tables.specs.Trees.{Sum, Condition, Command, Sheet}
use Rattle.tables.specs.Rows.{row, sum_size, condition_size, command_size, sheet_size, sum_rows, condition_rows, command_rows, sheet_rows}
use Rattle.tables.proofs.OfSort.{length-in}
use Rattle.reader.specs.declared.seen.Seen.{Seen}
use Rattle.reader.specs.declared.progress.Progress.{Progress}
use Rattle.reader.specs.Progressing.{read_on, told, told_leaf, put, Wrote}

-- a tree has as many rows as its size says

pub sum-long : (t : Sum) → length (sum_rows t) ≡ sum_size t
sum-long t = length-in sort.Sum t

pub condition-long : (t : Condition) → length (condition_rows t) ≡ condition_size t
condition-long t = length-in sort.Condition t

pub command-long : (t : Command) → length (command_rows t) ≡ command_size t
command-long t = length-in sort.Command t

pub sheet-long : (t : Sheet) → length (sheet_rows t) ≡ sheet_size t
sheet-long t = length-in sort.Sheet t

pub put-++ : (old : List Row) (i : ℕ) (rs ss : List Row) → put old i (rs ++ ss) ≡ put (put old i rs) (i + length rs) ss
put-++ old i [] ss = let e : i ≡ i + 0 = omega arith in ap (λ n. put old n ss) e
put-++ old i (r ∷ rs) ss =
    let e : suc i + length rs ≡ i + suc (length rs) = omega arith in
    put-++ (set old i r) (suc i) rs ss ∙ ap (λ n. put (put (set old i r) (suc i) rs) n ss) e

-- one token further
pub record Further (a z : Progress) (s : Seen) : Type 0 where
  pub count : z.count ≡ a.count
  pub depth : z.depth ≡ a.depth
  pub at : z.position.at ≡ s.end

pub gone : (a : Progress) {z : Progress} (s : Seen) → z ≡ read_on a s → Further a z s
gone a s e = record { count = ap (λ (z : Progress). z.count) e; depth = ap (λ (z : Progress). z.depth) e; at = ap (λ (z : Progress). z.position.at) e }

-- one row more
pub record Grown (a z : Progress) : Type 0 where
  pub count : z.count ≡ suc a.count
  pub at : z.position.at ≡ a.position.at

pub grown : (a : Progress) {z : Progress} {new rows : List Row} → ◌≡◌ {A = List Row × Progress} (new, z) (rows, record { position = a.position; count = suc a.count; depth = a.depth }) → Grown a z
grown a e = record { count = ap (λ (p : List Row × Progress). p.1.count) e; at = ap (λ (p : List Row × Progress). p.1.position.at) e }

-- tokens in front of what was told, and behind it

pub before : {text : List ℕ} (a : Progress) {y z : Progress} {old new rs : List Row} → y.count ≡ a.count → y.depth ≡ a.depth → a.position.at ≤ y.position.at → Wrote text y old z new rs → Wrote text a old z new rs
before a {y} {z} {old} {new} {rs} n d le w =
    record {
      rows = w.rows ∙ ap (λ i. put old i rs) n;
      count = omega (arith, w.count);
      moved = omega (arith, w.moved);
      within = w.within;
      few = omega (arith, w.few);
      depth = w.depth ∙ d;
    }

pub beyond : {text : List ℕ} {a y : Progress} (z : Progress) {old new rs : List Row} → z.count ≡ y.count → z.depth ≡ y.depth → y.position.at ≤ z.position.at → z.position.at ≤ length text → Wrote text a old y new rs → Wrote text a old z new rs
beyond z n d le h w =
    record {
      rows = w.rows;
      count = n ∙ w.count;
      moved = omega (arith, w.moved);
      within = h;
      few = omega (arith, w.few);
      depth = d ∙ w.depth;
    }

-- what was told between two brackets: one more is open there
pub within-told : {text : List ℕ} (a : Progress) {y z : Progress} (w : Progress) {old new rs : List Row} → y.count ≡ a.count → a.position.at ≤ y.position.at → w.count ≡ z.count → w.depth ≡ a.depth → z.position.at ≤ w.position.at → w.position.at ≤ length text → Wrote text y old z new rs → Wrote text a old w new rs
within-told a {y} {z} w {old} {new} {rs} n le m d ge h v =
    record {
      rows = v.rows ∙ ap (λ i. put old i rs) n;
      count = omega (arith, v.count);
      moved = omega (arith, v.moved);
      within = h;
      few = omega (arith, v.few);
      depth = d;
    }

-- two parts, one straight behind the other
pub both_told : {text : List ℕ} {a y z : Progress} {old mid new rs ss : List Row} → Wrote text a old y mid rs → Wrote text y mid z new ss → Wrote text a old z new (rs ++ ss)
both_told {text} {a} {y} {z} {old} {mid} {new} {rs} {ss} v w =
    record {
      rows = w.rows ∙ ap (λ m. put m y.count ss) v.rows ∙ ap (λ n. put (put old a.count rs) n ss) v.count ∙ sym (put-++ old a.count rs ss);
      count = omega (arith, v.count, w.count, length-append rs ss);
      moved = omega (arith, v.moved, w.moved);
      within = w.within;
      few = omega (arith, v.few, w.few);
      depth = w.depth ∙ v.depth;
    }

-- a row of one token
pub leaf-told : {text : List ℕ} (a : Progress) {z : Progress} {old new : List Row} (k : Kind) (v : ℤ) (s : Seen) → (new, z) ≡ told_leaf old a k v s → a.position.at < s.end → s.end ≤ length text → Wrote text a old z new (row k v 1 s.place ∷ [])
leaf-told {text} a {z} {old} {new} k v s e lt h =
    let P : List Row × Progress → Type 0 = λ p. Wrote text a old p.1 p.0 (row k v 1 s.place ∷ []) in
    subst P (sym e) (record { rows = refl; count = omega arith; moved = lt; within = h; few = omega arith; depth = refl })

-- a row behind one part; a byte of its own, of the part's tokens or its own, pays for it
pub one_told : {text : List ℕ} {a y z : Progress} {old mid new rs : List Row} (k : Kind) (v : ℤ) (q m : ℕ) → (new, z) ≡ told mid y k v a.count q → Wrote text a old y mid rs → length rs ≡ m → suc (y.count + a.position.at) ≤ y.position.at + a.count → Wrote text a old z new (rs ++ row k v (suc m) q ∷ [])
one_told {text} {a} {y} {z} {old} {mid} {new} {rs} k v q m e w long spare =
    let size : y.count - a.count ≡ m = omega (arith, w.count) in
    let P : List Row × Progress → Type 0 = λ p. Wrote text a old p.1 p.0 (rs ++ row k v (suc m) q ∷ []) in
    subst P (sym e) (record {
      rows = ap (λ n. set mid y.count (row k v (suc n) q)) size ∙ ap (λ n. set mid n (row k v (suc m) q)) w.count ∙ ap (λ o. set o (a.count + length rs) (row k v (suc m) q)) w.rows ∙ sym (put-++ old a.count rs (row k v (suc m) q ∷ []));
      count = omega (arith, w.count, length-append rs (row k v (suc m) q ∷ []));
      moved = w.moved;
      within = w.within;
      few = omega arith;
      depth = w.depth;
    })

-- a row behind two parts
pub two-told : {text : List ℕ} {a x y z : Progress} {old mid late new rs ss : List Row} (k : Kind) (v : ℤ) (q m n : ℕ) → (new, z) ≡ told late y k v a.count q → Wrote text a old x mid rs → Wrote text x mid y late ss → length rs ≡ m → length ss ≡ n → suc (y.count + a.position.at) ≤ y.position.at + a.count → Wrote text a old z new (rs ++ (ss ++ row k v (suc (m + n)) q ∷ []))
two-told {text} {a} {x} {y} {z} {old} {mid} {late} {new} {rs} {ss} k v q m n e w u long more spare =
    let P : List Row → Type 0 = λ ts. Wrote text a old z new ts in
    let size : length (rs ++ ss) ≡ m + n = omega (arith, length-append rs ss) in
    subst P (append_assoc rs ss (row k v (suc (m + n)) q ∷ [])) (one_told k v q (m + n) e (both_told w u) size spare)

-- a row behind three parts
pub three-told : {text : List ℕ} {a x x' y z : Progress} {old mid mid' late new rs ss ts : List Row} (k : Kind) (v : ℤ) (q m n i : ℕ) → (new, z) ≡ told late y k v a.count q → Wrote text a old x mid rs → Wrote text x mid x' mid' ss → Wrote text x' mid' y late ts → length rs ≡ m → length ss ≡ n → length ts ≡ i → suc (y.count + a.position.at) ≤ y.position.at + a.count → Wrote text a old z new (rs ++ (ss ++ (ts ++ row k v (suc (m + (n + i))) q ∷ [])))
three-told {text} {a} {x} {x'} {y} {z} {old} {mid} {mid'} {late} {new} {rs} {ss} {ts} k v q m n i e w u t long more last spare =
    let P : List Row → Type 0 = λ us. Wrote text a old z new (rs ++ us) in
    let size : length (ss ++ ts) ≡ n + i = omega (arith, length-append ss ts) in
    subst P (append_assoc ss ts (row k v (suc (m + (n + i))) q ∷ [])) (two-told k v q m (n + i) e w (both_told u t) long size spare)
