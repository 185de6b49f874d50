-- Where the parts of if, if-else, while and joint stand, and which of them a sheet is by the kind of its last row.
use Rattle.std.proofs.Common.{◌≡◌, ℕ, suc, ◌+◌, ◌-◌, ◌<◌, ◌≤◌, List, [], ◌∷◌, ◌++◌, length, get_or, sym, refl, ap, ◌∙◌, subst, arith}
use Rattle.std.proofs.lemmas.List.{length-append}
use Rattle.tables.specs.declared.kind.Kind.{Kind}
use Rattle.tables.specs.declared.kind.Kind.TheVariants.{Number, Name, Add, Sub, Mul, Div, Truth, Compare, Not, And, Or, Set, If, IfElse, While, Joint}
use Rattle.tables.specs.declared.row.Row.{Row}
use Rattle.tables.specs.declared.sort.Sort.TheVariants as sort
use Rattle.tables.specs.Trees.{Sum, Condition, Command, set, when, choose, while, Sheet, only, joint}
use Rattle.tables.specs.Rows.{blank, condition_rows, sheet_rows, condition_size, sheet_size}
use Rattle.tables.specs.Tables.{ConditionOver, SheetOver}
use Rattle.tables.proofs.OfSort.{length-in, some-rows}
use Rattle.screen.specs.Parts.{Before, ConditionAt, SheetAt}
use Rattle.screen.proofs.Parting.{condition-at, right-before, left-before, end-in, one_in, Pair, pair, kind-is}

-- a condition and a body, under if or while
pub record Testing (R : List Row) (end count : ℕ) (h : Condition) (b : Sheet) : Type 0 where
  pub top : Row
  pub pair : Pair sort.Condition sort.Sheet R end h b top
  pub test : ConditionAt R (end - 1 - (get_or R (end - 1 - 1) blank).size) count h
  pub body : SheetAt R (end - 1) count b
  pub falls : (get_or R (end - 1 - 1) blank).size < (get_or R (end - 1) blank).size

testing : (R : List Row) (end count : ℕ) (h : Condition) (b : Sheet) (x : Row) → x.size ≡ suc (condition_size h + sheet_size b) → Before R end (condition_rows h ++ (sheet_rows b ++ x ∷ [])) → ConditionOver count h → SheetOver count b → Testing R end count h b
testing R end count h b x n before oh ob =
    let P = pair sort.Condition sort.Sheet R end h b x before in
    let own = ap (λ (y : Row). y.size) P.own in
    let rs = P.right-size in
    record {
      top = x;
      pair = P;
      test = record { stands = P.left; over = oh };
      body = record { stands = P.right; over = ob };
      falls = omega arith;
    }

pub when-parts : {R : List Row} {end count q : ℕ} {h : Condition} {b : Sheet} → SheetAt R end count (only (when q h b)) → Testing R end count h b
when-parts {R} {end} {count} {q} {h} {b} at = testing R end count h b _ refl at.stands at.over.0 at.over.1

pub while-parts : {R : List Row} {end count q : ℕ} {h : Condition} {b : Sheet} → SheetAt R end count (only (while q h b)) → Testing R end count h b
while-parts {R} {end} {count} {q} {h} {b} at = testing R end count h b _ refl at.stands at.over.0 at.over.1

-- the same of a loop, whose condition ends at s, whichever turn the points are from
pub record Looping (R : List Row) (end s count q : ℕ) (h : Condition) (b : Sheet) : Type 0 where
  pub loop : SheetAt R end count (only (while q h b))
  pub test : ConditionAt R s count h
  pub body : SheetAt R (end - 1) count b
  pub falls : (get_or R (end - 1 - 1) blank).size < (get_or R (end - 1) blank).size

pub looping : {R : List Row} {end s m n q : ℕ} {h : Condition} {b : Sheet} → s ≡ end - 1 - (get_or R (end - 1 - 1) blank).size → n ≡ m → SheetAt R end m (only (while q h b)) → Looping R end s n q h b
looping {R} {end} {s} {m} {n} {q} {h} {b} e l at =
    let at' = subst (λ (k : ℕ). SheetAt R end k (only (while q h b))) (sym l) at in
    let T = while-parts at' in
    record { loop = at'; test = condition-at e T.test; body = T.body; falls = T.falls }

-- a first part, which ends at s, under a row of size m
pub record Lead (R : List Row) (s count m : ℕ) (b : Sheet) : Type 0 where
  pub part : SheetAt R s count b
  pub falls : (get_or R (s - 1) blank).size < m

pub lead-at : {R : List Row} {m n count k : ℕ} {b : Sheet} → n ≡ m → Lead R m count k b → Lead R n count k b
lead-at {R} {m} {n} {count} {k} {b} e l = subst (λ (s : ℕ). Lead R s count k b) (sym e) l

-- a command and the sheet after it
pub record Joining (R : List Row) (end count : ℕ) (k : Command) (b : Sheet) : Type 0 where
  pub top : Row
  pub pair : Pair sort.Sheet sort.Sheet R end (only k) b top
  pub first : Lead R (end - 1 - (get_or R (end - 1 - 1) blank).size) count (get_or R (end - 1) blank).size (only k)
  pub rest : SheetAt R (end - 1) count b
  pub falls : (get_or R (end - 1 - 1) blank).size < (get_or R (end - 1) blank).size

pub joint-parts : {R : List Row} {end count q : ℕ} {k : Command} {b : Sheet} → SheetAt R end count (joint q k b) → Joining R end count k b
joint-parts {R} {end} {count} {q} {k} {b} at =
    let P = pair sort.Sheet sort.Sheet R end (only k) b _ at.stands in
    let own = ap (λ (y : Row). y.size) P.own in
    let ls = P.left-size in
    let rs = P.right-size in
    record {
      top = _;
      pair = P;
      first = record { part = record { stands = P.left; over = at.over.0 }; falls = omega arith };
      rest = record { stands = P.right; over = at.over.1 };
      falls = omega arith;
    }

-- the first of two bodies, which ends at s, and the condition before it
pub record First (R : List Row) (s count m : ℕ) (h : Condition) (b : Sheet) : Type 0 where
  pub some : 1 ≤ s
  pub room : (get_or R (s - 1) blank).size ≤ s
  pub test : ConditionAt R (s - (get_or R (s - 1) blank).size) count h
  pub body : Lead R s count m b

pub first-at : {R : List Row} {m n count k : ℕ} {h : Condition} {b : Sheet} → n ≡ m → First R m count k h b → First R n count k h b
first-at {R} {m} {n} {count} {k} {h} {b} e f = subst (λ (s : ℕ). First R s count k h b) (sym e) f

-- a condition and two bodies
pub record Choosing (R : List Row) (end count : ℕ) (h : Condition) (b d : Sheet) : Type 0 where
  pub top : Row
  pub pair : Pair sort.Sheet sort.Sheet R end b d top
  pub first : First R (end - 1 - (get_or R (end - 1 - 1) blank).size) count (get_or R (end - 1) blank).size h b
  pub second : SheetAt R (end - 1) count d
  pub falls : (get_or R (end - 1 - 1) blank).size < (get_or R (end - 1) blank).size

choosing : (R : List Row) (end count : ℕ) (h : Condition) (b d : Sheet) (x : Row) → x.size ≡ suc (condition_size h + (sheet_size b + sheet_size d)) → Before R end (condition_rows h ++ (sheet_rows b ++ (sheet_rows d ++ x ∷ []))) → ConditionOver count h → SheetOver count b → SheetOver count d → Choosing R end count h b d
choosing R end count h b d x n before oh ob od =
    let P = pair sort.Sheet sort.Sheet R end b d x (right-before R end (condition_rows h) (sheet_rows b ++ (sheet_rows d ++ x ∷ [])) before) in
    let own = ap (λ (y : Row). y.size) P.own in
    let ls = P.left-size in
    let rs = P.right-size in
    let lf = P.left.fits in
    let n1 = length-in sort.Sheet b in
    let n2 = length-in sort.Sheet d in
    let m1 = some-rows sort.Sheet b in
    let some = P.some in
    let room = P.room in
    let L = length-append (sheet_rows b) (sheet_rows d ++ x ∷ []) in
    let L2 = length-append (sheet_rows d) (x ∷ []) in
    record {
      top = x;
      pair = P;
      first =
          record {
            some = omega arith;
            room = omega arith;
            test = record { stands = left-before R end (condition_rows h) (sheet_rows b ++ (sheet_rows d ++ x ∷ [])) before _ (omega arith); over = oh };
            body = record { part = record { stands = P.left; over = ob }; falls = omega arith };
          };
      second = record { stands = P.right; over = od };
      falls = omega arith;
    }

pub choose-parts : {R : List Row} {end count q : ℕ} {h : Condition} {b d : Sheet} → SheetAt R end count (only (choose q h b d)) → Choosing R end count h b d
choose-parts {R} {end} {count} {q} {h} {b} {d} at =
    choosing R end count h b d _ refl at.stands at.over.0 at.over.1 at.over.2

-- which command a sheet is, by the kind of its last row

abbrev kind_of : Sheet → Kind
kind_of (only (set q x e)) = Set
kind_of (only (when q h b)) = If
kind_of (only (choose q h b d)) = IfElse
kind_of (only (while q h b)) = While
kind_of (joint q k b) = Joint

pub sheet-end : {R : List Row} {end count : ℕ} {t : Sheet} → SheetAt R end count t → (1 ≤ end) × (end ≤ length R)
sheet-end {R} {end} {count} {t} at = end-in sort.Sheet R end t at.stands

top-kind : (R : List Row) (end count : ℕ) (t : Sheet) → SheetAt R end count t → (get_or R (end - 1) blank).kind ≡ kind_of t
top-kind R end count (only (set q x e)) at = kind-is (one_in sort.Sum R end e _ at.stands).own
top-kind R end count (only (when q h b)) at = kind-is (pair sort.Condition sort.Sheet R end h b _ at.stands).own
top-kind R end count (only (choose q h b d)) at =
    kind-is (pair sort.Sheet sort.Sheet R end b d _ (right-before R end (condition_rows h) _ at.stands)).own
top-kind R end count (only (while q h b)) at = kind-is (pair sort.Condition sort.Sheet R end h b _ at.stands).own
top-kind R end count (joint q k b) at = kind-is (pair sort.Sheet sort.Sheet R end (only k) b _ at.stands).own

-- that P holds of each sheet with a last row of the kind
abbrev pub Arm : Kind → (Sheet → Type 0) → Type 0
Arm Number P = Unit {0}
Arm Name P = Unit {0}
Arm Add P = Unit {0}
Arm Sub P = Unit {0}
Arm Mul P = Unit {0}
Arm Div P = Unit {0}
Arm Truth P = Unit {0}
Arm Compare P = Unit {0}
Arm Not P = Unit {0}
Arm And P = Unit {0}
Arm Or P = Unit {0}
Arm Set P = (q x : ℕ) (e : Sum) → P (only (set q x e))
Arm If P = (q : ℕ) (h : Condition) (b : Sheet) → P (only (when q h b))
Arm IfElse P = (q : ℕ) (h : Condition) (b d : Sheet) → P (only (choose q h b d))
Arm While P = (q : ℕ) (h : Condition) (b : Sheet) → P (only (while q h b))
Arm Joint P = (q : ℕ) (k : Command) (b : Sheet) → P (joint q k b)

arm-of : (P : Sheet → Type 0) (t : Sheet) → Arm (kind_of t) P → P t
arm-of P (only (set q x e)) f = f q x e
arm-of P (only (when q h b)) f = f q h b
arm-of P (only (choose q h b d)) f = f q h b d
arm-of P (only (while q h b)) f = f q h b
arm-of P (joint q k b) f = f q k b

pub arm : {R : List Row} {end count : ℕ} {t : Sheet} {k : Kind} → SheetAt R end count t → (get_or R (end - 1) blank).kind ≡ k → (P : Sheet → Type 0) → Arm k P → P t
arm {R} {end} {count} {t} at e P f = arm-of P t (subst (λ (k : Kind). Arm k P) (sym e ∙ top-kind R end count t at) f)

-- a sheet that is no one command is a command and a sheet
last-arm : (t : Sheet) → (kind_of t ≡ Set → ⊥) → (kind_of t ≡ If → ⊥) → (kind_of t ≡ IfElse → ⊥) → (kind_of t ≡ While → ⊥) → kind_of t ≡ Joint
last-arm (only (set q x e)) s w c l = absurd (s refl)
last-arm (only (when q h b)) s w c l = absurd (w refl)
last-arm (only (choose q h b d)) s w c l = absurd (c refl)
last-arm (only (while q h b)) s w c l = absurd (l refl)
last-arm (joint q k b) s w c l = refl

pub joint-kind : {R : List Row} {end count : ℕ} {t : Sheet} → SheetAt R end count t → ((get_or R (end - 1) blank).kind ≡ Set → ⊥) → ((get_or R (end - 1) blank).kind ≡ If → ⊥) → ((get_or R (end - 1) blank).kind ≡ IfElse → ⊥) → ((get_or R (end - 1) blank).kind ≡ While → ⊥) → (get_or R (end - 1) blank).kind ≡ Joint
joint-kind {R} {end} {count} {t} at s w c l =
    let k = top-kind R end count t at in
    k ∙ last-arm t (λ e. s (k ∙ e)) (λ e. w (k ∙ e)) (λ e. c (k ∙ e)) (λ e. l (k ∙ e))
