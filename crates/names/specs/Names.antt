-- What a name list means. A list names the points of a station: 1 to 64 names, one to a line. A name is a word of
-- at most 16 bytes that the language does not keep for itself, and it stands once. Nothing here speaks of how a
-- list is read; that the reader accepts just these lists is a law on its contract.
use Rattle.std.specs.Prelude.{◌≡◌, ℕ, ◌<◌, ◌≤◌, Bool, true, false, ◌||◌, List, [], ◌∷◌, ◌++◌, length, is_ok, IfErr, codes, Option, Result, MatchOption, ◌≢◌, slice_index_or}
use Rattle.std.specs.List.{AllByRecursion}
use Rattle.std.specs.Str.{bytes_eq}
use Rattle.faults.specs.declared.fault.Fault.{Fault}
use Rattle.scanner.specs.Words.{is_word}

abbrev pub is_reserved : List ℕ → Bool
is_reserved w =
    bytes_eq w (codes "if")
    || (bytes_eq w (codes "else") || (bytes_eq w (codes "while") || (bytes_eq w (codes "true") || bytes_eq w (codes "false"))))

pub record Name (w : List ℕ) : Type 0 where
  pub word : is_word w ≡ true
  pub short : length w ≤ 16
  pub free : is_reserved w ≡ false

-- the names of a list so far
pub record Fine (names : List (List ℕ)) : Type 0 where
  pub few : length names ≤ 64
  pub named : AllByRecursion Name names
  pub once : (i j : ℕ) → i < j → j < length names → slice_index_or names i [] ≢ slice_index_or names j []

-- the text of a list: each name and byte 10
abbrev pub written : List (List ℕ) → List ℕ
written [] = []
written (w ∷ ws) = w ++ (10 ∷ written ws)

-- the text is the list of just these names
pub record Lists (names : List (List ℕ)) (text : List ℕ) : Type 0 where
  pub some : 0 < length names
  pub fine : Fine names
  pub spelled : text ≡ written names

-- a text is accepted, as it stands, exactly if it is the list of some names
pub record Accepts (text : List ℕ) (r : Result (List ℕ) Fault) : Type 0 where
  pub only : is_ok r ≡ true → (names : List (List ℕ)) × Lists names text
  pub each : (names : List (List ℕ)) → Lists names text → is_ok r ≡ true

-- the lines before the start are fine, and with the line there they are not; only in an empty text is there none
pub record Breaks (text : List ℕ) (start : ℕ) : Type 0 where
  pub names : List (List ℕ)
  pub rest : List ℕ
  pub fine : Fine names
  pub spelled : text ≡ written names ++ rest
  pub here : start ≡ length (written names)
  pub stands : rest ≡ [] → text ≡ []
  pub next : (name after : List ℕ) → rest ≡ name ++ (10 ∷ after) → Fine (names ++ name ∷ []) → ⊥

-- a refusal's figure is the start of the first bad line
abbrev pub FirstBad : List ℕ → Result (List ℕ) Fault → Type 0
FirstBad text r = IfErr r (λ f. Breaks text f.figure)

-- a word's point is where it stands in the list, and a word with no point stands nowhere
abbrev pub Finds : List ℕ → List (List ℕ) → Option ℕ → Type 0
Finds w names r =
    MatchOption r ((k : ℕ) → k < length names → slice_index_or names k [] ≢ w) (λ p. (p < length names) × (slice_index_or names p [] ≡ w))
