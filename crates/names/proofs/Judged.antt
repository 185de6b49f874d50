-- What lasts while a name list is judged: the lines seen are done with, and the lines to come have the answer.
use Rattle.std.proofs.Common.{◌≡◌, ℕ, suc, ◌+◌, ◌<◌, ◌≤◌, List, [], ◌∷◌, ◌++◌, length, take, Some, None, Option, sym, refl, ap, ◌∙◌, subst, arith}
use Rattle.std.proofs.lemmas.List.{append-nil, append_assoc, length-append, length_push, nil_from_length, take_at}
use Rattle.std.specs.List.{AllByRecursion}
use Rattle.names.specs.declared.bad_line.Complaint.{Complaint}
use Rattle.names.specs.declared.bad_line.Complaint.TheVariants.{NoNewline}
use Rattle.names.specs.Lines.{lines_of, rest_of}
use Rattle.names.specs.Names.{written}
use Rattle.names.specs.Complaints.{complaint_of, first_bad, bad_or, bad_line_of}
use Rattle.names.proofs.LineParts.{Plain, parts, lines-plain, lines-written}
use Rattle.names.proofs.NameLaws.{front-all, written-append, length-written-push}

pub record Judged (text : List ℕ) (start count : ℕ) (coming : List (List ℕ)) : Type 0 where
  pub seen : List (List ℕ)
  pub whole : lines_of text ≡ seen ++ coming
  pub begun : start ≡ length (written seen)
  pub counted : count ≡ length seen
  pub answer : first_bad seen start coming (rest_of text) ≡ bad_line_of text

module _ (text : List ℕ) (start count : ℕ) (coming : List (List ℕ)) (j : Judged text start count coming) where
  spelled : text ≡ written j.seen ++ (written coming ++ rest_of text)
  spelled =
      parts text ∙ ap (λ (ls : List (List ℕ)). written ls ++ rest_of text) j.whole ∙ simp (written-append, append_assoc) refl

  pub length-spelled : length text ≡ start + (length (written coming) + length (rest_of text))
  length-spelled =
      ap length spelled ∙ omega (arith, j.begun, length-append (written j.seen) (written coming ++ rest_of text), length-append (written coming) (rest_of text))

  -- what the code cuts off is the lines seen
  pub seen-is : lines_of (take start text) ≡ j.seen
  seen-is =
      ap (λ (bs : List ℕ). lines_of (take start bs)) spelled
      ∙ ap lines_of (take_at (written j.seen) (written coming ++ rest_of text) start (sym j.begun))
      ∙ lines-written j.seen (front-all Plain j.seen coming (subst (AllByRecursion Plain) j.whole (lines-plain text))).0

-- the next line is judged: n is its number, and the complaint is asked for as the code does
module _ (text : List ℕ) (start count : ℕ) (coming : List (List ℕ)) (line : List ℕ) (later : List (List ℕ)) (n : ℕ) (judged : Judged text start count coming) (e : coming ≡ line ∷ later) (at : n ≡ count) where
  j : Judged text start count (line ∷ later)
  j = subst (Judged text start count) e judged

  asked : complaint_of n (lines_of (take start text)) line ≡ complaint_of (length j.seen) j.seen line
  asked =
      ap (λ (k : ℕ). complaint_of k (lines_of (take start text)) line) (at ∙ j.counted)
      ∙ ap (λ (ls : List (List ℕ)). complaint_of (length j.seen) ls line) (seen-is text start count (line ∷ later) j)

  answered : (o : Option Complaint) → o ≡ complaint_of n (lines_of (take start text)) line → bad_or start (suc (length j.seen)) o (first_bad (j.seen ++ line ∷ []) (suc (start + length line)) later (rest_of text)) ≡ bad_line_of text
  answered o is =
      ap (λ (o : Option Complaint). bad_or start (suc (length j.seen)) o (first_bad (j.seen ++ line ∷ []) (suc (start + length line)) later (rest_of text))) (is ∙ asked)
      ∙ j.answer

  pub fits : start + length line < length text
  fits =
      omega (arith, length-spelled text start count (line ∷ later) j, length-append line (10 ∷ written later))

  pub bad : (c : Complaint) → Some c ≡ complaint_of n (lines_of (take start text)) line → Some (record { start = start; line = n + 1; complaint = c }) ≡ bad_line_of text
  bad c is = let k : n + 1 ≡ suc (length j.seen) = omega (arith, at, j.counted) in rw k (answered (Some c) is)

  pub next : (m : ℕ) → m ≡ count + 1 → None ≡ complaint_of n (lines_of (take start text)) line → Judged text (start + (length line + 1)) m later
  next m up is =
      let k : start + (length line + 1) ≡ suc (start + length line) = omega arith in
      record {
        seen = j.seen ++ line ∷ [];
        whole = j.whole ∙ sym (append_assoc j.seen (line ∷ []) later);
        begun = omega (arith, j.begun, length-written-push j.seen line);
        counted = omega (arith, up, j.counted, length_push j.seen line);
        answer = rw k (answered None is);
      }

cut_short : (rest : List ℕ) (seen : List (List ℕ)) (start line : ℕ) → 0 < length rest → line ≡ suc (length seen) → first_bad seen start [] rest ≡ Some (record { start = start; line = line; complaint = NoNewline })
cut_short [] seen start line h e = absurd (omega arith)
cut_short (b ∷ bs) seen start line h e = ap (λ (n : ℕ). Some (record { start = start; line = n; complaint = NoNewline })) (sym e)

-- no line comes any more
module _ (text : List ℕ) (start count : ℕ) (coming : List (List ℕ)) (judged : Judged text start count coming) (e : coming ≡ []) where
  last : Judged text start count []
  last = subst (Judged text start count) e judged

  pub ends-short : start < length text → Some (record { start = start; line = length (lines_of (take start text)) + 1; complaint = NoNewline }) ≡ bad_line_of text
  ends-short h =
      sym (cut_short (rest_of text) last.seen start (length (lines_of (take start text)) + 1) (omega (arith, length-spelled text start count [] last)) (omega (arith, ap length (seen-is text start count [] last))))
      ∙ last.answer

  pub ends-whole : length text ≤ start → None ≡ bad_line_of text
  ends-whole h =
      sym (ap (first_bad last.seen start []) (nil_from_length (rest_of text) (omega (arith, length-spelled text start count [] last))))
      ∙ last.answer
