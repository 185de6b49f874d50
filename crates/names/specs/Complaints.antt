-- What reading a name list answers: the first line that breaks a rule, with its start, its number and the rule it
-- breaks, or none. The laws of `Names` say that these are the right lists and the right lines.
use Rattle.std.specs.Prelude.{ℕ, suc, ◌+◌, cond, List, [], ◌∷◌, ◌++◌, length, Some, None, Ok, Err, codes, decimal, Option, Result, nat_le, nat_lt}
use Rattle.std.specs.Char.{is_ascii_digit}
use Rattle.faults.specs.declared.causes.Layer.TheVariants.{Reader}
use Rattle.faults.specs.declared.causes.ReaderCause.TheVariants.{BadList}
use Rattle.faults.specs.declared.fault.Fault.{Fault}
use Rattle.faults.specs.Words.{fault_words}
use Rattle.scanner.specs.Words.{is_word}
use Rattle.names.specs.declared.bad_line.BadLine.{BadLine}
use Rattle.names.specs.declared.bad_line.Complaint.{Complaint}
use Rattle.names.specs.declared.bad_line.Complaint.TheVariants.{EmptyList, NoNewline, TooMany, Blank, DigitFirst, BadByte, TooLong, Reserved, Repeated}
use Rattle.names.specs.declared.name_list.NameList.{NameList}
use Rattle.names.specs.Lines.{lines_of, rest_of, position}
use Rattle.names.specs.Names.{is_reserved}

-- why a line is no word
abbrev pub shape_complaint : List ℕ → Complaint
shape_complaint [] = Blank
shape_complaint (b ∷ bs) = cond (is_ascii_digit b) DigitFirst BadByte

abbrev pub repeated : Option ℕ → Option Complaint
repeated None = None
repeated (Some p) = Some (Repeated p)

-- what is wrong with a line that stands after so many others, these
abbrev pub complaint_of : ℕ → List (List ℕ) → List ℕ → Option Complaint
complaint_of count seen line =
    cond (nat_le 64 count) (Some TooMany)
    (cond (is_word line)
    (cond (nat_lt 16 (length line)) (Some TooLong) (cond (is_reserved line) (Some Reserved) (repeated (position line seen))))
    (Some (shape_complaint line)))

abbrev pub bad_or : ℕ → ℕ → Option Complaint → Option BadLine → Option BadLine
bad_or start line (Some c) later = Some (record { start = start; line = line; complaint = c })
bad_or start line None later = later

-- the lines seen, where the next one starts, the lines to come and what stands after them
abbrev pub first_bad : List (List ℕ) → ℕ → List (List ℕ) → List ℕ → Option BadLine
first_bad seen start [] [] = None
first_bad seen start [] (b ∷ bs) = Some (record { start = start; line = suc (length seen); complaint = NoNewline })
first_bad seen start (l ∷ ls) rest =
    bad_or start (suc (length seen)) (complaint_of (length seen) seen l) (first_bad (seen ++ l ∷ []) (suc (start + length l)) ls rest)

abbrev pub bad_line_of : List ℕ → Option BadLine
bad_line_of [] = Some (record { start = 0; line = 1; complaint = EmptyList })
bad_line_of (b ∷ bs) = first_bad [] 0 (lines_of (b ∷ bs)) (rest_of (b ∷ bs))

abbrev pub list_fault : ℕ → Fault
list_fault start = record { layer = Reader BadList; figure = start }

abbrev pub or_fault : List ℕ → Option BadLine → Result (List ℕ) Fault
or_fault text None = Ok text
or_fault text (Some bad) = Err (list_fault bad.start)

abbrev pub list_read : List ℕ → Result (List ℕ) Fault
list_read text = or_fault text (bad_line_of text)

-- a list that was read, by its text
abbrev pub text_of : Result NameList Fault → Result (List ℕ) Fault
text_of (Ok l) = Ok l.text.now
text_of (Err f) = Err f

abbrev pub complaint_words : Complaint → List ℕ
complaint_words EmptyList = codes "the list is empty, and has to name a point"
complaint_words NoNewline = codes "the last line has no newline"
complaint_words TooMany = codes "a list has at most 64 names"
complaint_words Blank = codes "the line is empty"
complaint_words DigitFirst = codes "a name cannot begin with a digit"
complaint_words BadByte = codes "a name has only ASCII letters, digits and underscores"
complaint_words TooLong = codes "a name has at most 16 characters"
complaint_words Reserved = codes "the word is reserved"
complaint_words (Repeated p) = codes "the name is that of point " ++ (decimal p ++ codes " already")

-- the refusal, and below it what is wrong with which line
abbrev pub bad_line_words : BadLine → List ℕ
bad_line_words x =
    fault_words (list_fault x.start) ++ (codes "\nline " ++ (decimal x.line ++ (codes ": " ++ complaint_words x.complaint)))
