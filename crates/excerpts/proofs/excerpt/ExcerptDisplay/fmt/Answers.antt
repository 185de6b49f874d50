use Rattle.std.proofs.Common.{◌≡◌, ◌-◌, List, ℕ, ◌++◌, take, map, codes, lit<, ap, ◌∙◌, refl, rules}
use Rattle.std.specs.Char.{encode_utf8}
use Rattle.std.proofs.lemmas.Grind.{put_two}
use Rattle.std.proofs.lemmas.List.{append_assoc}
use Rattle.std.proofs.lemmas.Str.Ascii.{encode_ascii}
use Rattle.std.proofs.lemmas.Iterator.{YieldsList-from_slice, YieldsList-from_take}
use Rattle.std.proofs.lemmas.Iterator.Consumers.{YieldsList-end}
use Rattle.excerpts.specs.Excerpts.{heading, shown_as, under, excerpt_words}
use Rattle.excerpts.proofs.excerpt.ExcerptDisplay.fmt.Goals as goal

pub returns-clause-writes : goal.returns-clause-writes
returns-clause-writes g c = λ plain ok.
    let e = c.args.self.now in
    let front = heading e.line e.column ++ (map shown_as e.text.now ++ codes "\n") in
    let so_far = c.loop-b-2.invariant plain in
    let caret = c.write_char-3.ensures.writes so_far.plain ok in
    let all = YieldsList-end (YieldsList-from_take (e.column - 1) (YieldsList-from_slice e.text.now (search rules)) (search rules)) c.loop-b-2.yielded _ c.loop-b-2.yielded_by _ _ c.in-None.is c.next.ensures.steps in
    let words : (front ++ map under (map (λ x. x.now) c.loop-b-2.yielded)) ++ encode_utf8 94 ≡ excerpt_words e =
    ap (λ (bs : List ℕ). (front ++ map under bs) ++ encode_utf8 94) all.0
    ∙ ap (λ (bs : List ℕ). (front ++ map under (take (e.column - 1) e.text.now)) ++ bs) (encode_ascii 94 (lit< tt))
    ∙ simp append_assoc refl in
    put_two _ _ _ _ _ _ _ so_far caret words
