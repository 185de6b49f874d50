use Rattle.std.proofs.Common.{◌≡◌, ◌<◌, length, ap, ◌∙◌, arith, w32, SFits, to_z, of_z, rules}
use Rattle.std.proofs.lemmas.Int.{to_z-of_z}
use Rattle.std.proofs.lemmas.Bool.Decides.{nat_tests}
use Rattle.banks.specs.Kept.{numbers_in, put}
use Rattle.banks.proofs.Words.{put_at-put, words-put, after-put}
use Rattle.banks.proofs.kept.KeptBank.write.Goals as goal

pub returns-then-point-count : goal.returns-then-point-count
returns-then-point-count c =
    let bs = c.args.self.now.bytes.now in
    let p = c.args.point in
    let v = c.args.value in
    let f : SFits w32 v = search rules in
    let z : to_z w32 (of_z w32 v) ≡ v = to_z-of_z w32 v f in
    let h : p < length (numbers_in bs) = omega arith in
    let e : c.store.new.bytes ≡ put bs p v = c.store.ensures ∙ put_at-put bs p (to_z w32 (of_z w32 v)) ∙ ap (put bs p) z in
    let w = words-put 64 bs p v f h in
    let s = after-put 64 bs p v h in
    record { value = simp (e, w) (grind (arith, nat_tests, to_z-of_z)); same = simp (e, s); every = simp e (grind (arith, nat_tests, to_z-of_z)) }
