-- Sheets worked out by the definitions themselves, over the points locked, weight and back, all 0 at first: what the screen
-- tells when it is allowed just the cost and one step less, and that the state model ends them so.
use Rattle.std.proofs.Common.{◌≡◌, true, [], ◌∷◌, ℤ, pos, negsuc, Ok, refl}
use Rattle.std.specs.Int.{int_wrap}
use Rattle.faults.specs.declared.causes.RunCause.TheVariants.{ZeroDivisor}
use Rattle.faults.specs.declared.causes.Layer.TheVariants as layer
use Rattle.faults.specs.Numbers.{number_of}
use Rattle.arith.specs.declared.operator.Operator.TheVariants.{Add, Sub, Div}
use Rattle.arith.specs.declared.comparison.Comparison.TheVariants.{Greater, Equal}
use Rattle.tables.specs.Trees.{number, name, work, either, truth, compare, connect, set, when, while, Sheet, only, joint}
use Rattle.tables.specs.Rows.{sheet_rows}
use Rattle.screen.specs.Works.{Points, done, stop}
use Rattle.screen.specs.Model.{Ends}
use Rattle.screen.specs.Screens.{ended_at, stopped_at, too_dear, worked_out}
use Rattle.screen.proofs.Modelling.{sound}

abbrev zeros : Points
zeros = pos 0 ∷ pos 0 ∷ pos 0 ∷ []

abbrev back : ℤ → Points
back v = pos 0 ∷ pos 0 ∷ v ∷ []

-- back = 7 / 2;
abbrev half : Sheet
half = only (set 0 2 (work 9 Div (number 7 (pos 7)) (number 11 (pos 2))))

half-5 : worked_out (sheet_rows half) zeros 5 ≡ (Ok (ended_at 5), back (pos 3))
unfolding int_wrap
half-5 = refl

half-4 : worked_out (sheet_rows half) zeros 4 ≡ too_dear 4 zeros
unfolding int_wrap
half-4 = refl

half-ends : Ends half zeros (done 5 (back (pos 3)))
unfolding int_wrap
half-ends = sound 6 half zeros tt

-- back = (0 - 7) / 2;
abbrev below : Sheet
below = only (set 0 2 (work 15 Div (work 10 Sub (number 8 (pos 0)) (number 12 (pos 7))) (number 17 (pos 2))))

below-7 : worked_out (sheet_rows below) zeros 7 ≡ (Ok (ended_at 7), back (negsuc 2))
unfolding int_wrap
below-7 = refl

below-6 : worked_out (sheet_rows below) zeros 6 ≡ too_dear 6 zeros
unfolding int_wrap
below-6 = refl

below-ends : Ends below zeros (done 7 (back (negsuc 2)))
unfolding int_wrap
below-ends = sound 8 below zeros tt

-- back = 2147483647 + 1;
abbrev wraps : Sheet
wraps = only (set 0 2 (work 18 Add (number 7 (pos 2147483647)) (number 20 (pos 1))))

wraps-5 : worked_out (sheet_rows wraps) zeros 5 ≡ (Ok (ended_at 5), back (negsuc 2147483647))
unfolding int_wrap
wraps-5 = refl

wraps-4 : worked_out (sheet_rows wraps) zeros 4 ≡ too_dear 4 zeros
unfolding int_wrap
wraps-4 = refl

wraps-ends : Ends wraps zeros (done 5 (back (negsuc 2147483647)))
unfolding int_wrap
wraps-ends = sound 6 wraps zeros tt

-- back = 5 - 2 - 1;
abbrev leftward : Sheet
leftward = only (set 0 2 (work 13 Sub (work 9 Sub (number 7 (pos 5)) (number 11 (pos 2))) (number 15 (pos 1))))

leftward-7 : worked_out (sheet_rows leftward) zeros 7 ≡ (Ok (ended_at 7), back (pos 2))
unfolding int_wrap
leftward-7 = refl

-- back = 7 / (locked - locked);
abbrev by_zero : Sheet
by_zero = only (set 0 2 (work 9 Div (number 7 (pos 7)) (work 19 Sub (name 12 0) (name 21 0))))

by-zero-5 : worked_out (sheet_rows by_zero) (pos 4 ∷ pos 5 ∷ pos 6 ∷ []) 5 ≡ (Ok (stopped_at 5 ZeroDivisor 9), pos 4 ∷ pos 5 ∷ pos 6 ∷ [])
unfolding int_wrap
by-zero-5 = refl

by-zero-4 : worked_out (sheet_rows by_zero) zeros 4 ≡ too_dear 4 zeros
unfolding int_wrap
by-zero-4 = refl

by-zero-ends : Ends by_zero zeros (stop 5 ZeroDivisor 9)
unfolding int_wrap
by-zero-ends = sound 6 by_zero zeros tt

twenty : number_of (layer.Run ZeroDivisor) ≡ 20
twenty = refl

-- if (true || 1 / 0 == 1) { back = 1; }
abbrev no-short-cut : Sheet
no-short-cut =
    only (when 0 (connect 9 either (truth 4 true) (compare 18 Equal (work 14 Div (number 12 (pos 1)) (number 16 (pos 0))) (number 21 (pos 1)))) (only (set 26 2 (number 33 (pos 1)))))

no-short-cut-4 : worked_out (sheet_rows no-short-cut) zeros 4 ≡ (Ok (stopped_at 4 ZeroDivisor 14), zeros)
unfolding int_wrap
no-short-cut-4 = refl

no-short-cut-3 : worked_out (sheet_rows no-short-cut) zeros 3 ≡ too_dear 3 zeros
unfolding int_wrap
no-short-cut-3 = refl

no-short-cut-ends : Ends no-short-cut zeros (stop 4 ZeroDivisor 14)
unfolding int_wrap
no-short-cut-ends = sound 5 no-short-cut zeros tt

-- back = 2; while (back > 0) { back = back - 1; }
abbrev counting : Sheet
counting =
    joint 10 (set 0 2 (number 7 (pos 2)))
    (only (while 10 (compare 22 Greater (name 17 2) (number 24 (pos 0))) (only (set 29 2 (work 41 Sub (name 36 2) (number 43 (pos 1)))))))

counting-27 : worked_out (sheet_rows counting) zeros 27 ≡ (Ok (ended_at 27), zeros)
unfolding int_wrap
counting-27 = refl

-- after 26 steps it is still running
counting-26 : worked_out (sheet_rows counting) zeros 26 ≡ too_dear 26 zeros
unfolding int_wrap
counting-26 = refl

counting-ends : Ends counting zeros (done 27 zeros)
unfolding int_wrap
counting-ends = sound 28 counting zeros tt

-- while (true) { back = 1; } is never told, however much is allowed of what was tried
abbrev endless : Sheet
endless = only (while 0 (truth 7 true) (only (set 15 2 (number 22 (pos 1)))))

endless-50 : worked_out (sheet_rows endless) zeros 50 ≡ too_dear 50 zeros
unfolding int_wrap
endless-50 = refl
