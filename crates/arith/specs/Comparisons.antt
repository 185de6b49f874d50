-- What the six comparisons mean, over whole numbers, and the numbers by which rows and instructions name them.
use Rattle.std.specs.Prelude.{◌≡◌, ℕ, Bool, false, cond, not, List, ◌++◌, ℤ, pos, negsuc, Some, None, Option, Result, ◌==◌, int_le, int_lt, codes, decimal}
use Rattle.std.specs.Option.{ok_or}
use Rattle.arith.specs.declared.comparison.NoComparison.{NoComparison}
use Rattle.arith.specs.declared.comparison.Comparison.{Comparison}
use Rattle.arith.specs.declared.comparison.Comparison.TheVariants.{Less, LessOrEqual, Greater, GreaterOrEqual, Equal, NotEqual}

abbrev pub eq_z : ℤ → ℤ → Bool
eq_z (pos a) (pos b) = a == b
eq_z (pos a) (negsuc b) = false
eq_z (negsuc a) (pos b) = false
eq_z (negsuc a) (negsuc b) = a == b

abbrev pub holds : Comparison → ℤ → ℤ → Bool
holds Less x y = int_lt x y
holds LessOrEqual x y = int_le x y
holds Greater x y = int_lt y x
holds GreaterOrEqual x y = int_le y x
holds Equal x y = eq_z x y
holds NotEqual x y = not (eq_z x y)

-- in the order < <= > >= == !=
abbrev pub comparison_number : Comparison → ℕ
comparison_number Less = 0
comparison_number LessOrEqual = 1
comparison_number Greater = 2
comparison_number GreaterOrEqual = 3
comparison_number Equal = 4
comparison_number NotEqual = 5

-- the comparison that a number names; over 5 it names none
abbrev pub comparison_at : ℕ → Option Comparison
comparison_at n =
    cond (n == 0) (Some Less) (cond (n == 1) (Some LessOrEqual) (cond (n == 2) (Some Greater)
    (cond (n == 3) (Some GreaterOrEqual) (cond (n == 4) (Some Equal) (cond (n == 5) (Some NotEqual) None)))))

-- what a comparison gives as a number, and that number names it again
pub record Numbers (c : Comparison) (n : ℕ) : Type 0 where
  pub value : n ≡ comparison_number c
  pub back : comparison_at n ≡ Some c

-- the same with the number that names none
abbrev pub comparison_named : ℕ → Result Comparison NoComparison
comparison_named n = ok_or (comparison_at n) (record { number = n })

abbrev pub Named : ℕ → Result Comparison NoComparison → Type 0
Named n r = r ≡ comparison_named n

-- as it stands in a sheet
abbrev pub sign_of : Comparison → List ℕ
sign_of Less = codes "<"
sign_of LessOrEqual = codes "<="
sign_of Greater = codes ">"
sign_of GreaterOrEqual = codes ">="
sign_of Equal = codes "=="
sign_of NotEqual = codes "!="

abbrev pub no_comparison_words : NoComparison → List ℕ
no_comparison_words x = codes "no comparison has the number " ++ decimal x.number
