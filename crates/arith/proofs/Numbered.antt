-- The number of a comparison names it.
use Rattle.std.proofs.Common.{◌≡◌, Some, refl}
use Rattle.arith.specs.declared.comparison.Comparison.{Comparison}
use Rattle.arith.specs.declared.comparison.Comparison.TheVariants.{Less, LessOrEqual, Greater, GreaterOrEqual, Equal, NotEqual}
use Rattle.arith.specs.Comparisons.{comparison_number, comparison_at}

pub numbered-back : (c : Comparison) → comparison_at (comparison_number c) ≡ Some c
numbered-back Less = refl
numbered-back LessOrEqual = refl
numbered-back Greater = refl
numbered-back GreaterOrEqual = refl
numbered-back Equal = refl
numbered-back NotEqual = refl
