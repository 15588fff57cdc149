-- What the steps of a root over whole numbers promise one another.
--   IsCoefficient n t   the small x with t x = n; or that t does not divide n; or that the quotient is not small
--   IsLead m            the root of a square m that is not negative, or that m is no square
--   IsSearch M s        the root of M from the fourth power up, with s there, or that there is none
use Rattle.std.specs.Prelude.{◌≡◌, List, ◌≢◌, ℤ, pos, ◌*ℤ◌, ◌≤ℤ◌, Option, Some, None, Result, Ok, Err}
use Rattle.whole.specs.Coefficients.{Divides}
use Rattle.whole.specs.Number.{wholes}
use Rattle.root.specs.declared.NoCoefficient.{NoCoefficient}
use Rattle.root.specs.declared.NoCoefficient.TheVariants.{Fraction, TooLarge}
use Rattle.root.specs.declared.Quartic.{Quartic}
use Rattle.root.specs.Search.{UpperRoot}
use Rattle.root.specs.Promise.{quartic, Small}

abbrev pub IsCoefficient : ℤ → ℤ → Result ℤ NoCoefficient → Type 0
IsCoefficient n t (Ok x) = (t *ℤ x ≡ n) × Small x
IsCoefficient n t (Err Fraction) = Divides wholes t n → ⊥
IsCoefficient n t (Err TooLarge) = (x : ℤ) × (t *ℤ x ≡ n) × (Small x → ⊥)

abbrev pub IsLead : ℤ → Option ℤ → Type 0
IsLead m (Some s) = (s *ℤ s ≡ m) × (pos 0 ≤ℤ s)
IsLead m None = (s : ℤ) → s *ℤ s ≢ m

abbrev pub IsSearch : List ℤ → ℤ → Option Quartic → Type 0
IsSearch M s (Some q) = UpperRoot wholes Small M 4 s (quartic q)
IsSearch M s None = (q : List ℤ) → UpperRoot wholes Small M 4 s q → ⊥
