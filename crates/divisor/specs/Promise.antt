-- What the quotients, the common divisors and the roots of pairs promise.
--   IsPairQuotient     the exact quotient a / b, or that there is none
--   Undivided n a      a has a part that n does not divide
--   IsOverWhole a n    a / n for a whole n, or that n does not divide both parts of a
--   NearestPair a b q  each part of q is the whole number nearest to that part of a / b, which is a conj(b) over |b|²; halves go down
--   KeptRoot z w       w squares to z, and the first part of w that is not 0 is positive
--   IsPairRoot         such a root, or that no pair squares to z
use Rattle.std.specs.Prelude.{◌≡◌, ◌⊎◌, ◌≢◌, ℤ, Option, Some, None}
use Rattle.whole.specs.Number.{wholes, FirstPositive}
use Rattle.whole.specs.Coefficients.{Divides}
use Rattle.whole.specs.Promise.{Nearest}
use Rattle.pair.specs.declared.Pair.{Pair}
use Rattle.pair.specs.Pairs.{pairs, times, multiple, conjugate, norm}

abbrev pub IsPairQuotient : Pair → Pair → Option Pair → Type 0
IsPairQuotient a b (Some q) = times b q ≡ a
IsPairQuotient a b None = Divides pairs b a → ⊥

abbrev pub Undivided : ℤ → Pair → Type 0
Undivided n a = (Divides wholes n a.re → ⊥) ⊎ (Divides wholes n a.im → ⊥)

abbrev pub IsOverWhole : Pair → ℤ → Option Pair → Type 0
IsOverWhole a n (Some q) = multiple n q ≡ a
IsOverWhole a n None = Undivided n a

pub record NearestPair (a b q : Pair) : Type 0 where
  pub re : Nearest (times a (conjugate b)).re (norm b) q.re
  pub im : Nearest (times a (conjugate b)).im (norm b) q.im

pub record KeptRoot (z w : Pair) : Type 0 where
  pub squared : times w w ≡ z
  pub sign : w ≢ pairs.none → FirstPositive w.re w.im

abbrev pub IsPairRoot : Pair → Option Pair → Type 0
IsPairRoot z (Some w) = KeptRoot z w
IsPairRoot z None = (w : Pair) → times w w ≢ z
