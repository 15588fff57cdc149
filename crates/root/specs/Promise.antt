-- What the roots over whole numbers promise.
--   octic, quartic      the polynomials that the structs hold
--   root_size            20,000,000, which no coefficient of q exceeds
--   Sized, Small        at most as large as a coefficient of N; as one of q
--   Positive            above 0
--   IsSquare            the nine coefficients of a square
--   LeadPositive        the highest coefficient that is not zero is positive
--   IsWholeRoot         the small root with a positive lead, or that there is no small root
use Rattle.std.specs.Prelude.{List, [], ◌∷◌, ℕ, ℤ, pos, ◌<ℤ◌, Option, Some, None}
use Rattle.poly.specs.Polynomials.{Same, square}
use Rattle.whole.specs.Number.{wholes, Within, norm_size}
use Rattle.root.specs.declared.Octic.{Octic}
use Rattle.root.specs.declared.Quartic.{Quartic}
use Rattle.root.specs.Search.{Lead, SmallRoot, NoSmallRoot}

abbrev pub octic : Octic → List ℤ
octic m = m.m0 ∷ m.m1 ∷ m.m2 ∷ m.m3 ∷ m.m4 ∷ m.m5 ∷ m.m6 ∷ m.m7 ∷ m.m8 ∷ []

abbrev pub quartic : Quartic → List ℤ
quartic q = q.q0 ∷ q.q1 ∷ q.q2 ∷ q.q3 ∷ q.q4 ∷ []

abbrev pub Sized : ℤ → Type 0
Sized = Within norm_size

abbrev pub root_size : ℕ
root_size = 20000000

abbrev pub Small : ℤ → Type 0
Small = Within root_size

abbrev pub Positive : ℤ → Type 0
Positive x = pos 0 <ℤ x

abbrev pub IsSquare : Quartic → Octic → Type 0
IsSquare q m = Same wholes (square wholes (quartic q)) (octic m)

abbrev pub LeadPositive : List ℤ → Type 0
LeadPositive = Lead wholes Positive

abbrev pub IsWholeRoot : List ℤ → Option Quartic → Type 0
IsWholeRoot M (Some q) = SmallRoot wholes Positive Small M (quartic q)
IsWholeRoot M None = NoSmallRoot wholes Small M
