-- A curve's points, its leg polynomial D and N = |D|², for any number of points.
--   points_of, InRange          the points; every coordinate is from −20,000 to 20,000
--   leg_polynomial              D: the polynomial whose Bernstein coefficients are the legs
--   reals, imaginaries         the parts of a polynomial
--   norm_polynomial             N
use Rattle.std.specs.Prelude.{List, [], ◌∷◌, map, ℤ}
use Rattle.poly.specs.Polynomials.{sum, square}
use Rattle.whole.specs.Number.{wholes}
use Rattle.pair.specs.declared.Pair.{Pair}
use Rattle.pair.specs.Pairs.{PartsWithin}
use Rattle.bernstein.specs.Powers.{differences, power_form}
use Rattle.curve.specs.declared.Curve.{Curve}
use Rattle.curve.specs.declared.Curve.TheVariants.{Cubic, Quintic}
use Rattle.curve.specs.Sizes.{coordinate_reach}

abbrev pub points_of : Curve → List Pair
points_of (Cubic c) = c.p0 ∷ c.p1 ∷ c.p2 ∷ c.p3 ∷ []
points_of (Quintic c) = c.p0 ∷ c.p1 ∷ c.p2 ∷ c.p3 ∷ c.p4 ∷ c.p5 ∷ []

abbrev pub InRange : List Pair → Type 0
InRange [] = Unit {0}
InRange (p ∷ ps) = PartsWithin coordinate_reach p × InRange ps

unfoldable pub leg_polynomial : List Pair → List Pair
leg_polynomial ps = power_form (differences ps)

abbrev pub reals : List Pair → List ℤ
reals = map (λ (z : Pair). z.re)

abbrev pub imaginaries : List Pair → List ℤ
imaginaries = map (λ (z : Pair). z.im)

unfoldable pub norm_polynomial : List Pair → List ℤ
norm_polynomial D = sum wholes (square wholes (reals D)) (square wholes (imaginaries D))
