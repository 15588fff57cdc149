-- The curves of the triples, by their legs: what demand 3 says.
--   leg_list, travel_of          the legs as a list; the sum of a list of pairs
--   Connects a z T d           the legs go from a to z over the travel T
--   SquareOver s u0 u1 u2 d    over s the leg polynomial is the square of the quadratic with Bernstein coefficients u0, u1, u2
--   FractionalSquare d         it is the square of a quadratic with fractional complex coefficients
--   TracedOnce ws d            one triple of the list has these legs, and no other does
use Rattle.std.specs.Prelude.{◌≡◌, List, [], ◌∷◌, ℕ, ◌*◌, ◌<◌, pos}
use Rattle.pair.specs.declared.Pair.{Pair}
use Rattle.pair.specs.Pairs.{pairs, plus, times, multiple}
use Rattle.join.specs.Promise.{Triple, QuinticLegs, LegsOf, Member}

abbrev pub leg_list : QuinticLegs → List Pair
leg_list d = d.d0 ∷ d.d1 ∷ d.d2 ∷ d.d3 ∷ d.d4 ∷ []

abbrev pub travel_of : List Pair → Pair
travel_of [] = pairs.none
travel_of (d ∷ ds) = plus d (travel_of ds)

pub record Connects (a z T : Pair) (d : QuinticLegs) : Type 0 where
  pub first : d.d0 ≡ a
  pub last : d.d4 ≡ z
  pub travel : travel_of (leg_list d) ≡ T

-- s² d0 = u0², s² d1 = u0 u1, 3 s² d2 = 2 u1² + u0 u2, s² d3 = u1 u2 and s² d4 = u2²
pub record SquareOver (s : ℕ) (u0 u1 u2 : Pair) (d : QuinticLegs) : Type 0 where
  pub first : multiple (pos (s * s)) d.d0 ≡ times u0 u0
  pub second : multiple (pos (s * s)) d.d1 ≡ times u0 u1
  pub third : multiple (pos (3 * (s * s))) d.d2 ≡ plus (multiple (pos 2) (times u1 u1)) (times u0 u2)
  pub fourth : multiple (pos (s * s)) d.d3 ≡ times u1 u2
  pub fifth : multiple (pos (s * s)) d.d4 ≡ times u2 u2

pub record FractionalSquare (d : QuinticLegs) : Type 0 where
  pub s : ℕ
  pub positive : 0 < s
  pub u0 : Pair
  pub u1 : Pair
  pub u2 : Pair
  pub square : SquareOver s u0 u1 u2 d

pub record TracedOnce (ws : List Triple) (d : QuinticLegs) : Type 0 where
  pub triple : Triple
  pub member : Member triple ws
  pub legs : LegsOf triple d
  pub no_other : (w : Triple) → Member w ws → LegsOf w d → w ≡ triple
