-- Building from a pre-image in Bernstein form: what the two builders promise.
--   Source, pairs_of          what is built from: w0 and w1 for a cubic, w0, w1 and w2 for a quintic; the list of them
--   thrice                   2 w1² + w0 w2, three times the middle leg of a quintic
--   AreLegs s ds             ds are the legs of s, each from its formula
--   points p ds              the points that begin at p and go by the legs ds
--   source_reach              the parts of w: from −200 to 200
--   Allowed p0 ws            p0 is in range, and so is each w, by parts
--   AllZero ws               every w is 0
--   NoThird t, NoMiddle s    t has a part that 3 does not divide; s has no middle leg for that reason
--   source_out_of_range, all_zero, no_third, point_out_of_range      the causes of refusal
--   causes p0 s              their order
--   BuiltFrom p0 s c         c has the points that begin at p0 and go by the legs of s
--   Built p0 s r             the promise
use Rattle.std.specs.Prelude.{◌≡◌, List, [], ◌∷◌, ℕ, pos, Result}
use Rattle.refusal.specs.declared.Refusal.{Refusal}
use Rattle.refusal.specs.declared.Refusal.TheVariants.{Range, Still, Thirds}
use Rattle.refusal.specs.Table.{Cause}
use Rattle.refusal.specs.Answers.{answer_of, FirstOr}
use Rattle.poly.specs.Polynomials.{Same}
use Rattle.pair.specs.declared.Pair.{Pair}
use Rattle.pair.specs.Pairs.{pairs, plus, times, multiple, PartsWithin, AllWithin}
use Rattle.divisor.specs.Promise.{Undivided}
use Rattle.curve.specs.declared.Curve.{Curve}
use Rattle.curve.specs.Sizes.{coordinate_reach}
use Rattle.curve.specs.Curves.{InRange, points_of}

pub data Source : Type 0 where
  cubic : Pair → Pair → Source
  quintic : Pair → Pair → Pair → Source

abbrev pub pairs_of : Source → List Pair
pairs_of (cubic w0 w1) = w0 ∷ w1 ∷ []
pairs_of (quintic w0 w1 w2) = w0 ∷ w1 ∷ w2 ∷ []

abbrev pub thrice : Pair → Pair → Pair → Pair
thrice w0 w1 w2 = plus (multiple (pos 2) (times w1 w1)) (times w0 w2)

abbrev pub AreLegs : Source → List Pair → Type 0
AreLegs (cubic w0 w1) ds = ds ≡ times w0 w0 ∷ times w0 w1 ∷ times w1 w1 ∷ []
AreLegs (quintic w0 w1 w2) ds =
    (d2 : Pair) × (multiple (pos 3) d2 ≡ thrice w0 w1 w2) × (ds ≡ times w0 w0 ∷ times w0 w1 ∷ d2 ∷ times w1 w2 ∷ times w2 w2 ∷ [])

unfoldable pub points : Pair → List Pair → List Pair
points p [] = p ∷ []
points p (d ∷ ds) = p ∷ points (plus p d) ds

-- ---- the causes
abbrev pub source_reach : ℕ
source_reach = 200

abbrev pub Allowed : Pair → List Pair → Type 0
Allowed p0 ws = PartsWithin coordinate_reach p0 × AllWithin source_reach ws

abbrev pub source_out_of_range : Pair → Source → Cause
source_out_of_range p0 s = record { refusal = Range; holds = Allowed p0 (pairs_of s) → ⊥ }

abbrev pub AllZero : List Pair → Type 0
AllZero ws = Same pairs ws []

abbrev pub all_zero : Source → Cause
all_zero s = record { refusal = Still; holds = AllZero (pairs_of s) }

abbrev pub NoThird : Pair → Type 0
NoThird t = Undivided (pos 3) t

-- only a quintic has a leg that is a third
abbrev pub NoMiddle : Source → Type 0
NoMiddle (cubic w0 w1) = ⊥
NoMiddle (quintic w0 w1 w2) = NoThird (thrice w0 w1 w2)

abbrev pub no_third : Source → Cause
no_third s = record { refusal = Thirds; holds = NoMiddle s }

abbrev pub point_out_of_range : Pair → Source → Cause
point_out_of_range p0 s = record { refusal = Range; holds = (ds : List Pair) → AreLegs s ds → InRange (points p0 ds) → ⊥ }

-- the document's order: 6 for p0 and w, 8, 13, 6 for a built point
abbrev pub causes : Pair → Source → List Cause
causes p0 s = source_out_of_range p0 s ∷ all_zero s ∷ no_third s ∷ point_out_of_range p0 s ∷ []

-- ---- the promise
pub record BuiltFrom (p0 : Pair) (s : Source) (c : Curve) : Type 0 where
  pub legs : List Pair
  pub are_legs : AreLegs s legs
  pub by_legs : points_of c ≡ points p0 legs

abbrev pub Built : Pair → Source → Result Curve Refusal → Type 0
Built p0 s r = FirstOr (causes p0 s) (BuiltFrom p0 s) (answer_of r)
