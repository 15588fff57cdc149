-- The offset of a curve at distance h: W = m q, X = W x + h Im D, Y = W y − h Re D, where N = m² q², by Bernstein coefficients.
--   Rational, offset_curve      W, X and Y, from W
--   point_numbers               W0, X0, Y0, W1, .. of the first points
--   offset_degree, offset_scale, needs  9 and 252 for a quintic, 5 and 10 for a cubic; three numbers a point
--   offset_numbers              all numbers of a curve's offset
--   beyond, no_root, no_room   the causes of RANGE, ROOT and ROOM
--   curve_causes, causes       why a curve has no offset at h, whatever the area; the order of all causes: 6, 8, 9, 10, 11, 12
--   OffsetFrom, OffsetOf       the numbers of the offset, where c is m²; that they are those of the curve's pre-image
--   OffsetBy                   what `offset` promises: how many numbers were written, or the refusal
use Rattle.std.specs.Prelude.{◌≡◌, Result, List, [], ◌∷◌, ◌++◌, ℕ, zero, suc, ◌*◌, ◌<◌, ℤ, pos, neg_ℤ, length}
use Rattle.refusal.specs.declared.Refusal.{Refusal}
use Rattle.refusal.specs.declared.Refusal.TheVariants as R
use Rattle.refusal.specs.Table.{Cause}
use Rattle.refusal.specs.Answers.{answer_of}
use Rattle.poly.specs.Polynomials.{sum, scaled, product}
use Rattle.whole.specs.Number.{wholes, Within}
use Rattle.area.specs.Promise.{FirstOrIn}
use Rattle.pair.specs.declared.Pair.{Pair}
use Rattle.root.specs.Promise.{quartic}
use Rattle.bernstein.specs.Binomials.{bernstein}
use Rattle.bernstein.specs.Powers.{power_form}
use Rattle.curve.specs.declared.Curve.{Curve}
use Rattle.curve.specs.declared.Curve.TheVariants.{Cubic, Quintic}
use Rattle.curve.specs.Curves.{InRange, points_of, leg_polynomial, reals, imaginaries}
use Rattle.curve.specs.Sizes.{coordinate_reach}
use Rattle.verdict.specs.declared.Preimage.{Preimage}
use Rattle.verdict.specs.declared.Square.{Square}
use Rattle.verdict.specs.Verdicts.{PreimageOf, WithPreimage}
use Rattle.verdict.specs.Promise.{still, not_ph, no_preimage}

-- ---- the offset
pub record Rational : Type 0 where
  pub w : List ℤ
  pub x : List ℤ
  pub y : List ℤ

abbrev pub offset_curve : List Pair → List ℤ → ℤ → Rational
offset_curve ps W h = record {
  w = W;
  x = sum wholes (product wholes W (reals (power_form ps))) (scaled wholes h (imaginaries (leg_polynomial ps)));
  y = sum wholes (product wholes W (imaginaries (power_form ps))) (scaled wholes (neg_ℤ h) (reals (leg_polynomial ps)));
}

unfoldable pub point_numbers : ℕ → (ℕ → ℤ) → (ℕ → ℤ) → (ℕ → ℤ) → List ℤ
point_numbers zero w x y = []
point_numbers (suc points) w x y = w zero ∷ x zero ∷ y zero ∷ point_numbers points (λ k. w (suc k)) (λ k. x (suc k)) (λ k. y (suc k))

abbrev pub offset_degree : Curve → ℕ
offset_degree (Cubic c) = 5
offset_degree (Quintic c) = 9

abbrev pub offset_scale : Curve → ℕ
offset_scale (Cubic c) = 10
offset_scale (Quintic c) = 252

abbrev pub needs : Curve → ℕ
needs curve = 3 * suc (offset_degree curve)

abbrev pub offset_numbers : Curve → Rational → List ℤ
offset_numbers curve o =
    let coefficients = bernstein (offset_degree curve) (offset_scale curve) in
    point_numbers (suc (offset_degree curve)) (coefficients o.w) (coefficients o.x) (coefficients o.y)

-- ---- the promise
-- a coordinate of the points, or h, is outside its range
abbrev pub beyond : Curve → ℤ → Cause
beyond curve h = record { refusal = R.Range; holds = (InRange (points_of curve) × Within coordinate_reach h) → ⊥ }

abbrev pub no_root : List Pair → Cause
no_root ps = record { refusal = R.Root; holds = (p : Preimage) (m : ℕ) → PreimageOf (leg_polynomial ps) p → p.square.c ≡ pos (m * m) → ⊥ }

abbrev pub no_room : Curve → ℕ → Cause
no_room curve room = record { refusal = R.Room; holds = room < needs curve }

abbrev pub curve_causes : Curve → ℤ → List Cause
curve_causes curve h = let ps = points_of curve in beyond curve h ∷ still ps ∷ not_ph ps ∷ no_preimage ps ∷ no_root ps ∷ []

abbrev pub causes : Curve → ℤ → ℕ → List Cause
causes curve h room = curve_causes curve h ++ no_room curve room ∷ []

pub record OffsetFrom (curve : Curve) (h : ℤ) (s : Square) (ns : List ℤ) : Type 0 where
  pub m : ℕ
  pub root : s.c ≡ pos (m * m)
  pub is : ns ≡ offset_numbers curve (offset_curve (points_of curve) (scaled wholes (pos m) (quartic s.q)) h)

abbrev pub OffsetOf : Curve → ℤ → List ℤ → Type 0
OffsetOf curve h ns = WithPreimage (leg_polynomial (points_of curve)) (λ p. OffsetFrom curve h p.square ns)

abbrev pub OffsetBy : Curve → ℤ → List ℤ → List ℤ → Result ℕ Refusal → Type 0
OffsetBy curve h before after r = FirstOrIn (causes curve h (length before)) (OffsetOf curve h) (λ ns. ns) length before after (answer_of r)
