-- The steps of an offset: what each part of the program computes.
--   PathAsked, IsPath    x with x' = n d, of which the start x₀ is known
--   IsJoined             f x + g, and p moved up by one power, by ten coefficients
--   RowAsked, IsRow      W x + h D, by whole numbers within their bounds
--   Weights              scale / C(n, k), for each power k
--   IsWeighted           each coefficient times its weight
--   Weighted             so it is with the weights of a curve, and the products are within their bound
--   IsNext               each coefficient and the one above it, added
--   RowsAsked, RowsOf    W, X and Y so, of a curve in range
--   Putting              an area for so many points, and rows within the bound for so many steps
--   RootAsked, Rooted, no_square, IsRooted     m q where c is m², or that c is no square
--   DenominatorOf, Denominated                 W of a curve that has an offset, or the first cause but ROOM why it has none
--   PutIn                what is in the area, if it has room
use Rattle.std.specs.Prelude.{◌≡◌, Result, List, [], ◌∷◌, ℕ, zero, suc, ◌*◌, ◌/◌, ◌<◌, ◌≤◌, ℤ, pos, nat_abs, ◌+ℤ◌, ◌*ℤ◌, length, ◌<ℤ◌}
use Rattle.refusal.specs.declared.Refusal.{Refusal}
use Rattle.refusal.specs.declared.Refusal.TheVariants as R
use Rattle.refusal.specs.Table.{Cause}
use Rattle.refusal.specs.Answers.{answer_of, FirstOr}
use Rattle.whole.specs.Coefficients.{at, Divides}
use Rattle.poly.specs.Polynomials.{Same, sum, scaled, product}
use Rattle.whole.specs.Number.{wholes, Within}
use Rattle.area.specs.Promise.{FirstOrIn}
use Rattle.root.specs.declared.Quartic.{Quartic}
use Rattle.root.specs.Promise.{quartic, Small, root_size}
use Rattle.root.specs.Search.{Each}
use Rattle.bernstein.specs.Binomials.{choose}
use Rattle.curve.specs.declared.Curve.{Curve}
use Rattle.curve.specs.Curves.{InRange, points_of, leg_polynomial}
use Rattle.curve.specs.Sizes.{coordinate_reach}
use Rattle.verdict.specs.declared.Square.{Square}
use Rattle.verdict.specs.Verdicts.{WithPreimage}
use Rattle.offset.specs.declared.Rows.{Rows}
use Rattle.offset.specs.Promise.{Rational, offset_degree, offset_scale, offset_numbers, no_room, curve_causes}

pub record PathAsked (d : List ℤ) (n : ℤ) : Type 0 where
  pub small : Each wholes (Within 1280000) d
  pub n_small : Within 5 n
  pub whole : (k : ℕ) → Divides wholes (pos (suc k)) (at wholes d k *ℤ n)

pub record IsPath (x₀ : ℤ) (d : List ℤ) (n : ℤ) (x : List ℤ) : Type 0 where
  pub start : at wholes x zero ≡ x₀
  pub derived : (k : ℕ) → pos (suc k) *ℤ at wholes x (suc k) ≡ at wholes d k *ℤ n

abbrev pub IsJoined : List ℤ → ℤ → List ℤ → ℤ → List ℤ → Type 0
IsJoined p f x g r = (k : ℕ) → k < 10 → at wholes r k ≡ f *ℤ at wholes x k +ℤ at wholes (g ∷ p) k

pub record RowAsked (w x : List ℤ) (h : ℤ) (d : List ℤ) : Type 0 where
  pub w_small : Each wholes (Within root_size) w
  pub x_small : Each wholes (Within 1600000) x
  pub h_small : Within coordinate_reach h
  pub d_small : Each wholes (Within 1280000) d

abbrev pub IsRow : List ℤ → List ℤ → ℤ → List ℤ → List ℤ → Type 0
IsRow w x h d r = Same wholes r (sum wholes (product wholes w x) (scaled wholes h d))

abbrev pub Weights : Curve → List ℤ → Type 0
Weights curve s = (k : ℕ) → at wholes s k ≡ pos (offset_scale curve / choose (offset_degree curve) k)

abbrev pub IsWeighted : List ℤ → List ℤ → List ℤ → Type 0
IsWeighted a s r = (k : ℕ) → at wholes r k ≡ at wholes a k *ℤ at wholes s k

pub record Weighted (curve : Curve) (a e : List ℤ) : Type 0 where
  pub weighted : (k : ℕ) → at wholes e k ≡ at wholes a k *ℤ pos (offset_scale curve / choose (offset_degree curve) k)
  pub small : Each wholes (Within 8700000000000000) e

abbrev pub IsNext : List ℤ → List ℤ → Type 0
IsNext e r = (k : ℕ) → at wholes r k ≡ at wholes e k +ℤ at wholes e (suc k)

pub record RowsAsked (curve : Curve) (h : ℤ) (w : List ℤ) : Type 0 where
  pub range : InRange (points_of curve)
  pub h_small : Within coordinate_reach h
  pub w_small : Each wholes Small w

pub record RowsOf (curve : Curve) (o : Rational) (r : Rows) : Type 0 where
  pub w : Weighted curve o.w r.w
  pub x : Weighted curve o.x r.x
  pub y : Weighted curve o.y r.y

pub record Putting (room count : ℕ) (r : Rows) : Type 0 where
  pub room_is : room ≡ 3 * count
  pub few : count ≤ 10
  pub w : Each wholes (Within 8700000000000000) r.w
  pub x : Each wholes (Within 8700000000000000) r.x
  pub y : Each wholes (Within 8700000000000000) r.y

-- ---- W
pub record RootAsked (s : Square) : Type 0 where
  pub positive : pos 0 <ℤ s.c
  pub small : (k : ℕ) → nat_abs s.c * (nat_abs (at wholes (quartic s.q) k) * nat_abs (at wholes (quartic s.q) k)) < 400000000000000

pub record Rooted (s : Square) (W : List ℤ) : Type 0 where
  pub m : ℕ
  pub root : s.c ≡ pos (m * m)
  pub is : W ≡ scaled wholes (pos m) (quartic s.q)
  pub small : Each wholes Small W

-- ROOT, whatever the curve
abbrev pub no_square : Square → Cause
no_square s = record { refusal = R.Root; holds = (m : ℕ) → s.c ≡ pos (m * m) → ⊥ }

abbrev pub IsRooted : Square → Result Quartic Refusal → Type 0
IsRooted s r = FirstOr (no_square s ∷ []) (λ w. Rooted s (quartic w)) (answer_of r)

pub record DenominatorOf (curve : Curve) (h : ℤ) (W : List ℤ) : Type 0 where
  pub asked : RowsAsked curve h W
  pub rooted : WithPreimage (leg_polynomial (points_of curve)) (λ p. Rooted p.square W)

abbrev pub Denominated : Curve → ℤ → Result Quartic Refusal → Type 0
Denominated curve h r = FirstOr (curve_causes curve h) (λ w. DenominatorOf curve h (quartic w)) (answer_of r)

-- ---- the area
abbrev pub PutIn : Curve → Rational → List ℤ → List ℤ → Result ℕ Refusal → Type 0
PutIn curve o before after r =
    FirstOrIn (no_room curve (length before) ∷ []) (λ ns. ns ≡ offset_numbers curve o) (λ ns. ns) length before after (answer_of r)
