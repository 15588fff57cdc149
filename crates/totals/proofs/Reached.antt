-- How many hundredths a length has.
--   hundredths_by       the whole root of 10,000 c A² / B², and the quotient may be cut down first
--   hundredths_once     there is one such number
--   hundredths-next     and the next one is too large
--   measurable          the length of a curve in range can be counted
--   hundredths_small    and has at most 28,284,272 hundredths
use mathlib.Core.Path.{◌≡◌, sym, subst}
use Prim.Native.Nat.{ℕ, suc, ◌*◌, ◌/◌, ◌≤◌, ◌<◌}
use native.Mathlib.Nat.{mul-le-mul, le-div_iff_mul-le}
use native.Mathlib.Omega.{arith}
use lib.IntN.{pos, nat_abs, ◌*ℤ◌}
use lib.Signed.{◌≤ℤ◌, ◌<ℤ◌}
use Rattle.whole.specs.declared.Root.{Root}
use Rattle.whole.specs.Promise.{IsRoot}
use Rattle.whole.proofs.Linear.{linear, abs_parts}
use Rattle.whole.proofs.Order.{nonneg_is}
use Rattle.whole.proofs.Squares.{root-most}
use Rattle.pair.proofs.Laws.{root_le}
use Rattle.curve.specs.declared.Curve.{Curve}
use Rattle.curve.specs.declared.Curve.TheVariants.{Cubic, Quintic}
use Rattle.curve.specs.Curves.{points_of, InRange, leg_polynomial}
use Rattle.verdict.specs.declared.Preimage.{Preimage}
use Rattle.verdict.specs.Verdicts.{PreimageOf}
use Rattle.measure.specs.declared.lengths.Length.{Length}
use Rattle.measure.specs.Lengths.{length_b, length_of}
use Rattle.measure.proofs.LengthSizes.{longest-most, length_nonneg, length-size}
use Rattle.totals.specs.Hundredths.{Reaches, Hundredths}
use Rattle.totals.specs.Steps.{Measurable}

-- ---- of a length whose numbers are not negative
module _ (l : Length) (h : Measurable l) where
  abbrev squared : ℕ
  squared = nat_abs l.b * nat_abs l.b

  abbrev limit : ℕ
  limit = 10000 * (nat_abs l.c * (nat_abs l.a * nat_abs l.a))

  squared_some : 0 < squared
  squared_some = let b : 1 ≤ nat_abs l.b = omega (linear, h.some_b, abs_parts l.b) in omega (arith, mul-le-mul b b)

  as_natural : (m : ℕ) → Reaches l m ≡ ((pos (m * m * squared)) ≤ℤ (pos limit))
  as_natural m =
      let a = nonneg_is h.a_nonneg in
      let b : l.b ≡ pos (nat_abs l.b) = nonneg_is (omega (linear, h.some_b)) in
      let c : l.c ≡ pos (nat_abs l.c) = nonneg_is (omega (linear, h.some_c)) in
      λ i. (pos (m * m) *ℤ (b i *ℤ b i)) ≤ℤ (pos 10000 *ℤ (c i *ℤ (a i *ℤ a i)))

  reached_below : (m : ℕ) → Reaches l m → m * m * squared ≤ limit
  reached_below m r = let k : pos (m * m * squared) ≤ℤ pos limit = subst (λ X. X) (as_natural m) r in omega (linear, k)

  below_reached : (m : ℕ) → m * m * squared ≤ limit → Reaches l m
  below_reached m k = subst (λ X. X) (sym (as_natural m)) (omega linear)

  pub hundredths_by : (r : Root) → IsRoot (limit / squared) r → Hundredths l r.root
  hundredths_by r f =
      let low : r.root * r.root ≤ limit / squared = omega (arith, f.is) in
      record {
        reached = below_reached r.root ((le-div_iff_mul-le squared_some).0 low);
        greatest = λ k h. root-most f k ((le-div_iff_mul-le squared_some).1 (reached_below k h));
      }

pub hundredths_once : (l : Length) (m n : ℕ) → Hundredths l m → Hundredths l n → m ≡ n
hundredths_once l m n h k = omega (arith, h.greatest n k.reached, k.greatest m h.reached)

pub hundredths-next : (l : Length) (m : ℕ) → Hundredths l m → Reaches l (suc m) → ⊥
hundredths-next l m h r = omega (arith, h.greatest (suc m) r)

-- ---- of a curve
module _ (curve : Curve) (p : Preimage) (r : InRange (points_of curve)) (h : PreimageOf (leg_polynomial (points_of curve)) p) where
  pub measurable : Measurable (length_of curve p.square)
  measurable = record {
    some_c = h.square_of.positive;
    a_nonneg = length_nonneg p curve h;
    some_b = b_some curve;
    small_b = b_small curve;
    small = omega (arith, length-size p curve r h, longest-most curve);
  }
    where
      b_some : (curve : Curve) → pos 0 <ℤ length_b curve
      b_some (Cubic c) = omega linear
      b_some (Quintic c) = omega linear

      b_small : (curve : Curve) → nat_abs (length_b curve) ≤ 12
      b_small (Cubic c) = omega arith
      b_small (Quintic c) = omega arith

pub hundredths_small : (curve : Curve) (p : Preimage) → InRange (points_of curve) → PreimageOf (leg_polynomial (points_of curve)) p
    → (m : ℕ) → Hundredths (length_of curve p.square) m → m ≤ 28284272
hundredths_small (Cubic c) p r h m k =
    root_le m 28284272 (omega (arith, reached_below _ (measurable (Cubic c) p r h) m k.reached, length-size p (Cubic c) r h))
hundredths_small (Quintic c) p r h m k =
    root_le m 28284272 (omega (arith, reached_below _ (measurable (Quintic c) p r h) m k.reached, length-size p (Quintic c) r h))
