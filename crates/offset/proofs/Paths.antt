-- W, X and Y of a curve in range: what `path`, `row` and `weighted` are asked, and what their answers are.
--   path-asked, path-is          a part of r, by powers, from that part of D
--   coordinate                   W times a part of r and h times a part of D, from rows
--   weight_above                 there is no weight above the degree
--   weight-least, weight-size    the size of a weight, and of the weights times a row
--   whole_weights                each C(n, k) divides the scale
--   weighted_of                  a polynomial with the weights of a curve
use mathlib.Core.Path.{◌≡◌, refl, sym, ap, ap₂, ◌∙◌, subst}
use mathlib.Core.List.{List, map}
use mathlib.Core.Logic.{◌≢◌}
use Prim.Native.Nat.{ℕ, zero, suc, ◌*◌, ◌-◌, ◌/◌, ◌<◌, ◌≤◌, zero-le}
use native.Mathlib.Decide.{dec_le}
use native.Mathlib.Nat.{le_trans, div-zero, div-le_self, mul-zero, mul-le-mul, le_refl}
use native.Mathlib.Omega.{arith}
use lib.Dec.{leb, eqb, eqb→eq, lit≤}
use lib.IntN.{ℤ, pos, nat_abs, ◌*ℤ◌, *ℤ_comm}
use lib.ListN.{length}
use Rattle.whole.specs.Coefficients.{at}
use Rattle.poly.specs.Polynomials.{Same, sum, scaled, product}
use Rattle.whole.specs.Number.{wholes, Within}
use Rattle.whole.proofs.Integers.{abs_times}
use Rattle.whole.proofs.Wholes.{wholes_ring, *ℤ-cancel}
use Rattle.whole.proofs.Tables.{Passes, entry}
use Rattle.poly.proofs.Lists.{sum_same, scaled-same, product-same}
use Rattle.pair.specs.declared.Pair.{Pair}
use Rattle.pair.specs.Pairs.{pairs}
use Rattle.bernstein.specs.Binomials.{choose}
use Rattle.bernstein.specs.Powers.{power_form}
use Rattle.bernstein.proofs.PowerForms.{power_form-start, Linear, at_linear}
use Rattle.bernstein.proofs.Binomials.{choose_above}
use Rattle.bernstein.proofs.Coefficients.{WholeWeights}
use Rattle.curve.specs.declared.Curve.{Curve}
use Rattle.curve.specs.declared.Curve.TheVariants.{Cubic, Quintic}
use Rattle.curve.specs.Curves.{leg_polynomial}
use Rattle.curve.proofs.Derivative.{derivative}
use Rattle.offset.specs.Promise.{offset_degree, offset_scale}
use Rattle.offset.specs.Steps.{PathAsked, IsPath, IsRow, Weights, IsWeighted, Weighted}
use Rattle.offset.proofs.Products.{row_size}

-- ---- a part of r from that part of D
module _ {part : Pair → ℤ} (P : Linear wholes_ring part) (ps : List Pair) (d : List ℤ) (e : (k : ℕ) → at wholes d k ≡ part (at pairs (leg_polynomial ps) k)) where
  derived : (k : ℕ) → pos (suc k) *ℤ part (at pairs (power_form ps) (suc k)) ≡ at wholes d k *ℤ pos (length ps - 1)
  derived k =
      sym (P.of_multiple (pos (suc k)) (at pairs (power_form ps) (suc k)))
      ∙ ap part (derivative ps k)
      ∙ P.of_multiple (pos (length ps - 1)) (at pairs (leg_polynomial ps) k)
      ∙ ap (λ z. pos (length ps - 1) *ℤ z) (sym (e k))
      ∙ *ℤ_comm (pos (length ps - 1)) (at wholes d k)

  pub path-asked : length ps ≤ 6 → ((k : ℕ) → Within 1280000 (at wholes d k)) → PathAsked d (pos (length ps - 1))
  path-asked l h = record {
    small = h;
    n_small = record { size = omega arith };
    whole = λ k. record { factor = part (at pairs (power_form ps) (suc k)); is = derived k };
  }

  pub path-is : (x : List ℤ) → IsPath (part (at pairs ps 0)) d (pos (length ps - 1)) x → (k : ℕ) → at wholes x k ≡ part (at pairs (power_form ps) k)
  path-is x h zero = h.start ∙ ap part (sym (power_form-start ps))
  path-is x h (suc k) = *ℤ-cancel (pos (suc k)) (some k) (h.derived k ∙ sym (derived k))
    where
      some : (k : ℕ) → pos (suc k) ≢ pos 0
      some k z = let n : suc k ≡ 0 = ap nat_abs z in omega arith

-- ---- W times a part of r, and h times a part of D
pub coordinate : {part part' : Pair → ℤ} → Linear wholes_ring part → Linear wholes_ring part' → (ps : List Pair) (W x d r : List ℤ) (h : ℤ) → ((k : ℕ) → at wholes x k ≡ part (at pairs (power_form ps) k))
    → ((k : ℕ) → at wholes d k ≡ part' (at pairs (leg_polynomial ps) k)) → IsRow W x h d r
    → Same wholes r (sum wholes (product wholes W (map part (power_form ps))) (scaled wholes h (map part' (leg_polynomial ps))))
coordinate {part} {part'} P P' ps W x d r h ex ed i k =
    i k
    ∙ sum_same wholes_ring (product wholes W x) (product wholes W (map part (power_form ps))) (scaled wholes h d) (scaled wholes h (map part' (leg_polynomial ps)))
    (product-same wholes_ring W W x (map part (power_form ps)) (λ j. refl) (λ j. ex j ∙ sym (at_linear P (power_form ps) j)))
    (scaled-same wholes_ring h d (map part' (leg_polynomial ps)) (λ j. ed j ∙ sym (at_linear P' (leg_polynomial ps) j)))
    k

-- ---- weights
pub weight-least : (curve : Curve) (k : ℕ) → offset_scale curve / choose (offset_degree curve) k ≤ 252
weight-least (Cubic c) k = le_trans (div-le_self 10 (choose 5 k)) (lit≤ tt)
weight-least (Quintic c) k = div-le_self 252 (choose 9 k)

pub weight_above : (scale n k : ℕ) → n < k → scale / choose n k ≡ 0
weight_above scale n k l = rw (choose_above n k l) (div-zero scale)

-- ten numbers tell of all weights
sized : (n scale : ℕ) → n ≤ 9 → Passes 10 (λ j. leb (row_size 5 j * (scale / choose n j)) 8700000000000000) → (k : ℕ) → row_size 5 k * (scale / choose n k) ≤ 8700000000000000
sized n scale few t k = by (dec_le 10 k)
  where
    by : Dec (10 ≤ k) → row_size 5 k * (scale / choose n k) ≤ 8700000000000000
    by (yes l) = rw (weight_above scale n k (omega arith), mul-zero) zero-le
    by (no l) = lit≤ (entry 10 (λ j. leb (row_size 5 j * (scale / choose n j)) 8700000000000000) t k (omega arith))

pub weight-size : (curve : Curve) (k : ℕ) → row_size 5 k * (offset_scale curve / choose (offset_degree curve) k) ≤ 8700000000000000
unfolding choose
weight-size (Cubic c) = sized 5 10 (omega arith) tt
weight-size (Quintic c) = sized 9 252 (omega arith) tt

divided : (n scale : ℕ) → Passes (suc n) (λ j. eqb (choose n j * (scale / choose n j)) scale) → WholeWeights n scale
divided n scale t k l = eqb→eq (choose n k * (scale / choose n k)) scale (entry (suc n) (λ j. eqb (choose n j * (scale / choose n j)) scale) t k (omega arith))

pub whole_weights : (curve : Curve) → WholeWeights (offset_degree curve) (offset_scale curve)
unfolding choose
whole_weights (Cubic c) = divided 5 10 tt
whole_weights (Quintic c) = divided 9 252 tt

pub weighted_of : (curve : Curve) (a s : List ℤ) {e : List ℤ} (o : List ℤ) (B : ℕ → ℕ) → Weights curve s → IsWeighted a s e → Same wholes a o → ((k : ℕ) → Within (B k) (at wholes a k))
    → ((k : ℕ) → B k * (offset_scale curve / choose (offset_degree curve) k) ≤ 8700000000000000) → Weighted curve o e
weighted_of curve a s {e} o B w h i sized most = record {
  weighted = λ k. h k ∙ ap₂ ◌*ℤ◌ (i k) (w k);
  small = λ k. record {
    size = le_trans
        (subst (λ n. n ≤ B k * (offset_scale curve / choose (offset_degree curve) k)) (sym (ap nat_abs (h k ∙ ap (λ z. at wholes a k *ℤ z) (w k)) ∙ abs_times (at wholes a k) (pos (offset_scale curve / choose (offset_degree curve) k))))
        (mul-le-mul (sized k).size (le_refl (offset_scale curve / choose (offset_degree curve) k))))
        (most k);
  };
}
