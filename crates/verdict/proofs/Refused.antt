-- The first refusal: N = c q² leaves a divisibility of the first two legs.
--   series-first              x² + y² = c q², of series: the powers 0, 1 and 2 show that 2 (x0² + y0²) divides (x0 y1 − y0 x1)²
--   end_divides_lem               so |d|² divides (d × e)² n² / 2, d and e being the first two of the n + 1 Bernstein coefficients of x + i y
--   first_divides             which are the first two legs: 2 (d0 × d1)² for a cubic and 8 (d0 × d1)² for a quintic
use mathlib.Core.Path.{◌≡◌, sym, ap, ap₂, ◌∙◌, fun_ext}
use mathlib.Core.List.{List, [], ◌∷◌}
use Prim.Native.Nat.{ℕ, ◌-◌}
use lib.IntN.{ℤ, pos, neg_ℤ, ◌+ℤ◌, ◌-ℤ◌, ◌*ℤ◌}
use lib.ListN.{length}
use Rattle.whole.specs.Coefficients.{at, Divides}
use Rattle.poly.specs.Polynomials.{square}
use Rattle.whole.specs.Number.{wholes}
use Rattle.whole.proofs.Linear.{linear}
use Rattle.whole.proofs.Solver.{var, lit, ◌:+◌, ◌:*◌, solve}
use Rattle.whole.proofs.Wholes.{wholes_ring, readℤ, atomsℤ, ringℤ, equal_by, zero-equal, zero-times, zero-plus, *ℤ-cancel}
use Rattle.poly.specs.Terms.{twice}
use Rattle.poly.proofs.Series.{Series, conv}
use Rattle.poly.proofs.Lists.{at_scaled, at-product}
use Rattle.pair.specs.declared.Pair.{Pair}
use Rattle.pair.specs.Pairs.{pairs, norm, cross}
use Rattle.bernstein.specs.Powers.{power_form}
use Rattle.bernstein.proofs.InPowers.{in_powers, in_powers-first, in_powers-second}
use Rattle.bernstein.proofs.PowerForms.{re-part, im-part, power_form-linear}
use Rattle.verdict.specs.Verdicts.{Squared}
use Rattle.curve.proofs.Norms.{re_of, im_of, at-norm_polynomial}
use Rattle.verdict.specs.Rules.{EndDivides}

two_some : pos 2 ≡ pos 0 → ⊥
two_some e = omega linear

-- D0 = a + i b, D1 = e + i f, D2 = g + i h, and q = x + y t + z t² + ..
module _ (a b e f c x y : ℤ) where
  halved : a *ℤ e +ℤ e *ℤ a +ℤ (b *ℤ f +ℤ f *ℤ b) ≡ c *ℤ (x *ℤ y +ℤ y *ℤ x) → a *ℤ e +ℤ b *ℤ f ≡ c *ℤ x *ℤ y
  halved k = *ℤ-cancel (pos 2) two_some (left ∙ k ∙ right)
    where
      left : pos 2 *ℤ (a *ℤ e +ℤ b *ℤ f) ≡ a *ℤ e +ℤ e *ℤ a +ℤ (b *ℤ f +ℤ f *ℤ b)
      left =
          solve wholes_ring (a ∷ b ∷ e ∷ f ∷ []) (lit 2 :* (var 0 :* var 2 :+ var 1 :* var 3))
          (var 0 :* var 2 :+ var 2 :* var 0 :+ (var 1 :* var 3 :+ var 3 :* var 1)) tt

      right : c *ℤ (x *ℤ y +ℤ y *ℤ x) ≡ pos 2 *ℤ (c *ℤ x *ℤ y)
      right = solve wholes_ring (c ∷ x ∷ y ∷ []) (var 0 :* (var 1 :* var 2 :+ var 2 :* var 1)) (lit 2 :* (var 0 :* var 1 :* var 2)) tt

module _ (a b e f g h c x y z : ℤ) where
  crossed : a *ℤ a +ℤ b *ℤ b ≡ c *ℤ (x *ℤ x)
      → a *ℤ e +ℤ b *ℤ f ≡ c *ℤ x *ℤ y
      → a *ℤ g +ℤ (e *ℤ e +ℤ g *ℤ a) +ℤ (b *ℤ h +ℤ (f *ℤ f +ℤ h *ℤ b)) ≡ c *ℤ (x *ℤ z +ℤ (y *ℤ y +ℤ z *ℤ x))
      → (a *ℤ a +ℤ b *ℤ b +ℤ (a *ℤ a +ℤ b *ℤ b)) *ℤ (c *ℤ x *ℤ z -ℤ (a *ℤ g +ℤ b *ℤ h)) ≡ (a *ℤ f -ℤ b *ℤ e) *ℤ (a *ℤ f -ℤ b *ℤ e)
  crossed n0 n1 n2 =
      equal_by
      (zero-plus
      (zero-plus (zero-times (neg_ℤ (a *ℤ a +ℤ b *ℤ b)) (zero-equal n2)) (zero-times (neg_ℤ (c *ℤ y *ℤ y)) (zero-equal n0)))
      (zero-times (a *ℤ e +ℤ b *ℤ f +ℤ c *ℤ x *ℤ y) (zero-equal n1)))
      (atomsℤ (a ∷ b ∷ e ∷ f ∷ g ∷ h ∷ c ∷ x ∷ y ∷ z ∷ [])
      (λ ρ v. simp (v 0, v 1, v 2, v 3, v 4, v 5, v 6, v 7, v 8, v 9, readℤ) (ringℤ ρ _ _ tt)))

-- x and y are the parts of D, and x² + y² = c q²
pub series-first : (x y q : Series ℤ) (c : ℤ) → ((k : ℕ) → conv wholes x x k +ℤ conv wholes y y k ≡ c *ℤ conv wholes q q k)
    → Divides wholes (twice wholes (x 0 *ℤ x 0 +ℤ y 0 *ℤ y 0)) ((x 0 *ℤ y 1 -ℤ y 0 *ℤ x 1) *ℤ (x 0 *ℤ y 1 -ℤ y 0 *ℤ x 1))
unfolding conv
series-first x y q c power = record {
  factor = c *ℤ q 0 *ℤ q 2 -ℤ (x 0 *ℤ x 2 +ℤ y 0 *ℤ y 2);
  is =
      crossed (x 0) (y 0) (x 1) (y 1) (x 2) (y 2) c (q 0) (q 1) (q 2)
      (power 0) (halved (x 0) (y 0) (x 1) (y 1) c (q 0) (q 1) (power 1)) (power 2);
}

-- ---- by Bernstein coefficients: D begins with d and n (e − d), d and e being the first two of its n + 1
cross_out : (a b e f n : ℤ) → a *ℤ (n *ℤ (f -ℤ b)) -ℤ b *ℤ (n *ℤ (e -ℤ a)) ≡ n *ℤ (a *ℤ f -ℤ e *ℤ b)
cross_out a b e f n = atomsℤ (a ∷ b ∷ e ∷ f ∷ n ∷ []) (λ ρ v. simp (v 0, v 1, v 2, v 3, v 4, readℤ) (ringℤ ρ _ _ tt))

squared_out : (n x : ℤ) → n *ℤ x *ℤ (n *ℤ x) ≡ x *ℤ x *ℤ (n *ℤ n)
squared_out n x = atomsℤ (n ∷ x ∷ []) (λ ρ v. simp (v 0, v 1, readℤ) (ringℤ ρ _ _ tt))

-- a factor of 2 on both sides
halve : (d x h : ℤ) → Divides wholes (twice wholes d) (x *ℤ twice wholes h) → Divides wholes d (x *ℤ h)
halve d x h k = record { factor = k.factor; is = *ℤ-cancel (pos 2) two_some (left d k.factor ∙ k.is ∙ right x h) }
  where
    left : (d y : ℤ) → pos 2 *ℤ (d *ℤ y) ≡ twice wholes d *ℤ y
    left d y = solve wholes_ring (d ∷ y ∷ []) (lit 2 :* (var 0 :* var 1)) ((var 0 :+ var 0) :* var 1) tt

    right : (x n : ℤ) → x *ℤ twice wholes n ≡ pos 2 *ℤ (x *ℤ n)
    right x n = solve wholes_ring (x ∷ n ∷ []) (var 0 :* (var 1 :+ var 1)) (lit 2 :* (var 0 :* var 1)) tt

module _ (n : ℕ) where
  pub end_divides_lem : (d : Series Pair) (q : Series ℤ) (c h : ℤ) → pos n *ℤ pos n ≡ twice wholes h
      → (let x = in_powers wholes_ring n (re_of d) in let y = in_powers wholes_ring n (im_of d) in (k : ℕ) → conv wholes x x k +ℤ conv wholes y y k ≡ c *ℤ conv wholes q q k)
      → EndDivides h (d 0) (d 1)
  end_divides_lem d q c h half power =
      let x = re_of d in
      let y = im_of d in
      halve (norm (d 0)) (cross (d 0) (d 1) *ℤ cross (d 0) (d 1)) h
      (rw half at
      (rw (squared_out (pos n) (cross (d 0) (d 1))) at
      (rw (cross_out (x 0) (y 0) (x 1) (y 1) (pos n)) at
      (rw (in_powers-first wholes_ring n x, in_powers-first wholes_ring n y, in_powers-second wholes_ring n x, in_powers-second wholes_ring n y) at
      (series-first (in_powers wholes_ring n x) (in_powers wholes_ring n y) q c power)))))

-- ---- the first legs
pub first_divides : (ds : List Pair) (h : ℤ) → pos (length ds - 1) *ℤ pos (length ds - 1) ≡ twice wholes h → (c : ℤ) (q : List ℤ) → Squared (power_form ds) c q
    → EndDivides h (at pairs ds 0) (at pairs ds 1)
first_divides ds h half c q s =
    end_divides_lem (length ds - 1) (at pairs ds) (at wholes q) c h half (λ k.
    ap₂ (λ x y. conv wholes x x k +ℤ conv wholes y y k) (sym (fun_ext (power_form-linear re-part ds))) (sym (fun_ext (power_form-linear im-part ds)))
    ∙ sym (at-norm_polynomial (power_form ds) k)
    ∙ s k
    ∙ at_scaled wholes_ring c (square wholes q) k
    ∙ ap (λ x. c *ℤ x) (at-product wholes_ring q q k))
