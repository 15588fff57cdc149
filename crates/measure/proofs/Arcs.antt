-- √c · A / B is the length of the curve: |r'| = n √c q, and A / B is n times the integral of q from 0 to 1.
--   Antiderivative m q F      F(0) = 0 and F' = m q, by coefficients
--   degree_of                  n
--   length_integral           F(1) is A, for every F with F' = n B q,
--   length_antiderivative     and there is such an F
--   speed-square              s⁴ |D(v / s)| squared is c times the square of s⁴ q(v / s),
--   speed_positive            which is not negative
use mathlib.Core.Path.{◌≡◌, refl, sym, ap, ◌∙◌, fun_ext}
use mathlib.Core.List.{List, [], ◌∷◌, map}
use Prim.Native.Nat.{ℕ, zero, suc, ◌*◌, ◌-◌, ◌<◌, ◌≤◌}
use native.Mathlib.Decide.{dec_le}
use native.Mathlib.Omega.{arith}
use lib.IntN.{ℤ, pos, ◌*ℤ◌, *ℤ-zero, zero-*ℤ}
use lib.Dec.{eqb, eqb→eq}
use lib.ListN.{length, get_or, get_or-map}
use lib.Signed.{◌≤ℤ◌}
use Rattle.whole.specs.Number.{wholes}
use Rattle.whole.specs.Coefficients.{at}
use Rattle.poly.specs.Polynomials.{Same}
use Rattle.whole.proofs.Wholes.{wholes_ring, atomsℤ, readℤ, read_pos, ringℤ, *ℤ-cancel}
use Rattle.whole.proofs.Linear.{linear}
use Rattle.whole.proofs.Tables.{Passes, entry}
use Rattle.poly.specs.Terms.{Above, value}
use Rattle.poly.proofs.Value.{value_same}
use Rattle.poly.proofs.Forms.{form}
use Rattle.poly.proofs.Top.{length_above}
use Rattle.pair.specs.Pairs.{pairs, norm}
use Rattle.pair.proofs.Laws.{norm_nonneg}
use Rattle.root.specs.declared.Quartic.{Quartic}
use Rattle.root.specs.Promise.{quartic}
use Rattle.curve.specs.declared.Curve.{Curve}
use Rattle.curve.specs.declared.Curve.TheVariants.{Cubic, Quintic}
use Rattle.curve.specs.Curves.{points_of, leg_polynomial}
use Rattle.curve.proofs.LegPolynomial.{points_of_length, leg_polynomial-above, leg_polynomial-fourth}
use Rattle.curve.proofs.Norms.{pair_form, norm_polynomial-form}
use Rattle.verdict.specs.declared.Preimage.{Preimage}
use Rattle.verdict.specs.Verdicts.{PreimageOf, quadratic}
use Rattle.verdict.proofs.Multiples.{squared_above, squared-form}
use Rattle.verdict.proofs.Once.{preimage_norms}
use Rattle.measure.specs.Lengths.{length_a, length_b}

pub record Antiderivative (m : ℤ) (q F : List ℤ) : Type 0 where
  pub start : at wholes F 0 ≡ pos 0
  pub derivative : (k : ℕ) → pos (suc k) *ℤ at wholes F (suc k) ≡ m *ℤ at wholes q k

-- ---- over any weights w_k with (k + 1) w_k q_k = m q_k
-- q₀ w₀, q₁ w₁, ..
weighted : List ℤ → List ℤ → List ℤ
weighted [] ws = []
weighted (a ∷ q) [] = []
weighted (a ∷ q) (w ∷ ws) = (a *ℤ w) ∷ weighted q ws

at-weighted : (q ws : List ℤ) (k : ℕ) → at wholes (weighted q ws) k ≡ at wholes q k *ℤ at wholes ws k
unfolding weighted
at-weighted [] ws k = sym (zero-*ℤ (at wholes ws k))
at-weighted (a ∷ q) [] k = sym (*ℤ-zero (at wholes (a ∷ q) k))
at-weighted (a ∷ q) (w ∷ ws) zero = refl
at-weighted (a ∷ q) (w ∷ ws) (suc k) = at-weighted q ws k

module _ (m : ℤ) (q ws : List ℤ) (fit : (k : ℕ) → pos (suc k) *ℤ (at wholes q k *ℤ at wholes ws k) ≡ m *ℤ at wholes q k) where
  weighted_antiderivative : Antiderivative m q (pos 0 ∷ weighted q ws)
  weighted_antiderivative = record { start = refl; derivative = λ k. ap (λ x. pos (suc k) *ℤ x) (at-weighted q ws k) ∙ fit k }

  antiderivative_same : (F : List ℤ) → Antiderivative m q F → Same wholes F (pos 0 ∷ weighted q ws)
  antiderivative_same F h zero = h.start
  antiderivative_same F h (suc k) =
      *ℤ-cancel (pos (suc k)) (λ z. omega linear) (h.derivative k ∙ sym (fit k)) ∙ sym (at-weighted q ws k)

-- ---- the weights of the document
abbrev pub degree_of : Curve → ℤ
degree_of (Cubic c) = pos 3
degree_of (Quintic c) = pos 5

weights : Curve → List ℕ
weights (Cubic c) = 6 ∷ 3 ∷ 2 ∷ []
weights (Quintic c) = 60 ∷ 30 ∷ 20 ∷ 15 ∷ 12 ∷ []

abbrev whole_weights : Curve → List ℤ
whole_weights curve = map pos (weights curve)

-- (k + 1) w_k = n B, up to the degree of q
weight_is : (curve : Curve) (k : ℕ) → k ≤ length (points_of curve) - 2 → pos (suc k) *ℤ at wholes (whole_weights curve) k ≡ degree_of curve *ℤ length_b curve
unfolding weights
weight_is curve k l = ap (λ x. pos (suc k) *ℤ x) (get_or-map pos (weights curve) k 0) ∙ by curve l
  where
    table : (ws : List ℕ) (m : ℕ) → Passes (length ws) (λ j. eqb (suc j * get_or ws j 0) m) → k < length ws → pos (suc k * get_or ws k 0) ≡ pos m
    table ws m t h = ap pos (eqb→eq (suc k * get_or ws k 0) m (entry (length ws) (λ j. eqb (suc j * get_or ws j 0) m) t k h))

    by : (curve : Curve) → k ≤ length (points_of curve) - 2 → pos (suc k * get_or (weights curve) k 0) ≡ degree_of curve *ℤ length_b curve
    by (Cubic c) l = table (6 ∷ 3 ∷ 2 ∷ []) 6 tt (omega arith)
    by (Quintic c) l = table (60 ∷ 30 ∷ 20 ∷ 15 ∷ 12 ∷ []) 60 tt (omega arith)

gathered : (n w a : ℤ) → n *ℤ (a *ℤ w) ≡ n *ℤ w *ℤ a
gathered n w a = atomsℤ (n ∷ w ∷ a ∷ []) (λ ρ e. simp (e 0, e 1, e 2, readℤ) (ringℤ ρ _ _ tt))

weights_fit : (curve : Curve) (q : List ℤ) → Above wholes (at wholes q) (length (points_of curve) - 2) → (k : ℕ)
    → pos (suc k) *ℤ (at wholes q k *ℤ at wholes (whole_weights curve) k) ≡ degree_of curve *ℤ length_b curve *ℤ at wholes q k
weights_fit curve q u k = gathered (pos (suc k)) (at wholes (whole_weights curve) k) (at wholes q k) ∙ by (dec_le k (length (points_of curve) - 2))
  where
    by : Dec (k ≤ length (points_of curve) - 2) → pos (suc k) *ℤ at wholes (whole_weights curve) k *ℤ at wholes q k ≡ degree_of curve *ℤ length_b curve *ℤ at wholes q k
    by (yes l) = ap (λ m. m *ℤ at wholes q k) (weight_is curve k l)
    by (no l) = rw (u k (omega arith)) (*ℤ-zero (pos (suc k) *ℤ at wholes (whole_weights curve) k) ∙ sym (*ℤ-zero (degree_of curve *ℤ length_b curve)))

-- the sum of the weighted coefficients is A
weights-sum : (curve : Curve) (q : Quartic) → value wholes (pos 1) (pos 0 ∷ weighted (quartic q) (whole_weights curve)) ≡ length_a curve q
unfolding weights weighted value
weights-sum (Cubic c) q =
    atomsℤ ((q.q0 *ℤ pos 6) ∷ (q.q1 *ℤ pos 3) ∷ (q.q2 *ℤ pos 2) ∷ []) (λ ρ e. simp (e 0, e 1, e 2) (simp (readℤ, read_pos ρ) (ringℤ ρ _ _ tt)))
weights-sum (Quintic c) q =
    atomsℤ ((q.q0 *ℤ pos 60) ∷ (q.q1 *ℤ pos 30) ∷ (q.q2 *ℤ pos 20) ∷ (q.q3 *ℤ pos 15) ∷ (q.q4 *ℤ pos 12) ∷ [])
    (λ ρ e. simp (e 0, e 1, e 2, e 3, e 4) (simp (readℤ, read_pos ρ) (ringℤ ρ _ _ tt)))

module _ (curve : Curve) (p : Preimage) (h : PreimageOf (leg_polynomial (points_of curve)) p) where
  abbrev q : List ℤ
  q = quartic p.square.q

  fit : (k : ℕ) → pos (suc k) *ℤ (at wholes q k *ℤ at wholes (whole_weights curve) k) ≡ degree_of curve *ℤ length_b curve *ℤ at wholes q k
  fit =
      let s = h.square_of in
      weights_fit curve q
      (squared_above (leg_polynomial (points_of curve)) (length (points_of curve) - 2) p.square.c q (leg_polynomial-above (points_of curve)) s.positive s.squared)

  pub length_antiderivative : (F : List ℤ) × Antiderivative (degree_of curve *ℤ length_b curve) q F
  length_antiderivative = (pos 0 ∷ weighted q (whole_weights curve), weighted_antiderivative (degree_of curve *ℤ length_b curve) q (whole_weights curve) fit)

  pub length_integral : (F : List ℤ) → Antiderivative (degree_of curve *ℤ length_b curve) q F → value wholes (pos 1) F ≡ length_a curve p.square.q
  length_integral F a =
      value_same wholes_ring (pos 1) F (pos 0 ∷ weighted q (whole_weights curve)) (antiderivative_same (degree_of curve *ℤ length_b curve) q (whole_weights curve) fit F a)
      ∙ weights-sum curve p.square.q

  -- ---- |D| = √c q
  pub speed-square : (s v : ℤ) → norm (pair_form s v 4 (leg_polynomial (points_of curve))) ≡ p.square.c *ℤ (form wholes s v 4 (at wholes q) *ℤ form wholes s v 4 (at wholes q))
  speed-square =
      squared-form (leg_polynomial (points_of curve)) 4 p.square.c q (leg_polynomial-fourth (points_of curve) (points_of_length curve))
      h.square_of.positive h.square_of.squared

  pub speed_positive : (s v : ℤ) → pos 0 ≤ℤ form wholes s v 4 (at wholes q)
  speed_positive s v =
      let w = quadratic p.w in
      rw (ap (form wholes s v 4) (fun_ext (preimage_norms (leg_polynomial (points_of curve)) p h).1) ∙ norm_polynomial-form s v w 2 (length_above pairs w 2 (omega arith)))
      (norm_nonneg (pair_form s v 2 w))
