-- From power coefficients to Bernstein coefficients: `bernstein n scale a` are those of scale times a.
--   sums_steps           the k-th differences of the sums with binomial coefficients of f start with f k
--   WholeWeights         each C(n, k) divides the scale
--   bernstein_powers     so the polynomial with the Bernstein coefficients `bernstein n scale a` is scale times a, by powers of t,
--   bernstein-value      and by values: Σ C(n, k) bₖ uⁿ⁻ᵏ vᵏ = scale (u + v)ⁿ a(v / (u + v)), for every u and v,
--                        where a has no power above n, and each C(n, k) divides the scale
use mathlib.Core.Path.{◌≡◌, sym, ap, ◌∙◌, fun_ext}
use mathlib.Core.List.{List, [], ◌∷◌}
use Prim.Native.Nat.{ℕ, zero, suc, ◌*◌, ◌/◌, ◌≤◌}
use native.Mathlib.Decide.{dec_le}
use native.Mathlib.Omega.{arith}
use lib.IntN.{ℤ, pos, neg_ℤ, ◌+ℤ◌, ◌*ℤ◌, *ℤ_comm, zero-*ℤ, *ℤ-zero}
use Rattle.whole.specs.Coefficients.{at}
use Rattle.whole.specs.Number.{wholes}
use Rattle.whole.proofs.Integers.{*ℤ-assoc}
use Rattle.whole.proofs.Wholes.{wholes_ring, atomsℤ, readℤ, ringℤ}
use Rattle.poly.specs.Terms.{Above}
use Rattle.poly.proofs.Series.{Series, tail}
use Rattle.poly.proofs.Forms.{form, form-times}
use Rattle.bernstein.specs.Binomials.{choose, binomial_sum, bernstein}
use Rattle.bernstein.proofs.Blends.{step, step-difference, steps}
use Rattle.bernstein.proofs.InPowers.{in_powers, bernstein-sum}
use Rattle.bernstein.proofs.Sums.{binomial_sum-first, pascal}

-- ---- differences of sums
less : (x y : ℤ) → (x +ℤ y) +ℤ neg_ℤ x ≡ y
less x y = atomsℤ (x ∷ y ∷ []) (λ ρ e. simp (e 0, e 1, readℤ) (ringℤ ρ _ _ tt))

sums_step : (f : Series ℤ) (i : ℕ) → step wholes_ring (binomial_sum f) i ≡ binomial_sum (tail f) i
sums_step f i = step-difference wholes_ring (binomial_sum f) i ∙ ap (λ x. x +ℤ neg_ℤ (binomial_sum f i)) (pascal i f) ∙ less (binomial_sum f i) (binomial_sum (tail f) i)

sums_steps : (k : ℕ) (f : Series ℤ) → steps wholes_ring k (binomial_sum f) zero ≡ f k
sums_steps zero f = binomial_sum-first f
sums_steps (suc k) f = ap (λ g. steps wholes_ring k g zero) (fun_ext (sums_step f)) ∙ sums_steps k (tail f)

-- ---- Bernstein coefficients
abbrev pub WholeWeights : ℕ → ℕ → Type 0
WholeWeights n scale = (k : ℕ) → k ≤ n → choose n k * (scale / choose n k) ≡ scale

module _ (n scale : ℕ) (whole : WholeWeights n scale) (a : List ℤ) (low : Above wholes (at wholes a) n) where
  pub bernstein_powers : (k : ℕ) → in_powers wholes_ring n (bernstein n scale a) k ≡ pos scale *ℤ at wholes a k
  bernstein_powers k = ap (λ x. pos (choose n k) *ℤ x) (sums_steps k (λ j. at wholes a j *ℤ pos (scale / choose n j))) ∙ by (dec_le k n)
    where
      by : Dec (k ≤ n) → pos (choose n k) *ℤ (at wholes a k *ℤ pos (scale / choose n k)) ≡ pos scale *ℤ at wholes a k
      by (yes l) =
          ap (λ x. pos (choose n k) *ℤ x) (*ℤ_comm (at wholes a k) (pos (scale / choose n k)))
          ∙ sym (*ℤ-assoc (pos (choose n k)) (pos (scale / choose n k)) (at wholes a k))
          ∙ ap (λ s. pos s *ℤ at wholes a k) (whole k l)
      by (no l) =
          ap (λ x. pos (choose n k) *ℤ (x *ℤ pos (scale / choose n k))) (low k (omega arith))
          ∙ ap (λ x. pos (choose n k) *ℤ x) (zero-*ℤ (pos (scale / choose n k)))
          ∙ *ℤ-zero (pos (choose n k))
          ∙ sym (ap (λ x. pos scale *ℤ x) (low k (omega arith)) ∙ *ℤ-zero (pos scale))

  pub bernstein-value : (u v : ℤ) → form wholes u v n (λ k. pos (choose n k) *ℤ bernstein n scale a k) ≡ pos scale *ℤ form wholes (u +ℤ v) v n (at wholes a)
  bernstein-value u v =
      sym (bernstein-sum wholes_ring u v n (bernstein n scale a))
      ∙ ap (form wholes (u +ℤ v) v n) (fun_ext bernstein_powers)
      ∙ form-times wholes_ring (u +ℤ v) v n (pos scale) (at wholes a)
