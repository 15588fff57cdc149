-- Lists of Bernstein coefficients, of a polynomial that is known otherwise.
--   times_choose ds      C(m, k) dₖ, for each of m + 1 pairs
--   power_form-sum        (u + v)ᵐ D(v / (u + v)) is the sum of C(m, k) uᵐ⁻ᵏ vᵏ dₖ, for every u and v
--   power_form-blended    the polynomial with the Bernstein coefficients ds is Σ Xₖ tᵏ (1 − t)ᵐ⁻ᵏ exactly where C(m, k) dₖ = Xₖ for each k
--   power_form-lowered    where the first two of ds are 0, it is t² times the polynomial with the Bernstein coefficients es, if C(m − 2, k) eₖ = C(m, k + 2) dₖ₊₂ for each k
--   power_form-generated  where it is κ w², with w = Σ Xₖ tᵏ (1 − t)ᵐ⁻ᵏ, C(2m, k) dₖ = κ Σ Xᵢ Xₖ₋ᵢ for each k
--   crossed              the sum of C(m, i) wᵢ C(m, k − i) wₖ₋ᵢ, for each k
--   power_form-square     it is the square of the polynomial with the Bernstein coefficients ws, of half the degree, exactly where
--                        C(2m, k) dₖ is that sum for each k,
--   multiple-square      or, for any number c other than 0, exactly where c dₖ = eₖ for each k, the pairs eₖ being such that C(2m, k) eₖ is c times that sum
use mathlib.Core.Path.{◌≡◌, sym, ap, ap₂, ◌∙◌, fun_ext}
use mathlib.Core.List.{List, ◌∷◌}
use mathlib.Core.Logic.{◌↔◌}
use Prim.Native.Nat.{ℕ, zero, suc, ◌+◌, ◌-◌, ◌<◌, ◌≤◌}
use lib.IntN.{pos, *ℤ_comm}
use lib.ListN.{length}
use Rattle.whole.specs.Coefficients.{at}
use Rattle.poly.specs.Polynomials.{Same, scaled, square}
use Rattle.poly.specs.Terms.{Above}
use Rattle.poly.proofs.Series.{Series, tail, conv, constant, conv-constant}
use Rattle.poly.proofs.Forms.{form}
use Rattle.poly.proofs.Lists.{at_scaled, of_product}
use Rattle.pair.specs.declared.Pair.{Pair}
use Rattle.pair.specs.Pairs.{pairs, plus, times, multiple}
use Rattle.pair.proofs.Laws.{pairs_ring, multiple-none, multiple-times, multiple-multiple, multiple_cancel}
use Rattle.bernstein.specs.Binomials.{choose}
use Rattle.bernstein.specs.Powers.{power_form}
use Rattle.bernstein.proofs.Binomials.{choose_positive}
use Rattle.bernstein.proofs.InPowers.{weighted, weighted_above, in_powers, bernstein-sum}
use Rattle.bernstein.proofs.Polynomials.{t, t-first, t_later, blended, blended-lowered, blended_agree, blended-times, blended-product, blended_once, in_powers-sum}
use Rattle.bernstein.proofs.PowerForms.{both_parts, power_form-linear}

abbrev pub times_choose : List Pair → Series Pair
times_choose ds k = multiple (pos (choose (length ds - 1) k)) (at pairs ds k)

weights : (ds : List Pair) → weighted pairs_ring (length ds - 1) (at pairs ds) ≡ times_choose ds
weights ds = fun_ext (λ k. sym (multiple-times (pos (choose (length ds - 1) k)) (at pairs ds k)))

powers : (ds : List Pair) → at pairs (power_form ds) ≡ in_powers pairs_ring (length ds - 1) (at pairs ds)
powers ds = fun_ext (power_form-linear both_parts ds)

pub power_form-sum : (u v : Pair) (ds : List Pair) → form pairs (plus u v) v (length ds - 1) (at pairs (power_form ds)) ≡ form pairs u v (length ds - 1) (times_choose ds)
power_form-sum u v ds =
    ap (form pairs (plus u v) v (length ds - 1)) (powers ds)
    ∙ bernstein-sum pairs_ring u v (length ds - 1) (at pairs ds)
    ∙ ap (form pairs u v (length ds - 1)) (weights ds)

blended-is : (ds : List Pair) → at pairs (power_form ds) ≡ blended pairs_ring (length ds - 1) (times_choose ds)
blended-is ds = powers ds ∙ in_powers-sum pairs_ring (length ds - 1) (at pairs ds) ∙ ap (blended pairs_ring (length ds - 1)) (weights ds)

times-choose_above : (ds : List Pair) → Above pairs (times_choose ds) (length ds - 1)
times-choose_above ds k l = ap (λ f. f k) (sym (weights ds)) ∙ weighted_above pairs_ring (length ds - 1) (at pairs ds) k l

pub power_form-blended : (ds : List Pair) (X : Series Pair) → (at pairs (power_form ds) ≡ blended pairs_ring (length ds - 1) X) ↔ ((k : ℕ) → k ≤ length ds - 1 → times_choose ds k ≡ X k)
power_form-blended ds X = (
  λ e. blended_once pairs_ring (length ds - 1) (times_choose ds) X (sym (blended-is ds) ∙ e),
  λ e. blended-is ds ∙ blended_agree pairs_ring (length ds - 1) (times_choose ds) X e,
)

-- where the first two are 0
pub power_form-lowered : (ds es : List Pair) → length ds - 1 ≡ suc (suc (length es - 1)) → at pairs ds 0 ≡ pairs.none → at pairs ds 1 ≡ pairs.none
    → ((k : ℕ) → k ≤ length es - 1 → times_choose es k ≡ times_choose ds (suc (suc k))) → Same pairs (power_form ds) (pairs.none ∷ pairs.none ∷ power_form es)
power_form-lowered ds es l z₀ z₁ e = λ k. ap (λ f. f k) (blended-is ds ∙ ap (λ n. blended pairs_ring n X) l ∙ twice) ∙ moved k
  where
    X : Series Pair
    X = times_choose ds

    none : (k : ℕ) → at pairs ds k ≡ pairs.none → X k ≡ pairs.none
    none k z = ap (multiple (pos (choose (length ds - 1) k))) z ∙ multiple-none (pos (choose (length ds - 1) k))

    E : Series Pair
    E = at pairs (power_form es)

    twice : blended pairs_ring (suc (suc (length es - 1))) X ≡ conv pairs (t pairs_ring) (conv pairs (t pairs_ring) E)
    twice =
        blended-lowered pairs_ring (suc (length es - 1)) X (none 0 z₀)
        ∙ ap (conv pairs (t pairs_ring))
        (blended-lowered pairs_ring (length es - 1) (tail X) (none 1 z₁)
        ∙ ap (conv pairs (t pairs_ring)) (sym ((power_form-blended es (tail (tail X))).1 e)))

    moved : (k : ℕ) → conv pairs (t pairs_ring) (conv pairs (t pairs_ring) E) k ≡ at pairs (pairs.none ∷ pairs.none ∷ power_form es) k
    moved zero = t-first pairs_ring (conv pairs (t pairs_ring) E)
    moved (suc zero) = t_later pairs_ring (conv pairs (t pairs_ring) E) 0 ∙ t-first pairs_ring E
    moved (suc (suc k)) = t_later pairs_ring (conv pairs (t pairs_ring) E) (suc k) ∙ t_later pairs_ring E k

-- ---- squares
module _ (w : List Pair) (m : ℕ) (X : Series Pair) (w-is : at pairs w ≡ blended pairs_ring m X) (above : Above pairs X m) where
  square_is : at pairs (square pairs w) ≡ blended pairs_ring (m + m) (conv pairs X X)
  square_is = of_product pairs_ring w w ∙ ap₂ (conv pairs) w-is w-is ∙ sym (blended-product pairs_ring m m X X above above)

  module _ (ds : List Pair) (κ : Pair) (half : length ds - 1 ≡ m + m) where
    generated-is : at pairs (scaled pairs κ (square pairs w)) ≡ blended pairs_ring (length ds - 1) (λ k. times κ (conv pairs X X k))
    generated-is =
        fun_ext (λ k. at_scaled pairs_ring κ (square pairs w) k ∙ sym (conv-constant pairs_ring κ (at pairs (square pairs w)) k))
        ∙ ap (conv pairs (constant pairs κ)) square_is
        ∙ sym (blended-times pairs_ring (m + m) κ (conv pairs X X))
        ∙ ap (λ n. blended pairs_ring n (λ k. times κ (conv pairs X X k))) (sym half)

    pub power_form-generated : Same pairs (power_form ds) (scaled pairs κ (square pairs w)) → (k : ℕ) → k ≤ length ds - 1 → times_choose ds k ≡ times κ (conv pairs X X k)
    power_form-generated e = (power_form-blended ds (λ k. times κ (conv pairs X X k))).0 (fun_ext e ∙ generated-is)

module _ (ds ws : List Pair) (half : length ds - 1 ≡ (length ws - 1) + (length ws - 1)) where
  abbrev pub crossed : Series Pair
  crossed = conv pairs (times_choose ws) (times_choose ws)

  squared-is : at pairs (square pairs (power_form ws)) ≡ blended pairs_ring (length ds - 1) crossed
  squared-is =
      square_is (power_form ws) (length ws - 1) (times_choose ws) (blended-is ws) (times-choose_above ws)
      ∙ ap (λ n. blended pairs_ring n crossed) (sym half)

  pub power_form-square : Same pairs (power_form ds) (square pairs (power_form ws)) ↔ ((k : ℕ) → k ≤ length ds - 1 → times_choose ds k ≡ crossed k)
  power_form-square = (
    λ e. (power_form-blended ds crossed).0 (fun_ext e ∙ squared-is),
    λ e k. ap (λ f. f k) ((power_form-blended ds crossed).1 e ∙ sym squared-is),
  )

  pub multiple-square : (c : ℕ) → 0 < c → (es : Series Pair)
      → ((k : ℕ) → k ≤ length ds - 1 → multiple (pos (choose (length ds - 1) k)) (es k) ≡ multiple (pos c) (crossed k))
      → Same pairs (power_form ds) (square pairs (power_form ws)) ↔ ((k : ℕ) → k ≤ length ds - 1 → multiple (pos c) (at pairs ds k) ≡ es k)
  multiple-square c some es h = (
    λ e k l. multiple_cancel (C k) (choose_positive (length ds - 1) k l) (sym (swapped k) ∙ ap (multiple (pos c)) (power_form-square.0 e k l) ∙ sym (h k l)),
    λ e. power_form-square.1 (λ k l. multiple_cancel c some (swapped k ∙ ap (multiple (pos (C k))) (e k l) ∙ h k l)),
  )
    where
      C : ℕ → ℕ
      C = choose (length ds - 1)

      swapped : (k : ℕ) → multiple (pos c) (multiple (pos (C k)) (at pairs ds k)) ≡ multiple (pos (C k)) (multiple (pos c) (at pairs ds k))
      swapped k = multiple-multiple (pos c) (pos (C k)) (pos (C k)) (pos c) (at pairs ds k) (*ℤ_comm (pos c) (pos (C k)))
