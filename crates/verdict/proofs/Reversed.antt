-- The same refusal from the other end: t goes to 1 − t, where the Bernstein coefficients of D are the legs from the last to the first.
--   turned_lengths      N = c q² at 1 − t
--   last_divides        so |d|² divides 2 (d × e)² for a cubic and 8 (d × e)² for a quintic, d and e being the last leg and the one before
use mathlib.Core.Path.{◌≡◌, sym, ap, ap₂, ◌∙◌, fun_ext}
use mathlib.Core.List.{List, map}
use Prim.Native.Nat.{ℕ, ◌+◌, ◌-◌}
use lib.IntN.{ℤ, pos, ◌+ℤ◌, ◌*ℤ◌}
use lib.ListN.{length}
use lib.Signed.{◌<ℤ◌}
use Rattle.whole.specs.Coefficients.{at}
use Rattle.poly.specs.Polynomials.{square}
use Rattle.whole.specs.Number.{wholes}
use Rattle.whole.proofs.Wholes.{wholes_ring}
use Rattle.poly.specs.Terms.{Above, twice}
use Rattle.poly.proofs.Series.{Series, conv, series, constant, conv-constant}
use Rattle.poly.proofs.Lists.{at_scaled, of_sum, of_product}
use Rattle.pair.specs.declared.Pair.{Pair}
use Rattle.pair.specs.Pairs.{pairs}
use Rattle.curve.specs.Curves.{reals, imaginaries, norm_polynomial}
use Rattle.bernstein.specs.Powers.{power_form}
use Rattle.bernstein.proofs.InPowers.{in_powers, in_powers-above}
use Rattle.bernstein.proofs.Polynomials.{1−t, through, through-plus, through-times, through-product, in_powers-turned}
use Rattle.bernstein.proofs.PowerForms.{power_form-above, Linear, re-part, im-part, at_linear, power_form-linear}
use Rattle.verdict.specs.Verdicts.{Squared}
use Rattle.verdict.specs.Rules.{EndDivides}
use Rattle.verdict.proofs.Refused.{end_divides_lem}
use Rattle.verdict.proofs.Multiples.{squared_above}

module _ (ds : List Pair) where
  abbrev n : ℕ
  n = length ds - 1

  -- a polynomial of degree m with 1 − t in the place of t
  abbrev turn : ℕ → Series ℤ → Series ℤ
  turn = through wholes_ring (1−t wholes_ring)

  -- the legs from the last to the first
  abbrev back : Series Pair
  back k = at pairs ds (n - k)

  part-is : {part : Pair → ℤ} → Linear wholes_ring part → at wholes (map part (power_form ds)) ≡ in_powers wholes_ring n (λ k. part (at pairs ds k))
  part-is P = fun_ext (λ k. at_linear P (power_form ds) k ∙ power_form-linear P ds k)

  turned-part : {part : Pair → ℤ} → Linear wholes_ring part → turn n (at wholes (map part (power_form ds))) ≡ in_powers wholes_ring n (λ k. part (back k))
  turned-part {part} P = ap (turn n) (part-is P) ∙ in_powers-turned wholes_ring n (λ k. part (at pairs ds k))

  part-square : {part : Pair → ℤ} → Linear wholes_ring part → let x = in_powers wholes_ring n (λ k. part (back k)) in turn (n + n) (at wholes (square wholes (map part (power_form ds)))) ≡ conv wholes x x
  part-square {part} P =
      ap (turn (n + n)) (of_product wholes_ring p p) ∙ through-product wholes_ring (1−t wholes_ring) n n (at wholes p) (at wholes p) above above ∙ ap₂ (conv wholes) (turned-part P) (turned-part P)
    where
      p : List ℤ
      p = map part (power_form ds)

      above : Above wholes (at wholes p) n
      above k l = ap (λ f. f k) (part-is P) ∙ in_powers-above wholes_ring n (λ i. part (at pairs ds i)) k l

  module _ (c : ℤ) (q : List ℤ) (positive : pos 0 <ℤ c) (s : Squared (power_form ds) c q) where
    q_above : Above wholes (at wholes q) n
    q_above = squared_above (power_form ds) n c q (power_form-above ds) positive s

    turned_lengths : let x = in_powers wholes_ring n (λ k. (back k).re) in let y = in_powers wholes_ring n (λ k. (back k).im) in
        (k : ℕ) → conv wholes x x k +ℤ conv wholes y y k ≡ c *ℤ conv wholes (turn n (at wholes q)) (turn n (at wholes q)) k
    unfolding norm_polynomial
    turned_lengths k = ap (λ f. f k)
        (sym (ap₂ (series wholes).plus (part-square re-part) (part-square im-part))
        ∙ sym (through-plus wholes_ring (1−t wholes_ring) (n + n) _ _)
        ∙ ap (turn (n + n)) (sym (of_sum wholes_ring (square wholes (reals (power_form ds))) (square wholes (imaginaries (power_form ds)))) ∙ fun_ext (λ j. s j ∙ at_scaled wholes_ring c (square wholes q) j))
        ∙ through-times wholes_ring (1−t wholes_ring) (n + n) c (at wholes (square wholes q))
        ∙ ap (conv wholes (constant wholes c))
        (ap (turn (n + n)) (of_product wholes_ring q q) ∙ through-product wholes_ring (1−t wholes_ring) n n (at wholes q) (at wholes q) q_above q_above))
        ∙ conv-constant wholes_ring c _ k

    pub last_divides : (h : ℤ) → pos n *ℤ pos n ≡ twice wholes h → EndDivides h (at pairs ds (n - 0)) (at pairs ds (n - 1))
    last_divides h half = end_divides_lem n back (turn n (at wholes q)) c h half turned_lengths
