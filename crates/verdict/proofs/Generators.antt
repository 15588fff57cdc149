-- D = κ w²: how κ and w may be turned.
--   opposite-opposite          (−a) (−1) = a
--   generated-scaled           D = κ u² w² gives D = κ (u w)²
--   generated-turned           D = κ w² gives D = (−κ) (i w)²
--   generated-opposite         and D = κ (−w)²
use mathlib.Core.Path.{◌≡◌, sym, ap, ◌∙◌}
use mathlib.Core.List.{List}
use lib.IntN.{pos, negsuc}
use Rattle.whole.specs.Coefficients.{at}
use Rattle.poly.specs.Polynomials.{scaled, square}
use Rattle.whole.proofs.Ring.{minus_one}
use Rattle.poly.proofs.Lists.{square-scaled}
use Rattle.poly.proofs.Squares.{square-multiple}
use Rattle.pair.specs.declared.Pair.{Pair}
use Rattle.pair.specs.Pairs.{pair, pairs, times, negative, imaginary}
use Rattle.pair.proofs.Laws.{pairs_ring, negative-twice}
use Rattle.verdict.specs.Verdicts.{Generated}

pub opposite-opposite : (a : Pair) → times (negative a) (pair (negsuc 0) (pos 0)) ≡ a
opposite-opposite a = pairs_ring.times_comm (negative a) (pair (negsuc 0) (pos 0)) ∙ minus_one pairs_ring (negative a) ∙ negative-twice a

-- ---- κ and w turned
pub generated-scaled : (D : List Pair) (κ κ' u : Pair) (w : List Pair) → times κ' (times u u) ≡ κ → Generated D κ w → Generated D κ' (scaled pairs u w)
generated-scaled D κ κ' u w t e k =
    e k
    ∙ ap (λ a. at pairs (scaled pairs a (square pairs w)) k) (sym t)
    ∙ sym (square-multiple pairs_ring κ' (times u u) (square pairs (scaled pairs u w)) w (square-scaled pairs_ring u w) k)

pub generated-turned : (D : List Pair) (κ : Pair) (w : List Pair) → Generated D κ w → Generated D (negative κ) (scaled pairs imaginary w)
generated-turned D κ w e =
    generated-scaled D κ (negative κ) imaginary w
    (opposite-opposite κ) e

pub generated-opposite : (D : List Pair) (κ : Pair) (w : List Pair) → Generated D κ w → Generated D κ (scaled pairs (pair (negsuc 0) (pos 0)) w)
generated-opposite D κ w e = generated-scaled D κ κ (pair (negsuc 0) (pos 0)) w (pairs_ring.times_one κ) e
