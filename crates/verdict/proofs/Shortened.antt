-- D = κ w² may have a w with needless zeros at its end, and any w where κ is 0.
--   short_root      where D has no power above 2 n, the coefficients of w up to n are enough
use mathlib.Core.Path.{◌≡◌, sym, ◌∙◌}
use mathlib.Core.List.{List}
use Prim.Native.Nat.{ℕ, ◌+◌}
use Rattle.whole.specs.Coefficients.{at}
use Rattle.poly.specs.Polynomials.{square}
use Rattle.poly.specs.Terms.{Above, listed}
use Rattle.poly.proofs.Lists.{none-scaled}
use Rattle.poly.proofs.Squares.{root-same}
use Rattle.poly.proofs.Top.{listed_same, root_above}
use Rattle.pair.specs.declared.Pair.{Pair}
use Rattle.pair.specs.Pairs.{pairs}
use Rattle.pair.proofs.Laws.{pairs_ring, pairs_domain, pair-zero?}
use Rattle.verdict.specs.Verdicts.{Generated}

pub short_root : (D : List Pair) (n : ℕ) (κ : Pair) (w : List Pair) → Above pairs (at pairs D) (n + n) → Generated D κ w
    → Generated D κ (listed n (at pairs w))
short_root D n κ w a h = by (pair-zero? κ)
  where
    short : List Pair
    short = listed n (at pairs w)

    by : Dec (κ ≡ pairs.none) → Generated D κ short
    by (yes z) = λ k. h k ∙ none-scaled pairs_ring κ (square pairs w) z k ∙ sym (none-scaled pairs_ring κ (square pairs short) z k)
    by (no z) =
        root-same pairs_ring D w short κ (listed_same pairs n (at pairs w) (root_above pairs_ring pairs_domain pair-zero? D w κ n z h a)) h
