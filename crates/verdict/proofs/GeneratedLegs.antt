-- D = κ w², for any number of legs. Nothing is asked of κ, of w or of the first leg.
--   generated-legs       with 2m + 1 legs there are x₀ .. xₘ so that C(2m, k) dₖ is κ times the sum of xᵢ xⱼ over i + j = k, for each k
use mathlib.Core.Path.{◌≡◌, ap, ◌∙◌, fun_ext}
use mathlib.Core.List.{List}
use Prim.Native.Nat.{ℕ, ◌+◌, ◌-◌, ◌≤◌}
use lib.ListN.{length}
use Rattle.whole.specs.Coefficients.{at}
use Rattle.poly.specs.Terms.{listed}
use Rattle.poly.proofs.Series.{Series, conv}
use Rattle.poly.proofs.Top.{listed_above, listed_same}
use Rattle.pair.specs.declared.Pair.{Pair}
use Rattle.pair.specs.Pairs.{pairs, times}
use Rattle.pair.proofs.Laws.{pairs_ring}
use Rattle.bernstein.specs.Powers.{power_form}
use Rattle.bernstein.proofs.PowerForms.{power_form-above}
use Rattle.bernstein.proofs.Polynomials.{blended}
use Rattle.bernstein.proofs.Products.{times_choose, power_form-generated}
use Rattle.bernstein.proofs.Found.{blended-found}
use Rattle.verdict.specs.Verdicts.{Generated}
use Rattle.verdict.proofs.Shortened.{short_root}

abbrev pub IsGenerated : List Pair → Pair → List Pair → Type 0
IsGenerated ds κ xs = (k : ℕ) → k ≤ length ds - 1 → times_choose ds k ≡ times κ (conv pairs (at pairs xs) (at pairs xs) k)

pub generated-legs : (ds : List Pair) (m : ℕ) → length ds - 1 ≡ m + m → (κ : Pair) (w : List Pair) → Generated (power_form ds) κ w → (x : Series Pair) × IsGenerated ds κ (listed m x)
generated-legs ds m half κ w h =
    let found = blended-found pairs_ring m (at pairs (listed m (at pairs w))) (listed_above pairs m (at pairs w)) in
    let x = at pairs found.sum in (
      x,
      power_form-generated (listed m (at pairs w)) m (at pairs (listed m x))
          (found.is ∙ ap (blended pairs_ring m) (fun_ext (listed_same pairs m x found.above)))
          (listed_above pairs m x) ds κ half
          (short_root (power_form ds) m κ w (rw half at (power_form-above ds)) h),
    )
