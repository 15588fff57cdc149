-- How large the turning polynomial is, where the parts of w are at most 2,000.
--   cross-within              a cross product is at most 8,000,000,
--   turning_moderate          and the turning polynomial is moderate
use mathlib.Core.Path.{refl}
use Rattle.whole.specs.Number.{Within}
use Rattle.whole.proofs.Wholes.{readℤ, read_pos}
use Rattle.whole.proofs.Bound.{done, ◌▸◌, bounds, within}
use Rattle.pair.specs.declared.Pair.{Pair}
use Rattle.pair.specs.Pairs.{PartsWithin, AllWithin, cross}
use Rattle.verdict.specs.declared.Quadratic.{Quadratic}
use Rattle.verdict.specs.Verdicts.{quadratic}
use Rattle.measure.specs.Turns.{turning_of}
use Rattle.measure.specs.Steps.{Moderate}

pub cross-within : (a b : Pair) → PartsWithin 2000 a → PartsWithin 2000 b → Within 8000000 (cross a b)
cross-within a b h k = bounds (h.re ▸ h.im ▸ k.re ▸ k.im ▸ done) (λ ρ e b. simp (e 0, e 1, e 2, e 3, readℤ) (within b _ refl))

pub turning_moderate : (w : Quadratic) → AllWithin 2000 (quadratic w) → Moderate (turning_of w)
turning_moderate w h = record {
  start = cross-within w.b0 w.b1 (h 0) (h 1);
  middle = bounds (cross-within w.b0 w.b2 (h 0) (h 2) ▸ done) (λ ρ e k. simp (e 0, readℤ, read_pos ρ 2) (within k _ refl));
  end = cross-within w.b1 w.b2 (h 1) (h 2);
}
