-- The sizes that the arithmetic of joins meets.
--   fixed-within, shift-within, product-within, root-within, half-within
use native.Mathlib.Omega.{arith}
use mathlib.Core.Path.{◌≡◌}
use Prim.Native.Nat.{ℕ}
use lib.IntN.{pos}
use Rattle.whole.proofs.Linear.{linear, abs_parts, times_parts, one-part}
use Rattle.pair.specs.declared.Pair.{Pair}
use Rattle.pair.specs.Pairs.{times, multiple, PartsWithin}
use Rattle.pair.proofs.Parts.{re-equal, im-equal, plus-within, minus-within, times-within, multiple-within}
use Rattle.divisor.proofs.Roots.{pair-root-within}
use Rattle.join.specs.Promise.{EndsInRange}
use Rattle.join.specs.Steps.{fixed, shift, root_reach}

pub fixed-within : (a z T : Pair) → EndsInRange a z T → PartsWithin 1560000 (fixed a z T)
fixed-within a z T h = minus-within (multiple-within 24 h.travel) (multiple-within 15 (plus-within h.first h.last))

pub shift-within : (w0 w2 : Pair) → PartsWithin root_reach w0 → PartsWithin root_reach w2 → PartsWithin 1200 (shift w0 w2)
shift-within w0 w2 h k = multiple-within 3 (plus-within h k)

pub product-within : (w0 r : Pair) → PartsWithin root_reach w0 → PartsWithin root_reach r → PartsWithin 800000 (multiple (pos 10) (times w0 r))
product-within w0 r h k = multiple-within 10 (times-within h k)

-- a root of a discriminant
pub root-within : (D δ : Pair) → PartsWithin 2360000 D → times δ δ ≡ D → PartsWithin 3000 δ
root-within D δ h e = pair-root-within 9000000 3000 D δ h e (omega arith) (omega arith)

pub half-within : {B : ℕ} {n v : Pair} → PartsWithin B n → multiple (pos 2) v ≡ n → PartsWithin B v
half-within {n} {v} h e = record {
  re = record { size = omega (linear, h.re.size, re-equal e, abs_parts v.re, abs_parts n.re, times_parts (pos 2) v.re, one-part v.re) };
  im = record { size = omega (linear, h.im.size, im-equal e, abs_parts v.im, abs_parts n.im, times_parts (pos 2) v.im, one-part v.im) };
}
