-- Sizes of what is built from w's within 200.
--   thrice-within      2 w1² + w0 w2 is within 240,000,
--   third-within       and a third is within what it is a third of
use mathlib.Core.Path.{◌≡◌, sym}
use Prim.Native.Nat.{ℕ}
use native.Mathlib.Omega.{arith}
use lib.IntN.{ℤ, pos, ◌*ℤ◌}
use Rattle.whole.specs.Number.{Within}
use Rattle.whole.proofs.Integers.{abs_times}
use Rattle.pair.specs.declared.Pair.{Pair}
use Rattle.pair.specs.Pairs.{multiple, PartsWithin}
use Rattle.pair.proofs.Parts.{times-within, plus-within, multiple-within, re-equal, im-equal}
use Rattle.build.specs.Promise.{thrice, source_reach}

pub thrice-within : {w0 w1 w2 : Pair} → PartsWithin source_reach w0 → PartsWithin source_reach w1 → PartsWithin source_reach w2 → PartsWithin 240000 (thrice w0 w1 w2)
thrice-within h k l = plus-within (multiple-within 2 (times-within k k)) (times-within h l)

pub third-within : {B : ℕ} {d t : Pair} → multiple (pos 3) d ≡ t → PartsWithin B t → PartsWithin B d
third-within {B} {d} {t} e h = record { re = part d.re t.re (re-equal e) h.re; im = part d.im t.im (im-equal e) h.im }
  where
    part : (x y : ℤ) → pos 3 *ℤ x ≡ y → Within B y → Within B x
    part x y e h = record { size = omega (arith, abs_times (pos 3) x, rw (sym e) at h.size) }
