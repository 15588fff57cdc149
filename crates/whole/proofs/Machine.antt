-- What the machine's tests and casts of an i64 say of the number. What `<` and `<=` tell is read by `omega linear` (Linear), and arithmetic on
-- bits is read by `kept` (Bound); a parameter of which nothing is known but `c.fits.x` is read back by `to_z-of_z w64 _ c.fits.x`.
--   read_as                  a number that the machine holds is read back as what it is known to be
--   same_bits                what `==` tells
--   nonzero_bits             a divisor other than 0 has bits other than 0
--   cast_asks                what `x as u64` of a number that is not negative asks
use mathlib.Core.Path.{◌≡◌, refl, sym, ap, ◌∙◌}
use mathlib.Core.Logic.{◌≢◌}
use Prim.Native.Nat.{zero, suc, ◌<◌}
use lib.Dec.{T}
use lib.IntN.{ℤ, pos, negsuc, nat_abs}
use lib.Signed.{◌≤ℤ◌, non_neg, yes_non_neg}
use mir.Syntax.{w64}
use mir.Val.{Fits, SFits, to_z, of_z}
use mir.ValLaws.{to_z-of_z}
use Rattle.whole.proofs.Linear.{linear, abs_parts, one-part}

pub read_as : {m x : ℤ} → SFits w64 m → m ≡ x → to_z w64 (of_z w64 m) ≡ x
read_as {m} f e = to_z-of_z w64 m f ∙ e

pub same_bits : {x y : ℤ} → SFits w64 x → SFits w64 y → of_z w64 x ≡ of_z w64 y → x ≡ y
same_bits {x} {y} f g e = sym (to_z-of_z w64 x f) ∙ ap (to_z w64) e ∙ to_z-of_z w64 y g

pub nonzero_bits : {x : ℤ} → SFits w64 x → x ≢ pos 0 → 0 < of_z w64 x
nonzero_bits {x = pos zero} f h = absurd (h refl)
nonzero_bits {x = pos (suc n)} f h = omega linear
nonzero_bits {x = negsuc n} f h = omega (linear, f.sfits)

pub cast_asks : {x : ℤ} → pos 0 ≤ℤ x → SFits w64 x → T (non_neg x) × Fits w64 (nat_abs x)
cast_asks {x} h f = (yes_non_neg h, record { fits = omega (linear, abs_parts x, one-part x) })
