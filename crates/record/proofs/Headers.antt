-- The header of a sheet.
--   first-header, later_plain   what may stand at a sheet's first byte is a header, and what may stand behind it is none
--   header_may, curve_may   a header may stand first, and a curve behind it
--   header-whole     the bytes of a header with a number are a whole record
--   header-mission   and hold the number
use mathlib.Core.Path.{◌≡◌, refl}
use mathlib.Core.Bool.{true, false, false≢true}
use Prim.Native.Nat.{ℕ}
use native.Mathlib.Omega.{arith}
use Rattle.refusal.specs.Answers.{when◌then◌else◌}
use Rattle.curve.specs.declared.Curve.{Curve}
use Rattle.curve.specs.declared.Curve.TheVariants as curves
use Rattle.record.specs.declared.kinds.Kind.{Kind}
use Rattle.record.specs.declared.kinds.Kind.TheVariants.{Header, Cubic, Quintic}
use Rattle.record.specs.Numbers.{mission_in, coordinates}
use Rattle.record.specs.Kinds.{row_of, words, kind_of, header_of}
use Rattle.record.specs.Records.{named, may_stand, all_within}
use Rattle.record.proofs.Shown.{Whole}

pub first-header : (k : Kind) → may_stand true k ≡ true → k ≡ Header
unfolding may_stand when◌then◌else◌
first-header Header m = refl
first-header Cubic m = absurd (false≢true m)
first-header Quintic m = absurd (false≢true m)

pub later_plain : (k : Kind) → may_stand false k ≡ true → (row_of k).first ≡ false
unfolding may_stand when◌then◌else◌
later_plain Header m = absurd (false≢true m)
later_plain Cubic m = refl
later_plain Quintic m = refl

pub header_may : may_stand true Header ≡ true
unfolding may_stand when◌then◌else◌
header_may = refl

pub curve_may : (c : Curve) → may_stand false (kind_of c) ≡ true
unfolding may_stand when◌then◌else◌
curve_may (curves.Cubic c) = refl
curve_may (curves.Quintic c) = refl

pub header-whole : (m : ℕ) → Whole Header (header_of m)
unfolding named words coordinates all_within when◌then◌else◌
header-whole m = record { long = refl; here = record { fits = omega arith; size_is = refl; name_is = refl; range = refl } }

pub header-mission : (m : ℕ) → mission_in (header_of m) ≡ m
header-mission m = omega arith
