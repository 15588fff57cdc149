-- The length √c · A / B of a curve with a pre-image, from q (document 004, 17.14).
--   cubic_a, quintic_a      A, by the kind of curve
--   length_a, length_b      A and B of a curve
--   length_of              c, A and B where N = c q²
use Rattle.std.specs.Prelude.{ℤ, pos, ◌+ℤ◌, ◌*ℤ◌}
use Rattle.root.specs.declared.Quartic.{Quartic}
use Rattle.curve.specs.declared.Curve.{Curve}
use Rattle.curve.specs.declared.Curve.TheVariants.{Cubic, Quintic}
use Rattle.verdict.specs.declared.Square.{Square}
use Rattle.measure.specs.declared.lengths.Length.{Length}

abbrev pub cubic_a : Quartic → ℤ
cubic_a q = q.q0 *ℤ pos 6 +ℤ q.q1 *ℤ pos 3 +ℤ q.q2 *ℤ pos 2

abbrev pub quintic_a : Quartic → ℤ
quintic_a q = q.q0 *ℤ pos 60 +ℤ q.q1 *ℤ pos 30 +ℤ q.q2 *ℤ pos 20 +ℤ q.q3 *ℤ pos 15 +ℤ q.q4 *ℤ pos 12

abbrev pub length_a : Curve → Quartic → ℤ
length_a (Cubic c) q = cubic_a q
length_a (Quintic c) q = quintic_a q

abbrev pub length_b : Curve → ℤ
length_b (Cubic c) = pos 2
length_b (Quintic c) = pos 12

abbrev pub length_of : Curve → Square → Length
length_of curve s = record { c = s.c; a = length_a curve s.q; b = length_b curve }
