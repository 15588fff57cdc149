-- The nine starred cases of document 01, "Checked by hand", in its words and numbers. `All table` is the one statement over them, proved in
-- proofs/Starred.antt: what it says of a row is in Rows.antt.
--   neg                     a negative number
--   point                   a point or a pair with parts that are not negative
--   cubic, quintic          a curve by its points
--   w, q                    the polynomials of a verdict, from the constant upward
--   pre, ph                 the verdicts, with κ, w, c and q, and with c and q
--   triple                  w0, w1 and w2
--   bend, bend_pre          case 2's cubic, and its verdict: κ = 1, c = 1, w = −1 + (1 − i) t, q = 1 − 2 t + 2 t²
--   case-1 .. case-9        the rows
--   given                   numbers one after the other, as those of the points 0, 1, ..
--   case-2-offset           beside them, not starred: the offset of a cubic, worked by hand
--   table                   all of them
use Rattle.std.specs.Prelude.{List, [], ◌∷◌, ℕ, ◌*◌, ℤ, pos, neg_ℤ, get_or}
use Rattle.pair.specs.declared.Pair.{Pair}
use Rattle.pair.specs.Pairs.{pair}
use Rattle.root.specs.declared.Quartic.{Quartic}
use Rattle.verdict.specs.declared.Quadratic.{Quadratic}
use Rattle.curve.specs.declared.Curve.{Curve}
use Rattle.curve.specs.declared.Curve.TheVariants.{Cubic, Quintic}
use Rattle.verdict.specs.declared.Verdict.{Verdict}
use Rattle.verdict.specs.declared.Verdict.TheVariants.{No, Ph, Pre}
use Rattle.join.specs.Promise.{Triple}
use Rattle.cases.specs.Rows.{Row, curve_is, joins_are, legs_are, N_is, length_is, long, turning_is, offset_is}

abbrev pub neg : ℕ → ℤ
neg n = neg_ℤ (pos n)

abbrev pub point : ℕ → ℕ → Pair
point x y = pair (pos x) (pos y)

abbrev pub cubic : Pair → Pair → Pair → Pair → Curve
cubic p0 p1 p2 p3 = Cubic (record { p0 = p0; p1 = p1; p2 = p2; p3 = p3 })

abbrev pub quintic : Pair → Pair → Pair → Pair → Pair → Pair → Curve
quintic p0 p1 p2 p3 p4 p5 = Quintic (record { p0 = p0; p1 = p1; p2 = p2; p3 = p3; p4 = p4; p5 = p5 })

abbrev pub w : Pair → Pair → Pair → Quadratic
w b0 b1 b2 = record { b0 = b0; b1 = b1; b2 = b2 }

abbrev pub q : ℤ → ℤ → ℤ → ℤ → ℤ → Quartic
q q0 q1 q2 q3 q4 = record { q0 = q0; q1 = q1; q2 = q2; q3 = q3; q4 = q4 }

abbrev pub pre : Pair → Quadratic → ℤ → Quartic → Verdict
pre κ w c q = Pre (record { kappa = κ; w = w; square = record { c = c; q = q } })

abbrev pub ph : ℤ → Quartic → Verdict
ph c q = Ph (record { c = c; q = q })

abbrev pub triple : Pair → Pair → Pair → Triple
triple w0 v w2 = record { w0 = w0; v = v; w2 = w2 }

-- κ = 1, w = 1; offset h = 2: point k is (252, 140 k, −504)
abbrev pub case-1 : Row
case-1 = curve_is (quintic (point 0 0) (point 1 0) (point 2 0) (point 3 0) (point 4 0) (point 5 0))
    (pre (point 1 0) (w (point 1 0) (point 0 0) (point 0 0)) (pos 1) (q (pos 1) (pos 0) (pos 0) (pos 0) (pos 0)))
    (offset_is (pos 2) (λ k. pos 252) (λ k. pos (140 * k)) (λ k. neg 504) ∷ [])

abbrev pub bend : Curve
bend = cubic (point 0 0) (point 1 0) (point 1 1) (point 0 1)

abbrev pub bend_pre : Verdict
bend_pre = pre (point 1 0) (w (pair (neg 1) (pos 0)) (pair (pos 1) (neg 1)) (point 0 0)) (pos 1) (q (pos 1) (neg 2) (pos 2) (pos 0) (pos 0))

-- c = 1, w = −1 + (1 − i) t, q = 1 − 2 t + 2 t², A/B = 4/2
abbrev pub case-2 : Row
case-2 = curve_is bend bend_pre (length_is (pos 1) (pos 4) (pos 2) ∷ [])

-- N = 1 − 4 t + 12 t² − 16 t³ + 8 t⁴, no
abbrev pub case-3 : Row
case-3 = curve_is (cubic (point 0 0) (point 1 0) (point 1 1) (point 2 1)) No (N_is (pos 1 ∷ neg 4 ∷ pos 12 ∷ neg 16 ∷ pos 8 ∷ []) ∷ [])

-- N = 4 t², c = 4, q = t
abbrev pub case-4 : Row
case-4 = curve_is (cubic (point 0 0) (point 0 0) (point 1 0) (point 3 0)) (ph (pos 4) (q (pos 0) (pos 1) (pos 0) (pos 0) (pos 0))) (N_is (pos 0 ∷ pos 0 ∷ pos 4 ∷ pos 0 ∷ pos 0 ∷ []) ∷ [])

-- legs 1, 1, 1, 1, 2; q = 1 + t⁴
abbrev pub case-5 : Row
case-5 = curve_is (quintic (point 0 0) (point 1 0) (point 2 0) (point 3 0) (point 4 0) (point 6 0)) (ph (pos 1) (q (pos 1) (pos 0) (pos 0) (pos 0) (pos 1)))
    (legs_are (point 1 0 ∷ point 1 0 ∷ point 1 0 ∷ point 1 0 ∷ point 2 0 ∷ []) ∷ [])

-- κ = 6, w = −1 − i t + i t², c = 36, A = 62, length 31, turning polynomial 1 − 2 t, one inflection
abbrev pub case-6 : Row
case-6 = curve_is (quintic (point 0 0) (point 6 0) (point 12 3) (point 17 7) (point 23 10) (point 29 10))
    (pre (point 6 0) (w (pair (neg 1) (pos 0)) (pair (pos 0) (neg 1)) (point 0 1)) (pos 36) (q (pos 1) (pos 0) (pos 1) (neg 2) (pos 1)))
    (length_is (pos 36) (pos 62) (pos 12) ∷ long 31 ∷ turning_is (pos 1) (neg 2) (pos 0) 1 ∷ [])

-- c = 1, q = 1 − 12 t + 50 t² − 72 t³ + 34 t⁴, A = 28, turning −2 + 6 t − 8 t², no inflection
abbrev pub case-7 : Row
case-7 = curve_is (quintic (point 0 0) (point 1 0) (pair (neg 1) (neg 1)) (point 1 2) (point 2 0) (point 1 0))
    (pre (point 1 0) (w (point 1 0) (pair (neg 6) (neg 2)) (point 5 3)) (pos 1) (q (pos 1) (neg 12) (pos 50) (neg 72) (pos 34)))
    (length_is (pos 1) (pos 28) (pos 12) ∷ turning_is (neg 2) (pos 6) (neg 8) 0 ∷ [])

-- a = 1, z = 1, T = 5: (1; −8; 1) and (1; 2; 1)
abbrev pub case-8 : Row
case-8 = joins_are (point 1 0) (point 1 0) (point 5 0) (triple (point 1 0) (pair (neg 8) (pos 0)) (point 1 0) ∷ triple (point 1 0) (point 2 0) (point 1 0) ∷ [])

-- a = 1, z = −1, T = 1: (1; −4 + 2i; −i) and (1; −4 − 2i; i)
abbrev pub case-9 : Row
case-9 = joins_are (point 1 0) (pair (neg 1) (pos 0)) (point 1 0)
    (triple (point 1 0) (pair (neg 4) (pos 2)) (pair (pos 0) (neg 1)) ∷ triple (point 1 0) (pair (neg 4) (neg 2)) (point 0 1) ∷ [])

-- the student's curve: κ = 2i, w = 1 − i + (−1 + 2i) t + (2 + i) t²
abbrev pub student_curve : Row
student_curve = curve_is (quintic (point 0 0) (point 4 0) (point 5 1) (point 5 4) (point 3 6) (pair (neg 13) (pos 6)))
    (pre (point 0 2) (w (pair (pos 1) (neg 1)) (pair (neg 1) (pos 2)) (point 2 1)) (pos 4) (q (pos 2) (neg 6) (pos 7) (pos 0) (pos 5)))
    (legs_are (point 4 0 ∷ point 1 1 ∷ point 0 3 ∷ pair (neg 2) (pos 2) ∷ pair (neg 16) (pos 0) ∷ []) ∷ [])

-- a = 4, z = −16, T = −13 + 6i: (2; −7 − 13i; 4i), and (2; 1 + i; 4i), which is the student's curve
abbrev pub student_joins : Row
student_joins = joins_are (point 4 0) (pair (neg 16) (pos 0)) (pair (neg 13) (pos 6))
    (triple (point 2 0) (pair (neg 7) (neg 13)) (point 0 4) ∷ triple (point 2 0) (point 1 1) (point 0 4) ∷ [])

abbrev pub given : List ℤ → ℕ → ℤ
given ns k = get_or ns k (pos 0)

-- case 2 at h = 1: W = 1 − 2 t + 2 t², X = 5 t − 11 t² + 12 t³ − 6 t⁴, Y = −1 + 2 t + 3 t² − 8 t³ + 10 t⁴ − 4 t⁵, at degree 5 times 10
abbrev pub case-2-offset : Row
case-2-offset = curve_is bend bend_pre
    (offset_is (pos 1) (given (pos 10 ∷ pos 6 ∷ pos 4 ∷ pos 4 ∷ pos 6 ∷ pos 10 ∷ [])) (given (pos 0 ∷ pos 10 ∷ pos 9 ∷ pos 9 ∷ pos 10 ∷ pos 0 ∷ []))
    (given (neg 10 ∷ neg 6 ∷ pos 1 ∷ pos 3 ∷ pos 12 ∷ pos 20 ∷ [])) ∷ [])

abbrev pub table : List Row
table = case-1 ∷ case-2 ∷ case-3 ∷ case-4 ∷ case-5 ∷ case-6 ∷ case-7 ∷ case-8 ∷ case-9 ∷ student_curve ∷ student_joins ∷ case-2-offset ∷ []
