-- The starred cases hold. Each row is a certificate (Certificates.antt says of what), and the rest is computed.
--   table_holds     the one statement over the table
use mathlib.Core.Path.{refl}
use mathlib.Core.List.{[], ◌∷◌}
use mathlib.Core.Logic.{inl, inr}
use native.Mathlib.Omega.{arith}
use lib.IntN.{pos}
use Rattle.poly.specs.Polynomials.{sum, scaled, product}
use Rattle.whole.specs.Number.{wholes}
use Rattle.whole.proofs.Linear.{linear}
use Rattle.poly.specs.Terms.{value}
use Rattle.pair.specs.Pairs.{pair, pairs}
use Rattle.bernstein.specs.Binomials.{choose, total}
use Rattle.bernstein.specs.Powers.{differences, kth_differences, power_form}
use Rattle.curve.specs.Curves.{leg_polynomial, norm_polynomial}
use Rattle.measure.proofs.Counts.{count_apart, count-flat}
use Rattle.offset.specs.Promise.{point_numbers}
use Rattle.join.specs.Promise.{numbers}
use Rattle.cases.proofs.Joins as join
use Rattle.cases.specs.Rows.{RowHolds, All}
use Rattle.cases.specs.Table.{neg, point, case-1, case-2, case-3, case-4, case-5, case-6, case-7, case-8, case-9, student_curve, student_joins, case-2-offset, table}
use Rattle.cases.proofs.Certificates.{lead_at, square_by, combined_coprime, preimage_with, preimage_by}
use Rattle.cases.proofs.Promised.{no_row, ph-row, pre-row, measured, long, turned, offset, joins-row}

row-1 : RowHolds case-1
unfolding norm_polynomial leg_polynomial power_form kth_differences differences choose sum scaled product total point_numbers
row-1 =
    pre-row (omega arith) (preimage_by 0 0 refl refl (inl (omega linear)) (lead_at pairs 0 2 refl (inl (omega linear))) refl refl)
    (λ i. (offset i 1 refl (record { size = omega arith }) refl refl, tt))

row-2 : RowHolds case-2
unfolding norm_polynomial leg_polynomial power_form kth_differences differences choose sum scaled product
row-2 =
    pre-row (omega arith) (preimage_by 2 0 refl refl (inl (omega linear)) (lead_at pairs 1 1 refl (inl (omega linear))) refl refl)
    (λ i. (measured i refl, tt))

-- N(0) N(−1) = 41
row-3 : RowHolds case-3
unfolding norm_polynomial leg_polynomial power_form kth_differences differences choose sum scaled product value
row-3 = no_row (omega arith) (pos 0) (neg 1) (record { k = 6; n = 41; is = refl; above = omega arith; below = omega arith }) (refl, tt)

-- |D(1) D(1 + i)|² = 32
row-4 : RowHolds case-4
unfolding norm_polynomial leg_polynomial power_form kth_differences differences choose sum scaled product value
row-4 =
    ph-row (omega arith) (square_by 4 2 refl refl (omega linear) (lead_at wholes 1 3 refl (omega linear)))
    (point 1 0) (point 1 1) (record { k = 5; n = 32; is = refl; above = omega arith; below = omega arith }) (refl, tt)

-- |D(0) D(2 + i)|² = 612
row-5 : RowHolds case-5
unfolding norm_polynomial leg_polynomial power_form kth_differences differences choose sum scaled product value
row-5 =
    ph-row (omega arith) (square_by 0 0 refl refl (omega linear) (lead_at wholes 4 0 refl (omega linear)))
    (point 0 0) (point 2 1) (record { k = 24; n = 612; is = refl; above = omega arith; below = omega arith }) (refl, tt)

row-6 : RowHolds case-6
unfolding norm_polynomial leg_polynomial power_form kth_differences differences choose sum scaled product
row-6 =
    pre-row (omega arith) (preimage_by 0 0 refl refl (inl (omega linear)) (lead_at pairs 2 0 refl (inr (refl, omega linear))) refl refl)
    (λ i. (measured i refl, (long i refl, (turned i refl (count_apart _ (omega linear)) (λ s. omega (linear, s.0)), tt))))

row-7 : RowHolds case-7
unfolding norm_polynomial leg_polynomial power_form kth_differences differences choose sum scaled product
row-7 =
    pre-row (omega arith) (preimage_by 0 0 refl refl (inl (omega linear)) (lead_at pairs 2 0 refl (inl (omega linear))) refl refl)
    (λ i. (measured i refl, (turned i refl (count-flat _ (omega linear) (omega linear)) (λ s. omega (linear, s.0)), tt)))

row-8 : RowHolds case-8
unfolding numbers
row-8 = joins-row (omega arith) (omega arith) (omega arith) (omega arith) join.case-8

row-9 : RowHolds case-9
unfolding numbers
row-9 = joins-row (omega arith) (omega arith) (omega arith) (omega arith) join.case-9

row_student_curve : RowHolds student_curve
unfolding norm_polynomial leg_polynomial power_form kth_differences differences choose sum scaled product
row_student_curve =
    pre-row (omega arith)
    (preimage_with 0 refl (combined_coprime (pair (pos 1) (neg 1) ∷ pair (neg 1) (pos 2) ∷ point 2 1 ∷ []) 0 2 (pair (neg 2) (neg 2)) (pair (pos 2) (neg 1)) refl) (inr (refl, omega linear)) (lead_at pairs 2 0 refl (inl (omega linear))) refl refl)
    (λ i. (refl, tt))

row_student_joins : RowHolds student_joins
unfolding numbers
row_student_joins = joins-row (omega arith) (omega arith) (omega arith) (omega arith) join.student

row-2-offset : RowHolds case-2-offset
unfolding norm_polynomial leg_polynomial power_form kth_differences differences choose sum scaled product total point_numbers
row-2-offset =
    pre-row (omega arith) (preimage_by 2 0 refl refl (inl (omega linear)) (lead_at pairs 1 1 refl (inl (omega linear))) refl refl)
    (λ i. (offset i 1 refl (record { size = omega arith }) refl refl, tt))

pub table_holds : All table
table_holds = (row-1, (row-2, (row-3, (row-4, (row-5, (row-6, (row-7, (row-8, (row-9, (row_student_curve, (row_student_joins, (row-2-offset, tt))))))))))))
