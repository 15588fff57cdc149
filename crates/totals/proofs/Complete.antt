-- Nothing is left out of the tables: every curve has one of the four verdicts, and every sheet is sound or refused by one of the six numbers.
--   curves_complete     the counts of the verdicts add up to the number of curves
--   sheets_complete     the sound sheets, which have number 0, and the counts of the refusals add up to the number of sheets
use mathlib.Core.Path.{◌≡◌, refl, ap}
use mathlib.Core.List.{List, [], ◌∷◌}
use Prim.Native.Nat.{ℕ, zero, suc, ◌+◌, ◌≤◌}
use native.Mathlib.Omega.{arith}
use lib.Dec.{eqb}
use lib.ListN.{length}
use Rattle.refusal.specs.Answers.{Answer, refused, given, with_given, number_of_answer, when◌then◌else◌}
use Rattle.sheet.specs.Survey.{Entry, outcome}
use Rattle.sheet.specs.Promise.{count_of}
use Rattle.sheet.proofs.Faults.{fault_number}
use Rattle.totals.specs.declared.Counted.{Counted}
use Rattle.totals.specs.declared.Counted.TheVariants.{Still, No, Ph, Pre}
use Rattle.totals.specs.Sheets.{CheckedAs, SheetIs, SheetsAre}
use Rattle.totals.specs.Totals.{Placed, verdict_of, with_verdict, refused_by}

-- whether n is the number i, as a count
abbrev mark : ℕ → ℕ → ℕ
mark n i = when eqb i n then 1 else 0

four_rows : (x : Counted) → let n = verdict_of x in mark n 0 + mark n 1 + mark n 2 + mark n 3 ≡ 1
unfolding when◌then◌else◌
four_rows Still = refl
four_rows No = refl
four_rows Ph = refl
four_rows (Pre m) = refl

pub curves_complete : (ps : List Placed) → with_verdict ps 0 + with_verdict ps 1 + with_verdict ps 2 + with_verdict ps 3 ≡ length ps
curves_complete [] = refl
curves_complete (p ∷ ps) = omega (arith, curves_complete ps, four_rows p.is)

-- the sound ones, and six rows
seven-rows : (n : ℕ) → n ≤ 6 → mark n 0 + mark n 1 + mark n 2 + mark n 3 + mark n 4 + mark n 5 + mark n 6 ≡ 1
unfolding when◌then◌else◌
seven-rows zero l = refl
seven-rows (suc zero) l = refl
seven-rows (suc (suc zero)) l = refl
seven-rows (suc (suc (suc zero))) l = refl
seven-rows (suc (suc (suc (suc zero)))) l = refl
seven-rows (suc (suc (suc (suc (suc zero))))) l = refl
seven-rows (suc (suc (suc (suc (suc (suc zero)))))) l = refl
seven-rows (suc (suc (suc (suc (suc (suc (suc n))))))) l = absurd (omega arith)

sheet-number : (s : List ℕ) (x : Answer (List Counted)) → SheetIs s x → number_of_answer x ≤ 6
sheet-number s x = by (outcome s) refl x
  where
    by : (a : Answer (List Entry)) → outcome s ≡ a → (x : Answer (List Counted)) → CheckedAs s (with_given count_of a) x → number_of_answer x ≤ 6
    by (refused f) o x e = omega (arith, ap number_of_answer e, fault_number s f o)
    by (given es) o x (xs, h, e) = omega (arith, ap number_of_answer e)

pub sheets_complete : (ss : List (List ℕ)) (xs : List (Answer (List Counted))) → SheetsAre ss xs
    → refused_by xs 0 + refused_by xs 1 + refused_by xs 2 + refused_by xs 3 + refused_by xs 4 + refused_by xs 5 + refused_by xs 6 ≡ length xs
sheets_complete [] [] h = refl
sheets_complete [] (x ∷ xs) h = let e : suc (length xs) ≡ 0 = ap length h in absurd (omega arith)
sheets_complete (s ∷ ss) [] h = absurd h
sheets_complete (s ∷ ss) (x ∷ xs) h = omega (arith, sheets_complete ss xs h.1, seven-rows (number_of_answer x) (sheet-number s x h.0))
