-- How large the totals of a box can be: no number passes the machine's greatest.
--   curve_small       a curve of a sheet has at most 28,284,272 hundredths
--   curves-long       the curves of a sheet are as many as it says.      sheets-long   and the sheets as many as there are
--   sheet_small       a sheet has at most 113 curves, and their sum is small
--   sheets_small      the curves of a box, and their sum
use mathlib.Core.Path.{◌≡◌, refl, sym, ap, subst}
use mathlib.Core.List.{List, [], ◌∷◌, ◌++◌, append-nil}
use Prim.Native.Nat.{ℕ, zero, suc, ◌+◌, ◌*◌, ◌≤◌}
use native.Mathlib.Omega.{arith}
use lib.ListN.{length, length-append}
use Rattle.std.specs.Prelude.{Ok}
use Rattle.refusal.specs.Answers.{Answer, refused, given, with_given}
use Rattle.verdict.specs.declared.Verdict.{Verdict}
use Rattle.verdict.specs.declared.Verdict.TheVariants as verdict
use Rattle.curve.specs.declared.Curve.{Curve}
use Rattle.curve.specs.Curves.{points_of, InRange}
use Rattle.verdict.specs.Promise.{Recognised}
use Rattle.sheet.specs.Survey.{Entry, outcome}
use Rattle.sheet.specs.Promise.{count_of}
use Rattle.sheet.proofs.Surveys.{sound_of}
use Rattle.sheet.proofs.Faults.{curves_few}
use Rattle.sheet.proofs.Ahead.{curve_in_range}
use Rattle.totals.specs.declared.Counted.{Counted}
use Rattle.totals.specs.Sheets.{CountsFor, CurveIs, CurvesAre, CheckedAs, SheetIs, SheetsAre}
use Rattle.totals.specs.Totals.{Placed, placed, numbered, curves_from, hundredths_of, sum_of}
use Rattle.totals.proofs.Reached.{hundredths_small}
use Rattle.totals.proofs.Lists.{numbered_more, sum-append}

judged_small : (curve : Curve) (v : Verdict) (x : Counted) → InRange (points_of curve) → Recognised (points_of curve) (Ok v) → CountsFor curve v x → hundredths_of x ≤ 28284272
judged_small curve verdict.Still x r h e = omega (arith, ap hundredths_of e)
judged_small curve verdict.No x r h e = omega (arith, ap hundredths_of e)
judged_small curve (verdict.Ph s) x r h e = omega (arith, ap hundredths_of e)
judged_small curve (verdict.Pre p) x r h (m, k, e) = omega (arith, ap hundredths_of e, hundredths_small curve p r h.1.1 m k)

pub curve_small : (s : List ℕ) (number : ℕ) (x : Counted) → CurveIs s number x → hundredths_of x ≤ 28284272
curve_small s number x h = judged_small h.curve h.verdict x (curve_in_range s number h.curve h.has) h.recognised h.counts

numbered-long : (sheet k : ℕ) (xs : List Counted) → length (numbered sheet k xs) ≡ length xs
numbered-long sheet k [] = refl
numbered-long sheet k (x ∷ xs) = ap suc (numbered-long sheet (suc k) xs)

pub curves-long : (s : List ℕ) (n : ℕ) (xs : List Counted) → CurvesAre s n xs → length xs ≡ n
curves-long s zero xs e = ap length e
curves-long s (suc n) xs (earlier, x, h, k, e) = omega (arith, ap length e, length-append earlier (x ∷ []), curves-long s n earlier h)

curves_small : (s : List ℕ) (n : ℕ) (xs : List Counted) → CurvesAre s n xs → (sheet k : ℕ) → sum_of (numbered sheet k xs) ≤ n * 28284272
curves_small s zero xs e sheet k = omega (arith, ap (λ (ys : List Counted). sum_of (numbered sheet k ys)) e)
curves_small s (suc n) xs (earlier, x, h, last, e) sheet k =
    let p = placed sheet (k + length earlier) x in
    omega (
      arith,
      ap (λ (ys : List Counted). sum_of (numbered sheet k ys)) e,
      ap sum_of (numbered_more sheet k earlier x),
      sum-append (numbered sheet k earlier) (p ∷ []),
      curves_small s n earlier h sheet k,
      curve_small s (suc n) x last,
    )

-- the curves that a sheet adds to a box
module _ (sheet : ℕ) where
  pub sheet_small : (s : List ℕ) (x : Answer (List Counted)) → SheetIs s x
      → (length (curves_from sheet (x ∷ [])) ≤ 113) × (sum_of (curves_from sheet (x ∷ [])) ≤ 113 * 28284272)
  sheet_small s x = by (outcome s) refl x
    where
      by : (a : Answer (List Entry)) → outcome s ≡ a → (x : Answer (List Counted)) → CheckedAs s (with_given count_of a) x
          → (length (curves_from sheet (x ∷ [])) ≤ 113) × (sum_of (curves_from sheet (x ∷ [])) ≤ 113 * 28284272)
      by (refused f) o x e =
          (omega (arith, ap (λ (y : Answer (List Counted)). length (curves_from sheet (y ∷ []))) e), omega (arith, ap (λ (y : Answer (List Counted)). sum_of (curves_from sheet (y ∷ []))) e))
      by (given es) o x (xs, h, e) =
          let few : count_of es ≤ 113 = subst (λ (l : List Entry). count_of l ≤ 113) (sound_of s o).1 (curves_few s) in
          let long = length-append (numbered sheet 1 xs) [] in
          let sum = sum-append (numbered sheet 1 xs) [] in (
            omega (arith, ap (λ (y : Answer (List Counted)). length (curves_from sheet (y ∷ []))) e, long, numbered-long sheet 1 xs, curves-long s (count_of es) xs h),
            omega (arith, ap (λ (y : Answer (List Counted)). sum_of (curves_from sheet (y ∷ []))) e, sum, curves_small s (count_of es) xs h sheet 1),
          )

first_out : (sheet : ℕ) (x : Answer (List Counted)) (xs : List (Answer (List Counted))) → curves_from sheet (x ∷ xs) ≡ curves_from sheet (x ∷ []) ++ curves_from (suc sheet) xs
first_out sheet (refused f) xs = refl
first_out sheet (given cs) xs = ap (λ (ps : List Placed). ps ++ curves_from (suc sheet) xs) (sym (append-nil (numbered sheet 1 cs)))

pub sheets-long : (ss : List (List ℕ)) (xs : List (Answer (List Counted))) → SheetsAre ss xs → length xs ≡ length ss
sheets-long [] xs h = ap length h
sheets-long (s ∷ ss) [] h = absurd h
sheets-long (s ∷ ss) (x ∷ xs) h = ap suc (sheets-long ss xs h.1)

pub sheets_small : (sheet : ℕ) (ss : List (List ℕ)) (xs : List (Answer (List Counted))) → SheetsAre ss xs
    → (length (curves_from sheet xs) ≤ length xs * 113) × (sum_of (curves_from sheet xs) ≤ length xs * (113 * 28284272))
sheets_small sheet [] xs h =
    (omega (arith, ap (λ (ys : List (Answer (List Counted))). length (curves_from sheet ys)) h), omega (arith, ap (λ (ys : List (Answer (List Counted))). sum_of (curves_from sheet ys)) h))
sheets_small sheet (s ∷ ss) [] h = absurd h
sheets_small sheet (s ∷ ss) (x ∷ xs) h =
    let first = sheet_small sheet s x h.0 in
    let later = sheets_small (suc sheet) ss xs h.1 in
    let one = curves_from sheet (x ∷ []) in
    let rest = curves_from (suc sheet) xs in (
      omega (arith, ap length (first_out sheet x xs), length-append one rest, first.0, later.0),
      omega (arith, ap sum_of (first_out sheet x xs), sum-append one rest, first.1, later.1),
    )
