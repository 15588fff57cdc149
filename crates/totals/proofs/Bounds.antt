-- How large the numbers of the longest curve are.
--   Light             at most 28,284,272 hundredths, on one of the first sheets, and at most the 113th curve there
--   longest_light     the longest of a list is light where each curve is
--   sheets_light      the curves of a list of sheets are light
use mathlib.Core.Path.{◌≡◌, refl, sym, subst}
use mathlib.Core.List.{List, [], ◌∷◌}
use Prim.Native.Nat.{ℕ, zero, suc, ◌+◌, ◌≤◌}
use native.Mathlib.Omega.{arith}
use lib.Dec.{ltb}
use lib.ListN.{length}
use Rattle.refusal.specs.Answers.{Answer, refused, given, with_given}
use Rattle.refusal.proofs.Answers.{by_test}
use Rattle.sheet.specs.Survey.{Entry, outcome}
use Rattle.sheet.specs.Promise.{count_of}
use Rattle.sheet.proofs.Surveys.{sound_of}
use Rattle.sheet.proofs.Faults.{curves_few}
use Rattle.totals.specs.declared.Counted.{Counted}
use Rattle.totals.specs.declared.Counted.TheVariants.{Still, No, Ph, Pre}
use Rattle.totals.specs.declared.Longest.{Longest}
use Rattle.std.specs.Prelude.{Option, Some, None}
use Rattle.totals.specs.Sheets.{CurvesAre, CheckedAs, SheetIs, SheetsAre}
use Rattle.totals.specs.Totals.{Placed, placed, numbered, curves_from, hundredths_of, longer, own, longest_of}
use Rattle.totals.proofs.Lists.{numbered_more}
use Rattle.totals.proofs.Sizes.{curve_small, curves-long}
use Rattle.totals.proofs.First.{EachIs, each_append}

abbrev pub Light : ℕ → Option Longest → Type 0
Light sheets None = Unit {0}
Light sheets (Some l) = (l.hundredths ≤ 28284272) × (l.sheet ≤ sheets) × (l.number ≤ 113)

longer_light : (n : ℕ) (x y : Option Longest) → Light n x → Light n y → Light n (longer x y)
longer_light n None y h k = k
longer_light n (Some a) None h k = h
longer_light n (Some a) (Some b) h k = by_test (Light n) (ltb a.hundredths b.hundredths) (λ _. k) (λ _. h)

pub longest_light : (n : ℕ) (ps : List Placed) → EachIs (Light n) ps → Light n (longest_of ps)
longest_light n [] h = tt
longest_light n (p ∷ ps) h = longer_light n (own p) (longest_of ps) h.0 (longest_light n ps h.1)

own_light : (n sheet k : ℕ) (x : Counted) → hundredths_of x ≤ 28284272 → sheet ≤ n → k ≤ 113 → Light n (own (placed sheet k x))
own_light n sheet k Still h l m = tt
own_light n sheet k No h l m = tt
own_light n sheet k Ph h l m = tt
own_light n sheet k (Pre x) h l m = (h, l, m)

numbered_light : (n sheet : ℕ) → sheet ≤ n → (s : List ℕ) (k : ℕ) (xs : List Counted) → k ≤ 113 → CurvesAre s k xs → EachIs (Light n) (numbered sheet 1 xs)
numbered_light n sheet l s zero xs few e = subst (λ (ys : List Counted). EachIs (Light n) (numbered sheet 1 ys)) (sym e) tt
numbered_light n sheet l s (suc k) xs few (earlier, x, h, last, e) =
    subst (λ (ys : List Counted). EachIs (Light n) (numbered sheet 1 ys)) (sym e)
    (subst (EachIs (Light n)) (sym (numbered_more sheet 1 earlier x))
    (each_append (Light n) (numbered sheet 1 earlier) (placed sheet (1 + length earlier) x ∷ [])
    (numbered_light n sheet l s k earlier (omega arith) h)
    (own_light n sheet (1 + length earlier) x (curve_small s (suc k) x last) l (omega (arith, curves-long s k earlier h)), tt)))

sheet_light : (n sheet : ℕ) → sheet ≤ n → (s : List ℕ) (x : Answer (List Counted)) (xs : List (Answer (List Counted))) → SheetIs s x
    → EachIs (Light n) (curves_from (suc sheet) xs) → EachIs (Light n) (curves_from sheet (x ∷ xs))
sheet_light n sheet l s x xs h later = by (outcome s) refl x h
  where
    by : (a : Answer (List Entry)) → outcome s ≡ a → (x : Answer (List Counted)) → CheckedAs s (with_given count_of a) x → EachIs (Light n) (curves_from sheet (x ∷ xs))
    by (refused f) o x e = subst (λ (y : Answer (List Counted)). EachIs (Light n) (curves_from sheet (y ∷ xs))) (sym e) later
    by (given es) o x (cs, k, e) =
        let few : count_of es ≤ 113 = subst (λ (z : List Entry). count_of z ≤ 113) (sound_of s o).1 (curves_few s) in
        subst (λ (y : Answer (List Counted)). EachIs (Light n) (curves_from sheet (y ∷ xs))) (sym e)
        (each_append (Light n) (numbered sheet 1 cs) (curves_from (suc sheet) xs) (numbered_light n sheet l s (count_of es) cs few k) later)

pub sheets_light : (n sheet : ℕ) (ss : List (List ℕ)) (xs : List (Answer (List Counted))) → SheetsAre ss xs → sheet + length xs ≤ suc n → EachIs (Light n) (curves_from sheet xs)
sheets_light n sheet [] xs h l = subst (λ (ys : List (Answer (List Counted))). EachIs (Light n) (curves_from sheet ys)) (sym h) tt
sheets_light n sheet (s ∷ ss) [] h l = absurd h
sheets_light n sheet (s ∷ ss) (x ∷ xs) h l = sheet_light n sheet (omega arith) s x xs h.0 (sheets_light n (suc sheet) ss xs h.1 (omega arith))
