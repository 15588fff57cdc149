-- One answer of each call on a sheet: what is promised leaves one number to return, and one area or sheet.
--   check_once, read_once, find_once, start_once, erase_once, append_once, report_once   the calls
use mathlib.Core.Path.{◌≡◌, sym, ◌∙◌}
use mathlib.Core.List.{List}
use Prim.Native.Nat.{ℕ}
use lib.IntN.{ℤ}
use Rattle.refusal.specs.Answers.{with_given, answer_of}
use Rattle.sheet.specs.Survey.{chosen}
use Rattle.sheet.proofs.Once.{start_once as starts_once, erase_once as erases_once, append_once as appends_once}
use Rattle.report_text.proofs.Once.{reported_once}
use Rattle.hand.proofs.Handing.{on_curve_lem, hands_once, counted_once}
use Rattle.sheet_calls.specs.Promise.{numbers_of_entry, place_numbers, count_of_change, CheckCall, ReadCall, FindCall, StartForCall, EraseCall, AppendCall, ReportCall}

module _ (s : List ℕ) {r q : ℤ} where
  pub check_once : CheckCall s r → CheckCall s q → r ≡ q
  check_once h k = h ∙ sym k

  pub read_once : (mission number : ℕ) (before : List ℤ) {x y : List ℤ} → ReadCall s mission number before x r → ReadCall s mission number before y q → (r ≡ q) × (x ≡ y)
  read_once mission number before = hands_once before (with_given numbers_of_entry (chosen mission number s))

  pub find_once : (mission number : ℕ) (before : List ℤ) {x y : List ℤ} → FindCall s mission number before x r → FindCall s mission number before y q → (r ≡ q) × (x ≡ y)
  find_once mission number before = hands_once before (with_given place_numbers (chosen mission number s))

  pub start_once : (mission : ℕ) (t u : List ℕ) → StartForCall s mission t r → StartForCall s mission u q → (r ≡ q) × (t ≡ u)
  start_once mission t u = counted_once count_of_change (starts_once s mission t u)

  pub erase_once : (t u : List ℕ) → EraseCall s t r → EraseCall s u q → (r ≡ q) × (t ≡ u)
  erase_once t u = counted_once count_of_change (erases_once s t u)

  pub append_once : (p : List ℤ) (t u : List ℕ) → AppendCall s p t r → AppendCall s p u q → (r ≡ q) × (t ≡ u)
  append_once p t u = on_curve_lem (λ i j. (i.0 ∙ sym j.0, i.1 ∙ sym j.1)) (λ c. counted_once count_of_change (appends_once s c t u))

  pub report_once : (before x y : List ℕ) → ReportCall s before x r → ReportCall s before y q → (r ≡ q) × (x ≡ y)
  report_once before x y = counted_once answer_of (reported_once s before x y)
