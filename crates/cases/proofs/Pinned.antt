-- The document's sheets hold. What a row says is computed, but for the sheets of 4,096 bytes and more, which are known by their length.
--   sheets_hold     the one statement over them
use mathlib.Core.Path.{refl, sym, ap, ◌∙◌}
use mathlib.Core.Bool.{true}
use mathlib.Core.List.{List}
use Prim.Native.Nat.{ℕ}
use native.Mathlib.Omega.{arith}
use lib.IntN.{pos}
use lib.ListN.{replicate, length-replicate}
use Rattle.std.specs.Prelude.{◌≡◌, Result, None, Ok, Err}
use Rattle.refusal.specs.declared.Refusal.TheVariants as refusal
use Rattle.refusal.specs.declared.Fault.{Fault}
use Rattle.refusal.specs.Answers.{with_given, when◌then◌else◌}
use Rattle.whole.specs.Coefficients.{at}
use Rattle.poly.proofs.Zeros.{at-zeros}
use Rattle.pair.specs.declared.Pair.{Pair}
use Rattle.pair.specs.Pairs.{pairs}
use Rattle.bernstein.specs.Binomials.{choose}
use Rattle.bernstein.specs.Powers.{differences, kth_differences, power_form}
use Rattle.curve.specs.Curves.{points_of, leg_polynomial}
use Rattle.verdict.specs.declared.Verdict.{Verdict}
use Rattle.verdict.specs.declared.Verdict.TheVariants as verdict
use Rattle.verdict.specs.Promise.{Recognised}
use Rattle.verdict.proofs.Refusals.{recognised_by}
use Rattle.record.specs.Numbers.{signed_of, coordinates}
use Rattle.record.specs.Kinds.{words, numbers_of, points_in}
use Rattle.record.specs.Records.{erased, erased_end, erased_step, named, kind_in, may_stand, all_within, sized_step, step_of}
use Rattle.record.proofs.Formed.{range_is}
use Rattle.record.specs.Promise.{putting_at}
use Rattle.sheet.specs.Survey.{Survey, survey_from, survey_of, survey, soundly, outcome}
use Rattle.sheet.specs.Promise.{told_of, starting, appending}
use Rattle.sheet.proofs.Surveys.{survey-long}
use Rattle.sheet.proofs.Examples.{erased-sheet}
use Rattle.text.specs.Texts.{digits_of}
use Rattle.cases.specs.Table.{point, w, q, pre}
use Rattle.cases.specs.Sheets.{SheetHolds, AllHold, has, refused_at, ff, reported, straight, minus_ones, sample, sample_text, sheets}
use Rattle.cases.proofs.Starred.{table_holds}

-- ---- sheets known by their length

told : (s : List ℕ) {v : Survey} → survey s ≡ v → with_given told_of (soundly v.ending v.records) ≡ with_given told_of (outcome s)
told s e = sym (ap (λ (v : Survey). with_given told_of (soundly v.ending v.records)) e)

full : SheetHolds (has (ff 4096) None 0)
full = told (ff 4096) (erased-sheet 4096 (omega arith))

too_long : SheetHolds (refused_at (ff 4097) 1 0)
too_long = (refusal.TooLong, refl, told (ff 4097) (survey-long true (ff 4097) (omega (arith, length-replicate {A = ℕ} 4097 erased))))

-- ---- the report of 01's sheet

minus_ones-legs : leg_polynomial (points_of minus_ones) ≡ replicate 3 pairs.none
unfolding leg_polynomial power_form kth_differences differences choose
minus_ones-legs = refl

minus_ones-near : all_within (numbers_of (points_of minus_ones)) ≡ true
unfolding all_within
minus_ones-near = refl

minus_ones-recognised : Recognised (points_of minus_ones) (Ok verdict.Still)
minus_ones-recognised =
    recognised_by (points_of minus_ones) ((range_is (points_of minus_ones)).0 minus_ones-near) verdict.Still
    (λ k. ap (λ (p : List Pair). at pairs p k) minus_ones-legs ∙ at-zeros pairs 3 k)

-- the quintic is case 1's
abbrev line : Verdict
line = pre (point 1 0) (w (point 1 0) (point 0 0) (point 0 0)) (pos 1) (q (pos 1) (pos 0) (pos 0) (pos 0) (pos 0))

sample_reported : SheetHolds (reported sample sample_text)
unfolding survey_of survey_from step_of erased_step erased_end kind_in may_stand sized_step named words points_in all_within coordinates signed_of digits_of when◌then◌else◌
sample_reported = (
  _,
  (
    _,
    _,
    (_, _, refl, record { curve = straight; verdict = line; has = refl; recognised = table_holds.0.recognised; is = refl }, refl),
    record { curve = minus_ones; verdict = verdict.Still; has = refl; recognised = minus_ones-recognised; is = refl },
    refl,
  ),
  refl,
)

-- ---- all of them

not_done : {A : Type 0} {f : Fault} → ◌≡◌ {A = Result (Unit {0}) Fault} (Err f) (Ok tt) → A
not_done e = cc

infixr 4 ◌and◌
◌and◌ : {A B : Type 0} → A → B → A × B
a and b = (a, b)

pub sheets_hold : AllHold sheets
unfolding survey_of survey_from step_of erased_step erased_end kind_in may_stand sized_step named words all_within coordinates signed_of starting appending putting_at digits_of when◌then◌else◌
sheets_hold =
    refl and full and too_long
    and refl and refl
    and (refusal.Kind, refl, refl) and (refusal.Kind, refl, refl) and (refusal.Leftover, refl, refl)
    and (refusal.Length, refl, refl) and (refusal.Cut, refl, refl)
    and refl and (refusal.Cut, refl, refl) and (refusal.Cut, refl, refl) and (refusal.Cut, refl, refl)
    and (refusal.Leftover, refl, refl)
    and (refusal.Kind, refl, refl) and (refusal.Length, refl, refl)
    and refl and (refusal.Range, refl, refl)
    and record { says = refl; leaves = refl } and (refusal.Room, refl, record { says = refl; leaves = refl })
    and (refusal.NoMission, refl, record { changes = record { says = refl; leaves = refl }; lists = not_done })
    and (refusal.Range, refl, record { changes = record { says = refl; leaves = refl }; lists = not_done })
    and (refusal.Room, refl, record { changes = record { says = refl; leaves = refl }; lists = not_done })
    and (refusal.OtherMission, refl, refl) and (refusal.Number, refl, refl) and (refusal.Number, refl, refl)
    and sample_reported and (_, refl, refl) and (_, refl, refl) and refl and tt
