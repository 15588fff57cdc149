-- How many curves a sheet can have, and where and what its faults can be.
--   walked_few, curves_few, check_few   some bytes, and a sheet, have at most 113 curves, and neither the walk nor `check` counts more
--   Placed, fault_placed    LEFTOVER stands at the first byte behind the records that is not FF, every other fault where the records end
--   fault_inside            a fault stands within the bytes of a sheet that is not too long
--   fault_near              a faulty sheet's fault stands within 4,096 bytes
--   fault_number            and has one of the first six numbers of the table
use mathlib.Core.Path.{◌≡◌, refl, sym, ap, ◌∙◌, subst}
use mathlib.Core.Bool.{Bool, true, false}
use mathlib.Core.List.{List, [], ◌∷◌, ◌++◌}
use Prim.Native.Nat.{ℕ, ◌+◌, ◌*◌, ◌≤◌, zero, suc}
use native.Mathlib.Omega.{arith}
use lib.ListN.{length, length-append, drop}
use Rattle.refusal.specs.declared.Refusal.TheVariants as refusal
use Rattle.refusal.specs.declared.Fault.{Fault}
use Rattle.refusal.specs.Table.{number_of}
use Rattle.refusal.specs.Answers.{refused}
use Rattle.refusal.proofs.Answers.{by_test, by_order, no_answer, given_once, refused-back}
use Rattle.record.specs.declared.kinds.Kind.{Kind}
use Rattle.record.specs.declared.kinds.Kind.TheVariants.{Cubic}
use Rattle.std.specs.Prelude.{Option, Some, None, Ok, Err}
use Rattle.record.specs.Kinds.{row_of, kinds}
use Rattle.record.specs.Records.{Step, longest, erased_end, erased_step, kind_in, sized_step, kind_step, step_of}
use Rattle.record.proofs.Shown.{fault_near as step-near, fault_placed as step-placed}
use Rattle.record.proofs.Erased.{FirstLeft, left_behind}
use Rattle.record.proofs.Table.{row-known}
use Rattle.sheet.specs.declared.walks.Walked.{Walked}
use Rattle.sheet.specs.Survey.{Ending, Entry, Survey, survey, outcome, curves, found, survey_from, survey_of}
use Rattle.sheet.specs.declared.Checked.{Checked}
use Rattle.sheet.specs.Promise.{told_of, Checks}
use Rattle.sheet.specs.Walks.{Walks}
use Rattle.sheet.proofs.Surveys.{flat, Listed, Ended, first_after, survey-long, faulty_of, faulty_once, sheet_parts}

-- ---- how many

flat-long : (first : Bool) (at : ℕ) (es : List Entry) → Listed first at es → (row_of Cubic).size * length (curves es) ≤ length (flat es)
flat-long first at [] w = omega arith
flat-long first at (e ∷ es) w =
    let later = flat-long false (at + length e.bytes) es w.3 in
    let long = length-append e.bytes (flat es) in
    by_test (λ (l : List Entry). (row_of Cubic).size * length l ≤ length (flat (e ∷ es))) (row_of e.kind).curve
    (λ c. omega (arith, w.2.long, (row-known e.kind).curve_long c))
    (λ _. omega arith)

found_few : (first : Bool) (s : List ℕ) → length (curves (survey_of first s).records) ≤ 113
found_few first s =
    by_order (length s) longest
    (λ l.
    let p = sheet_parts first s l in
    let es = (survey_of first s).records in
    omega (arith, ap length p.parts, length-append (flat es) p.tail, flat-long first 0 es p.listed))
    (λ l. omega (arith, ap (λ (v : Survey). length (curves v.records)) (survey-long first s l)))

pub walked_few : {s : List ℕ} {first : Bool} {number : ℕ} {w : Walked} → Walks s first number w → w.curves ≤ 113
walked_few {s} {first} h = omega (arith, h.curves_is, found_few first s)

pub curves_few : (s : List ℕ) → length (curves (survey s).records) ≤ 113
curves_few s = found_few true s

pub check_few : (s : List ℕ) (c : Checked) → Checks s (Ok c) → c.curves ≤ 113
check_few s c = by (survey s).ending refl
  where
    by : (how : Ending) → (survey s).ending ≡ how → Checks s (Ok c) → c.curves ≤ 113
    by (Ok done) q h = let e : c.curves ≡ length (curves (survey s).records) = ap (λ (x : Checked). x.curves) (given_once (rw q at h)) in omega (arith, curves_few s)
    by (Err f) q h = no_answer (rw q at h)

-- ---- faults

-- a fault stands within the bytes behind the records
ended-near : (first : Bool) (at : ℕ) (tail : List ℕ) (x : Step) (f : Fault) → step_of first tail ≡ x → Ended at x (Err f) → f.place ≤ at + length tail
ended-near first at tail (Ok None) f q e = let z : ◌≡◌ {A = ℕ} 0 1 = cc in absurd (omega arith)
ended-near first at tail (Err slip) f q e = omega (arith, step-near first tail slip.refusal slip.offset q, ap (λ (x : Fault). x.place) (faulty_once e))
ended-near first at tail (Ok (Some k)) f q e = absurd e

pub fault_inside : (first : Bool) (s : List ℕ) (f : Fault) → length s ≤ longest → (survey_of first s).ending ≡ Err f → f.place ≤ length s
fault_inside first s f l e =
    let p = sheet_parts first s l in
    let v = survey_of first s in
    let now_first = first_after first v.records in
    let near = ended-near now_first v.end p.tail (step_of now_first p.tail) f refl (subst (λ (how : Ending). Ended v.end (step_of now_first p.tail) how) e p.last) in
    omega (arith, near, p.end_is, ap length p.parts, length-append (flat v.records) p.tail)

module _ (s : List ℕ) where
  fault_place : (f : Fault) → (survey s).ending ≡ Err f → f.place ≤ longest
  fault_place f e =
      by_order (length s) longest
      (λ l. omega (arith, l, fault_inside true s f l e))
      (λ l. omega (arith, ap (λ (x : Fault). x.place) (faulty_once (sym (ap (λ (v : Survey). v.ending) (survey-long true s l)) ∙ e))))

  pub fault_near : (f : Fault) → outcome s ≡ refused f → f.place ≤ longest
  fault_near f e = fault_place f (faulty_of s e)

-- ---- where it stands

abbrev pub Placed : List ℕ → ℕ → Fault → Type 0
Placed s end f = (f.refusal ≡ refusal.Leftover → FirstLeft s end f.place) × ((f.refusal ≡ refusal.Leftover → ⊥) → f.place ≡ end)

ended-placed : (first : Bool) (front tail : List ℕ) (x : Step) (f : Fault) → step_of first tail ≡ x → Ended (length front) x (Err f) → Placed (front ++ tail) (length front) f
ended-placed first front tail (Ok None) f q e = let z : ◌≡◌ {A = ℕ} 0 1 = cc in absurd (omega arith)
ended-placed first front tail (Err slip) f q e =
    let same = faulty_once e in
    let why : f.refusal ≡ slip.refusal = ap (λ (x : Fault). x.refusal) same in
    let there : f.place ≡ length front + slip.offset = ap (λ (x : Fault). x.place) same in
    let (left, first) = step-placed first tail slip.refusal slip.offset q in
    (λ l. subst (FirstLeft (front ++ tail) (length front)) (sym there) (left_behind front tail (left (sym why ∙ l))), λ n. omega (arith, there, first (λ l. n (why ∙ l))))
ended-placed first front tail (Ok (Some k)) f q e = absurd e

pub fault_placed : (s : List ℕ) (f : Fault) → Checks s (Err f) → Placed s (survey s).end f
fault_placed s f h =
    by_order (length s) longest
    (λ l.
    let p = sheet_parts true s l in
    let end : (survey s).end ≡ length (flat (survey s).records) = p.end_is ∙ omega arith in
    let first = first_after true (survey s).records in
    let last = subst (λ (how : Ending). Ended (survey s).end (step_of first p.tail) how) faulty p.last in
    let placed = ended-placed first (flat (survey s).records) p.tail (step_of first p.tail) f refl (subst (λ (n : ℕ). Ended n (step_of first p.tail) (Err f)) end last) in
    subst (λ (n : ℕ). Placed s n f) (sym end) (subst (λ (t : List ℕ). Placed t (length (flat (survey s).records)) f) (sym p.parts) placed))
    (λ l.
    let long = survey-long true s l in
    let same = faulty_once (sym faulty ∙ ap (λ (v : Survey). v.ending) long) in (
      λ q. absurd (omega (arith, ap number_of (sym q ∙ ap (λ (x : Fault). x.refusal) same))),
      λ _. ap (λ (x : Fault). x.place) same ∙ sym (ap (λ (v : Survey). v.end) long),
    ))
  where
    faulty : (survey s).ending ≡ Err f
    faulty = faulty_of s (refused-back told_of (outcome s) (sym h))

-- ---- which faults there are
abbrev FirstSix : Step → Type 0
FirstSix (Ok None) = Unit {0}
FirstSix (Err slip) = number_of slip.refusal ≤ 6
FirstSix (Ok (Some k)) = Unit {0}

sized-number : (k : Kind) (rest : List ℕ) → FirstSix (sized_step k rest)
unfolding sized_step
sized-number k rest =
    by_test FirstSix _ (λ _. omega arith) (λ _. by_test FirstSix _ (λ _. omega arith) (λ _. by_test FirstSix _ (λ _. omega arith) (λ _. tt)))

kind-number : (first : Bool) (rest : List ℕ) (n : Option Kind) → FirstSix (kind_step first rest n)
kind-number first rest (Some k) = by_test FirstSix _ (λ _. sized-number k rest) (λ _. omega arith)
kind-number first rest None = omega arith

erased-number : (rest : List ℕ) → FirstSix (erased_step rest)
unfolding erased_step erased_end
erased-number rest = by_test FirstSix _ (λ _. omega arith) (λ _. tt)

step-number : (first : Bool) (rest : List ℕ) → FirstSix (step_of first rest)
unfolding step_of
step-number first rest =
    by_test FirstSix _ (λ _. tt)
    (λ _. by_test FirstSix _ (λ _. by_test FirstSix _ (λ _. tt) (λ _. omega arith))
    (λ _. by_test FirstSix _ (λ _. erased-number rest) (λ _. by_test FirstSix _ (λ _. omega arith) (λ _. kind-number first rest (kind_in kinds rest)))))

abbrev EndsInSix : Ending → Type 0
EndsInSix (Ok done) = Unit {0}
EndsInSix (Err f) = number_of f.refusal ≤ 6

found_number : (at : ℕ) (rest : List ℕ) (later : ℕ → Survey) (x : Step) → FirstSix x → ((n : ℕ) → EndsInSix (later n).ending) → EndsInSix (found at rest later x).ending
found_number at rest later (Ok None) h k = tt
found_number at rest later (Err slip) h k = h
found_number at rest later (Ok (Some kind)) h k = k (row_of kind).size

from-number : (most : ℕ) (first : Bool) (at : ℕ) (rest : List ℕ) → EndsInSix (survey_from most first at rest).ending
unfolding survey_from
from-number zero first at rest = tt
from-number (suc most) first at rest = found_number at rest (λ (n : ℕ). survey_from most false (at + n) (drop n rest)) (step_of first rest) (step-number first rest) (λ n. from-number most false (at + n) (drop n rest))

survey-number : (s : List ℕ) → EndsInSix (survey s).ending
unfolding survey_of
survey-number s = by_test (λ (v : Survey). EndsInSix v.ending) _ (λ _. omega arith) (λ _. from-number (suc (length s)) true 0 s)

pub fault_number : (s : List ℕ) (f : Fault) → outcome s ≡ refused f → number_of f.refusal ≤ 6
fault_number s f e = subst EndsInSix (faulty_of s e) (survey-number s)
