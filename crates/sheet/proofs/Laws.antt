-- What follows from the promises: how the calls agree with one another.
--   Refuses          an answer of `read` that is a refusal
--   find-read        `find` gives an empty part where `read` refuses, and otherwise the part whose points `read` gives
--   numbered_in_range   the points of a curve that has a number are in range
--   other_mission, no_curve, no_mission, no_room   the causes of OTHER MISSION, NUMBER, NO MISSION and ROOM
--   read_order       on a sound sheet read refuses OTHER MISSION exactly where the sheet is for another, and else NUMBER exactly where no curve has the number
--   append_order     on a sound sheet append refuses NO MISSION exactly where it has none, else RANGE exactly where a point is out of range, and else
--                    ROOM exactly where the tail is too short
--   append-listed    after append the sheet has the old records and then the curve's
--   append-mission   and the old mission
--   read_back        so reading the last number gives the appended points back, and
--   read_old         every other number is read as before
use mathlib.Core.Path.{◌≡◌, refl, sym, ap, ◌∙◌, subst}
use mathlib.Core.Bool.{true, false, not, true≢false}
use mathlib.Core.Logic.{◌↔◌, ◌⊎◌, inl, inr, ⊎_elim}
use mathlib.Core.List.{List, [], ◌∷◌, ◌++◌}
use Prim.Native.Nat.{ℕ, zero, suc, ◌+◌, ◌-◌, ◌/◌, ◌≤◌, ◌<◌}
use native.Mathlib.Omega.{arith}
use lib.ListN.{length}
use borrow.Author.Tests.{not-true, not-false, eqb-true, eqb-false, eq-eqb, ltb-true, ltb-false}
use Rattle.refusal.specs.declared.Refusal.TheVariants as refusal
use Rattle.refusal.specs.declared.Fault.{Fault}
use Rattle.refusal.specs.Table.{Cause, First}
use Rattle.refusal.specs.Answers.{Answer, refused, given, refuse, number_of_answer, then_given, with_given, answer_at, when◌then◌else◌}
use Rattle.refusal.proofs.Answers.{by_test, no_answer, given_once}
use Rattle.curve.specs.declared.Curve.{Curve}
use Rattle.curve.specs.Curves.{points_of, InRange}
use Rattle.curve.specs.Promise.{out_of_range}
use Rattle.record.specs.Numbers.{coordinates, paired}
use Rattle.record.specs.Kinds.{row_of, words, kind_of, numbers_of, record_of, points_in}
use Rattle.record.specs.Records.{all_within}
use Rattle.record.specs.Promise.{putting_at}
use Rattle.record.proofs.Table.{row-known}
use Rattle.record.proofs.Formed.{record_points, range_is, range_paired}
use Rattle.std.specs.Prelude.{Option, Some, None, Result, Ok, Err}
use Rattle.sheet.specs.Survey.{Entry, Survey, survey, soundly, curves, nth, numbered, mission_of, is_other, chosen}
use Rattle.sheet.specs.Promise.{points_of_entry, part, appending_to, appending, Reads, Finds}
use Rattle.sheet.proofs.Surveys.{end-within}
use Rattle.sheet.proofs.Standing.{nth_last, nth_other, numbered-sound, numbered_of, entry_long}
use Rattle.sheet.proofs.Missions.{chosen-sound, chosen-own, chosen-numbered}
use Rattle.sheet.proofs.Changed.{appending_to_lem, appending-sound}
use Rattle.sheet.proofs.Appended.{entry_of, survey_after, curves-one}

-- ---- find and read

abbrev pub Refuses : Result Curve Fault → Type 0
Refuses (Ok c) = ⊥
Refuses (Err f) = Unit {0}

pub find-read :
    (s : List ℕ) (expected number : ℕ) (r : Result Curve Fault) (x : List ℕ) → Reads s expected number r → Finds s expected number x →
    ((x ≡ []) ↔ Refuses r) × ((c : Curve) → r ≡ Ok c → points_of c ≡ points_in x)
find-read s expected number r x = go r (chosen expected number s) refl
  where
    go :
        (r : Result Curve Fault) (a : Answer Entry) → chosen expected number s ≡ a → with_given points_of (answer_at r) ≡ with_given points_of_entry a → x ≡ part a →
        ((x ≡ []) ↔ Refuses r) × ((c : Curve) → r ≡ Ok c → points_of c ≡ points_in x)
    go (Ok c) (refused f) q e p = no_answer e
    go (Ok c) (given y) q e p =
        let long = entry_long (numbered_of s number (chosen-numbered s expected number q).0).stands in
        ((λ z. let l : length y.bytes ≡ 0 = ap length (sym p ∙ z) in omega arith, λ z. absurd z), λ d z. let same : c ≡ d = cc in ap points_of (sym same) ∙ given_once e ∙ ap points_in (sym p))
    go (Err f) (refused g) q e p = ((λ _. tt, λ _. p), λ d z. let n : ◌≡◌ {A = ℕ} 0 1 = cc in absurd (omega arith))
    go (Err f) (given y) q e p = no_answer (sym e)

pub numbered_in_range : (s : List ℕ) (number : ℕ) {e : Entry} → numbered number s ≡ given e → InRange (points_of_entry e)
unfolding points_in
numbered_in_range s number {e} q =
    let h = numbered_of s number q in
    let w = h.stands.whole in
    let many : (length e.bytes - 4) / 4 ≡ words e.kind = omega (arith, w.long, (row-known e.kind).curve_holds h.curve) in
    subst (λ (n : ℕ). InRange (paired (coordinates n e.bytes 4))) (sym many) (range_paired (coordinates (words e.kind) e.bytes 4) w.here.range)

-- ---- what read and append refuse on a sound sheet

-- a header with another number
abbrev pub other_mission : ℕ → Option ℕ → Cause
other_mission expected own = record { refusal = refusal.OtherMission; holds = (m : ℕ) × (own ≡ Some m) × (m ≡ expected → ⊥) }

-- no curve of that number
abbrev pub no_curve : ℕ → List Entry → Cause
no_curve number es = record { refusal = refusal.Number; holds = (number ≡ 0) ⊎ (length es < number) }

nth_order : (number : ℕ) (es : List Entry) → First (no_curve number es ∷ []) (number_of_answer (nth number es))
nth_order zero [] = inl (inl refl, refl)
nth_order (suc k) [] = inl (inr (omega arith), refl)
nth_order zero (e ∷ es) = inl (inl refl, refl)
nth_order (suc zero) (e ∷ es) = inr (⊎_elim (λ q. omega arith) (λ l. omega arith), refl)
nth_order (suc (suc k)) (e ∷ es) =
    ⊎_elim
    (λ h. inl (⊎_elim (λ q. absurd (omega arith)) (λ l. inr (omega arith)) h.0, h.1))
    (λ h. inr (⊎_elim (λ q. absurd (omega arith)) (λ l. h.0 (inr (omega arith))), h.1))
    (nth_order (suc k) es)

-- the mission decides first
mission_order : (expected : ℕ) (own : Option ℕ) (cs : List Cause) (a : Answer Entry) → First cs (number_of_answer a)
    → First (other_mission expected own ∷ cs) (number_of_answer (when is_other expected own then refuse refusal.OtherMission 0 else a))
unfolding when◌then◌else◌
mission_order expected None cs a h = inr ((λ x. let z : ◌≡◌ {A = ℕ} 0 1 = cc x.1 in omega arith), h)
mission_order expected (Some m) cs a h =
    by_test (λ (b : Answer Entry). First (other_mission expected (Some m) ∷ cs) (number_of_answer b)) _
    (λ o. inl ((m, refl, eqb-false _ _ (not-true _ o)), refl))
    (λ o. inr ((λ x. let same : m ≡ x.0 = cc x.1 in x.2 (sym same ∙ eqb-true _ _ (not-false _ o))), h))

-- nothing but FF
abbrev pub no_mission : Option ℕ → Cause
no_mission own = record { refusal = refusal.NoMission; holds = own ≡ None }

-- an erased tail shorter than the record
abbrev pub no_room : List ℕ → Curve → Cause
no_room s c = record { refusal = refusal.Room; holds = length s - (survey s).end < (row_of (kind_of c)).size }

putting_order : (s : List ℕ) (c : Curve) → First (out_of_range (points_of c) ∷ no_room s c ∷ []) (number_of_answer (putting_at s (survey s).end (kind_of c) (numbers_of (points_of c))))
unfolding putting_at
putting_order s c =
    by_test Order _
    (λ w. inl ((λ r. true≢false (sym ((range_is (points_of c)).1 r) ∙ not-true _ w)), refl))
    (λ w. inr ((λ f. f ((range_is (points_of c)).0 (not-false _ w))), by_test Room _ (λ l. inl (ltb-true _ _ l, refl)) (λ l. inr ((λ h. let k : (row_of (kind_of c)).size ≤ length s - (survey s).end = ltb-false _ _ l in omega arith), refl))))
  where
    Order : Answer (List ℕ) → Type 0
    Order a = First (out_of_range (points_of c) ∷ no_room s c ∷ []) (number_of_answer a)

    Room : Answer (List ℕ) → Type 0
    Room a = First (no_room s c ∷ []) (number_of_answer a)

appending_order : (s : List ℕ) (c : Curve) (own : Option ℕ) → First (no_mission own ∷ out_of_range (points_of c) ∷ no_room s c ∷ []) (number_of_answer (appending_to s c own))
appending_order s c None = inl (refl, refl)
appending_order s c (Some m) = inr ((λ e. let z : ◌≡◌ {A = ℕ} 0 1 = cc in omega arith), putting_order s c)

module _ (s : List ℕ) (sound : (survey s).ending ≡ Ok tt) where
  abbrev own : Option ℕ
  own = mission_of (survey s).records

  pub read_order : (expected number : ℕ) → First (other_mission expected own ∷ no_curve number (curves (survey s).records) ∷ []) (number_of_answer (chosen expected number s))
  read_order expected number =
      let causes = no_curve number (curves (survey s).records) ∷ [] in
      subst (λ (a : Answer Entry). First (other_mission expected own ∷ causes) (number_of_answer a)) (sym (chosen-sound s expected number sound))
      (mission_order expected own causes (numbered number s)
      (subst (λ (a : Answer Entry). First causes (number_of_answer a)) (sym (numbered-sound s number sound)) (nth_order number (curves (survey s).records))))

  pub append_order : (c : Curve) → First (no_mission own ∷ out_of_range (points_of c) ∷ no_room s c ∷ []) (number_of_answer (appending s c))
  append_order c =
      subst (λ (a : Answer (List ℕ)). First (no_mission own ∷ out_of_range (points_of c) ∷ no_room s c ∷ []) (number_of_answer a)) (sym (appending_to_lem s c sound)) (appending_order s c own)

  -- ---- append and then read

  module _ {m : ℕ} (number_is : own ≡ Some m) (c : Curve) (t : List ℕ) (done : appending s c ≡ given t) where
    listed : (all_within (numbers_of (points_of c)) ≡ true) × (survey t ≡ record { records = (survey s).records ++ (entry_of (survey s).end c ∷ []); end = (survey s).end + length (record_of c); ending = Ok tt })
    listed = survey_after s c t sound number_is (end-within true s) (sym done ∙ appending-sound s c sound number_is)

    pub append-listed : survey t ≡ record { records = (survey s).records ++ (entry_of (survey s).end c ∷ []); end = (survey s).end + length (record_of c); ending = Ok tt }
    append-listed = listed.1

    pub append-mission : mission_of (survey t).records ≡ own
    append-mission = ap (λ (v : Survey). mission_of v.records) append-listed ∙ by (survey s).records number_is
      where
        by : (es : List Entry) → mission_of es ≡ Some m → mission_of (es ++ (entry_of (survey s).end c ∷ [])) ≡ mission_of es
        by [] e = let z : ◌≡◌ {A = ℕ} 0 1 = cc in absurd (omega arith)
        by (x ∷ es) e = refl

    sound_after : (survey t).ending ≡ Ok tt
    sound_after = ap (λ (v : Survey). v.ending) append-listed

    numbered_after : (number : ℕ) → numbered number t ≡ nth number (curves (survey s).records ++ (entry_of (survey s).end c ∷ []))
    numbered_after number =
        ap (λ (v : Survey). then_given (λ es. nth number (curves es)) (soundly v.ending v.records)) append-listed
        ∙ ap (nth number) (curves-one (survey s).records (survey s).end c)

    not_other : is_other m (mission_of (survey t).records) ≡ false
    not_other = ap (is_other m) (append-mission ∙ number_is) ∙ ap not (eq-eqb m m refl)

    pub read_back : with_given points_of_entry (chosen m (suc (length (curves (survey s).records))) t) ≡ given (points_of c)
    read_back =
        ap (with_given points_of_entry) (chosen-own t m (suc (length (curves (survey s).records))) sound_after not_other
        ∙ numbered_after (suc (length (curves (survey s).records))) ∙ nth_last (curves (survey s).records) (entry_of (survey s).end c))
        ∙ ap given (record_points c listed.0)

    pub read_old : (expected number : ℕ) → (number ≡ suc (length (curves (survey s).records)) → ⊥) → chosen expected number t ≡ chosen expected number s
    read_old expected number n =
        chosen-sound t expected number sound_after
        ∙ (λ i. when is_other expected (append-mission i) then refuse refusal.OtherMission 0 else same i)
        ∙ sym (chosen-sound s expected number sound)
      where
        same : numbered number t ≡ numbered number s
        same = numbered_after number ∙ nth_other number (curves (survey s).records) (entry_of (survey s).end c) n ∙ sym (numbered-sound s number sound)
