-- The sheet after append.
--   entry_of          the record of a curve at a place
--   ended            behind the records of a sound sheet the bytes end it
--   appended         a record written where the records end: the survey has it last
--   survey_after     so has that of the sheet that append leaves
--   append-kept_as, append_fault, append-sound   the promise of append
use mathlib.Core.Path.{◌≡◌, refl, sym, ap, ◌∙◌, subst}
use mathlib.Core.Bool.{Bool, true, false}
use mathlib.Core.List.{List, [], ◌∷◌, ◌++◌, map, map-append, append_assoc, append-nil}
use Prim.Native.Nat.{ℕ, ◌+◌, ◌≤◌}
use native.Mathlib.Omega.{arith}
use lib.ListN.{length, take, drop, length-append, length-drop}
use lib.Seq.{get_or-drop, take_at, drop-append-add}
use Rattle.refusal.specs.declared.Fault.{Fault}
use Rattle.refusal.specs.Answers.{given, with_given, when◌then◌else◌}
use Rattle.pair.specs.declared.Pair.{Pair}
use Rattle.curve.specs.declared.Curve.{Curve}
use Rattle.curve.specs.declared.Curve.TheVariants as form
use Rattle.curve.specs.Curves.{points_of}
use Rattle.record.specs.Numbers.{written}
use Rattle.record.specs.Kinds.{row_of, kind_of, numbers_of, record_of}
use Rattle.record.specs.Records.{Step, may_stand, all_within, step_of}
use Rattle.std.specs.Prelude.{Some, None, Result, Ok, Err}
use Rattle.record.proofs.Shown.{Whole, ends_erased, erased_ends}
use Rattle.record.specs.Promise.{putting_at}
use Rattle.record.proofs.Pieces.{written-long}
use Rattle.record.proofs.Formed.{record_whole, record_long, record_points}
use Rattle.record.proofs.Putting.{done_by}
use Rattle.record.proofs.Headers.{curve_may}
use Rattle.sheet.specs.Survey.{Ending, Entry, Survey, survey, soundly, curves, mission_of}
use Rattle.sheet.specs.Promise.{points_of_entry, appending, curves_in, answer_of_change, Changes, Appends}
use Rattle.sheet.proofs.Surveys.{flat, Listed, Ended, first_after, after_false, survey_of_lem, short_of, sheet_parts}
use Rattle.sheet.proofs.Standing.{curves-append}
use Rattle.sheet.proofs.Missions.{mission_after}
use Rattle.sheet.proofs.Changed.{appending-sound}

-- ---- a record more

flat-one : (es : List Entry) (e : Entry) → flat (es ++ (e ∷ [])) ≡ flat es ++ e.bytes
flat-one [] e = append-nil e.bytes
flat-one (x ∷ es) e = ap (λ (l : List ℕ). x.bytes ++ l) (flat-one es e) ∙ sym (append_assoc x.bytes (flat es) e.bytes)

listed-one : (first : Bool) (at : ℕ) (es : List Entry) (e : Entry) → Listed first at es → e.place ≡ at + length (flat es) → may_stand (first_after first es) e.kind ≡ true → Whole e.kind e.bytes
    → Listed first at (es ++ (e ∷ []))
listed-one first at [] e l p m w = (p ∙ omega arith, m, w, tt)
listed-one first at (x ∷ es) e l p m w =
    (l.0, l.1, l.2, listed-one false (at + length x.bytes) es e l.3 (omega (arith, p, length-append x.bytes (flat es))) (ap (λ (b : Bool). may_stand b e.kind) (after_false es) ∙ m) w)

-- the step behind the records of a sheet that ends soundly
pub ended : (at : ℕ) (x : Step) → Ended at x (Ok tt) → x ≡ Ok None
ended at (Ok None) e = refl
ended at (Err slip) e = let z : ◌≡◌ {A = ℕ} 0 1 = cc in absurd (omega arith)
ended at (Ok (Some k)) e = absurd e

pub appended : (s : List ℕ) (e : Entry) → (survey s).ending ≡ Ok tt → e.place ≡ (survey s).end → may_stand (first_after true (survey s).records) e.kind ≡ true → Whole e.kind e.bytes → (survey s).end + length e.bytes ≤ length s
    → survey (written s (survey s).end e.bytes) ≡ record { records = (survey s).records ++ (e ∷ []); end = (survey s).end + length e.bytes; ending = Ok tt }
appended s e sound place may w l =
    let short = short_of s sound in
    let p = sheet_parts true s short in
    let es = (survey s).records in
    let first = first_after true es in
    let x = e.bytes in
    let end : (survey s).end ≡ length (flat es) = p.end_is ∙ omega arith in
    let last : step_of first p.tail ≡ Ok None = ended (survey s).end (step_of first p.tail) (subst (λ (how : Ending). Ended (survey s).end (step_of first p.tail) how) sound p.last) in
    let front : take (survey s).end s ≡ flat es = ap (take (survey s).end) p.parts ∙ take_at (flat es) p.tail (survey s).end (sym end) in
    let back : drop ((survey s).end + length x) s ≡ drop (length x) p.tail =
    ap (drop ((survey s).end + length x)) p.parts ∙ ap (λ (n : ℕ). drop (n + length x) (flat es ++ p.tail)) end ∙ drop-append-add (flat es) p.tail (length x)
    in
    let joined : written s (survey s).end x ≡ flat (es ++ (e ∷ [])) ++ drop (length x) p.tail =
    ap (λ (l : List ℕ). l ++ (x ++ drop ((survey s).end + length x) s)) front
    ∙ ap (λ (l : List ℕ). flat es ++ (x ++ l)) back
    ∙ sym (append_assoc (flat es) x (drop (length x) p.tail))
    ∙ ap (λ (l : List ℕ). l ++ drop (length x) p.tail) (sym (flat-one es e))
    in
    survey_of_lem (written s (survey s).end x) (es ++ (e ∷ [])) (drop (length x) p.tail) (omega (arith, written-long s (survey s).end x l)) joined
    (listed-one true 0 es e p.listed (place ∙ p.end_is) may w)
    (erased_ends (first_after true (es ++ (e ∷ []))) (drop (length x) p.tail) (λ i m. get_or-drop (length x) p.tail i 0 ∙ ends_erased first p.tail last (length x + i) (omega (arith, length-drop (length x) p.tail))))
    ∙ ap (λ (n : ℕ). record { records = es ++ (e ∷ []); end = n; ending = Ok tt }) (omega (arith, ap length (flat-one es e), length-append (flat es) x, end))

-- ---- a curve more

abbrev pub entry_of : ℕ → Curve → Entry
entry_of place c = record { place = place; kind = kind_of c; bytes = record_of c }

is-curve : (c : Curve) → (row_of (kind_of c)).curve ≡ true
is-curve (form.Cubic c) = refl
is-curve (form.Quintic c) = refl

pub survey_after :
    (s : List ℕ) (c : Curve) (t : List ℕ) {m : ℕ} → (survey s).ending ≡ Ok tt → mission_of (survey s).records ≡ Some m → (survey s).end ≤ length s →
    given t ≡ putting_at s (survey s).end (kind_of c) (numbers_of (points_of c)) →
    (all_within (numbers_of (points_of c)) ≡ true) × (survey t ≡ record { records = (survey s).records ++ (entry_of (survey s).end c ∷ []); end = (survey s).end + length (record_of c); ending = Ok tt })
survey_after s c t sound own l e =
    let d = done_by s (survey s).end (kind_of c) (numbers_of (points_of c)) t e in
    let fits : (survey s).end + length (record_of c) ≤ length s = omega (arith, record_long c, d.1) in
    (d.0, ap survey d.2 ∙ appended s (entry_of (survey s).end c) sound refl (ap (λ (b : Bool). may_stand b (kind_of c)) (mission_after (survey s).records own) ∙ curve_may c) (record_whole c d.0) fits)

pub curves-one : (es : List Entry) (place : ℕ) (c : Curve) → curves (es ++ (entry_of place c ∷ [])) ≡ curves es ++ (entry_of place c ∷ [])
unfolding when◌then◌else◌
curves-one es place c = curves-append es (entry_of place c ∷ []) ∙ ap (λ (b : Bool). curves es ++ (when b then entry_of place c ∷ [] else [])) (is-curve c)

-- ---- the promise

module _ (s : List ℕ) (c : Curve) where
  -- a refusal lists nothing
  pub append-kept_as : {f : Fault} → Changes s (appending s c) s (Err f) → Appends s c s (Err f)
  append-kept_as g = record { changes = g; lists = λ d. let z : ◌≡◌ {A = ℕ} 0 1 = cc in absurd (omega arith) }

  pub append_fault : {f : Fault} → (survey s).ending ≡ Err f → Appends s c s (Err f)
  unfolding appending
  append_fault e = append-kept_as (record { says = rw e; leaves = rw e })

  module _ {m : ℕ} (sound : (survey s).ending ≡ Ok tt) (own : mission_of (survey s).records ≡ Some m) (fits : (survey s).end ≤ length s) where
    lists_new : (t : List ℕ) → given t ≡ putting_at s (survey s).end (kind_of c) (numbers_of (points_of c)) →
        curves_in t ≡ with_given (λ (old : List (List Pair)). old ++ (points_of c ∷ [])) (curves_in s)
    unfolding curves_in
    lists_new t e =
        let o = survey_after s c t sound own fits e in
        let new = entry_of (survey s).end c in
        let es = (survey s).records in
        ap (λ (v : Survey). with_given (λ es. map points_of_entry (curves es)) (soundly v.ending v.records)) o.1
        ∙ ap given (ap (map points_of_entry) (curves-one es (survey s).end c) ∙ map-append points_of_entry (curves es) (new ∷ []) ∙ ap (λ (p : List Pair). map points_of_entry (curves es) ++ (p ∷ [])) (record_points c o.0))
        ∙ sym (ap (λ (how : Ending). with_given (λ (old : List (List Pair)). old ++ (points_of c ∷ [])) (with_given (λ es. map points_of_entry (curves es)) (soundly how es))) sound)

    pub append-sound : {t : List ℕ} {r : Result (Unit {0}) Fault} → Changes s (appending s c) t r → Appends s c t r
    append-sound {t} {r} g = record { changes = g; lists = λ d. lists_new t (sym (ap (answer_of_change t) d) ∙ g.says ∙ appending-sound s c sound own) }
