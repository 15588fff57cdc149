-- The survey of a sheet, record by record.
--   same-bound                the bound in the definition is no bound once it is above the bytes left
--   reads                     what is found in what is left at a place
--   reads_ends, reads_fault, reads_record   what a step at the place makes of it
--   reads_stops               where no record stands, none is found
--   survey-long, survey_short the survey is TOO LONG, or what is read from place 0
--   flat                      records one after another
--   behind                    what is found behind some records
--   Listed                    whole records that stand one behind another, from a place on, each where its kind may
--   first_after, after_false   whether what stands behind some records is at the sheet's first byte: behind further ones it is not
--   Ended                     how the records end, by the step behind them
--   Parts, parts_of           what is left at a place is its records, and what stands behind them
--   reads-flat                whole records are found as they stand, and then what is behind them
--   survey_of_lem                 a sheet of whole records and an erased tail has just these
--   sound_of, faulty_of       what an outcome says of the survey.      short_of   a sound sheet is not too long
--   faulty_once               records end with one fault
--   sheet_parts               a sheet that is not too long is its records, and what stands behind them
--   parts_tail                that begins where the records end.      no_record_behind   and no record stands there
--   end-within                the records end within the sheet
use mathlib.Core.Path.{◌≡◌, refl, sym, ap, ◌∙◌, subst}
use mathlib.Core.Bool.{Bool, true, false}
use mathlib.Core.List.{List, [], ◌∷◌, ◌++◌, append_assoc, append-nil}
use Prim.Native.Nat.{ℕ, zero, suc, ◌+◌, ◌≤◌, ◌<◌}
use native.Mathlib.Omega.{arith}
use native.Mathlib.Nat.{not-suc-le-zero}
use lib.ListN.{length, take, drop, length-append, length-drop, take-append-drop}
use lib.Seq.{take_at, drop_at}
use borrow.Author.Tests.{lt-ltb, le-ltb}
use Rattle.refusal.specs.declared.Refusal.TheVariants as refusal
use Rattle.refusal.specs.declared.Fault.{Fault}
use Rattle.refusal.specs.Answers.{refused, given, when◌then◌else◌}
use Rattle.refusal.proofs.Answers.{by_order, no_answer, given_once, refused_once}
use Rattle.record.specs.declared.kinds.Kind.{Kind}
use Rattle.std.specs.Prelude.{Some, None, Ok, Err}
use Rattle.record.specs.Kinds.{row_of}
use Rattle.record.specs.Records.{Step, longest, may_stand, step_of}
use Rattle.record.proofs.Shown.{Whole, whole-step, step-whole, step_may}
use Rattle.sheet.specs.Survey.{Ending, Entry, Survey, entry_at, nothing, before, found, survey_from, survey_of, survey, soundly, outcome}
use Rattle.record.specs.declared.steps.Slip.{Slip}

unfolds : (most : ℕ) (first : Bool) (at : ℕ) (rest : List ℕ) → survey_from (suc most) first at rest ≡ found at rest (λ size. survey_from most false (at + size) (drop size rest)) (step_of first rest)
unfolding survey_from
unfolds most first at rest = refl

-- a bound above the bytes left is no bound
pub same-bound : (m n : ℕ) (first : Bool) (at : ℕ) (rest : List ℕ) → length rest < m → length rest < n → survey_from m first at rest ≡ survey_from n first at rest
same-bound zero n first at rest l k = absurd (not-suc-le-zero l)
same-bound (suc m) zero first at rest l k = absurd (not-suc-le-zero k)
same-bound (suc m) (suc n) first at rest l k = unfolds m first at rest ∙ by_step (step_of first rest) refl (λ p t. same-bound m n false p t) ∙ sym (unfolds n first at rest)
  where
    Later : ℕ → ℕ → Survey
    Later most size = survey_from most false (at + size) (drop size rest)

    by_step :
        (x : Step) → step_of first rest ≡ x → ((p : ℕ) (t : List ℕ) → length t < m → length t < n → survey_from m false p t ≡ survey_from n false p t) →
        found at rest (Later m) x ≡ found at rest (Later n) x
    by_step (Ok None) e f = refl
    by_step (Err slip) e f = refl
    by_step (Ok (Some kind)) e f =
        let w = step-whole first rest kind e in
        let size = (row_of kind).size in
        let less : length (drop size rest) < length rest = omega (arith, length-drop size rest, w.1, w.2) in
        ap (before (entry_at at rest kind)) (f (at + size) (drop size rest) (omega arith) (omega arith))

unfoldable pub reads : Bool → ℕ → List ℕ → Survey
reads first at rest = survey_from (suc (length rest)) first at rest

module _ (first : Bool) (at : ℕ) (rest : List ℕ) where
  pub reads_ends : step_of first rest ≡ Ok None → reads first at rest ≡ nothing at (Ok tt)
  unfolding reads
  reads_ends e = unfolds (length rest) first at rest ∙ rw e

  pub reads_fault : {slip : Slip} → step_of first rest ≡ Err slip → reads first at rest ≡ nothing at (Err (record { refusal = slip.refusal; place = at + slip.offset }))
  unfolding reads
  reads_fault e = unfolds (length rest) first at rest ∙ rw e

  pub reads_record : (k : Kind) → step_of first rest ≡ Ok (Some k) → reads first at rest ≡ before (entry_at at rest k) (reads false (at + (row_of k).size) (drop (row_of k).size rest))
  unfolding reads
  reads_record k e =
      let w = step-whole first rest k e in
      let size = (row_of k).size in
      let less : length (drop size rest) < length rest = omega (arith, length-drop size rest, w.1, w.2) in
      unfolds (length rest) first at rest
      ∙ rw e (ap (before (entry_at at rest k)) (same-bound (length rest) (suc (length (drop size rest))) false (at + size) (drop size rest) (omega arith) (omega arith)))

-- where no record stands, none is found
pub reads_stops : (first : Bool) (at : ℕ) (rest : List ℕ) → ((k : Kind) → step_of first rest ≡ Ok (Some k) → ⊥) → ((reads first at rest).records ≡ []) × ((reads first at rest).end ≡ at)
reads_stops first at rest n = by (step_of first rest) refl
  where
    none : {how : Ending} → reads first at rest ≡ nothing at how → ((reads first at rest).records ≡ []) × ((reads first at rest).end ≡ at)
    none e = (ap (λ (v : Survey). v.records) e, ap (λ (v : Survey). v.end) e)

    by : (x : Step) → step_of first rest ≡ x → ((reads first at rest).records ≡ []) × ((reads first at rest).end ≡ at)
    by (Ok None) e = none (reads_ends first at rest e)
    by (Err slip) e = none (reads_fault first at rest e)
    by (Ok (Some k)) e = absurd (n k e)

pub survey-long : (first : Bool) (s : List ℕ) → longest < length s → survey_of first s ≡ nothing 0 (Err (record { refusal = refusal.TooLong; place = 0 }))
unfolding survey_of when◌then◌else◌
survey-long first s l = rw (lt-ltb _ _ l)

pub survey_short : (first : Bool) (s : List ℕ) → length s ≤ longest → survey_of first s ≡ reads first 0 s
unfolding survey_of reads when◌then◌else◌
survey_short first s l = rw (le-ltb _ _ l)

-- ---- the records one after another

abbrev pub flat : List Entry → List ℕ
flat [] = []
flat (e ∷ es) = e.bytes ++ flat es

abbrev pub behind : List Entry → Survey → Survey
behind es v = record { records = es ++ v.records; end = v.end; ending = v.ending }

abbrev pub Listed : Bool → ℕ → List Entry → Type 0
Listed first at [] = Unit {0}
Listed first at (e ∷ es) = (e.place ≡ at) × (may_stand first e.kind ≡ true) × Whole e.kind e.bytes × Listed false (at + length e.bytes) es

abbrev pub first_after : Bool → List Entry → Bool
first_after first [] = first
first_after first (e ∷ es) = false

abbrev pub Ended : ℕ → Step → Ending → Type 0
Ended at (Ok None) how = how ≡ Ok tt
Ended at (Err slip) how = how ≡ Err (record { refusal = slip.refusal; place = at + slip.offset })
Ended at (Ok (Some k)) how = ⊥

pub record Parts (first : Bool) (at : ℕ) (rest : List ℕ) (v : Survey) : Type 0 where
  pub tail : List ℕ
  pub parts : rest ≡ flat v.records ++ tail
  pub listed : Listed first at v.records
  pub end_is : v.end ≡ at + length (flat v.records)
  pub last : Ended v.end (step_of (first_after first v.records) tail) v.ending

-- behind further records nothing is at the first byte
pub after_false : (es : List Entry) → first_after false es ≡ false
after_false [] = refl
after_false (e ∷ es) = refl

pub parts_of : (most : ℕ) (first : Bool) (at : ℕ) (rest : List ℕ) → length rest < most → Parts first at rest (survey_from most first at rest)
parts_of zero first at rest l = absurd (not-suc-le-zero l)
parts_of (suc most) first at rest l = subst (Parts first at rest) (sym (unfolds most first at rest)) (by_step (step_of first rest) refl (λ p t. parts_of most false p t))
  where
    Later : ℕ → Survey
    Later size = survey_from most false (at + size) (drop size rest)

    none : (how : Ending) → Ended at (step_of first rest) how → Parts first at rest (nothing at how)
    none how e = record { tail = rest; parts = refl; listed = tt; end_is = omega arith; last = e }

    by_step : (x : Step) → step_of first rest ≡ x → ((p : ℕ) (t : List ℕ) → length t < most → Parts false p t (survey_from most false p t)) → Parts first at rest (found at rest Later x)
    by_step (Ok None) q f = none (Ok tt) (rw q refl)
    by_step (Err slip) q f = none (Err (record { refusal = slip.refusal; place = at + slip.offset })) (rw q refl)
    by_step (Ok (Some k)) q f =
        let w = step-whole first rest k q in
        let size = (row_of k).size in
        let long = w.0.long in
        let h = f (at + size) (drop size rest) (omega (arith, length-drop size rest, w.1, w.2)) in
        record {
          tail = h.tail;
          parts = sym (take-append-drop size rest) ∙ ap (λ (y : List ℕ). take size rest ++ y) h.parts ∙ sym (append_assoc (take size rest) (flat (Later size).records) h.tail);
          listed = (refl, step_may first rest k q, w.0, subst (λ (n : ℕ). Listed false (at + n) (Later size).records) (sym long) h.listed);
          end_is = omega (arith, h.end_is, long, length-append (take size rest) (flat (Later size).records));
          last = subst (λ (b : Bool). Ended (Later size).end (step_of b h.tail) (Later size).ending) (after_false (Later size).records) h.last;
        }

-- whole records are found as they stand, whatever is behind them
pub reads-flat : (first : Bool) (at : ℕ) (es : List Entry) (tail : List ℕ) → Listed first at es → reads first at (flat es ++ tail) ≡ behind es (reads (first_after first es) (at + length (flat es)) tail)
reads-flat first at [] tail w = ap (λ (n : ℕ). reads first n tail) (omega arith)
reads-flat first at (x ∷ xs) tail w =
    let rest = flat xs ++ tail in
    let a : flat (x ∷ xs) ++ tail ≡ x.bytes ++ rest = append_assoc x.bytes (flat xs) tail in
    let long = w.2.long in
    let size = (row_of x.kind).size in
    let same : entry_at at (x.bytes ++ rest) x.kind ≡ x =
    λ i. record { place = sym w.0 i; kind = x.kind; bytes = take_at x.bytes rest size long i }
    in
    let back : drop size (x.bytes ++ rest) ≡ rest = drop_at x.bytes rest size long in
    let later = reads-flat false (at + length x.bytes) xs tail w.3 in
    ap (reads first at) a
    ∙ reads_record first at (x.bytes ++ rest) x.kind (whole-step first w.1 w.2 rest)
    ∙ (λ i. before (same i) (reads false (at + sym long i) (back i)))
    ∙ ap (before x) later
    ∙ ap (λ (b : Bool). behind (x ∷ xs) (reads b (at + length x.bytes + length (flat xs)) tail)) (after_false xs)
    ∙ ap (λ (n : ℕ). behind (x ∷ xs) (reads false n tail)) (omega (arith, length-append x.bytes (flat xs)))

pub survey_of_lem : (s : List ℕ) (es : List Entry) (tail : List ℕ) → length s ≤ longest → s ≡ flat es ++ tail → Listed true 0 es → step_of (first_after true es) tail ≡ Ok None
    → survey s ≡ record { records = es; end = length (flat es); ending = Ok tt }
survey_of_lem s es tail l p w e =
    let end : 0 + length (flat es) ≡ length (flat es) = omega arith in
    survey_short true s l
    ∙ ap (reads true 0) p
    ∙ reads-flat true 0 es tail w
    ∙ ap (behind es) (reads_ends (first_after true es) (0 + length (flat es)) tail e)
    ∙ (λ i. record { records = append-nil es i; end = end i; ending = Ok tt })

-- ---- what an outcome says

sound_as : (how : Ending) (es : List Entry) {rs : List Entry} → soundly how es ≡ given rs → (how ≡ Ok tt) × (es ≡ rs)
sound_as (Ok done) es e = (refl, given_once e)
sound_as (Err f) es e = no_answer (sym e)

faulty_as : (how : Ending) (es : List Entry) {f : Fault} → soundly how es ≡ refused f → how ≡ Err f
faulty_as (Ok done) es e = no_answer e
faulty_as (Err f) es e = ap Err (refused_once {A = List Entry} e)

pub sound_of : (s : List ℕ) {es : List Entry} → outcome s ≡ given es → ((survey s).ending ≡ Ok tt) × ((survey s).records ≡ es)
sound_of s = sound_as (survey s).ending (survey s).records

pub faulty_of : (s : List ℕ) {f : Fault} → outcome s ≡ refused f → (survey s).ending ≡ Err f
faulty_of s = faulty_as (survey s).ending (survey s).records

pub faulty_once : {f g : Fault} → ◌≡◌ {A = Ending} (Err f) (Err g) → f ≡ g
faulty_once e = cc

pub short_of : (s : List ℕ) → (survey s).ending ≡ Ok tt → length s ≤ longest
short_of s e =
    by_order (length s) longest (λ l. l) (λ l.
    let q : Err (record { refusal = refusal.TooLong; place = 0 }) ≡ Ok tt = sym (ap (λ (v : Survey). v.ending) (survey-long true s l)) ∙ e in
    let z : ◌≡◌ {A = ℕ} 0 1 = cc in
    absurd (omega arith))

pub sheet_parts : (first : Bool) (s : List ℕ) → length s ≤ longest → Parts first 0 s (survey_of first s)
unfolding reads
sheet_parts first s l = subst (Parts first 0 s) (sym (survey_short first s l)) (parts_of (suc (length s)) first 0 s (omega arith))

-- ---- what stands behind the records

pub parts_tail : (first : Bool) (s : List ℕ) → length s ≤ longest → (p : Parts first 0 s (survey_of first s)) → p.tail ≡ drop (survey_of first s).end s
parts_tail first s l p =
    let v = survey_of first s in
    sym (ap (drop v.end) p.parts ∙ drop_at (flat v.records) p.tail v.end (omega (arith, p.end_is)))

pub no_record_behind : (first : Bool) (s : List ℕ) → length s ≤ longest → (k : Kind) → step_of (first_after first (survey_of first s).records) (drop (survey_of first s).end s) ≡ Ok (Some k) → ⊥
no_record_behind first s l k e =
    let p = sheet_parts first s l in
    let v = survey_of first s in
    subst (λ (x : Step). Ended v.end x v.ending) (ap (step_of (first_after first v.records)) (parts_tail first s l p) ∙ e) p.last

pub end-within : (first : Bool) (s : List ℕ) → (survey_of first s).end ≤ length s
end-within first s =
    by_order (length s) longest
    (λ l.
    let p = sheet_parts first s l in
    omega (arith, p.end_is, ap length p.parts, length-append (flat (survey_of first s).records) p.tail))
    (λ l. omega (arith, ap (λ (v : Survey). v.end) (survey-long first s l)))
