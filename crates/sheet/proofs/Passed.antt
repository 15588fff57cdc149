-- Where the walk over a sheet's records stands.
--   Passed          so many curves end at `at`, and what is read there decides the rest; where the curve of the number stands
--   rest-is         what is left at a place, as the code takes it
--   passed_none     at the start
--   walked-long     of a sheet that is too long
--   farther         a record goes on, and not past the sheet's end
--   passed_here, passed_past, passed_other   after a further record: the curve of the number, another curve, or no curve
--   sound-here, fault_here     what the sheet's end or a fault at this place says of the whole
use mathlib.Core.Path.{◌≡◌, refl, sym, ap, ◌∙◌}
use mathlib.Core.Bool.{Bool, true, false}
use mathlib.Core.List.{List, [], ◌∷◌, ◌++◌, append_assoc, append-nil}
use Prim.Native.Nat.{ℕ, suc, ◌+◌, ◌-◌, ◌≤◌, ◌<◌}
use native.Mathlib.Omega.{arith}
use lib.ListN.{length, take, drop, length-append, length-drop}
use lib.Seq.{take_all, drop-drop}
use Rattle.refusal.specs.declared.Refusal.TheVariants as refusal
use Rattle.refusal.specs.declared.Fault.{Fault}
use Rattle.refusal.specs.Answers.{given, with_given, when◌then◌else◌}
use Rattle.record.specs.declared.kinds.Kind.{Kind}
use Rattle.std.specs.Prelude.{Option, Some, None, Ok, Err}
use Rattle.record.specs.Kinds.{row_of}
use Rattle.record.specs.Records.{longest, step_of}
use Rattle.record.proofs.Shown.{step-whole}
use Rattle.sheet.specs.Survey.{Ending, Entry, Survey, entry_at, nothing, before, survey_of, curves, nth}
use Rattle.sheet.specs.declared.Location.{Location}
use Rattle.sheet.specs.Promise.{place_of}
use Rattle.sheet.specs.Walks.{asked_for, Walks}
use Rattle.sheet.proofs.Surveys.{behind, reads, reads_ends, reads_fault, reads_record, survey-long, survey_short}
use Rattle.sheet.proofs.Standing.{curves-append, nth_last, nth_other}
use Rattle.record.specs.declared.steps.Slip.{Slip}

behind-one : (es : List Entry) (e : Entry) (v : Survey) → behind es (before e v) ≡ behind (es ++ (e ∷ [])) v
behind-one es e v = ap (λ (fs : List Entry). record { records = fs; end = v.end; ending = v.ending }) (sym (append_assoc es (e ∷ []) v.records))

-- `records` are those that were passed
pub record Passed (s : List ℕ) (first : Bool) (number : ℕ) (now_first : Bool) (at count : ℕ) (asked : Option Location) : Type 0 where
  pub records : List Entry
  pub ahead : reads first 0 s ≡ behind records (reads now_first at (drop at s))
  pub room : at ≤ length s
  pub count_is : count ≡ length (curves records)
  pub few : count ≤ at
  pub asked_is : asked_for asked ≡ with_given place_of (nth number (curves records))

pub passed_none : (s : List ℕ) (first : Bool) (number : ℕ) → Passed s first number first 0 0 None
passed_none s first number = record { records = []; ahead = refl; room = omega arith; count_is = refl; few = omega arith; asked_is = refl }

pub walked-long : (s : List ℕ) (first : Bool) (number : ℕ) {f : Fault} → longest < length s → f ≡ record { refusal = refusal.TooLong; place = 0 } →
    Walks s first number (record { curves = 0; end = 0; asked = None; ending = Err f })
walked-long s first number l g =
    let e = survey-long first s l in
    record {
      curves_is = sym (ap (λ (v : Survey). length (curves v.records)) e);
      end_is = sym (ap (λ (v : Survey). v.end) e);
      ending_is = ap Err g ∙ sym (ap (λ (v : Survey). v.ending) e);
      end_fits = omega arith;
      asked = sym (ap (λ (v : Survey). with_given place_of (nth number (curves v.records))) e);
    }

-- what is left at a place, as the code takes it
pub rest-is : (s : List ℕ) (at : ℕ) → take (length s - at) (drop at s) ≡ drop at s
rest-is s at = take_all (length s - at) (drop at s) (omega (arith, length-drop at s))

module _ {s : List ℕ} {first : Bool} {number : ℕ} {now_first : Bool} {at count : ℕ} {asked : Option Location} (p : Passed s first number now_first at count asked) where
  walked_as : (how : Ending) → length s ≤ longest → reads now_first at (drop at s) ≡ nothing at how → Walks s first number (record { curves = count; end = at; asked = asked; ending = how })
  walked_as how l e =
      let v : survey_of first s ≡ record { records = p.records; end = at; ending = how } =
      survey_short first s l ∙ p.ahead ∙ ap (behind p.records) e ∙ ap (λ (es : List Entry). record { records = es; end = at; ending = how }) (append-nil p.records)
      in
      record {
        curves_is = p.count_is ∙ sym (ap (λ (v : Survey). length (curves v.records)) v);
        end_is = sym (ap (λ (v : Survey). v.end) v);
        ending_is = sym (ap (λ (v : Survey). v.ending) v);
        end_fits = p.room;
        asked = p.asked_is ∙ sym (ap (λ (v : Survey). with_given place_of (nth number (curves v.records))) v);
      }

  pub sound-here : length s ≤ longest → step_of now_first (drop at s) ≡ Ok None → Walks s first number (record { curves = count; end = at; asked = asked; ending = Ok tt })
  sound-here l e = walked_as (Ok tt) l (reads_ends now_first at (drop at s) e)

  pub fault_here : length s ≤ longest → {slip : Slip} → step_of now_first (drop at s) ≡ Err slip →
      Walks s first number (record { curves = count; end = at; asked = asked; ending = Err (record { refusal = slip.refusal; place = at + slip.offset }) })
  fault_here l {slip} e = walked_as (Err (record { refusal = slip.refusal; place = at + slip.offset })) l (reads_fault now_first at (drop at s) e)

  module _ (k : Kind) (e : step_of now_first (drop at s) ≡ Ok (Some k)) where
    abbrev size : ℕ
    size = (row_of k).size

    abbrev here : Entry
    here = entry_at at (drop at s) k

    pub farther : (0 < size) × (at + size ≤ length s)
    farther = let w = step-whole now_first (drop at s) k e in (omega (arith, w.1), omega (arith, w.2, length-drop at s, p.room))

    -- with the record behind, whatever was asked for
    passed_with : (count' : ℕ) (asked' : Option Location) → count' ≤ count + 1 → count' ≡ length (curves (p.records ++ (here ∷ []))) →
        asked_for asked' ≡ with_given place_of (nth number (curves (p.records ++ (here ∷ [])))) → Passed s first number false (at + size) count' asked'
    passed_with count' asked' f c a =
        record {
          records = p.records ++ (here ∷ []);
          ahead =
              p.ahead ∙ ap (behind p.records) (reads_record now_first at (drop at s) k e)
              ∙ behind-one p.records here (reads false (at + size) (drop size (drop at s)))
              ∙ ap (λ (rest : List ℕ). behind (p.records ++ (here ∷ [])) (reads false (at + size) rest)) (drop-drop size at s);
          room = farther.1;
          count_is = c;
          few = omega (arith, p.few, f, farther.0);
          asked_is = a;
        }

    one_more : (row_of k).curve ≡ true → curves (p.records ++ (here ∷ [])) ≡ curves p.records ++ (here ∷ [])
    unfolding when◌then◌else◌
    one_more c = curves-append p.records (here ∷ []) ∙ ap (λ (b : Bool). curves p.records ++ (when b then here ∷ [] else [])) c

    none_more : (row_of k).curve ≡ false → curves (p.records ++ (here ∷ [])) ≡ curves p.records
    unfolding when◌then◌else◌
    none_more c = curves-append p.records (here ∷ []) ∙ ap (λ (b : Bool). curves p.records ++ (when b then here ∷ [] else [])) c ∙ append-nil (curves p.records)

    counted : (row_of k).curve ≡ true → count + 1 ≡ length (curves (p.records ++ (here ∷ [])))
    counted c = omega (arith, p.count_is, ap length (one_more c), length-append (curves p.records) (here ∷ []))

    pub passed_here : (row_of k).curve ≡ true → count + 1 ≡ number → Passed s first number false (at + size) (count + 1) (Some (record { place = at; length = size }))
    passed_here c n =
        let m : number ≡ suc (length (curves p.records)) = omega (arith, p.count_is) in
        let is : nth number (curves (p.records ++ (here ∷ []))) ≡ _ = ap (λ (es : List Entry). nth number es) (one_more c) ∙ ap (λ (n : ℕ). nth n (curves p.records ++ (here ∷ []))) m ∙ nth_last (curves p.records) here in
        passed_with (count + 1) (Some (record { place = at; length = size })) (omega arith) (counted c)
        (ap (λ (n : ℕ). given (record { place = at; length = n })) (sym (step-whole now_first (drop at s) k e).0.long) ∙ ap (with_given place_of) (sym is))

    pub passed_past : (row_of k).curve ≡ true → (count + 1 ≡ number → ⊥) → Passed s first number false (at + size) (count + 1) asked
    passed_past c n =
        let is : nth number (curves (p.records ++ (here ∷ []))) ≡ nth number (curves p.records) =
        ap (λ (es : List Entry). nth number es) (one_more c) ∙ nth_other number (curves p.records) here (λ m. n (omega (arith, p.count_is)))
        in
        passed_with (count + 1) asked (omega arith) (counted c) (p.asked_is ∙ ap (with_given place_of) (sym is))

    pub passed_other : (row_of k).curve ≡ false → Passed s first number false (at + size) count asked
    passed_other c =
        let same = none_more c in
        passed_with count asked (omega arith) (p.count_is ∙ sym (ap length same)) (p.asked_is ∙ sym (ap (λ (es : List Entry). with_given place_of (nth number es)) same))
