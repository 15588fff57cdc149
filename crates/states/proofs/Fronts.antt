-- The state of bytes that are not too long, and the bytes that it has of what stands behind their records.
--   mission_found     the number of the mission that is found in bytes
--   state-long, state_short   the state of bytes, by how many they are
--   state_flag       it says whether they have ended
--   take-over        the first of two lists one behind the other
--   front_of         the bytes of a state are the first of what stands behind the records
--   joined_of        and together with a part the first of that and the part
--   first-listed, first_of, mission_of_lem   the first byte stands behind no records, and the mission of a state is that of its bytes
--   curves-within    there are no more curves than bytes of records
--   seven-words, held-long   how many words and bytes a state has.      joined-long   how many they are with a part
--   starts_some, starts_none, some_starts    whether the records of some bytes end behind their start, by the first step
--   starts_later     a record that the front does not have ends behind the front
use mathlib.Core.Path.{◌≡◌, refl, sym, ap, ◌∙◌}
use mathlib.Core.Bool.{Bool, true, false}
use mathlib.Core.List.{List, [], ◌∷◌, ◌++◌, append-nil}
use mathlib.Core.Logic.{inl, inr}
use Prim.Native.Nat.{ℕ, suc, ◌+◌, ◌-◌, ◌≤◌, ◌<◌, min}
use native.Mathlib.Omega.{arith}
use lib.Dec.{eqb}
use lib.ListN.{length, take, drop, length-append, length-take}
use lib.Seq.{take_all, take-append-le, take-append-add}
use borrow.Author.Tests.{lt-ltb, le-ltb, eq-eqb, ne_eqb}
use Rattle.refusal.specs.Answers.{when◌then◌else◌}
use Rattle.refusal.proofs.Answers.{by_order}
use Rattle.record.specs.Numbers.{AllBytes}
use Rattle.record.specs.Kinds.{row_of, longest_record}
use Rattle.record.specs.Records.{Step, longest, step_of}
use Rattle.record.specs.declared.kinds.Kind.{Kind}
use Rattle.std.specs.Prelude.{Some, None, Ok, Err}
use Rattle.record.proofs.Table.{row-known}
use Rattle.record.proofs.Words.{all_take}
use Rattle.record.proofs.Front.{record_within}
use Rattle.sheet.specs.Survey.{Entry, Survey, entry_at, before, survey_of, survey, mission_of}
use Rattle.sheet.specs.Promise.{count_of}
use Rattle.sheet.proofs.Surveys.{reads, reads_ends, reads_fault, reads_record, reads_stops, survey_short, flat, Listed, first_after, sheet_parts}
use Rattle.sheet.proofs.Moved.{moved, reads-moved}
use Rattle.states.specs.declared.State.{State}
use Rattle.states.specs.Words.{packed, unpacked}
use Rattle.states.specs.States.{number, mission_number, keeping, state_of, IsOf}
use Rattle.states.specs.Steps.{held_in, front_in, joined, RecordsEnd, Fronted}
use Rattle.states.proofs.Packed.{packed-long, unpacked-long, packed-back}

abbrev pub mission_found : List ℕ → ℕ
mission_found s = mission_number (mission_of (survey s).records)

module _ (s : List ℕ) (ended : Bool) where
  pub state-long : longest < length s → state_of s ended ≡ keeping ended (suc longest) 0 0 0 []
  unfolding state_of when◌then◌else◌
  state-long l = rw (lt-ltb _ _ l)

  pub state_short : length s ≤ longest → state_of s ended ≡ keeping ended (length s) (mission_found s) (count_of (survey s).records) (survey s).end (drop (survey s).end s)
  unfolding state_of when◌then◌else◌
  state_short l = rw (le-ltb _ _ l)

pub state_flag : (st : State) (s : List ℕ) (ended : Bool) → IsOf st s ended → st.ended ≡ number ended
state_flag st s ended h =
    by_order (length s) longest
    (λ l. ap (λ (x : State). x.ended) (h.is ∙ state_short s ended l))
    (λ l. ap (λ (x : State). x.ended) (h.is ∙ state-long s ended l))

pub take-over : (n h : ℕ) (a b : List ℕ) → h ≡ min (length a) n → take n (a ++ b) ≡ take n a ++ take (n - h) b
take-over n h a b e =
    by_order n (length a)
    (λ l.
    let z : n - h ≡ 0 = omega arith in
    take-append-le n a b l ∙ sym (append-nil (take n a)) ∙ ap (λ (k : ℕ). take n a ++ take k b) (sym z))
    (λ l.
    let m : n ≡ length a + (n - h) = omega arith in
    ap (λ (k : ℕ). take k (a ++ b)) m ∙ take-append-add a b (n - h) ∙ ap (λ (x : List ℕ). x ++ take (n - h) b) (sym (take_all n a (omega arith))))

module _ (ended : Bool) (count mission curves place : ℕ) (rest : List ℕ) (long : length rest ≡ count - place) (bytes : AllBytes rest) where
  abbrev kept : State
  kept = keeping ended count mission curves place rest

  front_long : length (take longest_record rest) ≡ held_in kept
  front_long = length-take longest_record rest ∙ omega arith

  pub front_of : front_in kept ≡ take longest_record rest
  front_of =
      ap (λ (n : ℕ). take n (unpacked (packed (take longest_record rest)))) (sym front_long)
      ∙ packed-back (take longest_record rest) (all_take longest_record rest bytes) (omega (arith, front_long))

  pub joined_of : (part : List ℕ) → joined kept part ≡ take longest_record (rest ++ part)
  joined_of part =
      ap (λ (f : List ℕ). f ++ take (longest_record - held_in kept) part) front_of
      ∙ sym (take-over longest_record (held_in kept) rest part (omega arith))

-- ---- the first byte

pub first-listed : (es : List Entry) {end : ℕ} → Listed true 0 es → end ≡ length (flat es) → first_after true es ≡ eqb end 0
first-listed [] {end} w q = sym (eq-eqb end 0 q)
first-listed (e ∷ es) {end} w q = sym (ne_eqb end 0 (λ z. omega (arith, length-append e.bytes (flat es), w.2.long, (row-known e.kind).long)))

pub first_of : (s : List ℕ) → length s ≤ longest → first_after true (survey s).records ≡ eqb (survey s).end 0
first_of s l = let p = sheet_parts true s l in first-listed (survey s).records p.listed (p.end_is ∙ omega arith)

pub mission_of_lem : (s : List ℕ) → length s ≤ longest → (when eqb (survey s).end 0 then None else Some (mission_found s)) ≡ mission_of (survey s).records
unfolding when◌then◌else◌
mission_of_lem s l = ap (λ (b : Bool). when b then None else Some (mission_found s)) (sym (first_of s l)) ∙ by (survey s).records
  where
    by : (es : List Entry) → (when first_after true es then None else Some (mission_number (mission_of es))) ≡ mission_of es
    by [] = refl
    by (e ∷ es) = refl

pub curves-within : (curves place : ℕ) → RecordsEnd curves place → curves ≤ place
curves-within curves place (inl h) = omega (arith, h.1)
curves-within curves place (inr h) = omega (arith, h.0, h.1.all, h.1.long_is)

pub seven-words : (st : State) → Fronted st → length st.words ≡ 7
seven-words st f = ap length f.words_are ∙ packed-long (front_in st)

module _ (st : State) (seven : length st.words ≡ 7) where
  pub held-long : length (front_in st) ≡ held_in st
  held-long = length-take (held_in st) (unpacked st.words) ∙ omega (arith, unpacked-long st.words, seven)

  pub joined-long : (part : List ℕ) → length (joined st part) ≡ min (held_in st + length part) longest_record
  joined-long part =
      omega (
        arith,
        length-append (front_in st) (take (longest_record - held_in st) part),
        held-long,
        length-take (longest_record - held_in st) part,
      )

-- ---- whether a record stands at the start

pub starts_some : (first : Bool) (s : List ℕ) (k : Kind) → length s ≤ longest → step_of first s ≡ Ok (Some k) → (row_of k).size ≤ (survey_of first s).end
starts_some first s k l e =
    let size = (row_of k).size in
    let rest = drop size s in
    let found : survey_of first s ≡ before (entry_at 0 s k) (moved size (reads false 0 rest)) =
    survey_short first s l ∙ reads_record first 0 s k e ∙ ap (before (entry_at 0 s k)) (ap (λ (n : ℕ). reads false n rest) (omega arith) ∙ reads-moved false size 0 rest)
    in
    omega (arith, ap (λ (v : Survey). v.end) found)

pub starts_none : (first : Bool) (s : List ℕ) → length s ≤ longest → ((k : Kind) → step_of first s ≡ Ok (Some k) → ⊥) → (survey_of first s).end ≡ 0
starts_none first s l none = ap (λ (v : Survey). v.end) (survey_short first s l) ∙ (reads_stops first 0 s none).1

pub some_starts : (first : Bool) (s : List ℕ) → length s ≤ longest → ((survey_of first s).end ≡ 0 → ⊥) → (k : Kind) × (step_of first s ≡ Ok (Some k))
some_starts first s l some = by (step_of first s) refl
  where
    by : (x : Step) → step_of first s ≡ x → (k : Kind) × (step_of first s ≡ Ok (Some k))
    by (Ok None) e = absurd (some (ap (λ (v : Survey). v.end) (survey_short first s l ∙ reads_ends first 0 s e)))
    by (Err slip) e = absurd (some (ap (λ (v : Survey). v.end) (survey_short first s l ∙ reads_fault first 0 s e)))
    by (Ok (Some k)) e = (k, e)

pub starts_later : (first : Bool) (front more : List ℕ) → length (front ++ more) ≤ longest → (survey_of first front).end ≡ 0 → ((survey_of first (front ++ more)).end ≡ 0 → ⊥)
    → length front < (survey_of first (front ++ more)).end
starts_later first front more l none some =
    let (k, starts) = some_starts first (front ++ more) l some in
    by_order (row_of k).size (length front)
    (λ m. absurd (omega (
      arith,
      none,
      starts_some first front k (omega (arith, length-append front more)) (record_within first front more k starts m),
      (row-known k).long,
    )))
    (λ m. omega (arith, m, starts_some first (front ++ more) k l starts))
