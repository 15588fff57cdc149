-- A part more: the state of some bytes becomes that of the bytes and the part.
--   count-append, count-more   how many curves two lists of records have, and a record and a list
--   fed_is     what is made of the state and the part is the state of both
--   ended_is   the same state, ended, is that of the same bytes, ended
use mathlib.Core.Path.{◌≡◌, refl, sym, ap, ◌∙◌}
use mathlib.Core.Bool.{Bool, true, false, false≢true}
use mathlib.Core.List.{List, [], ◌∷◌, ◌++◌, append_assoc, append-nil, map}
use Prim.Native.Nat.{ℕ, suc, ◌+◌, ◌-◌, ◌*◌, ◌≤◌, ◌<◌, min}
use native.Mathlib.Omega.{arith}
use native.Mathlib.Nat.{add-zero}
use lib.Dec.{eqb}
use lib.ListN.{length, get_or, take, drop, length-append, length-take, length-drop, take-append-drop}
use lib.Seq.{get_or-take, drop-append-le, drop-append-add, drop-drop, drop_at}
use borrow.Author.Tests.{lt-ltb, le-ltb, eqb-true, eqb-false}
use Rattle.refusal.specs.Answers.{when◌then◌else◌}
use Rattle.refusal.proofs.Answers.{by_test, by_order}
use Rattle.record.specs.declared.kinds.Kind.{Kind}
use Rattle.std.specs.Prelude.{Some, Ok}
use Rattle.record.specs.Numbers.{AllBytes}
use Rattle.record.specs.Kinds.{row_of, longest_record}
use Rattle.record.specs.Records.{longest, erased_bytes, step_of}
use Rattle.record.proofs.Table.{row-known}
use Rattle.record.proofs.Words.{all_drop}
use Rattle.record.proofs.Front.{record_by_front, front_by_record, erased-append}
use Rattle.sheet.specs.Survey.{Entry, Survey, survey_of, survey, curves, mission_of}
use Rattle.sheet.specs.Promise.{count_of}
use Rattle.sheet.proofs.Surveys.{reads, reads_stops, reads-flat, survey_short, flat, behind, first_after, sheet_parts, parts_tail, no_record_behind, end-within}
use Rattle.sheet.proofs.Moved.{moved_entry, moved, reads-moved, curves-moved}
use Rattle.sheet.proofs.Standing.{curves-append}
use Rattle.sheet.proofs.Missions.{mission-at}
use Rattle.states.specs.declared.State.{State}
use Rattle.states.specs.Words.{packed}
use Rattle.states.specs.States.{mission_number, keeping, state_of, IsOf}
use Rattle.states.specs.Steps.{behind_in, erased_on, mission_on, after_records, grown, onward, fed_by, ended_in}
use Rattle.states.proofs.Fronts.{mission_found, state-long, state_short, take-over, joined_of, first_of, starts_some, starts_none, starts_later}

pub count-append : (es rs : List Entry) → count_of (es ++ rs) ≡ count_of es + count_of rs
count-append es rs = ap length (curves-append es rs) ∙ length-append (curves es) (curves rs)

pub count-more : (e : Entry) (es : List Entry) → count_of (e ∷ es) ≡ (when (row_of e.kind).curve then 1 else 0) + count_of es
unfolding when◌then◌else◌
count-more e es = by (row_of e.kind).curve
  where
    by : (b : Bool) → length (when b then e ∷ curves es else curves es) ≡ (when b then 1 else 0) + length (curves es)
    by true = omega arith
    by false = omega arith

-- the first record stays the first
mission-stays : (es rs : List Entry) → first_after true es ≡ false → mission_of (es ++ rs) ≡ mission_of es
mission-stays [] rs e = absurd (false≢true (sym e))
mission-stays (e ∷ es) rs q = refl

-- behind some records nothing is at the first byte
after_some : (first : Bool) (es : List Entry) → (length (flat es) ≡ 0 → ⊥) → first_after first es ≡ false
after_some first [] some = absurd (some refl)
after_some first (e ∷ es) some = refl

-- a part that leaves the sheet short enough
module _ (s part : List ℕ) (bytes : AllBytes s) (fits : length s + length part ≤ longest) where
  short : length s ≤ longest
  short = omega (arith, fits)

  abbrev es : List Entry
  es = (survey s).records

  abbrev place : ℕ
  place = (survey s).end

  abbrev rest : List ℕ
  rest = drop place s

  abbrev st : State
  st = keeping false (length s) (mission_found s) (count_of es) place rest

  abbrev first : Bool
  first = eqb place 0

  rest-long : length rest ≡ length s - place
  rest-long = length-drop place s

  split : s ≡ flat es ++ rest
  split =
      let p = sheet_parts true s short in
      p.parts ∙ ap (λ (t : List ℕ). flat es ++ t) (parts_tail true s short p)

  found : survey (s ++ part) ≡ behind es (reads first place (rest ++ part))
  found =
      let p = sheet_parts true s short in
      survey_short true (s ++ part) (omega (arith, length-append s part))
      ∙ ap (λ (t : List ℕ). reads true 0 (t ++ part)) split
      ∙ ap (reads true 0) (append_assoc (flat es) rest part)
      ∙ reads-flat true 0 es (rest ++ part) p.listed
      ∙ (λ i. behind es (reads (first_of s short i) (sym p.end_is i) (rest ++ part)))

  now_is : (m : ℕ) (rs : List Entry) (d : ℕ) → mission_found (s ++ part) ≡ m → (reads first place (rest ++ part)).records ≡ rs → (reads first place (rest ++ part)).end ≡ place + d
      → state_of (s ++ part) false ≡ keeping false (length s + length part) m (count_of es + count_of rs) (place + d) (drop d (rest ++ part))
  now_is m rs d own r e =
      let ends : (survey (s ++ part)).end ≡ place + d = ap (λ (v : Survey). v.end) found ∙ e in
      let counts : count_of (survey (s ++ part)).records ≡ count_of es + count_of rs =
      ap (λ (v : Survey). count_of v.records) found ∙ ap (λ (l : List Entry). count_of (es ++ l)) r ∙ count-append es rs
      in
      let left : drop (survey (s ++ part)).end (s ++ part) ≡ drop d (rest ++ part) =
      ap (λ (n : ℕ). drop n (s ++ part)) ends
      ∙ sym (drop-drop d place (s ++ part))
      ∙ ap (drop d) (drop-append-le place s part (end-within true s))
      in
      state_short (s ++ part) false (omega (arith, length-append s part))
      ∙ (λ i. keeping false (length-append s part i) (own i) (counts i) (ends i) (left i))

  -- where no record is completed
  grown-is : ((k : Kind) → step_of first (rest ++ part) ≡ Ok (Some k) → ⊥) → grown st part ≡ state_of (s ++ part) false
  unfolding grown
  grown-is none =
      let stops = reads_stops first place (rest ++ part) none in
      let own : mission_found (s ++ part) ≡ mission_found s =
      ap (λ (v : Survey). mission_number (mission_of v.records)) found
      ∙ ap (λ (l : List Entry). mission_number (mission_of (es ++ l))) stops.0
      ∙ ap (λ (l : List Entry). mission_number (mission_of l)) (append-nil es)
      in
      let erases : erased_on st part ≡ erased_bytes (rest ++ part) =
      ap (λ (n : ℕ). when eqb (erased_bytes rest) n then n + erased_bytes part else erased_bytes rest) (sym rest-long) ∙ sym (erased-append rest part)
      in
      sym (now_is (mission_found s) [] 0 own stops.0 (stops.1 ∙ omega arith)
      ∙ (λ i. record {
        ended = 0;
        count = length s + length part;
        mission = mission_found s;
        curves = add-zero (count_of es) i;
        place = add-zero place i;
        erased = sym erases i;
        words = packed (sym (joined_of false (length s) (mission_found s) (count_of es) place rest rest-long (all_drop place s bytes) part) i);
      }))

  -- the front and the part, as far as the longest record goes, and what is found there
  abbrev seen : List ℕ
  seen = take longest_record (rest ++ part)

  seen_short : length seen ≤ longest
  seen_short = omega (arith, length-take longest_record (rest ++ part))

  -- where the part completes records
  module _ (some : (survey_of first seen).end ≡ 0 → ⊥) where
    abbrev size : ℕ
    size = (survey_of first seen).end

    abbrev es₁ : List Entry
    es₁ = (survey_of first seen).records

    abbrev more : List ℕ
    more = drop (size - behind_in st) part

    abbrev es₂ : List Entry
    es₂ = (survey_of false more).records

    longer : length rest < size
    longer =
        let front = take longest_record rest in
        let held = min (length rest) longest_record in
        let there = take (longest_record - held) part in
        let both : seen ≡ front ++ there = take-over longest_record held rest part refl in
        let behind-none : (k : Kind) → step_of first rest ≡ Ok (Some k) → ⊥ =
        λ k e. no_record_behind true s short k (ap (λ (b : Bool). step_of b rest) (first_of s short) ∙ e)
        in
        let none : (survey_of first front).end ≡ 0 = starts_none first front (omega (arith, length-take longest_record rest)) (λ k e. behind-none k (record_by_front first rest k e)) in
        let later = starts_later first front there (omega (arith, ap length both, seen_short)) none (λ e. some (ap (λ (x : List ℕ). (survey_of first x).end) both ∙ e)) in
        omega (arith, later, ap (λ (x : List ℕ). (survey_of first x).end) both, end-within first seen, length-take longest_record rest, length-take longest_record (rest ++ part))

    behind_it : drop size (rest ++ part) ≡ more
    behind_it =
        let both : size ≡ length rest + (size - behind_in st) = omega (arith, longer, rest-long) in
        ap (λ (n : ℕ). drop n (rest ++ part)) both ∙ drop-append-add rest part (size - behind_in st)

    later : reads false size more ≡ moved size (survey_of false more)
    later =
        ap (λ (n : ℕ). reads false n more) (sym (add-zero size))
        ∙ reads-moved false size 0 more
        ∙ ap (moved size) (sym (survey_short false more (omega (arith, length-drop (size - behind_in st) part, fits))))

    -- what is seen stands in front of all
    whole : rest ++ part ≡ flat es₁ ++ drop size (rest ++ part)
    whole =
        let p = sheet_parts first seen seen_short in
        let long : length (flat es₁) ≡ size = sym (p.end_is ∙ omega arith) in
        let split_seen : rest ++ part ≡ flat es₁ ++ (p.tail ++ drop longest_record (rest ++ part)) =
        sym (take-append-drop longest_record (rest ++ part))
        ∙ ap (λ (x : List ℕ). x ++ drop longest_record (rest ++ part)) p.parts
        ∙ append_assoc (flat es₁) p.tail (drop longest_record (rest ++ part))
        in
        split_seen
        ∙ ap (λ (x : List ℕ). flat es₁ ++ x) (sym (ap (drop size) split_seen ∙ drop_at (flat es₁) (p.tail ++ drop longest_record (rest ++ part)) size long))

    reads_on : reads first place (rest ++ part) ≡ moved place (behind es₁ (moved size (survey_of false more)))
    reads_on =
        let p = sheet_parts first seen seen_short in
        let long : 0 + length (flat es₁) ≡ size = sym p.end_is in
        let after : first_after first es₁ ≡ false = after_some first es₁ (λ z. some (p.end_is ∙ omega arith)) in
        ap (λ (n : ℕ). reads first n (rest ++ part)) (sym (add-zero place))
        ∙ reads-moved first place 0 (rest ++ part)
        ∙ ap (moved place)
        (ap (reads first 0) whole
        ∙ reads-flat first 0 es₁ (drop size (rest ++ part)) p.listed
        ∙ (λ i. behind es₁ (reads (after i) (long i) (behind_it i)))
        ∙ ap (behind es₁) later)

    -- the header is in sight as long as there is no record before it
    own_is : mission_found (s ++ part) ≡ mission_on st seen
    own_is =
        by_test (λ (n : ℕ). mission_found (s ++ part) ≡ n) first
        (λ e.
        let z : place ≡ 0 = eqb-true place 0 e in
        let all : s ++ part ≡ rest ++ part = ap (λ (n : ℕ). drop n s ++ part) (sym z) in
        let byte : (i : ℕ) → i < longest_record → get_or (s ++ part) i 0 ≡ get_or seen i 0 =
        λ i l. ap (λ (t : List ℕ). get_or t i 0) all ∙ sym (get_or-take longest_record (rest ++ part) i 0 l)
        in
        let ends = ap (λ (v : Survey). v.end) (found ∙ ap (behind es) reads_on) in
        ap mission_number ((mission-at (s ++ part)).some (λ n. omega (arith, ends, longer))).1
        ∙ (λ i. byte 4 (omega arith) i + 256 * byte 5 (omega arith) i))
        (λ e. ap (λ (v : Survey). mission_number (mission_of v.records)) found ∙ ap mission_number (mission-stays es _ (first_of s short ∙ e)))

    after_is : after_records st (length s + length part) (mission_on st seen) (count_of es₁) size more ≡ state_of (s ++ part) false
    unfolding after_records
    after_is =
        let rs = map (moved_entry place) (es₁ ++ map (moved_entry size) es₂) in
        let counts : count_of rs ≡ count_of es₁ + count_of es₂ =
        curves-moved place (es₁ ++ map (moved_entry size) es₂)
        ∙ count-append es₁ (map (moved_entry size) es₂)
        ∙ ap (λ (n : ℕ). count_of es₁ + n) (curves-moved size es₂)
        in
        let last = (survey_of false more).end in
        let d = size + last in
        let all : count_of es + count_of rs ≡ count_of es + count_of es₁ + count_of es₂ = omega (arith, counts) in
        let ends : place + d ≡ place + size + last = omega arith in
        let left : drop d (rest ++ part) ≡ drop last more = sym (drop-drop last size (rest ++ part)) ∙ ap (drop last) behind_it in
        sym (now_is (mission_on st seen) rs d own_is (ap (λ (v : Survey). v.records) reads_on) (ap (λ (v : Survey). v.end) reads_on)
        ∙ (λ i. keeping false (length s + length part) (mission_on st seen) (all i) (ends i) (left i)))

  -- the same with what is joined in the code
  abbrev by_end : List ℕ → State
  by_end x =
      let v = survey_of first x in
      when eqb v.end 0 then grown st part
      else after_records st (length s + length part) (mission_on st x) (count_of v.records) v.end (drop (v.end - behind_in st) part)

  by_end_lem : by_end seen ≡ state_of (s ++ part) false
  by_end_lem =
      by_test (λ (x : State). x ≡ state_of (s ++ part) false) (eqb (survey_of first seen).end 0)
      (λ e. grown-is (λ k q. none (eqb-true (survey_of first seen).end 0 e) k q))
      (λ e. after_is (eqb-false (survey_of first seen).end 0 e))
    where
      none : (survey_of first seen).end ≡ 0 → (k : Kind) → step_of first (rest ++ part) ≡ Ok (Some k) → ⊥
      none z k q = omega (arith, z, starts_some first seen k seen_short (front_by_record first (rest ++ part) k q), (row-known k).long)

  going_is : fed_by st part ≡ state_of (s ++ part) false
  unfolding fed_by onward when◌then◌else◌
  going_is =
      rw (le-ltb longest (length s + length part) fits)
      (ap by_end (joined_of false (length s) (mission_found s) (count_of es) place rest rest-long (all_drop place s bytes) part) ∙ by_end_lem)

overfull-is : (st : State) (s part : List ℕ) → longest < st.count + length part → longest < length s + length part → fed_by st part ≡ state_of (s ++ part) false
unfolding fed_by when◌then◌else◌
overfull-is held s part l m = rw (lt-ltb longest (held.count + length part) l) (sym (state-long (s ++ part) false (omega (arith, length-append s part))))

pub fed_is : (st : State) (s part : List ℕ) → IsOf st s false → fed_by st part ≡ state_of (s ++ part) false
fed_is held s part h =
    by_order (length s) longest
    (λ l.
    let e = h.is ∙ state_short s false l in
    let n : held.count ≡ length s = ap (λ (x : State). x.count) e in
    by_order (length s + length part) longest
    (λ f. ap (λ (x : State). fed_by x part) e ∙ going_is s part h.bytes f)
    (λ m. overfull-is held s part (omega arith) m))
    (λ l.
    let n : held.count ≡ suc longest = ap (λ (x : State). x.count) (h.is ∙ state-long s false l) in
    overfull-is held s part (omega arith) (omega arith))

pub ended_is : (st : State) (s : List ℕ) (ended : Bool) → IsOf st s ended → ended_in st ≡ state_of s true
ended_is held s ended h =
    by_order (length s) longest
    (λ l. ap ended_in (h.is ∙ state_short s ended l) ∙ sym (state_short s true l))
    (λ l. ap ended_in (h.is ∙ state-long s ended l) ∙ sym (state-long s true l))
