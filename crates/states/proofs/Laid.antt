-- Bytes with a given state: a header and records of still curves, or no record, then the bytes that the state has, then bytes FF, then zeros.
--   lies-state    the state is that of these bytes
use mathlib.Core.Path.{◌≡◌, refl, sym, ap, ◌∙◌}
use mathlib.Core.Bool.{Bool, true}
use mathlib.Core.List.{List, [], ◌∷◌, ◌++◌, append-nil}
use mathlib.Core.Logic.{inl, inr}
use Prim.Native.Nat.{ℕ, zero, suc, ◌+◌, ◌-◌, ◌*◌, ◌<◌}
use native.Mathlib.Omega.{arith}
use lib.IntN.{pos}
use lib.ListN.{length, take, drop, replicate, length-append, length-replicate}
use lib.Seq.{take_all, take-nil, drop_at}
use lib.Dec.{eqb}
use borrow.Author.Tests.{eqb-true, eqb-false, eq-eqb}
use Rattle.refusal.specs.Answers.{when◌then◌else◌}
use Rattle.refusal.proofs.Answers.{by_test, by_order}
use Rattle.pair.specs.declared.Pair.{Pair}
use Rattle.pair.specs.Pairs.{pair, PartsWithin}
use Rattle.curve.specs.declared.Curve.{Curve}
use Rattle.curve.specs.declared.Curve.TheVariants as form
use Rattle.record.specs.declared.kinds.Kind.{Kind}
use Rattle.record.specs.declared.kinds.Kind.TheVariants as kinds
use Rattle.std.specs.Prelude.{Some, Ok}
use Rattle.record.specs.Numbers.{AllBytes}
use Rattle.record.specs.Kinds.{row_of, kind_of, header_of, record_of, longest_record}
use Rattle.record.specs.Records.{erased, erased_bytes, step_of}
use Rattle.record.proofs.Table.{row-known}
use Rattle.record.proofs.Formed.{record_long}
use Rattle.record.proofs.Headers.{header-mission}
use Rattle.record.proofs.Words.{all_append, all_take, all_replicate, all_record}
use Rattle.record.proofs.Front.{front_by_record, erased-within, erased-append, erased-replicate}
use Rattle.sheet.specs.Survey.{Entry, Survey, survey, mission_of}
use Rattle.sheet.specs.Promise.{count_of}
use Rattle.sheet.proofs.Surveys.{reads, reads-flat, reads_stops, survey_short, flat, Listed, behind}
use Rattle.sheet.proofs.Examples.{laid, laid_out, AllInRange, out_listed}
use Rattle.states.specs.declared.State.{State}
use Rattle.states.specs.Words.{packed, unpacked}
use Rattle.states.specs.States.{number, mission_number, keeping, IsOf}
use Rattle.states.specs.Steps.{first_in, behind_in, held_in, front_in, RecordsEnd, Standing}
use Rattle.states.proofs.Packed.{unpacked-bytes}
use Rattle.states.proofs.Fronts.{state_short, take-over, first-listed, seven-words, held-long, starts_some}

abbrev still : Pair
still = pair (pos 0) (pos 0)

abbrev still_cubic : Curve
still_cubic = form.Cubic (record { p0 = still; p1 = still; p2 = still; p3 = still })

abbrev still_quintic : Curve
still_quintic = form.Quintic (record { p0 = still; p1 = still; p2 = still; p3 = still; p4 = still; p5 = still })

still-within : PartsWithin 20000 still
still-within = record { re = record { size = omega arith }; im = record { size = omega arith } }

-- so many still cubics, and then so many still quintics
stills : ℕ → ℕ → List Curve
stills zero zero = []
stills zero (suc q) = still_quintic ∷ stills zero q
stills (suc c) q = still_cubic ∷ stills c q

stills_range : (c q : ℕ) → AllInRange (stills c q)
unfolding stills
stills_range zero zero = tt
stills_range zero (suc q) = ((still-within, (still-within, (still-within, (still-within, (still-within, (still-within, tt)))))), stills_range zero q)
stills_range (suc c) q = ((still-within, (still-within, (still-within, (still-within, tt)))), stills_range c q)

-- what a curve more adds to the records
module _ (at : ℕ) (c : Curve) (cs : List Curve) where
  one-count : count_of (laid at (c ∷ cs)) ≡ suc (count_of (laid (at + length (record_of c)) cs))
  unfolding when◌then◌else◌
  one-count = by c
    where
      by : (c : Curve) → count_of (laid at (c ∷ cs)) ≡ suc (count_of (laid (at + length (record_of c)) cs))
      by (form.Cubic x) = refl
      by (form.Quintic x) = refl

  one-long : length (flat (laid at (c ∷ cs))) ≡ (row_of (kind_of c)).size + length (flat (laid (at + length (record_of c)) cs))
  one-long = length-append (record_of c) (flat (laid (at + length (record_of c)) cs)) ∙ ap (λ (n : ℕ). n + length (flat (laid (at + length (record_of c)) cs))) (record_long c)

stills_count : (at c q : ℕ) → count_of (laid at (stills c q)) ≡ c + q
unfolding stills
stills_count at zero zero = refl
stills_count at zero (suc q) = one-count at still_quintic (stills zero q) ∙ omega (arith, stills_count (at + length (record_of still_quintic)) zero q)
stills_count at (suc c) q = one-count at still_cubic (stills c q) ∙ omega (arith, stills_count (at + length (record_of still_cubic)) c q)

stills_long : (at c q : ℕ) → length (flat (laid at (stills c q))) ≡ c * 36 + q * 52
unfolding stills
stills_long at zero zero = refl
stills_long at zero (suc q) = one-long at still_quintic (stills zero q) ∙ omega (arith, stills_long (at + length (record_of still_quintic)) zero q)
stills_long at (suc c) q = one-long at still_cubic (stills c q) ∙ omega (arith, stills_long (at + length (record_of still_cubic)) c q)

laid-bytes : (at : ℕ) (cs : List Curve) → AllBytes (flat (laid at cs))
laid-bytes at [] = tt
laid-bytes at (c ∷ cs) = all_append (record_of c) (flat (laid (at + length (record_of c)) cs)) (all_record c) (laid-bytes (at + length (record_of c)) cs)

-- what the header adds to the records
header-count : (m : ℕ) (cs : List Curve) → count_of (laid_out m cs) ≡ count_of (laid (row_of kinds.Header).size cs)
unfolding when◌then◌else◌
header-count m cs = refl

header-bytes : (m : ℕ) → m < 65536 → AllBytes (header_of m)
header-bytes m l = (omega arith, (omega arith, (omega arith, (omega arith, (omega arith, (omega arith, tt))))))

-- records that end where those of a state do
record Lying (st : State) : Type 0 where
  es : List Entry
  listed : Listed true 0 es
  bytes : AllBytes (flat es)
  long : length (flat es) ≡ st.place
  mission_is : mission_number (mission_of es) ≡ st.mission
  curves_are : count_of es ≡ st.curves

lying : (st : State) → Standing st → Lying st
lying st p = by p.records
  where
    by : RecordsEnd st.curves st.place → Lying st
    by (inl h) = record { es = []; listed = tt; bytes = tt; long = sym h.0; mission_is = sym (p.mission.none h.0); curves_are = sym h.1 }
    by (inr h) =
        let c = h.1.cubics in
        let q = h.1.quintics in
        let m = st.mission in
        let size = (row_of kinds.Header).size in
        let later = laid size (stills c q) in
        record {
          es = laid_out m (stills c q);
          listed = out_listed m (stills c q) (stills_range c q);
          bytes = all_append (header_of m) (flat later) (header-bytes m p.mission.two_bytes) (laid-bytes size (stills c q));
          long = omega (arith, length-append (header_of m) (flat later), stills_long size c q, h.0, h.1.long_is);
          mission_is = header-mission m;
          curves_are = header-count m (stills c q) ∙ stills_count size c q ∙ sym h.1.all;
        }

-- bytes FF and then zeros
erased_then : (a b : ℕ) → erased_bytes (replicate a erased ++ replicate b 0) ≡ a
unfolding when◌then◌else◌
erased_then a b =
    erased-append (replicate a erased) (replicate b 0)
    ∙ rw (erased-replicate a, length-replicate {A = ℕ} a erased, eq-eqb a a refl) (ap (λ (n : ℕ). a + n) (none b) ∙ omega arith)
  where
    none : (n : ℕ) → erased_bytes (replicate n 0) ≡ 0
    none zero = refl
    none (suc n) = refl

module _ (st : State) (p : Standing st) where
  abbrev front : List ℕ
  front = front_in st

  abbrev more : ℕ
  more = st.erased - longest_record

  abbrev zeros : ℕ
  zeros = behind_in st - held_in st - more

  abbrev tail : List ℕ
  tail = replicate more erased ++ replicate zeros 0

  abbrev rest : List ℕ
  rest = front ++ tail

  front_long : length front ≡ held_in st
  front_long = held-long st (seven-words st p.front)

  tail-long : length tail ≡ behind_in st - held_in st
  tail-long =
      omega (
        arith,
        length-append (replicate more erased) (replicate zeros 0),
        length-replicate {A = ℕ} more erased,
        length-replicate {A = ℕ} zeros 0,
        p.front.erased_inside,
      )

  rest-long : length rest ≡ behind_in st
  rest-long = omega (arith, length-append front tail, front_long, tail-long)

  rest-front : take longest_record rest ≡ front
  rest-front =
      take-over longest_record (held_in st) front tail (omega (arith, front_long))
      ∙ ap (λ (x : List ℕ). x ++ take (longest_record - held_in st) tail) (take_all longest_record front (omega (arith, front_long)))
      ∙ ap (λ (x : List ℕ). front ++ x) none
      ∙ append-nil front
    where
      none : take (longest_record - held_in st) tail ≡ []
      none =
          by_order longest_record (behind_in st)
          (λ l. let z : longest_record - held_in st ≡ 0 = omega arith in ap (λ (n : ℕ). take n tail) z)
          (λ l. nothing_in tail (omega (arith, tail-long)))
        where
          nothing_in : (x : List ℕ) → length x ≡ 0 → take (longest_record - held_in st) x ≡ []
          nothing_in [] e = take-nil (longest_record - held_in st)
          nothing_in (y ∷ x) e = absurd (omega arith)

  rest-erased : erased_bytes rest ≡ st.erased
  rest-erased =
      erased-append front tail
      ∙ by_test (λ (n : ℕ). n ≡ st.erased) (eqb (erased_bytes front) (length front))
      (λ e. omega (arith, eqb-true (erased_bytes front) (length front) e, erased_then more zeros, front_long, p.front.erased_is, p.front.erased_inside))
      (λ e. let n = eqb-false (erased_bytes front) (length front) e in omega (arith, erased-within front, front_long, p.front.erased_is))

  rest_stops : (k : Kind) → step_of (first_in st) rest ≡ Ok (Some k) → ⊥
  rest_stops k e =
      let here : step_of (first_in st) front ≡ Ok (Some k) = ap (step_of (first_in st)) (sym rest-front) ∙ front_by_record (first_in st) rest k e in
      omega (arith, p.front.no_record, starts_some (first_in st) front k (omega (arith, front_long)) here, (row-known k).long)

  rest-bytes : AllBytes rest
  rest-bytes =
      all_append front tail (all_take (held_in st) (unpacked st.words) (unpacked-bytes st.words))
      (all_append (replicate more erased) (replicate zeros 0) (all_replicate more erased (omega arith)) (all_replicate zeros 0 (omega arith)))

  records : Lying st
  records = lying st p

  abbrev before : List Entry
  before = records.es

  abbrev lies : List ℕ
  lies = flat before ++ rest

  lies-long : length lies ≡ st.count
  lies-long = omega (arith, length-append (flat before) rest, records.long, rest-long, p.inside)

  found : survey lies ≡ behind before (reads (first_in st) st.place rest)
  found =
      survey_short true lies (omega (arith, lies-long, p.short))
      ∙ reads-flat true 0 before rest records.listed
      ∙ (λ i. behind before (reads (first-listed before records.listed (sym records.long) i) (there i) rest))
    where
      there : 0 + length (flat before) ≡ st.place
      there = omega (arith, records.long)

  pub lies-state : (ended : Bool) → st.ended ≡ number ended → (s : List ℕ) × IsOf st s ended
  lies-state ended e =
      let stops = reads_stops (first_in st) st.place rest rest_stops in
      let all : (survey lies).records ≡ before = ap (λ (v : Survey). v.records) found ∙ ap (λ (l : List Entry). before ++ l) stops.0 ∙ append-nil before in
      let ends : (survey lies).end ≡ st.place = ap (λ (v : Survey). v.end) found ∙ stops.1 in
      let own : mission_number (mission_of (survey lies).records) ≡ st.mission = ap (λ (l : List Entry). mission_number (mission_of l)) all ∙ records.mission_is in
      let counts : count_of (survey lies).records ≡ st.curves = ap count_of all ∙ records.curves_are in
      let left : drop (survey lies).end lies ≡ rest = ap (λ (n : ℕ). drop n lies) ends ∙ drop_at (flat before) rest st.place records.long in (
        lies,
        record {
          bytes = all_append (flat before) rest records.bytes rest-bytes;
          is = sym (state_short lies ended (omega (arith, lies-long, p.short))
              ∙ (λ i. keeping ended (lies-long i) (own i) (counts i) (ends i) (left i))
              ∙ (λ i. record {
                ended = sym e i;
                count = st.count;
                mission = st.mission;
                curves = st.curves;
                place = st.place;
                erased = rest-erased i;
                words = (ap packed rest-front ∙ sym p.front.words_are) i;
              }));
        },
      )
