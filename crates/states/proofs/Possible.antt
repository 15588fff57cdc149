-- The states of bytes are those whose numbers are possible.
--   records_end_lem        records that stand one behind another end where a header and so many curves can
--   reached_possible   the state of some bytes has possible numbers
--   short_stands       such a state of a sheet that is not too long stands
--   Small, possible_small     its numbers have 64 bits
--   possible_reached   and a state with possible numbers is that of some bytes
--   open_of, ended_of  whose bytes have not ended, or have, as its flag says
use mathlib.Core.Path.{◌≡◌, refl, sym, ap, ◌∙◌, subst}
use mathlib.Core.Bool.{Bool, true, false, false≢true}
use mathlib.Core.List.{List, [], ◌∷◌}
use mathlib.Core.Logic.{◌⊎◌, inl, inr}
use Prim.Native.Nat.{ℕ, suc, ◌+◌, ◌-◌, ◌≤◌, ◌<◌}
use native.Mathlib.Omega.{arith}
use lib.Dec.{eqb}
use lib.ListN.{length, take, drop, replicate, length-append, length-take, length-drop, length-replicate}
use Rattle.refusal.specs.Answers.{when◌then◌else◌}
use Rattle.refusal.proofs.Answers.{by_order}
use Rattle.record.specs.declared.kinds.Kind.{Kind}
use Rattle.record.specs.declared.kinds.Kind.TheVariants as kinds
use Rattle.record.specs.Numbers.{AllBytes}
use Rattle.record.specs.Kinds.{row_of, longest_record}
use Rattle.record.specs.Records.{longest, erased_bytes, may_stand, step_of}
use Rattle.record.proofs.Headers.{first-header, later_plain}
use Rattle.record.proofs.Words.{all_take, all_drop, all_replicate}
use Rattle.record.proofs.Front.{record_by_front, erased-take, erased-within}
use Rattle.std.specs.Prelude.{Option, Some, None}
use Rattle.sheet.specs.Survey.{Entry, survey_of, survey, mission_of}
use Rattle.sheet.specs.Promise.{count_of}
use Rattle.sheet.proofs.Surveys.{flat, Listed, sheet_parts, no_record_behind, end-within}
use Rattle.sheet.proofs.Missions.{mission-at, MissionSmall, mission_small}
use Rattle.states.specs.declared.State.{State}
use Rattle.states.specs.Words.{packed, unpacked}
use Rattle.states.specs.States.{number, mission_number, keeping, IsOf, Reached}
use Rattle.states.specs.Steps.{held_in, front_in, CurvesEnd, RecordsEnd, MissionFits, Fronted, Standing, Overfull, Possible}
use Rattle.states.proofs.Packed.{packed-long, unpacked-bytes, byte_at, AllSmall, packed_small}
use Rattle.states.proofs.Fronts.{mission_found, state-long, state_short, state_flag, front_of, first_of, curves-within, seven-words, starts_none}
use Rattle.states.proofs.More.{count-more}
use Rattle.states.proofs.Laid.{lies-state}

curves-end : (at : ℕ) (es : List Entry) → Listed false at es → CurvesEnd (count_of es) (length (flat es))
unfolding when◌then◌else◌
curves-end at [] l = record { cubics = 0; quintics = 0; all = refl; long_is = refl }
curves-end at (e ∷ es) l =
    let later = curves-end (at + length e.bytes) es l.3 in
    by e.kind l.1 later (count-more e es) (omega (arith, length-append e.bytes (flat es), l.2.long))
  where
    by : (k : Kind) → may_stand false k ≡ true → CurvesEnd (count_of es) (length (flat es)) → count_of (e ∷ es) ≡ (when (row_of k).curve then 1 else 0) + count_of es
        → length (flat (e ∷ es)) ≡ (row_of k).size + length (flat es) → CurvesEnd (count_of (e ∷ es)) (length (flat (e ∷ es)))
    by kinds.Header m r c n = absurd (false≢true (sym (later_plain kinds.Header m)))
    by kinds.Cubic m r c n = record { cubics = suc r.cubics; quintics = r.quintics; all = omega (arith, r.all, c); long_is = omega (arith, r.long_is, n) }
    by kinds.Quintic m r c n = record { cubics = r.cubics; quintics = suc r.quintics; all = omega (arith, r.all, c); long_is = omega (arith, r.long_is, n) }

pub records_end_lem : (es : List Entry) → Listed true 0 es → RecordsEnd (count_of es) (length (flat es))
unfolding when◌then◌else◌
records_end_lem [] l = inl (refl, refl)
records_end_lem (e ∷ es) l =
    let kind = first-header e.kind l.1 in
    let size : length e.bytes ≡ (row_of kinds.Header).size = l.2.long ∙ ap (λ (k : Kind). (row_of k).size) kind in
    let long = length-append e.bytes (flat es) in
    let none : count_of (e ∷ es) ≡ 0 + count_of es = count-more e es ∙ ap (λ (k : Kind). (when (row_of k).curve then 1 else 0) + count_of es) kind in
    let later = curves-end (0 + length e.bytes) es l.3 in
    inr (omega arith, record { cubics = later.cubics; quintics = later.quintics; all = omega (arith, none, later.all); long_is = omega (arith, later.long_is) })

mission_fits_lem : (s : List ℕ) → AllBytes s → MissionFits (mission_found s) (survey s).end
mission_fits_lem s bytes = record {
  none = λ z. ap mission_number ((mission-at s).none z);
  two_bytes = small (mission_of (survey s).records) (mission_small s (λ i. record { fits = byte_at s bytes i }));
}
  where
    small : (m : Option ℕ) → MissionSmall m → mission_number m < 65536
    small None l = omega arith
    small (Some m) l = l

number_small : (ended : Bool) → number ended ≤ 1
number_small false = omega arith
number_small true = omega arith

-- the state of bytes that are not too long
module _ (s : List ℕ) (ended : Bool) (bytes : AllBytes s) (l : length s ≤ longest) where
  abbrev rest : List ℕ
  rest = drop (survey s).end s

  abbrev st : State
  st = keeping ended (length s) (mission_found s) (count_of (survey s).records) (survey s).end rest

  abbrev first : Bool
  first = eqb (survey s).end 0

  rest-long : length rest ≡ length s - (survey s).end
  rest-long = length-drop (survey s).end s

  front-is : front_in st ≡ take longest_record rest
  front-is = front_of ended (length s) (mission_found s) (count_of (survey s).records) (survey s).end rest rest-long (all_drop (survey s).end s bytes)

  fronted : Fronted st
  fronted = record {
    words_are = ap packed (sym front-is);
    erased_inside = omega (arith, erased-within rest, rest-long);
    erased_is = sym (ap erased_bytes front-is ∙ erased-take longest_record rest);
    no_record =
        ap (λ (f : List ℕ). (survey_of first f).end) front-is
        ∙ starts_none first (take longest_record rest) (omega (arith, length-take longest_record rest))
        (λ k e. no_record_behind true s l k (ap (λ (b : Bool). step_of b rest) (first_of s l) ∙ record_by_front first rest k e));
  }

  standing : Standing st
  standing =
      let p = sheet_parts true s l in
      record {
        short = l;
        inside = end-within true s;
        mission = mission_fits_lem s bytes;
        records = subst (RecordsEnd (count_of (survey s).records)) (sym (p.end_is ∙ omega arith)) (records_end_lem (survey s).records p.listed);
        front = fronted;
      }

pub reached_possible : (st : State) → Reached st → Possible st
reached_possible held (s, ended, h) =
    by_order (length s) longest
    (λ l. subst Possible (sym (h.is ∙ state_short s ended l)) (record { flag = number_small ended; numbers = inr (standing s ended h.bytes l) }))
    (λ l. subst Possible (sym (h.is ∙ state-long s ended l)) (record { flag = number_small ended; numbers = inl refl }))

pub short_stands : (st : State) → Possible st → st.count ≤ longest → Standing st
short_stands st p l = by p.numbers
  where
    by : Overfull st ⊎ Standing st → Standing st
    by (inl o) = absurd (omega (arith, ap (λ (x : State). x.count) o))
    by (inr s) = s

pub record Small (st : State) : Type 0 where
  pub count : st.count ≤ suc longest
  pub mission : st.mission < 65536
  pub curves : st.curves ≤ suc longest
  pub place : st.place ≤ suc longest
  pub erased : st.erased ≤ suc longest
  pub seven : length st.words ≡ 7
  pub words : AllSmall st.words

pub possible_small : (st : State) → Possible st → Small st
possible_small st p = by p.numbers
  where
    by : Overfull st ⊎ Standing st → Small st
    by (inl o) = subst Small (sym o) (record {
      count = omega arith;
      mission = omega arith;
      curves = omega arith;
      place = omega arith;
      erased = omega arith;
      seven = packed-long [];
      words = packed_small [] tt;
    })
    by (inr s) = record {
      count = omega (arith, s.short);
      mission = s.mission.two_bytes;
      curves = omega (arith, curves-within st.curves st.place s.records, s.inside, s.short);
      place = omega (arith, s.inside, s.short);
      erased = omega (arith, s.front.erased_inside, s.short);
      seven = seven-words st s.front;
      words = subst AllSmall (sym s.front.words_are) (packed_small (front_in st) (all_take (held_in st) (unpacked st.words) (unpacked-bytes st.words)));
    }

flag_of : (n : ℕ) → n ≤ 1 → (b : Bool) × (n ≡ number b)
flag_of n l = by_order n 0 (λ z. (false, omega arith)) (λ z. (true, omega arith))

pub possible_reached : (st : State) → Possible st → Reached st
possible_reached st p = by p.numbers
  where
    b : (b : Bool) × (st.ended ≡ number b)
    b = flag_of st.ended p.flag

    by : Overfull st ⊎ Standing st → Reached st
    by (inl o) = (
      replicate (suc longest) 0,
      b.0,
      record {
        bytes = all_replicate (suc longest) 0 (omega arith);
        is = o ∙ (λ i. record { ended = b.1 i; count = suc longest; mission = 0; curves = 0; place = 0; erased = 0; words = packed [] })
            ∙ sym (state-long (replicate (suc longest) 0) b.0 (omega (arith, length-replicate {A = ℕ} (suc longest) 0)));
      },
    )
    by (inr s) = let w = lies-state st s b.0 b.1 in (w.0, b.0, w.1)

-- whether the bytes of a state have ended
pub open_of : (st : State) → Reached st → (st.ended ≡ 1 → ⊥) → (s : List ℕ) × IsOf st s false
open_of held (s, false, h) o = (s, h)
open_of held (s, true, h) o = absurd (o (state_flag held s true h))

pub ended_of : (st : State) → Reached st → (st.ended ≡ 0 → ⊥) → (s : List ℕ) × IsOf st s true
ended_of held (s, false, h) o = absurd (o (state_flag held s false h))
ended_of held (s, true, h) o = (s, h)
