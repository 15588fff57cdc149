-- `going::onward` meets its contract: by whether the part completes a record.
use mathlib.Core.Path.{◌≡◌, refl, sym, ap, ◌∙◌}
use mathlib.Core.Bool.{Bool}
use mathlib.Core.List.{List}
use Prim.Native.Nat.{ℕ, ◌+◌, ◌-◌, ◌≤◌, ◌<◌, min}
use native.Mathlib.Omega.{arith}
use lib.ListN.{length, take, drop, replicate}
use lib.Seq.{take_at, length-take-le}
use borrow.Author.Tests.{eq-eqb, ne_eqb}
use Rattle.refusal.specs.Answers.{when◌then◌else◌}
use Rattle.record.specs.Kinds.{longest_record}
use Rattle.record.specs.Records.{longest}
use Rattle.sheet.specs.declared.walks.Walked.{Walked}
use Rattle.sheet.specs.Walks.{Walks}
use Rattle.sheet.specs.Survey.{survey_of}
use Rattle.sheet.specs.Promise.{count_of}
use Rattle.sheet.proofs.Surveys.{end-within}
use Rattle.sheet.proofs.Faults.{walked_few}
use Rattle.sheet.proofs.Passed.{rest-is}
use Rattle.states.specs.declared.State.{State}
use Rattle.states.specs.Words.{packed, unpacked}
use Rattle.states.specs.Steps.{Standing, erased_on, first_in, behind_in, held_in, front_in, joined_to, joined, padded, mission_on, after_records, grown, onward}
use Rattle.states.proofs.Pieces.{packed-zeros, mission-padded, padded-all}
use Rattle.states.proofs.Fronts.{curves-within, seven-words, held-long, joined-long, starts_later}
use Rattle.states.proofs.going.onward.Goals as goal

-- what the walk is given: the bytes of the state and of the part
module _ (st : State) (part : List ℕ) (h : Standing st × (st.count + length part ≤ longest)) {held all : ℕ} {front : List ℕ}
    (held-is : held ≡ held_in st) (joined_is : front ≡ padded (joined_to (take held (unpacked st.words)) held part)) (least_is : all ≡ min (held + length part) longest_record) where
  front-is : front ≡ padded (joined st part)
  front-is = joined_is ∙ ap (λ (n : ℕ). padded (joined_to (take n (unpacked st.words)) n part)) held-is

  seven : length st.words ≡ 7
  seven = seven-words st h.0.front

  all-is : all ≡ length (joined st part)
  all-is = least_is ∙ ap (λ (n : ℕ). min (n + length part) longest_record) held-is ∙ sym (joined-long st seven part)

  front_long : length front ≡ 56
  front_long = ap length front-is ∙ padded-all (joined st part) (omega (arith, joined-long st seven part))

  all_fits : all ≡ length (take all front)
  all_fits = sym (length-take-le all front (omega (arith, front_long, all-is, joined-long st seven part)))

  seen-is : take all front ≡ joined st part
  seen-is =
      (λ i. take (all-is i) (front-is i))
      ∙ take_at (joined st part) (replicate (56 - length (joined st part)) 0) (length (joined st part)) refl

  -- the records that the walk finds end behind the bytes of the state, and within the part
  module _ {w : Walked} (walks : Walks (take all front) (first_in st) 0 w) where
    abbrev first : Bool
    first = first_in st

    abbrev seen : List ℕ
    seen = joined st part

    end_is : w.end ≡ (survey_of first seen).end
    end_is = walks.end_is ∙ ap (λ (x : List ℕ). (survey_of first x).end) seen-is

    counts-is : w.curves ≡ count_of (survey_of first seen).records
    counts-is = walks.curves_is ∙ ap (λ (x : List ℕ). count_of (survey_of first x).records) seen-is

    long_is : length seen ≡ min (held_in st + length part) longest_record
    long_is = joined-long st seven part

    within : w.end ≤ length seen
    within = omega (arith, end_is, end-within first seen)

    later : 0 < w.end → behind_in st < w.end
    later l =
        let front = front_in st in
        let past =
        starts_later first front (take (longest_record - held_in st) part) (omega (arith, long_is)) h.0.front.no_record (λ e. omega (arith, e, end_is))
        in
        omega (arith, past, held-long st seven, end_is, within, long_is)

    in_part : 0 < w.end → w.end - behind_in st ≤ length part
    in_part l = omega (arith, later l, within, long_is)

    -- with records, the state behind them
    with_records : 0 < w.end → {mission : ℕ} {r : State} → mission ≡ mission_on st front
        → r ≡ after_records st (st.count + length part) mission w.curves w.end (take (length part - (w.end - behind_in st)) (drop (w.end - behind_in st) part)) → r ≡ onward st part
    unfolding onward when◌then◌else◌
    with_records l {mission} m e =
        let count = st.count + length part in
        let some : (survey_of first seen).end ≡ 0 → ⊥ = λ q. omega (arith, q, end_is, l) in
        let own : mission ≡ mission_on st seen =
        m ∙ ap (mission_on st) front-is ∙ ap (λ (n : ℕ). when first_in st then n else st.mission) (mission-padded seen (56 - length seen))
        in
        rw (ne_eqb (survey_of first seen).end 0 some)
        (e
        ∙ ap (after_records st count mission w.curves w.end) (rest-is part (w.end - behind_in st))
        ∙ (λ i. after_records st count (own i) (counts-is i) (end_is i) (drop (end_is i - behind_in st) part)))

    -- without, the same records and a longer front
    with_none : w.end ≤ 0 → {erased : ℕ} {words : List ℕ} → erased ≡ erased_on st part → words ≡ packed front
        → record { ended = 0; count = st.count + length part; mission = st.mission; curves = st.curves; place = st.place; erased = erased; words = words } ≡ onward st part
    unfolding onward grown when◌then◌else◌
    with_none l e q =
        let none : (survey_of first seen).end ≡ 0 = omega (arith, end_is, l) in
        rw (eq-eqb (survey_of first seen).end 0 none)
        (λ i. record {
          ended = 0;
          count = st.count + length part;
          mission = st.mission;
          curves = st.curves;
          place = st.place;
          erased = e i;
          words = (q ∙ ap packed front-is ∙ packed-zeros seen (56 - length seen)) i;
        })

pub overflow_sub-w : goal.overflow_sub-w
overflow_sub-w c =
    omega (arith, later c.args.state c.args.part.now c.requires c.min-held.ensures c.joined-front.ensures c.min-all.ensures c.walk-w.ensures c.if-w-gt0.true)

pub after_records-requires : goal.after_records-requires
after_records-requires c =
    let st = c.args.state in
    let part = c.args.part.now in
    let stands = c.requires.0 in
    let inside = within st part c.requires c.min-held.ensures c.joined-front.ensures c.min-all.ensures c.walk-w.ensures in
    let long = long_is st part c.requires c.min-held.ensures c.joined-front.ensures c.min-all.ensures c.walk-w.ensures in (
      omega (arith, curves-within st.curves st.place stands.records, stands.inside, stands.short),
      omega (arith, stands.inside, stands.short),
      omega (arith, walked_few c.walk-w.ensures),
      omega (arith, inside, long),
    )

pub returns-then-w-gt0 : goal.returns-then-w-gt0
returns-then-w-gt0 c =
    with_records c.args.state c.args.part.now c.requires c.min-held.ensures c.joined-front.ensures c.min-all.ensures c.walk-w.ensures c.if-w-gt0.true
    c.mission_on-mission.ensures c.after_records.ensures

pub returns : goal.returns
returns c =
    with_none c.args.state c.args.part.now c.requires c.min-held.ensures c.joined-front.ensures c.min-all.ensures c.walk-w.ensures c.if-w-gt0.false
    c.erased_on.ensures c.words_of.ensures
