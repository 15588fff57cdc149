-- What the check answers for all the bytes is found in their state.
--   answer-is   it is what `check` promises
use mathlib.Core.Path.{◌≡◌, refl, sym, ap, ◌∙◌, subst}
use mathlib.Core.Bool.{Bool, true}
use mathlib.Core.List.{List}
use Prim.Native.Nat.{ℕ, suc, ◌≤◌, ◌<◌}
use native.Mathlib.Omega.{arith}
use lib.Dec.{eqb}
use lib.ListN.{length, take, drop, length-take, length-drop}
use borrow.Author.Tests.{lt-ltb, le-ltb}
use Rattle.refusal.specs.Answers.{given, with_given, answer_at, when◌then◌else◌}
use Rattle.refusal.proofs.Answers.{by_order}
use Rattle.std.specs.Prelude.{Option, Some, None, Ok, Err}
use Rattle.record.specs.Numbers.{AllBytes}
use Rattle.record.specs.Kinds.{longest_record}
use Rattle.record.specs.Records.{Step, longest, erased_bytes, erased_end, step_of}
use Rattle.record.proofs.Words.{all_drop}
use Rattle.record.proofs.Front.{step_by, step_by_front, record_by_front}
use Rattle.sheet.specs.Survey.{Ending, Survey, survey_of, survey, soundly}
use Rattle.sheet.specs.Promise.{count_of, told_of, Checks}
use Rattle.sheet.proofs.Surveys.{Ended, reads_ends, reads_fault, survey-long, survey_short, sheet_parts, parts_tail, no_record_behind}
use Rattle.states.specs.declared.State.{State}
use Rattle.states.specs.States.{keeping, IsOf}
use Rattle.states.specs.Steps.{front_in, fault_behind, answer_by, answer_with, answer_in}
use Rattle.states.proofs.Fronts.{mission_found, state-long, state_short, front_of, first_of, mission_of_lem}

module _ (s : List ℕ) (ended : Bool) (bytes : AllBytes s) (l : length s ≤ longest) where
  abbrev rest : List ℕ
  rest = drop (survey s).end s

  abbrev st : State
  st = keeping ended (length s) (mission_found s) (count_of (survey s).records) (survey s).end rest

  abbrev first : Bool
  first = eqb (survey s).end 0

  by_ending : (x : Step) (how : Ending) → Ended (survey s).end x how → answer_at (answer_by st x) ≡ with_given told_of (soundly how (survey s).records)
  by_ending (Ok None) how e =
      ap (λ (m : Option ℕ). given (record { mission = m; curves = count_of (survey s).records })) (mission_of_lem s l) ∙ ap (λ (y : Ending). with_given told_of (soundly y (survey s).records)) (sym e)
  by_ending (Err slip) how e = ap (λ (y : Ending). with_given told_of (soundly y (survey s).records)) (sym e)
  by_ending (Ok (Some k)) how e = absurd e

  front-is : front_in st ≡ take longest_record rest
  front-is = front_of ended (length s) (mission_found s) (count_of (survey s).records) (survey s).end rest (length-drop (survey s).end s) (all_drop (survey s).end s bytes)

  front_short : length (take longest_record rest) ≤ longest
  front_short = omega (arith, length-take longest_record rest)

  -- by the step at the front, which is no record
  by_front : (x : Step) → step_of first (take longest_record rest) ≡ x → answer_with st (survey_of first (take longest_record rest)).ending ≡ answer_by st (step_by (erased_bytes rest) (length rest) x)
  by_front (Ok None) e =
      ap (λ (v : Survey). answer_with st v.ending) (survey_short first (take longest_record rest) front_short ∙ reads_ends first 0 (take longest_record rest) e)
      ∙ ap (λ (n : ℕ). answer_by st (erased_end (erased_bytes rest) n)) (sym (length-drop (survey s).end s))
  by_front (Err slip) e =
      ap (λ (v : Survey). answer_with st v.ending) (survey_short first (take longest_record rest) front_short ∙ reads_fault first 0 (take longest_record rest) e)
      ∙ ap (λ (n : ℕ). Err (fault_behind st slip.refusal n)) (omega arith)
  by_front (Ok (Some k)) e = absurd (no_record_behind true s l k (ap (λ (b : Bool). step_of b rest) (first_of s l) ∙ record_by_front first rest k e))

  short_is : Checks s (answer_in st)
  unfolding answer_in when◌then◌else◌
  short_is =
      rw (le-ltb longest (length s) l)
      (ap (λ (f : List ℕ). answer_at (answer_with st (survey_of first f).ending)) front-is
      ∙ ap answer_at (by_front (step_of first (take longest_record rest)) refl)
      ∙ ap (λ (x : Step). answer_at (answer_by st x)) (sym (step_by_front first rest))
      ∙ by_ending (step_of first rest) (survey s).ending last)
    where
      last : Ended (survey s).end (step_of first rest) (survey s).ending
      last =
          let p = sheet_parts true s l in
          subst (λ (x : Step). Ended (survey s).end x (survey s).ending) (λ i. step_of (first_of s l i) (parts_tail true s l p i)) p.last

long_is : (st : State) (s : List ℕ) → st.count ≡ suc longest → longest < length s → Checks s (answer_in st)
unfolding answer_in when◌then◌else◌
long_is st s e l =
    rw (lt-ltb longest st.count (omega arith)) (ap (λ (v : Survey). with_given told_of (soundly v.ending v.records)) (sym (survey-long true s l)))

pub answer-is : (st : State) (s : List ℕ) (ended : Bool) → IsOf st s ended → Checks s (answer_in st)
answer-is st s ended h =
    by_order (length s) longest
    (λ l. subst (λ (x : State). Checks s (answer_in x)) (sym (h.is ∙ state_short s ended l)) (short_is s ended h.bytes l))
    (λ l. long_is st s (ap (λ (x : State). x.count) (h.is ∙ state-long s ended l)) l)
