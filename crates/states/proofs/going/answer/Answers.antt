-- `going::answer` meets its contract: by the order of the tests, each fault standing within the bytes.
use borrow.Author.Tests.{lt-ltb}
use mathlib.Core.Path.{◌≡◌, sym, ap, ◌∙◌}
use mathlib.Core.List.{List}
use Prim.Native.Nat.{ℕ, ◌+◌, ◌≤◌}
use lib.ListN.{length, take}
use Rattle.refusal.specs.declared.Fault.{Fault}
use Rattle.refusal.specs.Answers.{when◌then◌else◌}
use Rattle.std.specs.Prelude.{Option, Ok, Err}
use Rattle.record.specs.Records.{Step, longest, erased_end}
use Rattle.sheet.specs.declared.walks.Walked.{Walked}
use Rattle.sheet.specs.Walks.{Walks}
use Rattle.sheet.specs.Survey.{survey_of}
use Rattle.states.specs.declared.State.{State}
use Rattle.states.specs.Words.{unpacked}
use Rattle.states.specs.Steps.{behind_in, held_in, Possible, first_in, front_in, answer_by, answer_with, answer_in, Standing}
use Rattle.states.proofs.Possible.{short_stands}
use Rattle.states.proofs.Answered.{front_long, answer_by_lem, fault_within, leftover_within}
use Rattle.states.proofs.going.answer.Goals as goal
use Rattle.record.specs.declared.steps.Slip.{Slip}

pub returns-then-state-gt-LONGEST : goal.returns-then-state-gt-LONGEST
unfolding answer_in when◌then◌else◌
returns-then-state-gt-LONGEST c = rw (lt-ltb _ _ c.if-state-gt-LONGEST.true) (ap Err c.into.ensures)

-- the state stands
standing : (st : State) → Possible st → st.count ≤ longest → Standing st
standing st p short = short_stands st p short

-- the walk is over its front, and the answer is by the ending that it finds
module _ (st : State) (p : Possible st) (short : st.count ≤ longest) {held : ℕ} {front : List ℕ} (held-is : held ≡ held_in st) (bytes_are : front ≡ unpacked st.words) where
  stands : Standing st
  stands = standing st p short

  front-is : take held front ≡ front_in st
  front-is = λ i. take (held-is i) (bytes_are i)

  held-fits : held ≡ length (take held front)
  held-fits = held-is ∙ sym (ap length front-is ∙ front_long stands)

  module _ {w : Walked} (walks : Walks (take held front) (first_in st) 0 w) where
    ending_is : (survey_of (first_in st) (front_in st)).ending ≡ w.ending
    ending_is = sym (walks.ending_is ∙ ap (λ (s : List ℕ). (survey_of (first_in st) s).ending) front-is)

    by_walk : answer_in st ≡ answer_with st w.ending
    by_walk = answer_by_lem stands ∙ ap (answer_with st) ending_is

    at_fault : {f : Fault} → w.ending ≡ Err f → st.place + f.place ≤ longest
    at_fault e = fault_within stands _ (ending_is ∙ e)

    -- where the front ends soundly, the answer is by the step behind it
    by_step : w.ending ≡ Ok tt → {x : Step} → x ≡ erased_end st.erased (behind_in st) → answer_in st ≡ answer_by st x
    by_step e q = by_walk ∙ ap (answer_with st) e ∙ ap (answer_by st) (sym q)

    at_leftover : {x : Step} {slip : Slip} → x ≡ erased_end st.erased (behind_in st) → x ≡ Err slip → st.place + slip.offset ≤ longest
    at_leftover q e = leftover_within stands _ (sym q ∙ e)

pub fault_behind-requires : goal.fault_behind-requires
fault_behind-requires c = at_fault c.args.state c.requires c.if-state-gt-LONGEST.false c.min-held.ensures c.bytes_of-front.ensures c.walk.ensures c.in-Err.is

pub returns-in-Err : goal.returns-in-Err
returns-in-Err c =
    let st = c.args.state in
    ap Err c.fault_behind.ensures ∙ sym (by_walk st c.requires c.if-state-gt-LONGEST.false c.min-held.ensures c.bytes_of-front.ensures c.walk.ensures ∙ ap (answer_with st) c.in-Err.is)

pub fault_behind-requires-in-Err-erased_end : goal.fault_behind-requires-in-Err-erased_end
fault_behind-requires-in-Err-erased_end c = at_leftover c.args.state c.requires c.if-state-gt-LONGEST.false c.min-held.ensures c.bytes_of-front.ensures c.walk.ensures c.erased_end.ensures c.in-Err-erased_end.is

pub returns-in-Err-erased_end : goal.returns-in-Err-erased_end
returns-in-Err-erased_end c =
    let st = c.args.state in
    ap Err c.fault_behind-in-Err-erased_end.ensures
    ∙ sym (by_step st c.requires c.if-state-gt-LONGEST.false c.min-held.ensures c.bytes_of-front.ensures c.walk.ensures c.in_default.is c.erased_end.ensures ∙ ap (answer_by st) c.in-Err-erased_end.is)

pub returns : goal.returns
returns c =
    let st = c.args.state in
    ap (λ (m : Option ℕ). Ok (record { mission = m; curves = st.curves })) c.mission_of.ensures
    ∙ sym (by_step st c.requires c.if-state-gt-LONGEST.false c.min-held.ensures c.bytes_of-front.ensures c.walk.ensures c.in_default.is c.erased_end.ensures ∙ ap (answer_by st) c.in_default-erased_end.is)
