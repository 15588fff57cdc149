-- What the answer of a state asks of its numbers.
--   front_long      a state has as many bytes of its front as it says
--   answer_by_lem       its answer is by how the front ends
--   fault_within    a fault of the front stands within the bytes.      leftover_within   and so does the first byte that is not FF
use mathlib.Core.Path.{◌≡◌}
use Prim.Native.Nat.{ℕ, ◌+◌, ◌≤◌}
use native.Mathlib.Omega.{arith}
use lib.ListN.{length}
use borrow.Author.Tests.{le-ltb}
use Rattle.refusal.specs.declared.Fault.{Fault}
use Rattle.refusal.specs.Answers.{when◌then◌else◌}
use Rattle.refusal.proofs.Answers.{by_test}
use Rattle.std.specs.Prelude.{Err}
use Rattle.record.specs.Records.{Step, longest, erased_end}
use Rattle.sheet.specs.Survey.{survey_of}
use Rattle.record.specs.declared.steps.Slip.{Slip}
use Rattle.sheet.proofs.Faults.{fault_inside}
use Rattle.states.specs.declared.State.{State}
use Rattle.states.specs.Steps.{first_in, behind_in, held_in, front_in, answer_with, answer_in, Standing}
use Rattle.states.proofs.Fronts.{seven-words, held-long}

module _ {st : State} (h : Standing st) where
  pub front_long : length (front_in st) ≡ held_in st
  front_long = held-long st (seven-words st h.front)

  pub answer_by_lem : answer_in st ≡ answer_with st (survey_of (first_in st) (front_in st)).ending
  unfolding answer_in when◌then◌else◌
  answer_by_lem = rw (le-ltb longest st.count h.short)

  pub fault_within : (f : Fault) → (survey_of (first_in st) (front_in st)).ending ≡ Err f → st.place + f.place ≤ longest
  fault_within f e = omega (arith, fault_inside (first_in st) (front_in st) f (omega (arith, front_long)) e, front_long, h.inside, h.short)

  pub leftover_within : (slip : Slip) → erased_end st.erased (behind_in st) ≡ Err slip → st.place + slip.offset ≤ longest
  unfolding erased_end
  leftover_within slip =
      by_test (λ (x : Step). x ≡ Err slip → st.place + slip.offset ≤ longest) _
      (λ _ e. let q : st.erased ≡ slip.offset = cc in omega (arith, h.front.erased_inside, h.inside, h.short))
      (λ _ e. let z : ◌≡◌ {A = ℕ} 0 1 = cc in absurd (omega arith))
