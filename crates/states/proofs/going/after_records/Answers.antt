-- `going::after_records` meets its contract: each number of the state by what the walk finds.
use mathlib.Core.Path.{◌≡◌, ap, ◌∙◌}
use mathlib.Core.Bool.{false}
use mathlib.Core.List.{List}
use Prim.Native.Nat.{ℕ, ◌+◌, ◌-◌}
use native.Mathlib.Omega.{arith}
use lib.ListN.{length, take, drop}
use Rattle.record.specs.Kinds.{longest_record}
use Rattle.record.specs.Records.{erased_bytes}
use Rattle.sheet.specs.Survey.{survey_of}
use Rattle.sheet.proofs.Faults.{walked_few}
use Rattle.sheet.proofs.Passed.{rest-is}
use Rattle.states.specs.Words.{packed}
use Rattle.states.specs.Steps.{after_records}
use Rattle.states.proofs.going.after_records.Goals as goal

pub overflow_add-result-2 : goal.overflow_add-result-2
overflow_add-result-2 c =
    omega (arith, walked_few c.walk-w.ensures, c.requires)

pub returns : goal.returns
unfolding after_records
returns c =
    let s = c.args in
    let rest = s.rest.now in
    let found = c.walk-w.ensures in
    let tail : take (length rest - c.walk-w.result.end) (drop c.walk-w.result.end rest) ≡ drop (survey_of false rest).end rest =
    rest-is rest c.walk-w.result.end ∙ ap (λ (n : ℕ). drop n rest) found.end_is
    in
    λ i. record {
      ended = 0;
      count = s.count;
      mission = s.mission;
      curves = s.state.curves + s.curves + found.curves_is i;
      place = s.state.place + s.size + found.end_is i;
      erased = (c.erased_bytes.ensures ∙ ap erased_bytes tail) i;
      words = (c.front_words.ensures ∙ ap (λ (l : List ℕ). packed (take longest_record l)) tail) i;
    }
