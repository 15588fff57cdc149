-- `steps::erased_step` meets its contract.
use mathlib.Core.Path.{ap, ◌∙◌}
use Prim.Native.Nat.{ℕ}
use lib.ListN.{length}
use Rattle.record.specs.Records.{erased_end, erased_step}
use Rattle.record.proofs.steps.erased_step.Goals as goal

pub returns : goal.returns
unfolding erased_step
returns c = c.erased_end.ensures ∙ ap (λ (n : ℕ). erased_end n (length c.args.rest.now)) c.erased_bytes.ensures
