-- `pair::three_are_zero` meets its contract.
use mathlib.Core.Path.{sym, ◌∙◌}
use Rattle.whole.proofs.Flags.{told_true, told_false, told-map}
use Rattle.pair.proofs.Parts.{three-none}
use Rattle.pair.proofs.three_are_zero.Goals as goal
use Rattle.pair.proofs.three_are_zero.Goals.{then-is_zero, else-is_zero}

pub returns-then-is_zero-2 : goal.returns-then-is_zero-2
returns-then-is_zero-2 c =
    elim c.if-is_zero.branch [
      | then-is_zero w ↦
          let b = told_true w.is_zero-then-is_zero.ensures (sym w.value-is ∙ c.if-is_zero-2.true) in
          told-map (three-none w.if-is_zero.ensures b) (λ h. h 2) c.is_zero-then-is_zero-2.result c.is_zero-then-is_zero-2.ensures
      | else-is_zero w ↦ absurd (cc)
    ]

pub returns-else-is_zero-2 : goal.returns-else-is_zero-2
returns-else-is_zero-2 c =
    rw c.if-is_zero-2.false
    (elim c.if-is_zero.branch [
      | then-is_zero w ↦ λ h. told_false w.is_zero-then-is_zero.ensures (sym w.value-is ∙ c.if-is_zero-2.false) (h 1)
      | else-is_zero w ↦ λ h. w.if-is_zero.ensures (h 0)
    ])
