-- `is_still` meets its contract, by the kind of curve.
use Rattle.std.proofs.Common.{◌≡◌, [], sym, subst, ◌∙◌}
use Rattle.std.proofs.lemmas.Bool.{false≢true}
use Rattle.whole.specs.Number.{Tells}
use Rattle.poly.specs.Polynomials.{Same}
use Rattle.whole.proofs.Flags.{told-map}
use Rattle.pair.specs.Pairs.{pairs}
use Rattle.curve.specs.declared.Legs.{Legs}
use Rattle.curve.specs.Steps.{legs_of}
use Rattle.pair.proofs.Parts.{three-none}
use Rattle.verdict.proofs.Known.{five_none}
use Rattle.verdict.proofs.is_still.Goals as goal
use Rattle.verdict.proofs.is_still.Goals.{then-three_are_zero, else-three_are_zero}

abbrev Still : Legs → Type 0
Still l = Same pairs (legs_of l) []

pub returns-in-Cubic : goal.returns-in-Cubic
returns-in-Cubic c = subst (λ l. Tells (Still l) c.three_are_zero.result) (sym c.in-Cubic.is) c.three_are_zero.ensures

pub returns-then-is_zero : goal.returns-then-is_zero
returns-then-is_zero c =
    let last = c.is_zero-then-is_zero in
    subst (λ l. Tells (Still l) last.result) (sym c.in-Quintic.is)
    (elim c.if-three_are_zero.branch [
      | then-three_are_zero w ↦
          let d = subst (Tells (c.in-Quintic.d3 ≡ pairs.none)) (sym w.value-is ∙ c.if-is_zero.true) w.is_zero.ensures in
          told-map (λ e. five_none w.if-three_are_zero.ensures d e) (λ h. h 4) last.result last.ensures
      | else-three_are_zero w ↦ absurd (false≢true (sym w.if-three_are_zero.false ∙ sym w.value-is ∙ c.if-is_zero.true))
    ])

pub returns-else-is_zero : goal.returns-else-is_zero
returns-else-is_zero c =
    rw c.if-is_zero.false
    (λ h. let z = subst Still c.in-Quintic.is h in
    elim c.if-three_are_zero.branch [
      | then-three_are_zero w ↦ subst (Tells (c.in-Quintic.d3 ≡ pairs.none)) (sym w.value-is ∙ c.if-is_zero.false) w.is_zero.ensures (z 3)
      | else-three_are_zero w ↦ w.if-three_are_zero.ensures (three-none (z 0) (z 1) (z 2))
    ])
