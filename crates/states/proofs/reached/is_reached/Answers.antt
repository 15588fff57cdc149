-- `reached::is_reached` meets its contract: a state is reached where its numbers are possible.
use mathlib.Core.Path.{subst}
use mathlib.Core.Logic.{◌⊎◌, inl, inr}
use native.Mathlib.Omega.{arith}
use Rattle.whole.specs.Number.{Tells}
use lib.Dec.{leb}
use Rattle.whole.proofs.Flags.{told_true, told-map, order_tells}
use Rattle.states.specs.Steps.{Standing}
use Rattle.states.proofs.Possible.{reached_possible, possible_reached}
use Rattle.states.proofs.reached.is_reached.Goals as goal

pub returns-else-state-le1 : goal.returns-else-state-le1
returns-else-state-le1 c =
    let s = c.args.state in
    told-map (λ l. absurd (omega (arith, l, c.if-state-le1.false))) (λ r. (reached_possible s r).flag) (leb s.ended 1) (order_tells s.ended 1)

pub returns-then-is_standing : goal.returns-then-is_standing
returns-then-is_standing c =
    let s = c.args.state in
    told-map
    (λ h. possible_reached s (record { flag = c.if-state-le1.true; numbers = inr h }))
    (λ r. told_true c.is_standing.ensures c.if-is_standing.true)
    c.is_standing.result c.is_standing.ensures

pub returns-else-is_standing : goal.returns-else-is_standing
returns-else-is_standing c =
    let s = c.args.state in
    let long : Standing s → ⊥ = subst (Tells (Standing s)) c.if-is_standing.false c.is_standing.ensures in
    told-map (λ o. possible_reached s (record { flag = c.if-state-le1.true; numbers = inl o })) (λ r. other long (reached_possible s r).numbers) c.is_overfull.result c.is_overfull.ensures
  where
    other : {P Q : Type 0} → (Q → ⊥) → P ⊎ Q → P
    other none (inl p) = p
    other none (inr q) = absurd (none q)
