-- `rules::quintic_generator` meets its contract, by the quintic rule, or by the rule of three where d0 is 0.
use mathlib.Core.Path.{sym, ◌∙◌, subst}
use mathlib.Core.List.{[], ◌∷◌}
use lib.Dec.{lit≤}
use Rattle.pair.proofs.Parts.{wider}
use Rattle.bernstein.specs.Powers.{power_form}
use Rattle.verdict.specs.Rules.{QuinticRule}
use Rattle.verdict.specs.Steps.{IsGeneration}
use Rattle.verdict.proofs.Equal.{equal, unequal}
use Rattle.verdict.proofs.Quintics.{quintic_rule}
use Rattle.verdict.proofs.Decided.{quintic-not}
use Rattle.verdict.proofs.rules.quintic_generator.Goals as goal
use Rattle.verdict.proofs.rules.quintic_generator.Goals.{then-ne-via-then-ne, then-ne-via-else-ne+then-ne-2}

pub end_generator-requires : goal.end_generator-requires
end_generator-requires c = let h = c.requires in (h 2, h 3, h 4)

pub returns-then-is_zero : goal.returns-then-is_zero
returns-then-is_zero c =
    let a = c.args in
    subst (λ d. IsGeneration (power_form (d ∷ a.d1 ∷ a.d2 ∷ a.d3 ∷ a.d4 ∷ [])) c.end_generator.result) (sym c.if-is_zero.ensures) c.end_generator.ensures

pub middle_of-requires : goal.middle_of-requires
middle_of-requires c = let h = c.requires in (h 0, h 1, h 2, c.if-is_zero.ensures)

pub returns-in_err-m : goal.returns-in_err-m
returns-in_err-m c =
    let a = c.args in
    subst (IsGeneration (power_form (a.d0 ∷ a.d1 ∷ a.d2 ∷ a.d3 ∷ a.d4 ∷ []))) (sym c.from_residual.ensures)
    (λ κ w g. c.in_err-m.ensures a.d3 a.d4 _ (c.requires 4) (quintic_rule a.d0 a.d1 a.d2 a.d3 a.d4 κ w g))

pub product-requires : goal.product-requires
product-requires c = (wider (lit≤ tt) (c.requires 1), wider (lit≤ tt) c.in_ok-m.ensures.1)

pub product-requires-2 : goal.product-requires-2
product-requires-2 c = (wider (lit≤ tt) (c.requires 0), wider (lit≤ tt) (c.requires 3))

pub product-requires-else-ne-2 : goal.product-requires-else-ne-2
product-requires-else-ne-2 c = (wider (lit≤ tt) (c.requires 0), wider (lit≤ tt) (c.requires 4))

pub returns-then-ne : goal.returns-then-ne
returns-then-ne c =
    let a = c.args in
    let m = c.in_ok-m.m in
    let some = c.if-is_zero.ensures in
    let second = c.in_ok-m.ensures.0 in
    elim c.then-ne.branch [
      | then-ne-via-then-ne w ↦
          quintic-not a.d0 a.d1 a.d2 a.d3 a.d4 m some second (λ r. unequal w.if-ne.ensures (c.product.ensures ∙ r.third ∙ sym c.product-2.ensures))
      | then-ne-via-else-ne+then-ne-2 w ↦
          quintic-not a.d0 a.d1 a.d2 a.d3 a.d4 m some second (λ r. unequal w.if-ne-2.ensures (w.product-else-ne.ensures ∙ r.fourth ∙ sym w.product-else-ne-2.ensures))
    ]

rule : (c : goal.Else-ne-2) → let a = c.args in QuinticRule a.d0 a.d1 a.d2 a.d3 a.d4 c.in_ok-m.m
rule c = record {
  second = c.in_ok-m.ensures.0;
  third = sym c.product.ensures ∙ equal c.if-ne.ensures ∙ c.product-2.ensures;
  fourth = sym c.product-else-ne.ensures ∙ equal c.if-ne-2.ensures ∙ c.product-else-ne-2.ensures;
}

pub by_middle-requires : goal.by_middle-requires
by_middle-requires c =
    let h = c.requires in
    let a = c.args in
    (h 0, h 1, c.in_ok-m.ensures.1, c.if-is_zero.ensures, (a.d2, a.d3, a.d4, rule c))

pub returns : goal.returns
returns c = let a = c.args in c.by_middle.ensures a.d2 a.d3 a.d4 (rule c.before)
