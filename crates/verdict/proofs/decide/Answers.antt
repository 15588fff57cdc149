-- `decide` meets its contract: by the first leg, by stillness, by a generator, or by what is left.
use mathlib.Core.Path.{sym}
use mathlib.Core.List.{List, []}
use Rattle.poly.specs.Polynomials.{Same, scaled, square}
use Rattle.pair.specs.declared.Pair.{Pair}
use Rattle.pair.specs.Pairs.{pairs}
use Rattle.bernstein.specs.Powers.{power_form}
use Rattle.bernstein.proofs.PowerForms.{power_form-zero}
use Rattle.curve.specs.Steps.{legs_of}
use Rattle.verdict.specs.declared.rules.Generator.{Generator}
use Rattle.verdict.specs.Verdicts.{quadratic, Still}
use Rattle.verdict.proofs.Known.{of_legs, legs_small, holds_same, generators_small, factor_small}
use Rattle.verdict.proofs.Decided.{first-refused}
use Rattle.verdict.proofs.Multiples.{generated_some, not-squared_moves}
use Rattle.verdict.proofs.decide.Goals as goal

pub first_end-requires : goal.first_end-requires
first_end-requires c = legs_small (legs_of c.args.legs) c.requires

pub returns-then-not-first_end : goal.returns-then-not-first_end
returns-then-not-first_end c =
    let l = c.args.legs in
    let none = first-refused l c.if-not-first_end.ensures in
    (not-squared_moves (power_form (legs_of l)) none, none)

pub returns-then-is_still : goal.returns-then-is_still
returns-then-is_still c = (power_form-zero (legs_of c.args.legs)).1 c.if-is_still.ensures

pub generator_of-requires : goal.generator_of-requires
generator_of-requires c = legs_small (legs_of c.args.legs) c.requires

-- D is not 0 where some leg is not
moves : (ds : List Pair) → (Same pairs ds [] → ⊥) → Still (power_form ds) → ⊥
moves ds some z = some ((power_form-zero ds).0 z)

pub generated-requires : goal.generated-requires
generated-requires c =
    let ds = legs_of c.args.legs in
    let D = power_form ds in
    let curve = of_legs ds c.requires in
    let some = moves ds c.if-is_still.ensures in
    let s : Generator = c.in-Some.s in
    let w = quadratic s.w in
    let g = c.in-Some.ensures in (
      factor_small D curve s.k w some g.generated g.coprime,
      generated_some D s.k w g.generated some,
      generators_small D curve some s.k w g.generated,
      g.coprime,
    )

pub returns : goal.returns
returns c =
    let s : Generator = c.in-Some.s in
    holds_same (scaled pairs s.k (square pairs (quadratic s.w))) (power_form (legs_of c.args.legs)) (λ k. sym (c.in-Some.ensures.generated k)) c.generated.result c.generated.ensures
