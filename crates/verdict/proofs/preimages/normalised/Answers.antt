-- `preimages::normalised` meets its contract: by ±1, or by ±i.
use mathlib.Core.Path.{◌≡◌, refl, sym, ap, ◌∙◌, subst}
use mathlib.Core.List.{List, [], ◌∷◌}
use mathlib.Core.Logic.{⊎_elim}
use lib.IntN.{pos, negsuc, ◌*ℤ◌}
use Rattle.whole.specs.Number.{FirstPositive}
use Rattle.poly.specs.Polynomials.{Same, scaled}
use Rattle.poly.proofs.Lists.{scaled-same, scaled-scaled}
use Rattle.poly.proofs.Top.{top_some, top-same, top-scaled, find-top}
use Rattle.pair.specs.declared.Pair.{Pair}
use Rattle.pair.specs.Pairs.{pair, pairs, times, one, imaginary}
use Rattle.pair.proofs.Laws.{pairs_ring, pairs_domain, times_one, norm-times, pair-zero?}
use Rattle.pair.proofs.PairSolver.{the, ◌⊠◌, solve_pairs}
use Rattle.divisor.proofs.Roots.{first_found}
use Rattle.verdict.specs.Verdicts.{quadratic}
use Rattle.verdict.proofs.Generators.{opposite-opposite}
use Rattle.verdict.proofs.Turned.{imaginary_some, turned-all}
use Rattle.verdict.proofs.preimages.normalised.Goals as goal

pub returns-then-first_positive : goal.returns-then-first_positive
returns-then-first_positive c =
    let t = c.signed.ensures in (
      record {
        unit = t.unit;
        is_unit = t.is_unit;
        kept = ap (times c.args.s.k) t.square ∙ times_one c.args.s.k;
        turned = t.turned;
        factor = c.if-first_positive.ensures;
        lead = t.lead;
      },
      refl,
    )

-- i w is not 0 where w is not
turned_moves : (w v : List Pair) → Same pairs v (scaled pairs imaginary w) → (Same pairs w [] → ⊥) → Same pairs v [] → ⊥
turned_moves w v e n z =
    ⊎_elim n (λ t. top_some {p = v} (top-same (λ k. sym (e k)) (top-scaled pairs_ring pairs_domain imaginary_some t.1)) z) (find-top pair-zero? w)

pub signed-requires-else-first_positive : goal.signed-requires-else-first_positive
signed-requires-else-first_positive c =
    let e = c.turned_quadratic.ensures in
    (turned-all (quadratic c.args.s.w) (quadratic c.turned_quadratic.result) e c.requires.2, turned_moves (quadratic c.args.s.w) (quadratic c.turned_quadratic.result) e c.requires.3)

-- (u i)² is −1 where u² is 1
turned-square : (u : Pair) → times u u ≡ one → times (times u imaginary) (times u imaginary) ≡ pair (negsuc 0) (pos 0)
turned-square u e =
    solve_pairs (u ∷ imaginary ∷ []) ((the 0 ⊠ the 1) ⊠ (the 0 ⊠ the 1)) ((the 0 ⊠ the 0) ⊠ (the 1 ⊠ the 1)) tt tt
    ∙ ap (λ a. times a (times imaginary imaginary)) e

pub returns-else-first_positive : goal.returns-else-first_positive
returns-else-first_positive c =
    let w = quadratic c.args.s.w in
    let t = c.signed-else-first_positive.ensures in
    let opposite = c.negative.ensures in (
      record {
        unit = times t.unit imaginary;
        is_unit = norm-times t.unit imaginary ∙ ap (λ x. x *ℤ pos 1) t.is_unit;
        kept = ap (times c.negative.result) (turned-square t.unit t.square) ∙ ap (λ a. times a (pair (negsuc 0) (pos 0))) opposite ∙ opposite-opposite c.args.s.k;
        turned = λ k. t.turned k ∙ scaled-same pairs_ring t.unit (quadratic c.turned_quadratic.result) (scaled pairs imaginary w) c.turned_quadratic.ensures k ∙ scaled-scaled pairs_ring t.unit imaginary w k;
        factor = subst (λ (a : Pair). FirstPositive a.re a.im) (sym opposite) (⊎_elim (λ h. absurd (c.if-first_positive.ensures h)) (λ h. h) (first_found c.args.s.k c.requires.1));
        lead = t.lead;
      },
      refl,
    )
