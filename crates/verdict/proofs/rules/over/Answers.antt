-- `rules::over` meets its contract: e² = d x and d = e b0 give e = b0 x.
use mathlib.Core.Path.{◌≡◌, sym, ap, ◌∙◌}
use mathlib.Core.Logic.{◌≢◌}
use Rattle.whole.specs.Coefficients.{Divides}
use Rattle.whole.proofs.Ring.{none-times, times_none}
use Rattle.poly.proofs.Domain.{times_cancel}
use Rattle.pair.specs.declared.Pair.{Pair}
use Rattle.pair.specs.Pairs.{pairs, times}
use Rattle.pair.proofs.Laws.{pairs_ring, pairs_domain, times_assoc}
use Rattle.divisor.proofs.Division.{quotient-within}
use Rattle.verdict.specs.Steps.{Shared}
use Rattle.verdict.proofs.Known.{scaled-three}
use Rattle.verdict.proofs.rules.over.Goals as goal

-- e is not 0, and so neither is b0, which divides e
module _ {e d v1 v2 : Pair} (h : Shared e d v1 v2) where
  e_some : e ≢ pairs.none
  e_some z = h.d_some (sym h.divides_d.is ∙ ap (λ x. times x h.divides_d.factor) z ∙ none-times pairs_ring h.divides_d.factor)

  b0_some : (b0 : Pair) → times e b0 ≡ d → b0 ≢ pairs.none
  b0_some b0 is z = h.d_some (sym is ∙ ap (times e) z ∙ times_none pairs_ring e)

  divides_e : (b0 : Pair) → times e b0 ≡ d → Divides pairs b0 e
  divides_e b0 is =
      let x = h.divided in
      record {
        factor = x.factor;
        is = times_cancel pairs_ring pairs_domain e _ e e_some (sym (times_assoc e b0 x.factor) ∙ ap (λ d. times d x.factor) is ∙ x.is);
      }

pub share-b0-requires : goal.share-b0-requires
share-b0-requires c = let h = c.requires in (h.d_small, h.e_small, e_some h, h.divides_d)

pub share-b1-requires : goal.share-b1-requires
share-b1-requires c = let h = c.requires in (h.v1_small, h.e_small, e_some h, h.divides_v1)

pub share-b2-requires : goal.share-b2-requires
share-b2-requires c = let h = c.requires in (h.v2_small, h.e_small, e_some h, h.divides_v2)

pub share-k-requires : goal.share-k-requires
share-k-requires c =
    let h = c.requires in
    let b0 = c.share-b0.result in
    let is = c.share-b0.ensures in
    (h.e_small, quotient-within c.args.e b0 h.d_small (e_some h) is, b0_some h b0 is, divides_e h b0 is)

pub returns : goal.returns
returns c =
    let e = c.args.e in
    let b0 = c.share-b0.result in
    record {
      root = scaled-three e b0 c.share-b1.result c.share-b2.result c.share-b0.ensures c.share-b1.ensures c.share-b2.ensures;
      factor = ap (λ d. times d c.share-k.result) (sym c.share-b0.ensures) ∙ times_assoc e b0 c.share-k.result ∙ ap (times e) c.share-k.ensures;
    }
