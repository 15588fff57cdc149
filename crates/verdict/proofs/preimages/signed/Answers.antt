-- `preimages::signed` meets its contract: where w has not the sign of the rule, −w has it.
use mathlib.Core.Path.{refl, sym}
use mathlib.Core.Logic.{⊎_elim}
use lib.IntN.{pos, negsuc}
use Rattle.poly.proofs.Lists.{scaled-one}
use Rattle.poly.proofs.Top.{find-top}
use Rattle.pair.specs.Pairs.{pair, one}
use Rattle.pair.proofs.Laws.{pairs_ring, pair-zero?}
use Rattle.root.proofs.Leads.{lead_same}
use Rattle.verdict.specs.Verdicts.{quadratic}
use Rattle.verdict.proofs.Signs.{lead_first-found}
use Rattle.verdict.proofs.Turned.{turned-all, turned-twice}
use Rattle.verdict.proofs.preimages.signed.Goals as goal

pub returns-then-lead_positive : goal.returns-then-lead_positive
returns-then-lead_positive c =
    let w = quadratic c.args.w in record {
      unit = one;
      is_unit = refl;
      square = refl;
      turned = λ k. sym (scaled-one pairs_ring w k);
      lead = c.if-lead_positive.ensures;
    }

pub turned_quadratic-requires-else-lead_positive : goal.turned_quadratic-requires-else-lead_positive
turned_quadratic-requires-else-lead_positive c =
    turned-all (quadratic c.args.w) (quadratic c.turned_quadratic.result) c.turned_quadratic.ensures c.requires.0

pub returns-else-lead_positive : goal.returns-else-lead_positive
returns-else-lead_positive c =
    let w = quadratic c.args.w in
    let f = turned-twice w (quadratic c.turned_quadratic.result) (quadratic c.turned_quadratic-else-lead_positive.result) c.turned_quadratic.ensures c.turned_quadratic-else-lead_positive.ensures in
    record {
      unit = pair (negsuc 0) (pos 0);
      is_unit = refl;
      square = refl;
      turned = f;
      lead = ⊎_elim
          (λ z. absurd (c.requires.1 z))
          (λ h. lead_same (λ k. sym (f k)) (⊎_elim (λ l. absurd (c.if-lead_positive.ensures l)) (λ l. l) (lead_first-found w h.0 h.1)))
          (find-top pair-zero? w);
    }
