-- `add_sheet` meets its contract: a full box stays as it is, and any other takes the sheet.
use mathlib.Core.Path.{refl, sym, ap, ◌∙◌, subst}
use mathlib.Core.List.{[], ◌∷◌, ◌++◌}
use native.Mathlib.Omega.{arith}
use Rattle.totals.specs.declared.Totals.{Totals}
use Rattle.totals.specs.Totals.{IsTotals}
use Rattle.totals.specs.Promise.{counting}
use Rattle.totals.proofs.More.{added_totals}
use Rattle.totals.proofs.add_sheet.Goals as goal

pub returns-then-t-ge1000 : goal.returns-then-t-ge1000
returns-then-t-ge1000 c = record { room = λ l. absurd (omega (arith, l)); full = λ l. (refl, refl) }

pub returns : goal.returns
returns c =
    let start = c.args in
    let s = start.sheet.now in
    let w = c.take.ensures in
    let adds = w.adds ∙ ap (λ (u : Totals). counting u w.counted) c.one_more.ensures in
    record {
      room = λ l. record {
        counted = w.counted;
        sheet_is = w.sheet_is;
        adds = adds;
        says = w.says;
        totals = λ ss h. subst (IsTotals (ss ++ (s ∷ []))) (sym adds) (added_totals ss s w.counted start.t w.sheet_is l h);
      };
      full = λ l. absurd (omega (arith, l));
    }
