-- `drawing::cubic_drawn` meets its contract: by the table of differences.
use mathlib.Core.Path.{sym, ap, ◌∙◌, subst}
use mathlib.Core.List.{List, [], ◌∷◌}
use lib.Dec.{lit≤}
use lib.IntN.{pos}
use Rattle.poly.specs.Polynomials.{Same}
use Rattle.pair.specs.declared.Pair.{Pair}
use Rattle.pair.specs.Pairs.{pairs, multiple}
use Rattle.pair.proofs.Parts.{wider, minus-within}
use Rattle.bernstein.specs.Powers.{power_form}
use Rattle.curve.proofs.Differences.{cubic-drawn}
use Rattle.curve.proofs.drawing.cubic_drawn.Goals as goal

pub difference-requires : goal.difference-requires
difference-requires c = (wider (lit≤ tt) (c.requires 1), wider (lit≤ tt) (c.requires 0))

pub multiple-requires : goal.multiple-requires
multiple-requires c = let h = c.requires in (record { size = lit≤ tt }, rw c.difference.ensures (wider (lit≤ tt) (minus-within (h 1) (h 0))))

pub second-requires : goal.second-requires
second-requires c = let h = c.requires in (wider (lit≤ tt) (h 0), wider (lit≤ tt) (h 1), wider (lit≤ tt) (h 2))

pub returns : goal.returns
returns c =
    let a = c.args in
    let e1 = c.multiple.ensures ∙ ap (multiple (pos 2)) c.difference.ensures in
    let coefficients : List Pair → Type 0 = λ p. Same pairs p (power_form (a.d0 ∷ a.d1 ∷ a.d2 ∷ [])) in
    subst coefficients (λ i. a.d0 ∷ sym e1 i ∷ sym c.second.ensures i ∷ pairs.none ∷ pairs.none ∷ []) (cubic-drawn a.d0 a.d1 a.d2)
