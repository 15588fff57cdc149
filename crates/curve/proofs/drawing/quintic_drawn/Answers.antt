-- `drawing::quintic_drawn` meets its contract: by the table of differences.
use mathlib.Core.Path.{◌≡◌, sym, ap, ap₂, ◌∙◌, subst}
use mathlib.Core.List.{List, [], ◌∷◌}
use lib.Dec.{lit≤}
use lib.IntN.{pos}
use Rattle.poly.specs.Polynomials.{Same}
use Rattle.pair.specs.declared.Pair.{Pair}
use Rattle.pair.specs.Pairs.{pairs, minus, multiple, PartsWithin}
use Rattle.pair.proofs.Parts.{wider, minus-within}
use Rattle.bernstein.specs.Powers.{power_form}
use Rattle.curve.specs.Steps.{second_of}
use Rattle.curve.specs.Sizes.{leg_reach}
use Rattle.curve.proofs.Differences.{quintic-drawn, second-within}
use Rattle.curve.proofs.drawing.quintic_drawn.Goals as goal

-- a second difference of legs, as it is computed
small : (a b c : Pair) {s : Pair} → s ≡ second_of a b c → PartsWithin leg_reach a → PartsWithin leg_reach b → PartsWithin leg_reach c → PartsWithin 160000 s
small a b c e h k l = rw e (second-within h k l)

pub second-s0-requires : goal.second-s0-requires
second-s0-requires c = let h = c.requires in (wider (lit≤ tt) (h 0), wider (lit≤ tt) (h 1), wider (lit≤ tt) (h 2))

pub second-s1-requires : goal.second-s1-requires
second-s1-requires c = let h = c.requires in (wider (lit≤ tt) (h 1), wider (lit≤ tt) (h 2), wider (lit≤ tt) (h 3))

pub second-s2-requires : goal.second-s2-requires
second-s2-requires c = let h = c.requires in (wider (lit≤ tt) (h 2), wider (lit≤ tt) (h 3), wider (lit≤ tt) (h 4))

pub difference-requires : goal.difference-requires
difference-requires c = (wider (lit≤ tt) (c.requires 1), wider (lit≤ tt) (c.requires 0))

pub multiple-requires : goal.multiple-requires
multiple-requires c = (record { size = lit≤ tt }, rw c.difference.ensures (wider (lit≤ tt) (minus-within (c.requires 1) (c.requires 0))))

pub multiple-requires-2 : goal.multiple-requires-2
multiple-requires-2 c =
    let h = c.requires in
    let a = c.args in
    (record { size = lit≤ tt }, wider (lit≤ tt) (small a.d0 a.d1 a.d2 c.second-s0.ensures (h 0) (h 1) (h 2)))

pub difference-requires-2 : goal.difference-requires-2
difference-requires-2 c =
    let h = c.requires in
    let a = c.args in
    (wider (lit≤ tt) (small a.d1 a.d2 a.d3 c.second-s1.ensures (h 1) (h 2) (h 3)), wider (lit≤ tt) (small a.d0 a.d1 a.d2 c.second-s0.ensures (h 0) (h 1) (h 2)))

pub multiple-requires-3 : goal.multiple-requires-3
multiple-requires-3 c =
    let h = c.requires in
    let a = c.args in
    let s0 = small a.d0 a.d1 a.d2 c.second-s0.ensures (h 0) (h 1) (h 2) in
    let s1 = small a.d1 a.d2 a.d3 c.second-s1.ensures (h 1) (h 2) (h 3) in
    (record { size = lit≤ tt }, rw c.difference-2.ensures (wider (lit≤ tt) (minus-within s1 s0)))

pub second-requires : goal.second-requires
second-requires c =
    let h = c.requires in
    let a = c.args in (
      small a.d0 a.d1 a.d2 c.second-s0.ensures (h 0) (h 1) (h 2),
      small a.d1 a.d2 a.d3 c.second-s1.ensures (h 1) (h 2) (h 3),
      small a.d2 a.d3 a.d4 c.second-s2.ensures (h 2) (h 3) (h 4),
    )

pub returns : goal.returns
returns c =
    let a = c.args in
    let s0 = c.second-s0.ensures in
    let s1 = c.second-s1.ensures in
    let s2 = c.second-s2.ensures in
    let e1 = c.multiple.ensures ∙ ap (multiple (pos 4)) c.difference.ensures in
    let e2 = c.multiple-2.ensures ∙ ap (multiple (pos 6)) s0 in
    let e3 = c.multiple-3.ensures ∙ ap (multiple (pos 4)) (c.difference-2.ensures ∙ ap₂ minus s1 s0) in
    let e4 = c.second.ensures ∙ (λ i. second_of (s0 i) (s1 i) (s2 i)) in
    let coefficients : List Pair → Type 0 = λ p. Same pairs p (power_form (a.d0 ∷ a.d1 ∷ a.d2 ∷ a.d3 ∷ a.d4 ∷ [])) in
    subst coefficients (λ i. a.d0 ∷ sym e1 i ∷ sym e2 i ∷ sym e3 i ∷ sym e4 i ∷ []) (quintic-drawn a.d0 a.d1 a.d2 a.d3 a.d4)
