-- `join::put_all` meets its contract: the first and the last root, and the triples for both signs of the last.
use mathlib.Core.Path.{sym, ap, ◌∙◌}
use mathlib.Core.Logic.{◌≢◌, inl, inr}
use native.Mathlib.Omega.{arith}
use Rattle.pair.specs.declared.Pair.{Pair}
use Rattle.pair.specs.Pairs.{pairs, times, PartsWithin}
use Rattle.divisor.specs.Promise.{KeptRoot}
use Rattle.divisor.proofs.Roots.{pair-root-within}
use Rattle.curve.specs.Sizes.{coordinate_reach}
use Rattle.join.specs.Promise.{DeadEnd}
use Rattle.join.specs.Steps.{Ending, root_reach}
use Rattle.join.proofs.Centres.{ends_join, join_ends}
use Rattle.join.proofs.Sizes.{fixed-within}
use Rattle.join.proofs.Writing.{writes_none, writes_as, writes_same}
use Rattle.join.proofs.put_all.Goals as goal

-- ---- with both roots
module _ (a z w0 r : Pair) (alive : DeadEnd a z → ⊥) where
  w0_some : KeptRoot a w0 → w0 ≢ pairs.none
  w0_some f e = alive (inl (sym f.squared ∙ ap (λ (w : Pair). times w w) e))

  r_some : KeptRoot z r → r ≢ pairs.none
  r_some f e = alive (inr (sym f.squared ∙ ap (λ (w : Pair). times w w) e))

root-small : {a w : Pair} → PartsWithin coordinate_reach a → KeptRoot a w → PartsWithin root_reach w
root-small {a} {w} h f = pair-root-within 40000 root_reach a w h f.squared (omega arith) (omega arith)

pub returns-in_default : goal.returns-in_default
returns-in_default c = writes_none (λ w j. c.in_default.ensures w.w0 j.first)

pub returns-in_default-root : goal.returns-in_default-root
returns-in_default-root c = writes_none (λ w j. c.in_default-root.ensures w.w2 j.last)

pub put_ends-requires : goal.put_ends-requires
put_ends-requires c =
    let s = c.args in
    let h = c.requires in
    let f = c.in-Some.ensures in
    let l = c.in-Some-root.ensures in (
      record { first = root-small h.0.first f; fixed = rw c.fixed_part.ensures (fixed-within s.a s.z s.t h.0); last = root-small h.0.last l },
      l.sign (r_some s.a s.z c.in-Some.w0 c.in-Some-root.r h.1 l),
      h.2,
    )

pub returns : goal.returns
returns c =
    let s = c.args in
    let w0 = c.in-Some.w0 in
    let r = c.in-Some-root.r in
    let f = c.in-Some.ensures in
    let l = c.in-Some-root.ensures in
    let sign = f.sign (w0_some s.a s.z w0 r c.requires.1 f) in
    writes_as (omega arith)
    (ends_join s.a s.z s.t w0 f.squared sign r l.squared)
    (join_ends s.a s.z s.t w0 f.squared sign r l.squared)
    (writes_same (λ i. Ending w0 (c.fixed_part.ensures i) r) c.put_ends.ensures)
