-- `join::put_ends` meets its contract: for −r the product has the other sign.
use mathlib.Core.Path.{◌≡◌, sym, ap, ◌∙◌}
use native.Mathlib.Omega.{arith}
use lib.IntN.{pos}
use Rattle.pair.specs.declared.Pair.{Pair}
use Rattle.pair.specs.Pairs.{plus, minus, negative, times, multiple, PartsWithin}
use Rattle.pair.proofs.Parts.{wider, times-within, plus-within, minus-within, negative-within}
use Rattle.join.specs.Steps.{discriminant, Centred, EndSizes}
use Rattle.join.proofs.Centres.{other_end, ends_below}
use Rattle.join.proofs.Sizes.{product-within}
use Rattle.join.proofs.Writing.{writes_both, writes_same}
use Rattle.join.proofs.put_ends.Goals as goal

pub multiple-p-requires : goal.multiple-p-requires
multiple-p-requires c =
    let p = c.requires.0 in
    (record { size = omega arith }, rw c.product.ensures (wider (omega arith) (times-within p.first p.last)))

-- ten times the product
p-is : (w0 r : Pair) {x p : Pair} → x ≡ times w0 r → p ≡ multiple (pos 10) x → p ≡ multiple (pos 10) (times w0 r)
p-is w0 r e f = f ∙ ap (multiple (pos 10)) e

p-within : (w0 f r : Pair) {p : Pair} → EndSizes w0 f r → p ≡ multiple (pos 10) (times w0 r) → PartsWithin 800000 p
p-within w0 f r h e = rw e (product-within w0 r h.first h.last)

pub difference-requires : goal.difference-requires
difference-requires c =
    let a = c.args in
    let p = c.requires.0 in
    (wider (omega arith) p.fixed, wider (omega arith) (p-within a.w0 a.f a.r p (p-is a.w0 a.r c.product.ensures c.multiple-p.ensures)))

pub put_both-n-requires : goal.put_both-n-requires
put_both-n-requires c =
    let a = c.args in
    let p = c.requires.0 in
    let k = p-within a.w0 a.f a.r p (p-is a.w0 a.r c.product.ensures c.multiple-p.ensures) in (
      record { first = p.first; discriminant = rw c.difference.ensures (minus-within p.fixed k); last = rw c.negative-low.ensures (negative-within p.last) },
      omega (arith, c.requires.2),
    )

pub sum-requires : goal.sum-requires
sum-requires c =
    let a = c.args in
    let p = c.requires.0 in
    (wider (omega arith) p.fixed, wider (omega arith) (p-within a.w0 a.f a.r p (p-is a.w0 a.r c.product.ensures c.multiple-p.ensures)))

pub put_both-requires : goal.put_both-requires
put_both-requires c =
    let a = c.args in
    let p = c.requires.0 in
    let k = p-within a.w0 a.f a.r p (p-is a.w0 a.r c.product.ensures c.multiple-p.ensures) in
    let q = c.put_both-n.ensures in (
      record { first = p.first; discriminant = rw c.sum.ensures (plus-within p.fixed k); last = p.last },
      omega (arith, q.count_is, q.few, q.same_room, c.requires.2),
    )

pub returns : goal.returns
returns c =
    let a = c.args in
    let e = p-is a.w0 a.r c.product.ensures c.multiple-p.ensures in
    let low : c.difference.result ≡ discriminant a.f (times a.w0 (negative a.r)) = c.difference.ensures ∙ ap (minus a.f) e ∙ sym (other_end a.f a.w0 a.r) in
    let high : c.sum.result ≡ discriminant a.f (times a.w0 a.r) = c.sum.ensures ∙ ap (plus a.f) e in
    writes_both (λ u v h k. ends_below a.r c.requires.1 u v h.last k.last)
    (writes_same (λ i. Centred a.w0 (low i) (c.negative-low.ensures i)) c.put_both-n.ensures) (writes_same (λ i. Centred a.w0 (high i) a.r) c.put_both.ensures)
