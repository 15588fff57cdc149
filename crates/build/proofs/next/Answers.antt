-- `build::next` meets its contract.
use mathlib.Core.Path.{◌≡◌, ap, ◌∙◌}
use native.Mathlib.Omega.{arith}
use Rattle.pair.specs.Pairs.{plus, times}
use Rattle.pair.proofs.Parts.{wider, times-within, plus-within}
use Rattle.build.proofs.next.Goals as goal

pub sum-requires : goal.sum-requires
sum-requires c =
    let h = c.requires in
    (wider (omega arith) h.0, rw c.product.ensures (wider (omega arith) (times-within h.1 h.2)))

sum_is : (c : goal.After-sum) → let a = c.args in c.sum.result ≡ plus a.p (times a.a a.b)
sum_is c = c.sum.ensures ∙ ap (plus c.args.p) c.product.ensures

pub returns : goal.returns
returns c = let h = c.requires in record { is = sum_is c; near = λ B k. rw (sum_is c) (plus-within k (times-within h.1 h.2)) }
