-- `join::joins` meets its contract.
use mathlib.Core.Path.{◌≡◌, refl, ap, ◌∙◌}
use mathlib.Core.Logic.{inl, inr}
use Prim.Native.Nat.{◌-◌}
use borrow.Rule.Slice.PartMut.{same_len_mid}
use native.Mathlib.Omega.{arith}
use lib.ListN.{length, drop}
use Rattle.refusal.specs.declared.Refusal.TheVariants as R
use Rattle.refusal.specs.Answers.{given}
use Rattle.area.proofs.Areas.{fills_rest}
use Rattle.area.proofs.Promises.{refuse_in}
use Rattle.join.specs.Promise.{numbers}
use Rattle.join.proofs.Writing.{numbers-length}
use Rattle.join.proofs.joins.Goals as goal

pub returns-then-not-in_range : goal.returns-then-not-in_range
returns-then-not-in_range c =
    refuse_in R.Range (inl (c.if-not-in_range.ensures, refl)) c.refuse.ensures

pub returns-then-is_dead_end : goal.returns-then-is_dead_end
returns-then-is_dead_end c =
    refuse_in R.DeadEnd (inr (λ n. n c.if-not-in_range.ensures, inl (c.if-is_dead_end.ensures, refl))) c.refuse-then-is_dead_end.ensures

pub returns-then-area-lt24 : goal.returns-then-area-lt24
returns-then-area-lt24 c =
    refuse_in R.Room
    (inr (λ n. n c.if-not-in_range.ensures, inr (c.if-is_dead_end.ensures, inl (omega (arith, c.if-area-lt24.true), refl))))
    c.refuse-then-area-lt24.ensures

pub returns : goal.returns
returns c =
    let s = c.args in
    let w = c.put_all-k.ensures in
    let k = c.put_all-k.result in
    let l = c.put_all-k.new.area in
    let behind : k ≡ length (numbers w.triples) = omega (arith, w.count_is, numbers-length w.triples) in
    record {
      answer = given w.triples;
      first_or = (inr (λ n. n c.if-not-in_range.ensures, inr (c.if-is_dead_end.ensures, inr (λ h. omega (arith, h, c.if-area-lt24.false), refl))), w.lists);
      counts = ap given (omega (arith, w.count_is));
      same_room = same_len_mid k (length l - k) l c.clear.new.area c.clear.auto.area ∙ w.same_room;
      fills = fills_rest k (numbers w.triples) (drop k s.area.now) l c.clear.new.area behind w.writes c.clear.ensures;
    }
