-- `read_full` meets its contract.
use Rattle.std.proofs.Common.{◌≡◌, ℕ, ◌+◌, ◌≤◌, List, ◌++◌, rules, length, take, drop, ap, sym, ◌∙◌, subst, length-take-le, take_at, drop_at}
use Rattle.std.specs.Io.KnownBytes.{Consumes}
use Rattle.std.proofs.KnownBytes.{Consumes-trans}
use borrow.Rule.Slice.PartMut.{put_mid, post_of}
use lib.Seq.{take-add, take-append-le}
use Rattle.streams.proofs.read_full.Goals as goal

-- the first bytes of an area of which a part behind them was written
take-put_mid : (a k n : ℕ) (xs ys : List ℕ) → a ≤ length xs → n ≤ length ys → take a xs ++ take n ys ≡ take (a + n) (put_mid a k xs ys)
take-put_mid a k n xs ys within fits =
    let front = take a xs in
    let rest = ys ++ post_of a k xs in
    let long = length-take-le a xs within in
    ap (λ l. front ++ l) (sym (take-append-le n ys (post_of a k xs) fits)) ∙ ap (λ l. front ++ take n l) (sym (drop_at front rest a long)) ∙ ap (λ l. l ++ take n (drop a (front ++ rest))) (sym (take_at front rest a long))
    ∙ sym (take-add a n (front ++ rest))

pub loop-count-preserved : goal.loop-count-preserved
loop-count-preserved g c = (
  search rules,
  subst (Consumes _ _) (take-put_mid _ _ _ _ _ c.loop-count.invariant.0 c.in_ok-n.ensures.bound.0)
      (Consumes-trans _ _ _ _ _ c.loop-count.invariant.1 c.in_ok-n.ensures.bytes.0),
)
