-- `rules::middle_of` meets its contract: m = 3 d2 − x, where d0 x = 2 d1².
use mathlib.Core.Path.{◌≡◌, sym, ap, ◌∙◌, subst}
use mathlib.Core.List.{[], ◌∷◌}
use Prim.Native.Nat.{◌^◌}
use lib.Dec.{lit≤}
use lib.IntN.{pos}
use Rattle.poly.proofs.Domain.{times_cancel}
use Rattle.pair.specs.declared.Pair.{Pair}
use Rattle.pair.specs.Pairs.{plus, minus, times, multiple, PartsWithin}
use Rattle.pair.proofs.Parts.{wider, multiple-within, times-within}
use Rattle.pair.proofs.Laws.{pairs_ring, pairs_domain}
use Rattle.pair.proofs.PairSolver.{the, ◌⊞◌, ◌⊟◌, ◌⊠◌, ◌··◌, solve_pairs}
use Rattle.divisor.proofs.Division.{quotient-within}
use Rattle.verdict.specs.Steps.{middle_size, IsMiddle}
use Rattle.verdict.proofs.Decided.{middle_within}
use Rattle.verdict.proofs.rules.middle_of.Goals as goal

-- ---- 2 d1², as it is computed
module _ {d1 s t : Pair} (s-is : s ≡ times d1 d1) (t-is : t ≡ plus s s) (h : PartsWithin 40000 d1) where
  dividend-is : t ≡ multiple (pos 2) (times d1 d1)
  dividend-is = t-is ∙ ap (λ a. plus a a) s-is ∙ solve_pairs (d1 ∷ []) (the 0 ⊠ the 0 ⊞ the 0 ⊠ the 0) (2 ·· (the 0 ⊠ the 0)) tt tt

  dividend_small : PartsWithin 6400000000 t
  dividend_small = rw dividend-is (wider (lit≤ tt) (multiple-within 2 (times-within h h)))

pub sum-requires : goal.sum-requires
sum-requires c =
    let small : PartsWithin (2 ^ 61) c.product-square.result = rw c.product-square.ensures (wider (lit≤ tt) (times-within c.requires.1 c.requires.1)) in
    (small, small)

pub quotient-requires : goal.quotient-requires
quotient-requires c =
    (wider (lit≤ tt) (dividend_small c.product-square.ensures c.sum.ensures c.requires.1), wider (lit≤ tt) c.requires.0, c.requires.3)

-- 2 d1² is what the rule's right side leaves of 3 d0 d2
rest_of : (d0 d1 d2 m : Pair) → times d0 m ≡ minus (multiple (pos 3) (times d0 d2)) (multiple (pos 2) (times d1 d1))
    → times d0 (minus (multiple (pos 3) d2) m) ≡ multiple (pos 2) (times d1 d1)
rest_of d0 d1 d2 m e =
    solve_pairs (d0 ∷ d2 ∷ m ∷ []) (the 0 ⊠ (3 ·· the 1 ⊟ the 2)) (3 ·· (the 0 ⊠ the 1) ⊟ the 0 ⊠ the 2) tt tt
    ∙ ap (minus (multiple (pos 3) (times d0 d2))) e
    ∙ solve_pairs (d0 ∷ d1 ∷ d2 ∷ []) (3 ·· (the 0 ⊠ the 2) ⊟ (3 ·· (the 0 ⊠ the 2) ⊟ 2 ·· (the 1 ⊠ the 1))) (2 ·· (the 1 ⊠ the 1)) tt tt

pub returns-in_err-x : goal.returns-in_err-x
returns-in_err-x c =
    let a = c.args in
    subst (IsMiddle a.d0 a.d1 a.d2) (sym c.from_residual.ensures)
    (λ d3 d4 m h r. c.in_err-x.ensures (record {
      factor = minus (multiple (pos 3) a.d2) m;
      is = rest_of a.d0 a.d1 a.d2 m r.second ∙ sym (dividend-is c.product-square.ensures c.sum.ensures c.requires.1);
    }))

pub difference-m-requires : goal.difference-m-requires
difference-m-requires c =
    let (h0, h1, h2, some) = c.requires in (
      rw c.multiple.ensures (wider (lit≤ tt) (multiple-within 3 h2)),
      wider (lit≤ tt) (quotient-within c.args.d0 c.in_ok-x.x (dividend_small c.product-square.ensures c.sum.ensures h1) some c.in_ok-x.ensures),
    )

-- ---- with m
second : (d0 d1 d2 x : Pair) {k m t : Pair} → k ≡ multiple (pos 3) d2 → m ≡ minus k x → times d0 x ≡ t → t ≡ multiple (pos 2) (times d1 d1)
    → times d0 m ≡ minus (multiple (pos 3) (times d0 d2)) (multiple (pos 2) (times d1 d1))
second d0 d1 d2 x k-is m-is x-is t-is =
    ap (times d0) (m-is ∙ ap (λ a. minus a x) k-is)
    ∙ solve_pairs (d0 ∷ d2 ∷ x ∷ []) (the 0 ⊠ (3 ·· the 1 ⊟ the 2)) (3 ·· (the 0 ⊠ the 1) ⊟ the 0 ⊠ the 2) tt tt
    ∙ ap (minus (multiple (pos 3) (times d0 d2))) (x-is ∙ t-is)

pub returns-then-within : goal.returns-then-within
returns-then-within c =
    let a = c.args in (
      second a.d0 a.d1 a.d2 c.in_ok-x.x c.multiple.ensures c.difference-m.ensures c.in_ok-x.ensures (dividend-is c.product-square.ensures c.sum.ensures c.requires.1),
      c.if-within.ensures,
    )

pub returns-else-within : goal.returns-else-within
returns-else-within c d3 d4 n h r =
    let a = c.args in
    let is = second a.d0 a.d1 a.d2 c.in_ok-x.x c.multiple.ensures c.difference-m.ensures c.in_ok-x.ensures (dividend-is c.product-square.ensures c.sum.ensures c.requires.1) in
    let same : n ≡ c.difference-m.result = times_cancel pairs_ring pairs_domain a.d0 n c.difference-m.result c.requires.3 (r.second ∙ sym is) in
    c.if-within.ensures (subst (PartsWithin middle_size) same (middle_within a.d0 a.d1 a.d2 d3 d4 n c.requires.0 h r))
