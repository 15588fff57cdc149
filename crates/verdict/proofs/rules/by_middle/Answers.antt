-- `rules::by_middle` meets its contract: v has the Bernstein coefficients d0, d1, m, and e is what d0, 2 d1 and m have in common.
use mathlib.Core.Path.{◌≡◌, sym, ap, ◌∙◌, subst}
use mathlib.Core.List.{[], ◌∷◌}
use Prim.Native.Nat.{zero, suc}
use lib.Dec.{lit≤}
use lib.IntN.{pos}
use Rattle.poly.specs.Polynomials.{Same, scaled}
use Rattle.whole.specs.Coefficients.{Divides, Greatest}
use Rattle.pair.specs.declared.Pair.{Pair}
use Rattle.pair.specs.Pairs.{pairs, plus, minus, multiple, PartsWithin, AllWithin}
use Rattle.pair.proofs.Parts.{wider, zero-within, plus-within, minus-within, multiple-within}
use Rattle.divisor.proofs.Divisors.{greatest_within}
use Rattle.bernstein.specs.Powers.{power_form}
use Rattle.verdict.specs.Rules.{parabola_root}
use Rattle.verdict.specs.Verdicts.{quadratic}
use Rattle.verdict.proofs.ByRoot.{root-whole}
use Rattle.verdict.proofs.RulesMet.{quintic-root, greatest_three, quintic_divisor, first_divisor, quintic_preimage}
use Rattle.verdict.specs.Steps.{middle_size}
use Rattle.verdict.proofs.rules.by_middle.Goals as goal

two_small : {m d0 : Pair} → PartsWithin middle_size m → PartsWithin 40000 d0 → AllWithin middle_size (m ∷ d0 ∷ [])
two_small h k zero = h
two_small h k (suc zero) = wider (lit≤ tt) k
two_small h k (suc (suc n)) = zero-within

three_small : {d0 d1 m : Pair} → PartsWithin 40000 d0 → PartsWithin 40000 d1 → PartsWithin middle_size m → AllWithin 80000 (d0 ∷ multiple (pos 2) d1 ∷ m ∷ [])
three_small h0 h1 h zero = wider (lit≤ tt) h0
three_small h0 h1 h (suc zero) = multiple-within 2 h1
three_small h0 h1 h (suc (suc zero)) = wider (lit≤ tt) h
three_small h0 h1 h (suc (suc (suc n))) = zero-within

twice_small : {t d1 : Pair} → t ≡ multiple (pos 2) d1 → PartsWithin 40000 d1 → PartsWithin 80000 t
twice_small is h = rw is (multiple-within 2 h)

pub gcd-e-requires : goal.gcd-e-requires
gcd-e-requires c =
    let h = c.requires in
    (wider (lit≤ tt) (twice_small c.multiple-twice.ensures h.1), wider (lit≤ tt) (greatest_within (two_small h.2 h.0) c.gcd.ensures))

pub difference-requires-2 : goal.difference-requires-2
difference-requires-2 c = (wider (lit≤ tt) c.requires.0, wider (lit≤ tt) (twice_small c.multiple-twice.ensures c.requires.1))

pub sum-requires : goal.sum-requires
sum-requires c =
    let h = c.requires in
    (rw c.difference-2.ensures (wider (lit≤ tt) (minus-within h.0 (twice_small c.multiple-twice.ensures h.1))), wider (lit≤ tt) h.2)

-- ---- v and the greatest common divisor, as they are computed
module _ (c : goal.After-sum) where
  abbrev d0 : Pair
  d0 = c.args.d0

  abbrev d1 : Pair
  d1 = c.args.d1

  abbrev m : Pair
  m = c.args.m

  abbrev e : Pair
  e = c.gcd-e.result

  v1-is : c.multiple.result ≡ multiple (pos 2) (minus d1 d0)
  v1-is = c.multiple.ensures ∙ ap (multiple (pos 2)) c.difference.ensures

  v2-is : c.sum.result ≡ plus (minus d0 (multiple (pos 2) d1)) m
  v2-is = c.sum.ensures ∙ ap (λ a. plus a m) (c.difference-2.ensures ∙ ap (minus d0) c.multiple-twice.ensures)

  greatest : Greatest pairs (d0 ∷ multiple (pos 2) d1 ∷ m ∷ []) e
  greatest = greatest_three c.gcd.ensures (subst (λ a. Greatest pairs (a ∷ c.gcd.result ∷ []) e) c.multiple-twice.ensures c.gcd-e.ensures)

pub over-requires : goal.over-requires
over-requires c =
    let (h0, h1, h, some, (d2, d3, d4, r)) = c.requires in
    let divisor = quintic_divisor (d0 c) (d1 c) (m c) (greatest c) in
    record {
      e_small = wider (lit≤ tt) (greatest_within (three_small h0 h1 h) (greatest c));
      d_small = wider (lit≤ tt) h0;
      v1_small = rw (v1-is c) (wider (lit≤ tt) (multiple-within 2 (minus-within h1 h0)));
      v2_small = rw (v2-is c) (wider (lit≤ tt) (plus-within (minus-within h0 (multiple-within 2 h1)) h));
      d_some = some;
      divides_d = divisor.divides 0;
      divides_v1 = subst (Divides pairs (e c)) (sym (v1-is c)) (divisor.divides 1);
      divides_v2 = subst (Divides pairs (e c)) (sym (v2-is c)) (divisor.divides 2);
      divided =
          root-whole (power_form (d0 c ∷ d1 c ∷ d2 ∷ d3 ∷ d4 ∷ [])) (parabola_root (d0 c) (d1 c) (m c)) (d0 c) (e c) some
          (first_divisor some (greatest c)) (quintic-root (d0 c) (d1 c) d2 d3 d4 (m c) r) divisor;
    }

pub returns : goal.returns
returns c d2 d3 d4 r =
    let t = c.before in
    let h = c.over.ensures in
    let w = c.over.result.w in
    let v : Same pairs (scaled pairs (e t) (quadratic w)) (parabola_root (d0 t) (d1 t) (m t))
    = subst (Same pairs (scaled pairs (e t) (quadratic w))) (λ i. d0 t ∷ v1-is t i ∷ v2-is t i ∷ []) h.root in
    let by = quintic_preimage (d0 t) (d1 t) d2 d3 d4 (m t) (e t) (quadratic w) c.requires.3 r (greatest t) v in
    record { generated = by.generated c.over.result.k h.factor; coprime = by.coprime }
