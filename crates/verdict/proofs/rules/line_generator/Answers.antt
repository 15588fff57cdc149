-- `rules::line_generator` meets its contract, by the rule of three Bernstein coefficients.
use mathlib.Core.Path.{◌≡◌, refl, sym, ◌∙◌, subst}
use mathlib.Core.List.{[], ◌∷◌}
use mathlib.Core.Logic.{◌≢◌, ⊎_elim}
use Prim.Native.Nat.{zero, suc}
use lib.Dec.{lit≤}
use Rattle.whole.specs.Coefficients.{Divides}
use Rattle.poly.specs.Polynomials.{Same, scaled}
use Rattle.whole.proofs.Divisor.{divides_none}
use Rattle.poly.proofs.Lists.{at_scaled}
use Rattle.pair.specs.declared.Pair.{Pair}
use Rattle.pair.specs.Pairs.{pairs, minus, one, PartsWithin, AllWithin}
use Rattle.pair.proofs.Parts.{wider, zero-within, minus-within}
use Rattle.pair.proofs.Laws.{pairs_ring, pairs_domain}
use Rattle.divisor.proofs.Divisors.{greatest_within}
use Rattle.bernstein.specs.Powers.{power_form}
use Rattle.verdict.specs.Rules.{CubicRule, line_root}
use Rattle.verdict.specs.Verdicts.{quadratic}
use Rattle.verdict.proofs.Known.{generates_same}
use Rattle.verdict.proofs.ByRoot.{root-whole}
use Rattle.verdict.proofs.RulesMet.{cubic-root, cubic_divisor, first_divisor, cubic_preimage, cubic_preimage_end}
use Rattle.verdict.proofs.Equal.{equal, unequal}
use Rattle.verdict.proofs.Decided.{cubic-not, end_coprime}
use Rattle.verdict.proofs.rules.line_generator.Goals as goal

pub returns-then-ne : goal.returns-then-ne
returns-then-ne c =
    let a = c.args in
    cubic-not a.e0 a.e1 a.e2 (λ r. unequal c.if-ne.ensures (c.product.ensures ∙ r ∙ sym c.product-2.ensures))

-- t as the polynomial of the struct
shift_same : Same pairs (pairs.none ∷ one ∷ pairs.none ∷ []) (pairs.none ∷ one ∷ [])
shift_same zero = refl
shift_same (suc zero) = refl
shift_same (suc (suc zero)) = refl
shift_same (suc (suc (suc k))) = refl

pub returns-then-is_zero : goal.returns-then-is_zero
returns-then-is_zero c =
    let a = c.args in
    let E = power_form (a.e0 ∷ a.e1 ∷ a.e2 ∷ []) in
    let r : CubicRule a.e0 a.e1 a.e2 = sym c.product.ensures ∙ equal c.if-ne.ensures ∙ c.product-2.ensures in
    let g = generates_same E a.e2 (pairs.none ∷ one ∷ []) (pairs.none ∷ one ∷ pairs.none ∷ []) (λ k. sym (shift_same k)) (cubic_preimage_end a.e0 a.e1 a.e2 c.if-is_zero.ensures r) end_coprime in
    (record { generated = g.0; coprime = g.1 }, refl)

two_small : {e0 e1 : Pair} → PartsWithin 240000 e0 → PartsWithin 240000 e1 → AllWithin 240000 (e0 ∷ e1 ∷ [])
two_small h k zero = h
two_small h k (suc zero) = k
two_small h k (suc (suc n)) = zero-within

pub over-requires : goal.over-requires
over-requires c =
    let a = c.args in
    let (h0, h1, h2) = c.requires in
    let e = c.gcd.result in
    let v1-is = c.difference.ensures in
    let some : a.e0 ≢ pairs.none = c.if-is_zero.ensures in
    let r : CubicRule a.e0 a.e1 a.e2 = sym c.product.ensures ∙ equal c.if-ne.ensures ∙ c.product-2.ensures in
    let greatest = c.gcd.ensures in
    let divisor = cubic_divisor a.e0 a.e1 greatest in
    record {
      e_small = wider (lit≤ tt) (greatest_within (two_small h0 h1) greatest);
      d_small = wider (lit≤ tt) h0;
      v1_small = rw v1-is (wider (lit≤ tt) (minus-within h1 h0));
      v2_small = zero-within;
      d_some = some;
      divides_d = greatest.divides 0;
      divides_v1 = subst (Divides pairs e) (sym v1-is) (divisor.divides 1);
      divides_v2 = divides_none pairs_ring e;
      divided =
          root-whole (power_form (a.e0 ∷ a.e1 ∷ a.e2 ∷ [])) (line_root a.e0 a.e1) a.e0 e some (first_divisor some greatest)
          (cubic-root a.e0 a.e1 a.e2 r) divisor;
    }

-- the line as the polynomial of the struct
ended : (a b v : Pair) → v ≡ minus b a → Same pairs (a ∷ v ∷ pairs.none ∷ []) (line_root a b)
ended a b v e zero = refl
ended a b v e (suc zero) = e
ended a b v e (suc (suc zero)) = refl
ended a b v e (suc (suc (suc k))) = refl

pub returns : goal.returns
returns c =
    let a = c.args in
    let e = c.gcd.result in
    let h = c.over.ensures in
    let w = c.over.result.w in
    let some : a.e0 ≢ pairs.none = c.if-is_zero.ensures in
    let r : CubicRule a.e0 a.e1 a.e2 = sym c.product.ensures ∙ equal c.if-ne.ensures ∙ c.product-2.ensures in
    let line : Same pairs (scaled pairs e (quadratic w)) (line_root a.e0 a.e1) = λ k. h.root k ∙ ended a.e0 a.e1 c.difference.result c.difference.ensures k in
    let second = ⊎_elim (λ z. absurd (first_divisor some c.gcd.ensures z)) (λ z. z) (pairs_domain.splits e w.b2 (sym (at_scaled pairs_ring e (quadratic w) 2) ∙ h.root 2)) in
    let by = cubic_preimage a.e0 a.e1 a.e2 e (quadratic w) some r c.gcd.ensures line in
    (record { generated = by.generated c.over.result.k h.factor; coprime = by.coprime }, second)
