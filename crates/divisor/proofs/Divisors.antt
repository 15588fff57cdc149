-- Greatest common divisors of pairs.
--   greatest_zero      a greatest common divisor is 0 only where every pair is 0, and there it is
--   greatest_within    it is no larger than the pairs are
--   greatest_unit      two of them differ by a unit
use mathlib.Core.Path.{◌≡◌, sym, ◌∙◌, subst}
use mathlib.Core.List.{List, []}
use mathlib.Core.Logic.{◌↔◌, ⊎_elim}
use Prim.Native.Nat.{ℕ}
use Rattle.whole.specs.Coefficients.{at, Divides, Greatest}
use Rattle.poly.specs.Polynomials.{Same}
use Rattle.whole.proofs.Divisor.{divides_self, divides_none}
use Rattle.whole.proofs.Ring.{none-times}
use Rattle.poly.specs.Terms.{IsUnit}
use Rattle.poly.proofs.Top.{find-top}
use Rattle.poly.proofs.Divisibility.{unit_of_one}
use Rattle.poly.proofs.Content.{greatest_associates}
use Rattle.pair.specs.declared.Pair.{Pair}
use Rattle.pair.specs.Pairs.{pairs, times, one, PartsWithin, AllWithin}
use Rattle.pair.proofs.Parts.{zero-within}
use Rattle.pair.proofs.Laws.{times_one, pairs_ring, pairs_domain, pair-zero?}
use Rattle.divisor.proofs.Division.{divisor_within}

zero_divides : {a : Pair} → Divides pairs pairs.none a → a ≡ pairs.none
zero_divides h = sym h.is ∙ none-times pairs_ring h.factor

pub greatest_zero : {p : List Pair} {g : Pair} → Greatest pairs p g → (g ≡ pairs.none) ↔ Same pairs p []
greatest_zero {p} h =
    (λ e k. zero_divides (subst (λ d. Divides pairs d (at pairs p k)) e (h.divides k)), λ z. zero_divides (h.greatest pairs.none (λ k. rw (z k) (divides_none pairs_ring pairs.none))))

pub greatest_within : {B : ℕ} {p : List Pair} {g : Pair} → AllWithin B p → Greatest pairs p g → PartsWithin B g
greatest_within {B} {p} {g} h k = ⊎_elim none (λ t. divisor_within (h t.0) t.1.lead (k.divides t.0)) (find-top {C = pairs} pair-zero? p)
  where
    none : Same pairs p [] → PartsWithin B g
    none z = rw ((greatest_zero k).1 z) zero-within

pub greatest_unit : {p : List Pair} {g h : Pair} → Greatest pairs p g → Greatest pairs p h → (u : Pair) × IsUnit pairs u × (times g u ≡ h)
greatest_unit {g} {h} k l = by (pair-zero? g)
  where
    by : Dec (g ≡ pairs.none) → (u : Pair) × IsUnit pairs u × (times g u ≡ h)
    by (yes e) = (one, unit_of_one pairs_ring (divides_self pairs_ring one), times_one g ∙ e ∙ sym ((greatest_zero l).1 ((greatest_zero k).0 e)))
    by (no n) = greatest_associates pairs_ring pairs_domain n k l
