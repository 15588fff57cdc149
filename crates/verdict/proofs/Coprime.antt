-- Coprime lists of pairs, and cases by the four units.
--   by_unit            what holds of 1, −1, i and −i holds of every unit
--   coprime_primitive, primitive_coprime     to be coprime is to be primitive
--   unit_coprime       a unit times a coprime list is coprime
use mathlib.Core.Path.{◌≡◌, sym, subst}
use mathlib.Core.List.{List}
use lib.IntN.{pos, negsuc}
use Rattle.poly.specs.Polynomials.{scaled}
use Rattle.poly.specs.Terms.{IsUnit, Primitive}
use Rattle.poly.proofs.Content.{primitive_scaled}
use Rattle.pair.specs.declared.Pair.{Pair}
use Rattle.pair.specs.Pairs.{pair, pairs, norm, imaginary, negative}
use Rattle.pair.proofs.Laws.{pairs_ring}
use Rattle.divisor.proofs.Units.{FourUnits, plus_one, minus_one, plus_i, minus_i, unit-norm, norm-unit, unit-is}
use Rattle.verdict.specs.Verdicts.{Coprime}

pub by_unit : (P : Pair → Type 0) → P (pair (pos 1) (pos 0)) → P (pair (negsuc 0) (pos 0)) → P imaginary → P (negative imaginary)
    → {u : Pair} → IsUnit pairs u → P u
by_unit P one minus turned back {u} h = by (unit-is h)
  where
    by : FourUnits u → P u
    by (plus_one e) = subst P (sym e) one
    by (minus_one e) = subst P (sym e) minus
    by (plus_i e) = subst P (sym e) turned
    by (minus_i e) = subst P (sym e) back

pub coprime_primitive : (w : List Pair) → Coprime w → Primitive pairs w
coprime_primitive w h d u = norm-unit d (h d u)

pub primitive_coprime : (w : List Pair) → Primitive pairs w → Coprime w
primitive_coprime w h d u = unit-norm (h d u)

pub unit_coprime : (u : Pair) (w : List Pair) → norm u ≡ pos 1 → Coprime w → Coprime (scaled pairs u w)
unit_coprime u w e h = primitive_coprime (scaled pairs u w) (primitive_scaled pairs_ring w (norm-unit u e) (coprime_primitive w h))
