-- One answer: legs are known by their list, and D by its coefficients.
--   legs_once      what `legs_of` promises
--   drawn_once     what `drawn` promises
use mathlib.Core.Path.{◌≡◌, sym, ap, ◌∙◌}
use mathlib.Core.List.{List}
use native.Mathlib.Omega.{arith}
use lib.ListN.{length}
use Rattle.poly.specs.Polynomials.{Same}
use Rattle.pair.specs.declared.Pair.{Pair}
use Rattle.pair.specs.Pairs.{pairs}
use Rattle.curve.specs.declared.Legs.{Legs}
use Rattle.curve.specs.declared.Legs.TheVariants.{Cubic, Quintic}
use Rattle.curve.specs.declared.LegPowers.{LegPowers}
use Rattle.curve.specs.Steps.{legs_of, leg_powers}

known : (r s : Legs) → legs_of r ≡ legs_of s → r ≡ s
known (Cubic a0 a1 a2) (Cubic b0 b1 b2) e = cc
known (Cubic a0 a1 a2) (Quintic b0 b1 b2 b3 b4) e = absurd (omega (arith, ap length e))
known (Quintic a0 a1 a2 a3 a4) (Cubic b0 b1 b2) e = absurd (omega (arith, ap length e))
known (Quintic a0 a1 a2 a3 a4) (Quintic b0 b1 b2 b3 b4) e = cc

pub legs_once : (ds : List Pair) (r s : Legs) → legs_of r ≡ ds → legs_of s ≡ ds → r ≡ s
legs_once ds r s e f = known r s (e ∙ sym f)

pub drawn_once : (D : List Pair) (a b : LegPowers) → Same pairs (leg_powers a) D → Same pairs (leg_powers b) D → a ≡ b
drawn_once D a b h k =
    let e : Same pairs (leg_powers a) (leg_powers b) = λ i. h i ∙ sym (k i) in
    λ i. record { e0 = e 0 i; e1 = e 1 i; e2 = e 2 i; e3 = e 3 i; e4 = e 4 i }
