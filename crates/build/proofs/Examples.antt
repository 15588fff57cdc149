-- Cases of the document that can be built, by computation.
--   case-2     the cubic from 1 and i
--   case-7     the quintic from 1, −2 − i and i, with the middle leg (6 + 9i) / 3
use mathlib.Core.Path.{◌≡◌, refl, ap}
use mathlib.Core.List.{List, [], ◌∷◌}
use lib.IntN.{pos, negsuc}
use Rattle.pair.specs.declared.Pair.{Pair}
use Rattle.pair.specs.Pairs.{pair, pairs, one, imaginary}
use Rattle.build.specs.Promise.{cubic, quintic, AreLegs, points}
use Rattle.build.proofs.Legs.{legs_once}

pub case-2 : (ds : List Pair) → AreLegs (cubic one imaginary) ds
    → points pairs.none ds ≡ pair (pos 0) (pos 0) ∷ pair (pos 1) (pos 0) ∷ pair (pos 1) (pos 1) ∷ pair (pos 0) (pos 1) ∷ []
unfolding points
case-2 ds h = ap (points pairs.none) h

pub case-7 : (ds : List Pair) → AreLegs (quintic one (pair (negsuc 1) (negsuc 0)) imaginary) ds
    → points pairs.none ds
    ≡ pair (pos 0) (pos 0) ∷ pair (pos 1) (pos 0) ∷ pair (negsuc 0) (negsuc 0) ∷ pair (pos 1) (pos 2) ∷ pair (pos 2) (pos 0) ∷ pair (pos 1) (pos 0) ∷ []
unfolding points
case-7 ds h = ap (points pairs.none) (legs_once (quintic one (pair (negsuc 1) (negsuc 0)) imaginary) ds _ h (pair (pos 2) (pos 3), refl, refl))
