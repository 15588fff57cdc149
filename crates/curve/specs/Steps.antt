-- The steps of drawing D: what the structs hold, and what each part of it computes.
--   legs_of        the legs
--   leg_powers     the polynomial
--   second_of      the second difference of three
use Rattle.std.specs.Prelude.{List, [], ◌∷◌}
use Rattle.pair.specs.declared.Pair.{Pair}
use Rattle.pair.specs.Pairs.{minus}
use Rattle.curve.specs.declared.Legs.{Legs}
use Rattle.curve.specs.declared.Legs.TheVariants.{Cubic, Quintic}
use Rattle.curve.specs.declared.LegPowers.{LegPowers}

abbrev pub legs_of : Legs → List Pair
legs_of (Cubic d0 d1 d2) = d0 ∷ d1 ∷ d2 ∷ []
legs_of (Quintic d0 d1 d2 d3 d4) = d0 ∷ d1 ∷ d2 ∷ d3 ∷ d4 ∷ []

abbrev pub leg_powers : LegPowers → List Pair
leg_powers e = e.e0 ∷ e.e1 ∷ e.e2 ∷ e.e3 ∷ e.e4 ∷ []

abbrev pub second_of : Pair → Pair → Pair → Pair
second_of a b c = minus (minus c b) (minus b a)
