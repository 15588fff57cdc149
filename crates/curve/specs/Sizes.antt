-- How large what a call is given may be (document 01, "Numbers, sizes"), and what follows of a leg.
--   coordinate_reach     coordinates, h and the parts of a and z: from −20,000 to 20,000
--   leg_reach            the parts of a leg between two points in range: twice that
use Rattle.std.specs.Prelude.{ℕ, ◌*◌}

abbrev pub coordinate_reach : ℕ
coordinate_reach = 20000

abbrev pub leg_reach : ℕ
leg_reach = 2 * coordinate_reach
