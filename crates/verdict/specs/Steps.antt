-- The steps of recognition: what each part of it computes.
--   OfCurve D, OfLegs ds       D is that of a curve in range; ds are its legs
--   reversed                   the legs in the other order
--   FirstEnd, LastEnd          the first, and the last leg's norm divides as that of a Pythagorean curve does
--   IsHighest                  the highest power of a polynomial, or that it is 0
--   ArePartsBy R D q           each of q is one that R gives for the coefficient of D beside it
--   Shared e d v1 v2           e divides d, v1 and v2, and d divides e²
--   Over e d v1 v2 s           w is d + v1 t + v2 t² divided by e, and d κ is e²
--   Generates D s              D = κ w² with a coprime w
--   IsGeneration, IsLine       such κ and w, or that D is no κ w²; the same, where w has no second power
--   middle_size                 56,568, which no part of an m exceeds that meets the quintic rule
--   IsMiddle                   the only m that may meet the quintic rule, or that none does
--   MeetsRule, ByMiddle        m meets it with some legs; κ and w for all legs with which it does
--   Signed w v                 v is w or −w, with the sign of the rule
--   Normalised κ w p           p is κ w², with the signs of the rules
use Rattle.std.specs.Prelude.{◌≡◌, List, [], ◌∷◌, ◌≢◌, Option, Some, None, ℕ, ℤ, ◌^◌, ◌≤◌, pos, length}
use Rattle.whole.specs.Number.{FirstPositive}
use Rattle.poly.specs.Polynomials.{Same, scaled}
use Rattle.whole.specs.Coefficients.{Divides}
use Rattle.poly.specs.Terms.{Top}
use Rattle.pair.specs.declared.Pair.{Pair}
use Rattle.pair.specs.Pairs.{pairs, times, minus, multiple, norm, one, PartsWithin}
use Rattle.bernstein.specs.Powers.{differences, power_form}
use Rattle.curve.specs.declared.Legs.{Legs}
use Rattle.curve.specs.declared.Legs.TheVariants.{Cubic, Quintic}
use Rattle.curve.specs.Curves.{InRange, leg_polynomial}
use Rattle.curve.specs.Sizes.{leg_reach}
use Rattle.verdict.specs.declared.rules.Generator.{Generator}
use Rattle.verdict.specs.declared.Preimage.{Preimage}
use Rattle.verdict.specs.Verdicts.{Generated, NotGenerated, Coprime, quadratic, LeadKept}
use Rattle.verdict.specs.Rules.{EndDivides, QuinticRule}

pub record OfCurve (D : List Pair) : Type 0 where
  pub points : List Pair
  pub range : InRange points
  pub short : length points ≤ 6
  pub same : Same pairs D (leg_polynomial points)

pub record OfLegs (ds : List Pair) : Type 0 where
  pub points : List Pair
  pub range : InRange points
  pub short : length points ≤ 6
  pub legs : ds ≡ differences points

abbrev pub FirstEnd : Legs → Type 0
FirstEnd (Cubic d0 d1 d2) = EndDivides (pos 2) d0 d1
FirstEnd (Quintic d0 d1 d2 d3 d4) = EndDivides (pos 8) d0 d1

abbrev pub reversed : Legs → Legs
reversed (Cubic d0 d1 d2) = Cubic d2 d1 d0
reversed (Quintic d0 d1 d2 d3 d4) = Quintic d4 d3 d2 d1 d0

abbrev pub LastEnd : Legs → Type 0
LastEnd l = FirstEnd (reversed l)

abbrev pub IsHighest : List Pair → Option ℕ → Type 0
IsHighest D (Some k) = Top pairs D k × (k ≤ 4)
IsHighest D None = Same pairs D []

abbrev pub ArePartsBy : (Pair → ℤ → Type 0) → List Pair → List ℤ → Type 0
ArePartsBy R [] [] = Unit {0}
ArePartsBy R [] (x ∷ q) = ⊥
ArePartsBy R (z ∷ D) [] = ⊥
ArePartsBy R (z ∷ D) (x ∷ q) = R z x × ArePartsBy R D q

pub record Shared (e d v1 v2 : Pair) : Type 0 where
  pub e_small : PartsWithin (2 ^ 20) e
  pub d_small : PartsWithin (2 ^ 20) d
  pub v1_small : PartsWithin (2 ^ 20) v1
  pub v2_small : PartsWithin (2 ^ 20) v2
  pub d_some : d ≢ pairs.none
  pub divides_d : Divides pairs e d
  pub divides_v1 : Divides pairs e v1
  pub divides_v2 : Divides pairs e v2
  pub divided : Divides pairs d (times e e)

pub record Over (e d v1 v2 : Pair) (s : Generator) : Type 0 where
  pub root : Same pairs (scaled pairs e (quadratic s.w)) (d ∷ v1 ∷ v2 ∷ [])
  pub factor : times d s.k ≡ times e e

pub record Generates (D : List Pair) (s : Generator) : Type 0 where
  pub generated : Generated D s.k (quadratic s.w)
  pub coprime : Coprime (quadratic s.w)

abbrev pub IsGeneration : List Pair → Option Generator → Type 0
IsGeneration D (Some s) = Generates D s
IsGeneration D None = NotGenerated D

abbrev pub IsLine : List Pair → Option Generator → Type 0
IsLine D (Some s) = Generates D s × (s.w.b2 ≡ pairs.none)
IsLine D None = NotGenerated D

abbrev pub middle_size : ℕ
middle_size = 56568

abbrev pub IsMiddle : Pair → Pair → Pair → Option Pair → Type 0
IsMiddle d0 d1 d2 (Some m) = (times d0 m ≡ minus (multiple (pos 3) (times d0 d2)) (multiple (pos 2) (times d1 d1))) × PartsWithin middle_size m
IsMiddle d0 d1 d2 None = (d3 d4 m : Pair) → PartsWithin leg_reach d4 → QuinticRule d0 d1 d2 d3 d4 m → ⊥

abbrev pub MeetsRule : Pair → Pair → Pair → Type 0
MeetsRule d0 d1 m = (d2 : Pair) × (d3 : Pair) × (d4 : Pair) × QuinticRule d0 d1 d2 d3 d4 m

abbrev pub ByMiddle : Pair → Pair → Pair → Generator → Type 0
ByMiddle d0 d1 m s = (d2 d3 d4 : Pair) → QuinticRule d0 d1 d2 d3 d4 m → Generates (power_form (d0 ∷ d1 ∷ d2 ∷ d3 ∷ d4 ∷ [])) s

pub record Signed (w v : List Pair) : Type 0 where
  pub unit : Pair
  pub is_unit : norm unit ≡ pos 1
  pub square : times unit unit ≡ one
  pub turned : Same pairs v (scaled pairs unit w)
  pub lead : LeadKept v

-- κ w², as κ/u² (u w)² for a unit u that gives both the signs of the rules
pub record Normalised (κ : Pair) (w : List Pair) (p : Preimage) : Type 0 where
  pub unit : Pair
  pub is_unit : norm unit ≡ pos 1
  pub kept : times p.kappa (times unit unit) ≡ κ
  pub turned : Same pairs (quadratic p.w) (scaled pairs unit w)
  pub factor : FirstPositive p.kappa.re p.kappa.im
  pub lead : LeadKept (quadratic p.w)
