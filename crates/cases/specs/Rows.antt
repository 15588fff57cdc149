-- What a row of the table is, and what it is that holds of it: the promises of the calls, with the answers that the row gives. Each promise
-- has one answer, so a row says what the calls answer.
--   Claim                    what a row says of a curve beside its verdict:
--     legs_are                 its legs
--     N_is                     N, by its coefficients
--     length_is                c, A and B of the length √c·A/B
--     long                     that the length is a whole number
--     turning_is               the coefficients of the turning polynomial, which is not zero throughout, and the count of inflections
--     offset_is                W, X and Y of point k of the offset at h
--   Row                      a curve with its verdict and claims, or two legs and a travel with the triples that join them
--   filled                   an area of some room with an answer from its start and zeros behind it
--   Long                     a length √c·A/B is promised that is the whole number
--   Says, SaysAll            that a claim on a curve holds, and all of a list
--   CurveHolds               the verdict is the one that `recognise` promises, and the claims hold
--   JoinsHold                the triples are all joins, and `joins` promises them in every area that has the room
--   RowHolds, All            that a row holds, and all of a list
use Rattle.std.specs.Prelude.{◌≡◌, Ok, false, List, [], ◌∷◌, ◌++◌, ℕ, suc, ◌-◌, ◌*◌, ◌≤◌, ℤ, pos, ◌*ℤ◌, length, replicate}
use Rattle.pair.specs.declared.Pair.{Pair}
use Rattle.bernstein.specs.Powers.{differences}
use Rattle.curve.specs.declared.Curve.{Curve}
use Rattle.curve.specs.Curves.{points_of, leg_polynomial, norm_polynomial}
use Rattle.verdict.specs.declared.Verdict.{Verdict}
use Rattle.verdict.specs.Promise.{Recognised}
use Rattle.measure.specs.declared.lengths.Length.{Length}
use Rattle.measure.specs.Promise.{Measured, Inflected}
use Rattle.offset.specs.Promise.{point_numbers, offset_degree, needs, OffsetBy}
use Rattle.join.specs.Promise.{Triple, AllJoins, numbers, Joined}

pub data Claim : Type 0 where
  legs_are : List Pair → Claim
  N_is : List ℤ → Claim
  length_is : (c a b : ℤ) → Claim
  long : (whole : ℕ) → Claim
  turning_is : (t0 t1 t2 : ℤ) (count : ℕ) → Claim
  offset_is : (h : ℤ) (w x y : ℕ → ℤ) → Claim

pub data Row : Type 0 where
  curve_is : Curve → Verdict → List Claim → Row
  joins_are : (a z T : Pair) → List Triple → Row

abbrev pub filled : ℕ → List ℤ → List ℤ
filled room answer = answer ++ replicate (room - length answer) (pos 0)

pub record Long (curve : Curve) (whole : ℕ) : Type 0 where
  pub l : Length
  pub measured : Measured curve (Ok l)
  pub is : l.c *ℤ (l.a *ℤ l.a) ≡ pos (whole * whole) *ℤ (l.b *ℤ l.b)

abbrev pub Says : Curve → Claim → Type 0
Says curve (legs_are ds) = differences (points_of curve) ≡ ds
Says curve (N_is n) = norm_polynomial (leg_polynomial (points_of curve)) ≡ n
Says curve (length_is c a b) = Measured curve (Ok (record { c = c; a = a; b = b }))
Says curve (long whole) = Long curve whole
Says curve (turning_is t0 t1 t2 count) = Inflected curve (Ok (record { turning = record { t0 = t0; t1 = t1; t2 = t2 }; count = count; straight = false }))
Says curve (offset_is h w x y) =
    (area : List ℤ) → needs curve ≤ length area → OffsetBy curve h area (filled (length area) (point_numbers (suc (offset_degree curve)) w x y)) (Ok (needs curve))

abbrev pub SaysAll : Curve → List Claim → Type 0
SaysAll curve [] = Unit {0}
SaysAll curve (claim ∷ claims) = Says curve claim × SaysAll curve claims

pub record CurveHolds (curve : Curve) (v : Verdict) (claims : List Claim) : Type 0 where
  pub recognised : Recognised (points_of curve) (Ok v)
  pub said : SaysAll curve claims

pub record JoinsHold (a z T : Pair) (ws : List Triple) : Type 0 where
  pub all : AllJoins a z T ws
  pub answer : (area : List ℤ) → 24 ≤ length area → Joined a z T area (filled (length area) (numbers ws)) (Ok (length ws))

abbrev pub RowHolds : Row → Type 0
RowHolds (curve_is curve v claims) = CurveHolds curve v claims
RowHolds (joins_are a z T ws) = JoinsHold a z T ws

abbrev pub All : List Row → Type 0
All [] = Unit {0}
All (row ∷ rows) = RowHolds row × All rows
