-- What is known where a pre-image is found: the curve is in range, and q and w are small.
--   in-range?           whether a curve is in range,
--   range_stable        so that one that is not out of range is in range
--   found_in_range      the curve is in range
--   root_small          the coefficients of q are at most 20,000,000 in size,
--   preimage_small      and the parts of w at most 2,000
use mathlib.Core.List.{List, [], ◌∷◌}
use mathlib.Core.Logic.Dec
use Prim.Native.Nat.{◌≤◌}
use native.Mathlib.Decide.{map_dec}
use lib.ListN.{length}
use Rattle.std.specs.Prelude.{Ok}
use Rattle.refusal.proofs.Laws.{NoneHolds, first-none}
use Rattle.whole.specs.Number.{wholes}
use Rattle.poly.proofs.Deciding.{within?}
use Rattle.pair.specs.declared.Pair.{Pair}
use Rattle.pair.specs.Pairs.{AllWithin}
use Rattle.root.specs.Search.{Each}
use Rattle.root.specs.Promise.{quartic, Small}
use Rattle.curve.specs.Sizes.{coordinate_reach}
use Rattle.curve.specs.Curves.{InRange, leg_polynomial}
use Rattle.verdict.specs.declared.Preimage.{Preimage}
use Rattle.verdict.specs.Verdicts.{PreimageOf, quadratic}
use Rattle.verdict.specs.Promise.{preimage_causes, Preimaged}
use Rattle.verdict.proofs.RootSizes.{root-within, preimage_within}

pub in-range? : (ps : List Pair) → Dec (InRange ps)
in-range? [] = yes tt
in-range? (p ∷ ps) = Dec.and (map_dec (λ (x, y). record { re = x; im = y }) (λ h. (h.re, h.im)) (Dec.and (within? coordinate_reach p.re) (within? coordinate_reach p.im))) (in-range? ps)

pub range_stable : (ps : List Pair) → ((InRange ps → ⊥) → ⊥) → InRange ps
range_stable ps = (Dec.not-not (in-range? ps)).0

module _ (ps : List Pair) (p : Preimage) (h : Preimaged ps (Ok p)) where
  passed : NoneHolds (preimage_causes ps)
  passed = first-none (preimage_causes ps) h.0

  is : PreimageOf (leg_polynomial ps) p
  is = h.1

  pub found_in_range : InRange ps
  found_in_range = range_stable ps passed.0

  module _ (l : length ps ≤ 6) where
    pub root_small : Each wholes Small (quartic p.square.q)
    root_small = let s = is.square_of in root-within ps found_in_range l p.square.c (quartic p.square.q) s.positive s.squared

    pub preimage_small : AllWithin 2000 (quadratic p.w)
    preimage_small = preimage_within ps found_in_range l p.kappa (quadratic p.w) passed.1.0 is.generated
