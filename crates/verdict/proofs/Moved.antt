-- A verdict does not change when the curve is moved.
--   recognised_moved        it carries over, where the points and the moved points are in range
use mathlib.Core.Path.{sym, subst}
use mathlib.Core.List.{List, map}
use Rattle.std.specs.Prelude.{Result}
use Rattle.refusal.specs.declared.Refusal.{Refusal}
use Rattle.pair.specs.declared.Pair.{Pair}
use Rattle.pair.specs.Pairs.{plus}
use Rattle.curve.specs.Curves.{InRange}
use Rattle.curve.proofs.Moved.{leg_polynomial-moved}
use Rattle.verdict.specs.declared.Verdict.{Verdict}
use Rattle.verdict.specs.Promise.{Recognised}
use Rattle.verdict.proofs.Refusals.{recognised_by, recognised_holds}

pub recognised_moved : (a : Pair) (ps : List Pair) (r : Result Verdict Refusal) → InRange ps → InRange (map (plus a) ps) → Recognised ps r → Recognised (map (plus a) ps) r
recognised_moved a ps r i j h =
    let (v, is, k) = recognised_holds ps i r h in
    subst (Recognised (map (plus a) ps)) (sym is) (recognised_by (map (plus a) ps) j v (rw (leg_polynomial-moved a ps) k))
