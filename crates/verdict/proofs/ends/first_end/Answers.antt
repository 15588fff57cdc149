-- `ends::first_end` meets its contract, by the kind of curve.
use lib.Dec.{lit≤}
use Rattle.curve.proofs.Differences.{legs_at}
use Rattle.verdict.proofs.ends.first_end.Goals as goal

pub end_divides-requires : goal.end_divides-requires
end_divides-requires c =
    let h = legs_at _ c.in-Cubic.is c.requires in
    (h 0, h 1, lit≤ tt)

pub end_divides-requires-in-Quintic : goal.end_divides-requires-in-Quintic
end_divides-requires-in-Quintic c =
    let h = legs_at _ c.in-Quintic.is c.requires in
    (h 0, h 1, lit≤ tt)
