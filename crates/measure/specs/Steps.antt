-- The steps of the inflections.
--   Moderate        the size of a turning polynomial: nothing that is computed from it wraps
use Rattle.whole.specs.Number.{Within}
use Rattle.measure.specs.declared.Turning.{Turning}

pub record Moderate (x : Turning) : Type 0 where
  pub start : Within 8000000 x.t0
  pub middle : Within 16000000 x.t1
  pub end : Within 8000000 x.t2
