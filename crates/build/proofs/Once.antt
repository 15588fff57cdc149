-- One answer of the builders.
--   built_once     what is promised of an answer leaves one
use mathlib.Core.Path.{◌≡◌, sym, ap, ◌∙◌}
use Rattle.std.specs.Prelude.{Result}
use Rattle.refusal.specs.declared.Refusal.{Refusal}
use Rattle.refusal.specs.Answers.{answer_of}
use Rattle.refusal.proofs.Answers.{answer_once, first_or_once}
use Rattle.pair.specs.declared.Pair.{Pair}
use Rattle.curve.specs.declared.Curve.{Curve}
use Rattle.curve.proofs.Points.{curve_once}
use Rattle.build.specs.Promise.{Source, points, causes, BuiltFrom, Built}
use Rattle.build.proofs.Legs.{legs_once}

module _ (p0 : Pair) (s : Source) where
  curves_once : (c d : Curve) → BuiltFrom p0 s c → BuiltFrom p0 s d → c ≡ d
  curves_once c d h k = curve_once c d (h.by_legs ∙ ap (points p0) (legs_once s h.legs k.legs h.are_legs k.are_legs) ∙ sym k.by_legs)

  pub built_once : (r t : Result Curve Refusal) → Built p0 s r → Built p0 s t → r ≡ t
  built_once r t h k = answer_once r t (first_or_once (causes p0 s) (BuiltFrom p0 s) curves_once (answer_of r) (answer_of t) h k)
