-- The steps of building.
--   Next p d r        r is the point after p where the leg d has parts of at most 80,000
--   Ranged ps r       the curve with the points ps, or RANGE where one of them is out of range
use Rattle.std.specs.Prelude.{◌≡◌, List, [], ◌∷◌, ℕ, ◌+◌, Result}
use Rattle.refusal.specs.declared.Refusal.{Refusal}
use Rattle.refusal.specs.Answers.{answer_of, FirstOr}
use Rattle.pair.specs.declared.Pair.{Pair}
use Rattle.pair.specs.Pairs.{plus, PartsWithin}
use Rattle.curve.specs.Curves.{points_of}
use Rattle.curve.specs.Promise.{out_of_range}
use Rattle.curve.specs.declared.Curve.{Curve}

pub record Next (p d r : Pair) : Type 0 where
  pub is : r ≡ plus p d
  pub near : (B : ℕ) → PartsWithin B p → PartsWithin (B + 80000) r

abbrev pub Ranged : List Pair → Result Curve Refusal → Type 0
Ranged ps r = FirstOr (out_of_range ps ∷ []) (λ c. points_of c ≡ ps) (answer_of r)
