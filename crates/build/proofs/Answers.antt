-- The answers of a builder, each from the causes that hold and that do not.
--   refused_range, refused-still, refused_thirds     the refusals for what is given
--   answered                                         the curve, or the refusal for a point
use mathlib.Core.Path.{◌≡◌, refl, sym, ◌∙◌, subst}
use mathlib.Core.List.{List, [], ◌∷◌}
use mathlib.Core.Logic.{inl, inr}
use Prim.Native.Nat.{ℕ}
use Rattle.std.specs.Prelude.{Result, Err}
use Rattle.refusal.specs.Table.{First}
use Rattle.refusal.specs.Answers.{answer_of}
use Rattle.refusal.specs.declared.Refusal.{Refusal}
use Rattle.refusal.specs.declared.Refusal.TheVariants.{Range, Still, Thirds}
use Rattle.refusal.proofs.Answers.{first_or_by}
use Rattle.pair.specs.declared.Pair.{Pair}
use Rattle.curve.specs.declared.Curve.{Curve}
use Rattle.curve.specs.Curves.{InRange}
use Rattle.curve.specs.Promise.{out_of_range}
use Rattle.build.specs.Promise.{Source, pairs_of, AreLegs, points, Allowed, AllZero, NoMiddle, point_out_of_range, causes, Built}
use Rattle.build.specs.Steps.{Ranged}
use Rattle.build.proofs.Legs.{outside}

module _ (p0 : Pair) (s : Source) where
  pub refused_range : (Allowed p0 (pairs_of s) → ⊥) → Built p0 s (Err Range)
  refused_range n = (inl (n, refl), refl)

  pub refused-still : Allowed p0 (pairs_of s) → AllZero (pairs_of s) → Built p0 s (Err Still)
  refused-still a z = (inr (λ n. n a, inl (z, refl)), refl)

  pub refused_thirds : Allowed p0 (pairs_of s) → (AllZero (pairs_of s) → ⊥) → NoMiddle s → Built p0 s (Err Thirds)
  refused_thirds a z m = (inr (λ n. n a, inr (z, inl (m, refl))), refl)

  -- ps are the points that the legs give
  pub answered : Allowed p0 (pairs_of s) → (AllZero (pairs_of s) → ⊥) → (NoMiddle s → ⊥) → (ds : List Pair) → AreLegs s ds → (ps : List Pair) → ps ≡ points p0 ds
      → (r : Result Curve Refusal) → Ranged ps r → Built p0 s r
  answered a z m ds l ps e r =
      first_or_by (out_of_range ps ∷ []) (causes p0 s) (λ n f. inr (λ o. o a, inr (z, inr (m, last n f))))
      (λ c k. record { legs = ds; are_legs = l; by_legs = k ∙ e }) (answer_of r)
    where
      last : (n : ℕ) → First (out_of_range ps ∷ []) n → First (point_out_of_range p0 s ∷ []) n
      last n (inl (o, i)) = inl (outside p0 s ds l (λ j. o (subst InRange (sym e) j)), i)
      last n (inr (o, i)) = inr (λ k. o (λ j. k ds l (subst InRange e j)), i)
