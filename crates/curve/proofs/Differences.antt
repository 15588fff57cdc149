-- D by the table of differences is D by its definition.
--   cubic-drawn, quintic-drawn     the coefficients that the code makes are those of the power form
--   second-within                  the size of a second difference
--   legs_at                        the legs of a curve whose kind is known are small where the curve's are
use mathlib.Core.Path.{◌≡◌, sym, subst}
use mathlib.Core.List.{List, [], ◌∷◌}
use Prim.Native.Nat.{ℕ, ◌+◌}
use lib.IntN.{pos}
use Rattle.poly.specs.Polynomials.{Same}
use Rattle.poly.proofs.Zeros.{same-padded}
use Rattle.pair.specs.declared.Pair.{Pair}
use Rattle.pair.specs.Pairs.{pairs, minus, multiple, PartsWithin, AllWithin}
use Rattle.pair.proofs.Parts.{minus-within}
use Rattle.pair.proofs.Laws.{multiple-one}
use Rattle.bernstein.specs.Binomials.{choose}
use Rattle.bernstein.specs.Powers.{differences, kth_differences, power_form}
use Rattle.curve.specs.declared.Legs.{Legs}
use Rattle.curve.specs.Sizes.{leg_reach}
use Rattle.curve.specs.Steps.{legs_of, second_of}

module _ (d0 d1 d2 : Pair) where
  pub cubic-drawn : Same pairs (d0 ∷ multiple (pos 2) (minus d1 d0) ∷ second_of d0 d1 d2 ∷ pairs.none ∷ pairs.none ∷ []) (power_form (d0 ∷ d1 ∷ d2 ∷ []))
  unfolding power_form kth_differences differences choose
  cubic-drawn k = sym (same-padded pairs 2 (power_form (d0 ∷ d1 ∷ d2 ∷ [])) _
      (λ i. multiple-one d0 i ∷ multiple (pos 2) (minus d1 d0) ∷ multiple-one (second_of d0 d1 d2) i ∷ pairs.none ∷ pairs.none ∷ []) k)

  module _ (d3 d4 : Pair) where
    abbrev drawing : List Pair
    drawing =
        d0 ∷ multiple (pos 4) (minus d1 d0) ∷ multiple (pos 6) (second_of d0 d1 d2) ∷ multiple (pos 4) (minus (second_of d1 d2 d3) (second_of d0 d1 d2)) ∷
        second_of (second_of d0 d1 d2) (second_of d1 d2 d3) (second_of d2 d3 d4) ∷ []

    pub quintic-drawn : Same pairs drawing (power_form (d0 ∷ d1 ∷ d2 ∷ d3 ∷ d4 ∷ []))
    unfolding power_form kth_differences differences choose
    quintic-drawn k = sym (same-padded pairs 0 (power_form (d0 ∷ d1 ∷ d2 ∷ d3 ∷ d4 ∷ [])) drawing
        (λ i. multiple-one d0 i ∷ multiple (pos 4) (minus d1 d0) ∷ multiple (pos 6) (second_of d0 d1 d2)
        ∷ multiple (pos 4) (minus (second_of d1 d2 d3) (second_of d0 d1 d2)) ∷ multiple-one (second_of (second_of d0 d1 d2) (second_of d1 d2 d3) (second_of d2 d3 d4)) i ∷ []) k)

pub second-within : {B : ℕ} {a b c : Pair} → PartsWithin B a → PartsWithin B b → PartsWithin B c → PartsWithin (B + B + (B + B)) (second_of a b c)
second-within h i j = minus-within (minus-within j i) (minus-within i h)

pub legs_at : {l : Legs} (k : Legs) → l ≡ k → AllWithin leg_reach (legs_of l) → AllWithin leg_reach (legs_of k)
legs_at k e h = subst (λ (l : Legs). AllWithin leg_reach (legs_of l)) e h
