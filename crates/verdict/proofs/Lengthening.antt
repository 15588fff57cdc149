-- The squares of D's parts stay within what N may be.
--   Slight            no coefficient passes 1,280,000
--   parts_slight      so it is of the parts of D,
--   slight_small      so a part of D is small enough to be squared
--   square-sized      and no coefficient of its square passes 10¹³
use mathlib.Core.Path.{refl, sym, subst}
use mathlib.Core.List.{List, [], ◌∷◌}
use Prim.Native.Nat.{ℕ, zero, suc, zero-le}
use native.Mathlib.Omega.{arith}
use lib.IntN.{ℤ}
use lib.ListN.{get_or-map}
use Rattle.whole.specs.Coefficients.{at}
use Rattle.poly.specs.Polynomials.{sum, scaled, product, square}
use Rattle.whole.specs.Number.{wholes, Within, norm_size}
use Rattle.whole.proofs.Wholes.{readℤ, read_pos}
use Rattle.whole.proofs.Bound.{Bounded, done, ◌▸◌, bounds, within}
use Rattle.pair.specs.declared.Pair.{Pair}
use Rattle.pair.specs.Pairs.{pairs, AllWithin}
use Rattle.root.specs.declared.Quartic.{Quartic}
use Rattle.root.specs.Search.{Each}
use Rattle.root.specs.Promise.{quartic, Small}
use Rattle.curve.specs.declared.LegPowers.{LegPowers}
use Rattle.curve.specs.Curves.{reals, imaginaries}
use Rattle.curve.specs.Steps.{leg_powers}

abbrev pub Slight : List ℤ → Type 0
Slight p = (k : ℕ) → Within 1280000 (at wholes p k)

pub parts_slight : (e : LegPowers) → AllWithin 1280000 (leg_powers e) → Slight (reals (leg_powers e)) × Slight (imaginaries (leg_powers e))
parts_slight e h = (
  λ k. subst (Within 1280000) (sym (get_or-map (λ (z : Pair). z.re) (leg_powers e) k pairs.none)) (h k).re,
  λ k. subst (Within 1280000) (sym (get_or-map (λ (z : Pair). z.im) (leg_powers e) k pairs.none)) (h k).im,
)

pub slight_small : (p : List ℤ) → Slight p → Each wholes Small p
slight_small p h k = record { size = omega (arith, (h k).size) }

module _ (q : Quartic) (h : Slight (quartic q)) where
  sizes : Bounded (1280000 ∷ 1280000 ∷ 1280000 ∷ 1280000 ∷ 1280000 ∷ []) (q.q0 ∷ q.q1 ∷ q.q2 ∷ q.q3 ∷ q.q4 ∷ [])
  sizes = h 0 ▸ h 1 ▸ h 2 ▸ h 3 ▸ h 4 ▸ done

  pub square-sized : (k : ℕ) → Within norm_size (at wholes (square wholes (quartic q)) k)
  unfolding sum scaled product
  square-sized zero = bounds sizes (λ ρ e k. simp (e 0, readℤ, read_pos ρ 0) (within k _ refl))
  square-sized (suc zero) = bounds sizes (λ ρ e k. simp (e 0, e 1, readℤ, read_pos ρ 0) (within k _ refl))
  square-sized (suc (suc zero)) = bounds sizes (λ ρ e k. simp (e 0, e 1, e 2, readℤ, read_pos ρ 0) (within k _ refl))
  square-sized (suc (suc (suc zero))) = bounds sizes (λ ρ e k. simp (e 0, e 1, e 2, e 3, readℤ, read_pos ρ 0) (within k _ refl))
  square-sized (suc (suc (suc (suc zero)))) = bounds sizes (λ ρ e k. simp (e 0, e 1, e 2, e 3, e 4, readℤ, read_pos ρ 0) (within k _ refl))
  square-sized (suc (suc (suc (suc (suc zero))))) = bounds sizes (λ ρ e k. simp (e 1, e 2, e 3, e 4, readℤ, read_pos ρ 0) (within k _ refl))
  square-sized (suc (suc (suc (suc (suc (suc zero)))))) = bounds sizes (λ ρ e k. simp (e 2, e 3, e 4, readℤ, read_pos ρ 0) (within k _ refl))
  square-sized (suc (suc (suc (suc (suc (suc (suc zero))))))) = bounds sizes (λ ρ e k. simp (e 3, e 4, readℤ, read_pos ρ 0) (within k _ refl))
  square-sized (suc (suc (suc (suc (suc (suc (suc (suc zero)))))))) = bounds sizes (λ ρ e k. simp (e 4, readℤ, read_pos ρ 0) (within k _ refl))
  square-sized (suc (suc (suc (suc (suc (suc (suc (suc (suc k))))))))) = record { size = zero-le }
