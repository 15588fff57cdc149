-- The coefficients of a square, written out.
--   square_of            the nine numbers of the square of a quartic
--   square_is           they are the square's
--   square_only         and no others are
use mathlib.Core.Path.{◌≡◌, refl, sym, ◌∙◌}
use mathlib.Core.List.{[], ◌∷◌}
use Prim.Native.Nat.{zero, suc}
use lib.IntN.{pos, ◌+ℤ◌, ◌*ℤ◌}
use Rattle.poly.specs.Polynomials.{Same, sum, scaled, product}
use Rattle.whole.specs.Number.{wholes}
use Rattle.whole.proofs.Wholes.{readℤ, read_pos, atomsℤ, ringℤ}
use Rattle.root.specs.declared.Octic.{Octic}
use Rattle.root.specs.declared.Quartic.{Quartic}
use Rattle.root.specs.Promise.{octic, IsSquare}

abbrev pub square_of : Quartic → Octic
square_of q = record {
  m0 = q.q0 *ℤ q.q0;
  m1 = pos 2 *ℤ q.q0 *ℤ q.q1;
  m2 = pos 2 *ℤ q.q0 *ℤ q.q2 +ℤ q.q1 *ℤ q.q1;
  m3 = pos 2 *ℤ q.q0 *ℤ q.q3 +ℤ pos 2 *ℤ q.q1 *ℤ q.q2;
  m4 = pos 2 *ℤ q.q0 *ℤ q.q4 +ℤ pos 2 *ℤ q.q1 *ℤ q.q3 +ℤ q.q2 *ℤ q.q2;
  m5 = pos 2 *ℤ q.q1 *ℤ q.q4 +ℤ pos 2 *ℤ q.q2 *ℤ q.q3;
  m6 = pos 2 *ℤ q.q2 *ℤ q.q4 +ℤ q.q3 *ℤ q.q3;
  m7 = pos 2 *ℤ q.q3 *ℤ q.q4;
  m8 = q.q4 *ℤ q.q4;
}

pub square_is : (q : Quartic) → IsSquare q (square_of q)
unfolding sum scaled product
square_is q zero = atomsℤ (q.q0 ∷ []) (λ ρ e. simp (e 0, readℤ, read_pos ρ) (ringℤ ρ _ _ tt))
square_is q (suc zero) = atomsℤ (q.q0 ∷ q.q1 ∷ []) (λ ρ e. simp (e 0, e 1, readℤ, read_pos ρ) (ringℤ ρ _ _ tt))
square_is q (suc (suc zero)) = atomsℤ (q.q0 ∷ q.q1 ∷ q.q2 ∷ []) (λ ρ e. simp (e 0, e 1, e 2, readℤ, read_pos ρ) (ringℤ ρ _ _ tt))
square_is q (suc (suc (suc zero))) =
    atomsℤ (q.q0 ∷ q.q1 ∷ q.q2 ∷ q.q3 ∷ []) (λ ρ e. simp (e 0, e 1, e 2, e 3, readℤ, read_pos ρ) (ringℤ ρ _ _ tt))
square_is q (suc (suc (suc (suc zero)))) =
    atomsℤ (q.q0 ∷ q.q1 ∷ q.q2 ∷ q.q3 ∷ q.q4 ∷ []) (λ ρ e. simp (e 0, e 1, e 2, e 3, e 4, readℤ, read_pos ρ) (ringℤ ρ _ _ tt))
square_is q (suc (suc (suc (suc (suc zero))))) =
    atomsℤ (q.q1 ∷ q.q2 ∷ q.q3 ∷ q.q4 ∷ []) (λ ρ e. simp (e 0, e 1, e 2, e 3, readℤ, read_pos ρ) (ringℤ ρ _ _ tt))
square_is q (suc (suc (suc (suc (suc (suc zero)))))) =
    atomsℤ (q.q2 ∷ q.q3 ∷ q.q4 ∷ []) (λ ρ e. simp (e 0, e 1, e 2, readℤ, read_pos ρ) (ringℤ ρ _ _ tt))
square_is q (suc (suc (suc (suc (suc (suc (suc zero))))))) =
    atomsℤ (q.q3 ∷ q.q4 ∷ []) (λ ρ e. simp (e 0, e 1, readℤ, read_pos ρ) (ringℤ ρ _ _ tt))
square_is q (suc (suc (suc (suc (suc (suc (suc (suc zero)))))))) = atomsℤ (q.q4 ∷ []) (λ ρ e. simp (e 0, readℤ) (ringℤ ρ _ _ tt))
square_is q (suc (suc (suc (suc (suc (suc (suc (suc (suc k))))))))) = refl

-- nine numbers are those of their polynomial
nine_same : (a b : Octic) → Same wholes (octic a) (octic b) → a ≡ b
nine_same a b h i = record { m0 = h 0 i; m1 = h 1 i; m2 = h 2 i; m3 = h 3 i; m4 = h 4 i; m5 = h 5 i; m6 = h 6 i; m7 = h 7 i; m8 = h 8 i }

pub square_only : (q : Quartic) (m : Octic) → IsSquare q m → m ≡ square_of q
square_only q m h = nine_same m (square_of q) (λ k. sym (h k) ∙ square_is q k)
