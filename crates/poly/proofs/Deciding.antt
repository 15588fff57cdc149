-- What is decided by trying.
--   same?                whether two lists are the same polynomial, where it is decided whether two coefficients are equal
--   within?              whether a number is within a bound
--   some-within?         whether some number within a bound has a property that is decided
--   Tried B n P          some list of n numbers within B has P:
--   tried?               that is decided where P is,
--   tried_found          and gives a list with P
use mathlib.Core.Path.{◌≡◌, refl, ap, subst}
use mathlib.Core.List.{List, [], ◌∷◌}
use mathlib.Core.Logic.Dec
use mathlib.Core.Logic.{◌⊎◌, inl, inr}
use Prim.Native.Nat.{ℕ, zero, suc}
use native.Mathlib.Decide.{map_dec, dec_le, ℕ_discrete}
use native.Mathlib.Omega.{arith}
use lib.IntN.{ℤ, pos, negsuc, nat_abs}
use Rattle.whole.specs.Number.{Within}
use Rattle.whole.specs.Coefficients.{Coefficients, at}
use Rattle.poly.specs.Polynomials.{Same}
use Rattle.whole.proofs.Integers.{abs_zero}

-- ---- polynomials
module _ {A : Type 0} where
  each? : (f g : ℕ → A) → Dec (f 0 ≡ g 0) → Dec ((k : ℕ) → f (suc k) ≡ g (suc k)) → Dec ((k : ℕ) → f k ≡ g k)
  each? f g d e = map_dec by (λ h. (h 0, λ k. h (suc k))) (Dec.and d e)
    where
      by : (f 0 ≡ g 0) × ((k : ℕ) → f (suc k) ≡ g (suc k)) → (k : ℕ) → f k ≡ g k
      by h zero = h.0
      by h (suc k) = h.1 k

  pub same? : (C : Coefficients A) → ((a b : A) → Dec (a ≡ b)) → (p q : List A) → Dec (Same C p q)
  same? C equal? [] [] = yes (λ k. refl)
  same? C equal? [] (b ∷ q) = each? (at C []) (at C (b ∷ q)) (equal? C.none b) (same? C equal? [] q)
  same? C equal? (a ∷ p) [] = each? (at C (a ∷ p)) (at C []) (equal? a C.none) (same? C equal? p [])
  same? C equal? (a ∷ p) (b ∷ q) = each? (at C (a ∷ p)) (at C (b ∷ q)) (equal? a b) (same? C equal? p q)

-- ---- numbers
pub within? : (b : ℕ) (x : ℤ) → Dec (Within b x)
within? b x = map_dec (λ h. record { size = h }) (λ w. w.size) (dec_le (nat_abs x) b)

-- what is within B + 1 is within B, or at one of the two ends
edge : (B : ℕ) (x : ℤ) → Within (suc B) x → Within B x ⊎ ((x ≡ pos (suc B)) ⊎ (x ≡ negsuc B))
edge B (pos k) w = by (ℕ_discrete k (suc B))
  where
    by : Dec (k ≡ suc B) → Within B (pos k) ⊎ ((pos k ≡ pos (suc B)) ⊎ (pos k ≡ negsuc B))
    by (yes e) = inr (inl (ap pos e))
    by (no n) = inl (record { size = omega (arith, w.size) })
edge B (negsuc k) w = by (ℕ_discrete k B)
  where
    by : Dec (k ≡ B) → Within B (negsuc k) ⊎ ((negsuc k ≡ pos (suc B)) ⊎ (negsuc k ≡ negsuc B))
    by (yes e) = inr (inr (ap negsuc e))
    by (no n) = inl (record { size = omega (arith, w.size) })

module _ {P : ℤ → Type 0} (P? : (x : ℤ) → Dec (P x)) where
  some-within? : (B : ℕ) → Dec ((x : ℤ) × Within B x × P x)
  some-within? zero = map_dec (λ p. (pos 0, record { size = omega arith }, p)) (λ (x, w, p). subst P (abs_zero x (omega (arith, w.size))) p) (P? (pos 0))
  some-within? (suc B) = by (P? (pos (suc B))) (P? (negsuc B)) (some-within? B)
    where
      by : Dec (P (pos (suc B))) → Dec (P (negsuc B)) → Dec ((x : ℤ) × Within B x × P x) → Dec ((x : ℤ) × Within (suc B) x × P x)
      by (yes p) d e = yes (pos (suc B), record { size = omega arith }, p)
      by (no n) (yes p) e = yes (negsuc B, record { size = omega arith }, p)
      by (no n) (no m) (yes (x, w, p)) = yes (x, record { size = omega (arith, w.size) }, p)
      by (no n) (no m) (no l) = no none
        where
          none : (x : ℤ) × Within (suc B) x × P x → ⊥
          none (x, w, p) = at_edge (edge B x w)
            where
              at_edge : Within B x ⊎ ((x ≡ pos (suc B)) ⊎ (x ≡ negsuc B)) → ⊥
              at_edge (inl v) = l (x, v, p)
              at_edge (inr (inl e)) = n (subst P e p)
              at_edge (inr (inr e)) = m (subst P e p)

-- ---- lists of numbers
module _ (B : ℕ) where
  unfoldable pub Tried : ℕ → (List ℤ → Type 0) → Type 0
  Tried zero P = P []
  Tried (suc n) P = (x : ℤ) × Within B x × Tried n (λ xs. P (x ∷ xs))

  pub tried? : (n : ℕ) (P : List ℤ → Type 0) → ((xs : List ℤ) → Dec (P xs)) → Dec (Tried n P)
  unfolding Tried
  tried? zero P P? = P? []
  tried? (suc n) P P? = some-within? (λ x. tried? n (λ xs. P (x ∷ xs)) (λ xs. P? (x ∷ xs))) B

  pub tried_found : (n : ℕ) (P : List ℤ → Type 0) → Tried n P → (xs : List ℤ) × P xs
  unfolding Tried
  tried_found zero P p = ([], p)
  tried_found (suc n) P (x, w, t) = let (xs, p) = tried_found n (λ ys. P (x ∷ ys)) t in (x ∷ xs, p)
