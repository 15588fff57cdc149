-- The words of the theorems on polynomials, for coefficients of any kind.
--   Throughout            d divides every coefficient
--   IsUnit                divides everything
--   Primitive, CoprimeTo  only units divide every coefficient; only units divide d and every coefficient
--   Above, Top            nothing stands above a power; the highest power that has a coefficient other than 0
--   twice                 a + a
--   RootAt                q is a square root of M, with s at its highest power L
--   listed n f            the list of the coefficients f 0, f 1, .. f n
--   value                 the value of a polynomial at a point
use Rattle.std.specs.Prelude.{◌≡◌, List, [], ◌∷◌, ◌≢◌, ℕ, zero, suc, ◌<◌}
use Rattle.whole.specs.Coefficients.{Coefficients, at, Divides}
use Rattle.poly.specs.Polynomials.{Same, square}

abbrev pub listed : {A : Type 0} → ℕ → (ℕ → A) → List A
listed zero f = f zero ∷ []
listed (suc n) f = f zero ∷ listed n (λ k. f (suc k))

module _ {A : Type 0} (C : Coefficients A) where
  abbrev pub IsUnit : A → Type 0
  IsUnit u = (x : A) → Divides C u x

  abbrev pub Throughout : A → (ℕ → A) → Type 0
  Throughout d f = (k : ℕ) → Divides C d (f k)

  abbrev pub Primitive : List A → Type 0
  Primitive p = (d : A) → Throughout d (at C p) → IsUnit d

  abbrev pub CoprimeTo : A → List A → Type 0
  CoprimeTo d p = (e : A) → Divides C e d → Throughout e (at C p) → IsUnit e

  abbrev pub Above : (ℕ → A) → ℕ → Type 0
  Above f m = (k : ℕ) → m < k → f k ≡ C.none

  pub record Top (p : List A) (m : ℕ) : Type 0 where
    pub lead : at C p m ≢ C.none
    pub above : Above (at C p) m

  pub record RootAt (M : List A) (L : ℕ) (s : A) (q : List A) : Type 0 where
    pub above : Above (at C q) L
    pub lead : at C q L ≡ s
    pub squared : Same C (square C q) M

  abbrev pub twice : A → A
  twice a = C.plus a a

  unfoldable pub value : A → List A → A
  value x [] = C.none
  value x (a ∷ p) = C.plus a (C.times x (value x p))
