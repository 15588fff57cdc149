-- Polynomials over coefficients with no zero divisors.
--   Domain C            a product is 0 only where a factor is
--   times_cancel        a factor other than 0 is cancelled
--   roots_agree         a² = b² gives a = b or a = −b
--   twice_some          2 a is not 0 where neither 2 nor a is
--   product-zero        a product of polynomials is 0 only where a factor is
--   UpToSign R p q      p = q or p = −q
--   squares_agree       p² = q² gives p = q or p = −q
--   scaled_squares_agree               c p² = c q² with c not 0 does too
use mathlib.Core.Path.{◌≡◌, refl, sym, ap, ap₂, ◌∙◌}
use mathlib.Core.List.{List, [], ◌∷◌}
use mathlib.Core.Logic.{◌≢◌, ◌⊎◌, inl, inr, ⊎_elim, ⊎_map}
use Prim.Native.Nat.{ℕ, zero, suc}
use lib.IntN.{pos, negsuc}
use Rattle.whole.specs.Coefficients.{Coefficients, at}
use Rattle.poly.specs.Polynomials.{Same, sum, scaled, product, square}
use Rattle.whole.proofs.Ring.{Ring, none-plus, none-times, times_none, plus_cancel, zero-difference}
use Rattle.whole.proofs.Solver.{atoms, ring, read, read_lit}
use Rattle.poly.specs.Terms.{twice}
use Rattle.poly.proofs.Series.{conv, series_ring, conv-suc, conv_last}
use Rattle.poly.proofs.Lists.{at_scaled, at-product, of_sum, of_difference}

pub record Domain {A : Type 0} (C : Coefficients A) : Type 0 where
  pub splits : (a b : A) → C.times a b ≡ C.none → (a ≡ C.none) ⊎ (b ≡ C.none)

-- ---- any ring; the first identity serves polynomials too
module _ {A : Type 0} {C : Coefficients A} (R : Ring C) where
  open C use {plus as ◌⊕◌, times as ◌⊗◌}

  infixl 60 ◌⊕◌
  infixl 70 ◌⊗◌
  abbrev pub UpToSign : List A → List A → Type 0
  UpToSign p q = Same C p q ⊎ ((k : ℕ) → at C p k ≡ R.negative (at C q k))

  square-difference : (a b : A) → (a ⊕ R.negative b) ⊗ (a ⊕ b) ≡ a ⊗ a ⊕ R.negative (b ⊗ b)
  square-difference a b = atoms R (a ∷ b ∷ []) (λ ρ e. simp (e 0, e 1, read) (ring R ρ _ _ tt))

  times-difference : (a b c : A) → a ⊗ (b ⊕ R.negative c) ≡ a ⊗ b ⊕ R.negative (a ⊗ c)
  times-difference a b c = atoms R (a ∷ b ∷ c ∷ []) (λ ρ e. simp (e 0, e 1, e 2, read) (ring R ρ _ _ tt))

-- ---- a domain
module _ {A : Type 0} {C : Coefficients A} (R : Ring C) (D : Domain C) where
  open C use {none as 𝟎, plus as ◌⊕◌, times as ◌⊗◌}

  infixl 60 ◌⊕◌
  infixl 70 ◌⊗◌
  pub times_cancel : (a b c : A) → a ≢ 𝟎 → a ⊗ b ≡ a ⊗ c → b ≡ c
  times_cancel a b c n e =
      ⊎_elim (λ z. absurd (n z)) (zero-difference R b c)
      (D.splits a (b ⊕ R.negative c) (times-difference R a b c ∙ ap (λ x. x ⊕ R.negative (a ⊗ c)) e ∙ R.plus_negative (a ⊗ c)))

  plus-zero : (a b : A) → a ⊕ b ≡ 𝟎 → a ≡ R.negative b
  plus-zero a b e = plus_cancel R b (R.plus_comm b a ∙ e ∙ sym (R.plus_negative b))

  -- a² − b² = (a − b)(a + b)
  pub roots_agree : (a b : A) → a ⊗ a ≡ b ⊗ b → (a ≡ b) ⊎ (a ≡ R.negative b)
  unfolding ⊎_map
  roots_agree a b e =
      ⊎_map (zero-difference R a b) (plus-zero a b)
      (D.splits (a ⊕ R.negative b) (a ⊕ b) (square-difference R a b ∙ ap (λ x. x ⊕ R.negative (b ⊗ b)) e ∙ R.plus_negative (b ⊗ b)))

  pub twice_some : R.number (pos 2) ≢ 𝟎 → (a : A) → a ≢ 𝟎 → twice C a ≢ 𝟎
  twice_some two a n e = ⊎_elim two n (D.splits _ a (doubled a ∙ e))
    where
      doubled : (a : A) → R.number (pos 2) ⊗ a ≡ a ⊕ a
      doubled a = atoms R (a ∷ []) (λ ρ e. simp (e 0, read_lit R ρ, read) (ring R ρ _ _ tt))

  -- ---- no zero divisors, by induction on the two lists: one of them loses its constant coefficient, which is 0
  abbrev Zero : (ℕ → A) → Type 0
  Zero f = (k : ℕ) → f k ≡ 𝟎

  rest-zero : (a b : A) → a ≡ 𝟎 → a ⊕ b ≡ 𝟎 → b ≡ 𝟎
  rest-zero a b z e = sym (none-plus R b) ∙ ap (λ x. x ⊕ b) (sym z) ∙ e

  zero_cons : (a : A) (p : List A) → a ≡ 𝟎 → Zero (at C p) → Zero (at C (a ∷ p))
  zero_cons a p z h zero = z
  zero_cons a p z h (suc k) = h k

  drop-left : (a : A) (p q : List A) → a ≡ 𝟎 → Zero (conv C (at C (a ∷ p)) (at C q)) → Zero (conv C (at C p) (at C q))
  drop-left a p q z h k =
      rest-zero _ _ (ap (λ x. x ⊗ at C q (suc k)) z ∙ none-times R _) (sym (conv-suc R (at C (a ∷ p)) (at C q) k) ∙ h (suc k))

  drop_right : (p : List A) (b : A) (q : List A) → b ≡ 𝟎 → Zero (conv C (at C p) (at C (b ∷ q))) → Zero (conv C (at C p) (at C q))
  drop_right p b q z h k =
      rest-zero _ _ (ap (λ x. at C p (suc k) ⊗ x) z ∙ times_none R _)
      (R.plus_comm _ _ ∙ sym (conv_last R (at C p) (at C (b ∷ q)) k) ∙ h (suc k))

  conv-zero-step : (a : A) (p : List A) → ((q : List A) → Zero (conv C (at C p) (at C q)) → Zero (at C p) ⊎ Zero (at C q))
      → (q : List A) → Zero (conv C (at C (a ∷ p)) (at C q)) → Zero (at C (a ∷ p)) ⊎ Zero (at C q)
  unfolding conv ⊎_map
  conv-zero-step a p ih [] h = inr (λ k. refl)
  conv-zero-step a p ih (b ∷ q) h =
      ⊎_elim
      (λ z. ⊎_map (zero_cons a p z) (λ r. r) (ih (b ∷ q) (drop-left a p (b ∷ q) z h)))
      (λ z. ⊎_map (λ l. l) (zero_cons b q z) (conv-zero-step a p ih q (drop_right (a ∷ p) b q z h)))
      (D.splits a b (h zero))

  conv-zero : (p q : List A) → Zero (conv C (at C p) (at C q)) → Zero (at C p) ⊎ Zero (at C q)
  conv-zero [] q h = inl (λ k. refl)
  conv-zero (a ∷ p) q h = conv-zero-step a p (conv-zero p) q h

  pub product-zero : (p q : List A) → Same C (product C p q) [] → Same C p [] ⊎ Same C q []
  product-zero p q h = conv-zero p q (λ k. sym (at-product R p q k) ∙ h k)

  -- a multiple by a number other than 0 is cancelled
  scaled_cancel : (c : A) (p q : List A) → c ≢ 𝟎 → Same C (scaled C c p) (scaled C c q) → Same C p q
  scaled_cancel c p q n h k = times_cancel c _ _ n (sym (at_scaled R c p k) ∙ h k ∙ at_scaled R c q k)

  abbrev minus : List A → List A → List A
  minus p q = sum C p (scaled C (R.number (negsuc 0)) q)

  minus-zero : (p q : List A) → Zero (at C (minus p q)) → Same C p q
  minus-zero p q h k = zero-difference R _ _ (sym (ap (λ f. f k) (of_difference R p q)) ∙ h k)

  -- ---- a square has two roots
  pub squares_agree : (p q : List A) → Same C (square C p) (square C q) → UpToSign R p q
  unfolding ⊎_map
  squares_agree p q h =
      ⊎_map (minus-zero p q) (λ z k. plus-zero _ _ (sym (ap (λ f. f k) (of_sum R p q)) ∙ z k)) (conv-zero (minus p q) (sum C p q) zeros)
    where
      zeros : Zero (conv C (at C (minus p q)) (at C (sum C p q)))
      zeros k =
          ap₂ (λ f g. conv C f g k) (of_difference R p q) (of_sum R p q)
          ∙ ap (λ f. f k) (square-difference (series_ring R) (at C p) (at C q))
          ∙ ap (λ x. x ⊕ R.negative (conv C (at C q) (at C q) k)) (sym (at-product R p p k) ∙ h k ∙ at-product R q q k)
          ∙ R.plus_negative _

  pub scaled_squares_agree : (c : A) (p q : List A) → c ≢ 𝟎 → Same C (scaled C c (square C p)) (scaled C c (square C q))
      → UpToSign R p q
  scaled_squares_agree c p q n h = squares_agree p q (scaled_cancel c (square C p) (square C q) n h)
