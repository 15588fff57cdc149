-- The coefficients of a square root, each from those above it. Where q has s at its highest power L and M is its square, M (k + L) is 2 s q k
-- and a sum over the coefficients of q strictly between k and L.
--   root-1, root-2, root-3, root-4     that equation for k = L − 1, L − 2, L − 3, L − 4, with the sum written out
--   root_lead                  where the highest power of M is L + L, that of q is L, and its coefficient a root of M's
--   root-signed                and q or −q has s there, whichever root s of it is taken
use mathlib.Core.Path.{◌≡◌, refl, sym, ap, ap₂, ◌∙◌, fun_ext}
use mathlib.Core.List.{List, [], ◌∷◌}
use mathlib.Core.Logic.{inl, inr, ⊎_elim}
use Prim.Native.Nat.{ℕ, zero, suc, ◌+◌}
use native.Mathlib.Nat.{suc-add, zero-add, add-zero, add-suc}
use native.Mathlib.Omega.{arith}
use lib.IntN.{negsuc}
use Rattle.whole.specs.Coefficients.{Coefficients, at}
use Rattle.poly.specs.Polynomials.{Same, scaled, square}
use Rattle.whole.proofs.Ring.{Ring, none-plus}
use Rattle.whole.proofs.Solver.{atoms, ring, read, read_none, read-lit⁻}
use Rattle.poly.specs.Terms.{Above, Top, RootAt, twice}
use Rattle.poly.proofs.Series.{Series, tail, conv, conv-suc, conv_last}
use Rattle.poly.proofs.Lists.{at_scaled, at-product, at-opposite, square-opposite}
use Rattle.poly.proofs.Domain.{Domain, UpToSign, roots_agree}
use Rattle.poly.proofs.Top.{product_lead, scaled_above, square-root_above}

-- the coefficients from the k-th on
abbrev upper : {A : Type 0} → ℕ → Series A → Series A
upper k f i = f (k + i)

module _ {A : Type 0} (C : Coefficients A) where
  -- that sum, where n powers stand between, f 0 the lowest of them: the terms of a coefficient of a square that are neither the first nor the last
  unfoldable between : ℕ → Series A → A
  between zero f = C.none
  between (suc n) f = conv C f f n

module _ {A : Type 0} {C : Coefficients A} (R : Ring C) where
  open C use {none as 𝟎, plus as ◌⊕◌, times as ◌⊗◌}

  infixl 60 ◌⊕◌
  infixl 70 ◌⊗◌
  upper-zero : (f : Series A) → upper zero f ≡ f
  upper-zero f = fun_ext (λ i. ap f (zero-add i))

  upper-suc : (k : ℕ) (f : Series A) → upper k (tail f) ≡ upper (suc k) f
  upper-suc k f = fun_ext (λ i. ap f (sym (suc-add k i)))

  tail-upper : (k : ℕ) (f : Series A) → tail (upper k f) ≡ upper (suc k) f
  tail-upper k f = fun_ext (λ i. ap f (add-suc k i ∙ sym (suc-add k i)))

  ends_none : (a b x : A) → a ⊗ 𝟎 ⊕ (x ⊕ 𝟎 ⊗ b) ≡ x
  ends_none a b x = atoms R (a ∷ b ∷ x ∷ []) (λ ρ e. simp (e 0, e 1, e 2, read_none R ρ, read) (ring R ρ _ _ tt))

  -- the upper part of a product depends on the upper parts of the factors alone
  conv-upper : (k d : ℕ) (f g : Series A) → Above C f (k + d) → Above C g (k + d) → conv C f g (k + (k + d)) ≡ conv C (upper k f) (upper k g) d
  conv-upper zero d f g u v = rw (zero-add d, zero-add d) (ap₂ (λ x y. conv C x y d) (sym (upper-zero f)) (sym (upper-zero g)))
  conv-upper (suc k) d f g u v =
      let n = k + (k + d) in
      let e : suc k + (suc k + d) ≡ suc (suc n) = omega arith in
      ap (conv C f g) e
      ∙ conv-suc R f g (suc n)
      ∙ ap (λ x. f zero ⊗ g (suc (suc n)) ⊕ x) (conv_last R (tail f) g n)
      ∙ ap₂ (λ x y. f zero ⊗ x ⊕ (conv C (tail f) (tail g) n ⊕ y ⊗ g zero)) (v (suc (suc n)) (omega arith)) (u (suc (suc n)) (omega arith))
      ∙ ends_none _ _ _
      ∙ conv-upper k d (tail f) (tail g) (λ i h. u (suc i) (omega arith)) (λ i h. v (suc i) (omega arith))
      ∙ ap₂ (λ x y. conv C x y d) (upper-suc k f) (upper-suc k g)

  both_ends : (a b x : A) → a ⊗ b ⊕ (x ⊕ b ⊗ a) ≡ twice C (b ⊗ a) ⊕ x
  both_ends a b x = atoms R (a ∷ b ∷ x ∷ []) (λ ρ e. simp (e 0, e 1, e 2, read) (ring R ρ _ _ tt))

  square_ends : (f : Series A) (n : ℕ) → conv C f f (suc n) ≡ twice C (f (suc n) ⊗ f zero) ⊕ between C n (tail f)
  unfolding between conv
  square_ends f zero = ap (λ x. f zero ⊗ f (suc zero) ⊕ x) (sym (none-plus R _)) ∙ both_ends _ _ _
  square_ends f (suc n) = ap (λ x. f zero ⊗ f (suc (suc n)) ⊕ x) (conv_last R (tail f) f n) ∙ both_ends _ _ _

  square_above : (f : Series A) (k n : ℕ) → Above C f (k + suc n)
      → conv C f f (k + (k + suc n)) ≡ twice C (f (k + suc n) ⊗ f k) ⊕ between C n (upper (suc k) f)
  square_above f k n u =
      conv-upper k (suc n) f f u u
      ∙ square_ends (upper k f) n
      ∙ ap₂ (λ x y. twice C (f (k + suc n) ⊗ x) ⊕ y) (ap f (add-zero k)) (ap (between C n) (tail-upper k f))

  square_coefficient : (f : Series A) {L : ℕ} (k n : ℕ) → k + suc n ≡ L → Above C f L
      → conv C f f (k + L) ≡ twice C (f L ⊗ f k) ⊕ between C n (upper (suc k) f)
  square_coefficient f k n e u = (rw e at (square_above f k n)) u

  moved : (s x y : A) → twice C s ⊗ x ≡ twice C (s ⊗ x) ⊕ y ⊕ R.negative y
  moved s x y = atoms R (s ∷ x ∷ y ∷ []) (λ ρ e. simp (e 0, e 1, e 2, read) (ring R ρ _ _ tt))

  -- 2 s q k = M (k + L) − between, for each k below L
  root_coefficient : {M : List A} {L : ℕ} {s : A} {q : List A} → RootAt C M L s q → (k n : ℕ) → k + suc n ≡ L
      → twice C s ⊗ at C q k ≡ at C M (k + L) ⊕ R.negative (between C n (upper (suc k) (at C q)))
  root_coefficient {M} {L} {s} {q} r k n e =
      let rest = between C n (upper (suc k) (at C q)) in
      let square : conv C (at C q) (at C q) (k + L) ≡ twice C (s ⊗ at C q k) ⊕ rest =
      square_coefficient (at C q) k n e r.above ∙ ap (λ t. twice C (t ⊗ at C q k) ⊕ rest) r.lead in
      moved s (at C q k) rest ∙ ap (λ x. x ⊕ R.negative rest) (sym square ∙ sym (at-product R q q (k + L)) ∙ r.squared (k + L))

  -- ---- the sums written out
  between-0 : (f : Series A) → between C 0 f ≡ 𝟎
  unfolding between
  between-0 f = refl

  between-1 : (f : Series A) → between C 1 f ≡ f 0 ⊗ f 0
  unfolding between conv
  between-1 f = refl

  between-2 : (f : Series A) → between C 2 f ≡ twice C (f 0 ⊗ f 1)
  unfolding between conv
  between-2 f = ap (λ x. f 0 ⊗ f 1 ⊕ x) (R.times_comm _ _)

  middle : (a b c : A) → a ⊗ c ⊕ (b ⊗ b ⊕ c ⊗ a) ≡ twice C (a ⊗ c) ⊕ b ⊗ b
  middle a b c = atoms R (a ∷ b ∷ c ∷ []) (λ ρ e. simp (e 0, e 1, e 2, read) (ring R ρ _ _ tt))

  between-3 : (f : Series A) → between C 3 f ≡ twice C (f 0 ⊗ f 2) ⊕ f 1 ⊗ f 1
  unfolding between conv
  between-3 f = middle _ _ _

  less_none : (a : A) → a ⊕ R.negative 𝟎 ≡ a
  less_none a = atoms R (a ∷ []) (λ ρ e. simp (e 0, read_none R ρ, read) (ring R ρ _ _ tt))

  -- `between` by its value at the coefficients of q from k + 1 on
  module _ (k : ℕ) {M q : List A} {s : A} where
    pub root-1 : RootAt C M (k + 1) s q → twice C s ⊗ at C q k ≡ at C M (k + (k + 1))
    root-1 r = root_coefficient r k 0 (omega arith) ∙ ap (λ x. at C M (k + (k + 1)) ⊕ R.negative x) (between-0 _) ∙ less_none _

    pub root-2 : RootAt C M (k + 2) s q → twice C s ⊗ at C q k ≡ at C M (k + (k + 2)) ⊕ R.negative (at C q (k + 1) ⊗ at C q (k + 1))
    root-2 r =
        let one : suc k + 0 ≡ k + 1 = omega arith in
        root_coefficient r k 1 (omega arith) ∙ rw (between-1, one)

    pub root-3 : RootAt C M (k + 3) s q → twice C s ⊗ at C q k ≡ at C M (k + (k + 3)) ⊕ R.negative (twice C (at C q (k + 1) ⊗ at C q (k + 2)))
    root-3 r =
        let one : suc k + 0 ≡ k + 1 = omega arith in
        let two : suc k + 1 ≡ k + 2 = omega arith in
        root_coefficient r k 2 (omega arith) ∙ rw (between-2, one, two)

    pub root-4 : RootAt C M (k + 4) s q
        → twice C s ⊗ at C q k ≡ at C M (k + (k + 4)) ⊕ R.negative (twice C (at C q (k + 1) ⊗ at C q (k + 3)) ⊕ at C q (k + 2) ⊗ at C q (k + 2))
    root-4 r =
        let one : suc k + 0 ≡ k + 1 = omega arith in
        let two : suc k + 1 ≡ k + 2 = omega arith in
        let three : suc k + 2 ≡ k + 3 = omega arith in
        root_coefficient r k 3 (omega arith) ∙ rw (between-3, one, two, three)

-- ---- the sign
module _ {A : Type 0} {C : Coefficients A} (R : Ring C) (D : Domain C) (zero? : (a : A) → Dec (a ≡ C.none)) where
  open C use {none as 𝟎, times as ◌⊗◌}

  infixl 70 ◌⊗◌
  abbrev minus-1 : A
  minus-1 = R.number (negsuc 0)

  twice_negated : (s : A) → minus-1 ⊗ R.negative s ≡ s
  twice_negated s = atoms R (s ∷ []) (λ ρ e. simp (e 0, read-lit⁻ R ρ, read) (ring R ρ _ _ tt))

  module _ {M : List A} (L : ℕ) (t : Top C M (L + L)) (q : List A) (h : Same C (square C q) M) where
    low : Above C (at C q) L
    low = square-root_above R D zero? q L (λ k l. h k ∙ t.above k l)

    pub root_lead : at C q L ⊗ at C q L ≡ at C M (L + L)
    root_lead = sym (product_lead R q q L L low low) ∙ h (L + L)

    kept : (s : A) → at C q L ≡ s → (r : List A) × RootAt C M L s r × UpToSign R r q
    kept s i = (q, record { above = low; lead = i; squared = h }, inl (λ k. refl))

    negated : (s : A) → at C q L ≡ R.negative s → (r : List A) × RootAt C M L s r × UpToSign R r q
    negated s i = (
      scaled C minus-1 q,
      record {
        above = scaled_above R minus-1 q L low;
        lead = at_scaled R minus-1 q L ∙ ap (λ x. minus-1 ⊗ x) i ∙ twice_negated s;
        squared = λ k. square-opposite R q k ∙ h k;
      },
      inr (at-opposite R q),
    )

    pub root-signed : (s : A) → s ⊗ s ≡ at C M (L + L) → (r : List A) × RootAt C M L s r × UpToSign R r q
    root-signed s e = ⊎_elim (kept s) (negated s) (roots_agree R D (at C q L) s (root_lead ∙ sym e))
