-- N = |D|² of a polynomial D of pairs. Sums of two squares vanish only together, and they are multiplicative.
--   re_of, im_of, norm_of          the parts and N of a series of pairs
--   re-conv, im-conv              the parts of a product
--   at-norm_polynomial              N is that of D as a series
--   norm_polynomial-same            the same polynomial has the same N
--   norm_polynomial-product, norm_polynomial-scaled     N of a product is the product of the two, and N of κ D is |κ|² times that of D
--   re_above, im_above            where D has no power above n, its parts have none,
--   norm_polynomial-above           and N has none above 2 n,
--   norm_polynomial-lead            where it has the norm of D's n-th coefficient
--   norm_polynomial-top             the highest power of N is twice that of D
--   norm_polynomial-zero            N is 0 exactly where D is
--   pair_form                      sⁿ D(v / s),
--   norm_polynomial-form            of which s²ⁿ N(v / s) is the norm
use mathlib.Core.Path.{◌≡◌, refl, sym, ap, ap₂, ◌∙◌, fun_ext}
use mathlib.Core.List.{List, [], ◌∷◌}
use mathlib.Core.Logic.{◌↔◌, ⊎_elim}
use Prim.Native.Nat.{ℕ, zero, suc, ◌+◌}
use native.Mathlib.Omega.{arith}
use lib.IntN.{ℤ, ◌+ℤ◌, ◌-ℤ◌, ◌*ℤ◌}
use lib.ListN.{get_or-map}
use Rattle.whole.specs.Coefficients.{Coefficients, at}
use Rattle.poly.specs.Polynomials.{Same, sum, scaled, product, square}
use Rattle.whole.specs.Number.{wholes}
use Rattle.whole.proofs.Ring.{Ring}
use Rattle.whole.proofs.Solver.{atoms, read, ring}
use Rattle.whole.proofs.Wholes.{wholes_ring, readℤ, atomsℤ, ringℤ}
use Rattle.poly.specs.Terms.{Above, Top}
use Rattle.poly.proofs.Series.{Series, tail, conv, series, series_ring}
use Rattle.poly.proofs.Lists.{at_sum, at-product, of_product, product-same, scaled-is-product}
use Rattle.poly.proofs.Top.{length_above, conv_above, conv_lead, top_some, find-top}
use Rattle.poly.proofs.Forms.{form, form-plus, form-product}
use Rattle.pair.specs.declared.Pair.{Pair}
use Rattle.pair.specs.Pairs.{pair, pairs, norm}
use Rattle.pair.proofs.Laws.{pairs_ring, norm-zero, pair-zero?}
use Rattle.curve.specs.Curves.{reals, imaginaries, norm_polynomial}

-- ---- N as a series, from D as one
abbrev pub re_of : Series Pair → Series ℤ
re_of f k = (f k).re

abbrev pub im_of : Series Pair → Series ℤ
im_of f k = (f k).im

abbrev pub norm_of : Series Pair → Series ℤ
norm_of f = (series wholes).plus (conv wholes (re_of f) (re_of f)) (conv wholes (im_of f) (im_of f))

pub at-norm_polynomial : (D : List Pair) (k : ℕ) → at wholes (norm_polynomial D) k ≡ norm_of (at pairs D) k
unfolding norm_polynomial
at-norm_polynomial D k =
    at_sum wholes_ring (square wholes (reals D)) (square wholes (imaginaries D)) k
    ∙ ap₂ ◌+ℤ◌
    (squared (reals D) (re_of (at pairs D)) (λ i. get_or-map (λ (z : Pair). z.re) D i pairs.none))
    (squared (imaginaries D) (im_of (at pairs D)) (λ i. get_or-map (λ (z : Pair). z.im) D i pairs.none))
  where
    squared : (p : List ℤ) (f : Series ℤ) → ((i : ℕ) → at wholes p i ≡ f i) → at wholes (square wholes p) k ≡ conv wholes f f k
    squared p f e = at-product wholes_ring p p k ∙ ap (λ g. conv wholes g g k) (fun_ext e)

of_norm_polynomial : (D : List Pair) → at wholes (norm_polynomial D) ≡ norm_of (at pairs D)
of_norm_polynomial D = fun_ext (at-norm_polynomial D)

pub norm_polynomial-same : (D E : List Pair) → Same pairs D E → Same wholes (norm_polynomial D) (norm_polynomial E)
norm_polynomial-same D E e k = at-norm_polynomial D k ∙ ap (λ f. norm_of f k) (fun_ext e) ∙ sym (at-norm_polynomial E k)

-- ---- products
pub re-conv : (f g : Series Pair) (k : ℕ) → (conv pairs f g k).re ≡ conv wholes (re_of f) (re_of g) k -ℤ conv wholes (im_of f) (im_of g) k
unfolding conv
re-conv f g zero = refl
re-conv f g (suc k) =
    ap (λ x. (f 0).re *ℤ (g (suc k)).re -ℤ (f 0).im *ℤ (g (suc k)).im +ℤ x) (re-conv (tail f) g k)
    ∙ regroup ((f 0).re *ℤ (g (suc k)).re) ((f 0).im *ℤ (g (suc k)).im) (conv wholes (re_of (tail f)) (re_of g) k) (conv wholes (im_of (tail f)) (im_of g) k)
  where
    regroup : (a b x y : ℤ) → a -ℤ b +ℤ (x -ℤ y) ≡ a +ℤ x -ℤ (b +ℤ y)
    regroup a b x y = atomsℤ (a ∷ b ∷ x ∷ y ∷ []) (λ ρ e. simp (e 0, e 1, e 2, e 3, readℤ) (ringℤ ρ _ _ tt))

pub im-conv : (f g : Series Pair) (k : ℕ) → (conv pairs f g k).im ≡ conv wholes (re_of f) (im_of g) k +ℤ conv wholes (im_of f) (re_of g) k
unfolding conv
im-conv f g zero = refl
im-conv f g (suc k) =
    ap (λ x. (f 0).re *ℤ (g (suc k)).im +ℤ (f 0).im *ℤ (g (suc k)).re +ℤ x) (im-conv (tail f) g k)
    ∙ regroup ((f 0).re *ℤ (g (suc k)).im) ((f 0).im *ℤ (g (suc k)).re) (conv wholes (re_of (tail f)) (im_of g) k) (conv wholes (im_of (tail f)) (re_of g) k)
  where
    regroup : (a b x y : ℤ) → a +ℤ b +ℤ (x +ℤ y) ≡ a +ℤ x +ℤ (b +ℤ y)
    regroup a b x y = atomsℤ (a ∷ b ∷ x ∷ y ∷ []) (λ ρ e. simp (e 0, e 1, e 2, e 3, readℤ) (ringℤ ρ _ _ tt))

-- |x y|² = |x|² |y|², with x = a + i b and y = c + i d
module _ {A : Type 0} {C : Coefficients A} (R : Ring C) where
  open C use {plus as ◌⊕◌, times as ◌⊗◌}

  infixl 60 ◌⊕◌
  infixl 70 ◌⊗◌
  two_squares : (a b c d : A)
      → (a ⊗ c ⊕ R.negative (b ⊗ d)) ⊗ (a ⊗ c ⊕ R.negative (b ⊗ d)) ⊕ (a ⊗ d ⊕ b ⊗ c) ⊗ (a ⊗ d ⊕ b ⊗ c) ≡ (a ⊗ a ⊕ b ⊗ b) ⊗ (c ⊗ c ⊕ d ⊗ d)
  two_squares a b c d = atoms R (a ∷ b ∷ c ∷ d ∷ []) (λ ρ e. simp (e 0, e 1, e 2, e 3, read) (ring R ρ _ _ tt))

length-conv : (f g : Series Pair) → norm_of (conv pairs f g) ≡ conv wholes (norm_of f) (norm_of g)
length-conv f g =
    ap₂ (λ (x y : Series ℤ). (series wholes).plus (conv wholes x x) (conv wholes y y)) (fun_ext (re-conv f g)) (fun_ext (im-conv f g))
    ∙ two_squares (series_ring wholes_ring) (re_of f) (im_of f) (re_of g) (im_of g)

pub norm_polynomial-product : (D E : List Pair) → Same wholes (norm_polynomial (product pairs D E)) (product wholes (norm_polynomial D) (norm_polynomial E))
norm_polynomial-product D E k =
    ap (λ f. f k) (of_norm_polynomial (product pairs D E) ∙ ap norm_of (of_product pairs_ring D E) ∙ length-conv (at pairs D) (at pairs E))
    ∙ ap₂ (λ f g. conv wholes f g k) (sym (of_norm_polynomial D)) (sym (of_norm_polynomial E))
    ∙ sym (at-product wholes_ring (norm_polynomial D) (norm_polynomial E) k)

-- ---- the highest power
pub re_above : {f : Series Pair} {n : ℕ} → Above pairs f n → Above wholes (re_of f) n
re_above u k h = ap (λ (z : Pair). z.re) (u k h)

pub im_above : {f : Series Pair} {n : ℕ} → Above pairs f n → Above wholes (im_of f) n
im_above u k h = ap (λ (z : Pair). z.im) (u k h)

module _ (D : List Pair) (n : ℕ) (u : Above pairs (at pairs D) n) where
  abbrev first : Series ℤ
  first = re_of (at pairs D)

  abbrev second : Series ℤ
  second = im_of (at pairs D)

  pub norm_polynomial-above : Above wholes (at wholes (norm_polynomial D)) (n + n)
  norm_polynomial-above k h =
      at-norm_polynomial D k
      ∙ ap₂ ◌+ℤ◌
      (conv_above wholes_ring n n first first (re_above u) (re_above u) k h)
      (conv_above wholes_ring n n second second (im_above u) (im_above u) k h)

  pub norm_polynomial-lead : at wholes (norm_polynomial D) (n + n) ≡ norm (at pairs D n)
  norm_polynomial-lead =
      at-norm_polynomial D (n + n)
      ∙ ap₂ ◌+ℤ◌
      (conv_lead wholes_ring n n first first (re_above u) (re_above u))
      (conv_lead wholes_ring n n second second (im_above u) (im_above u))

pub norm_polynomial-top : {D : List Pair} {L : ℕ} → Top pairs D L → Top wholes (norm_polynomial D) (L + L)
norm_polynomial-top {D} {L} t = record {
  lead = λ z. t.lead (norm-zero (at pairs D L) (sym (norm_polynomial-lead D L t.above) ∙ z));
  above = norm_polynomial-above D L t.above;
}

pub norm_polynomial-zero : (D : List Pair) → Same pairs D [] ↔ Same wholes (norm_polynomial D) []
unfolding norm_polynomial sum product
norm_polynomial-zero D =
    (λ z. norm_polynomial-same D [] z, λ z. ⊎_elim (λ e. e) (λ t. absurd (top_some (norm_polynomial-top t.1) z)) (find-top pair-zero? D))

-- ---- multiples
norm_polynomial-constant : (κ : Pair) → Same wholes (norm_polynomial (κ ∷ [])) (norm κ ∷ [])
norm_polynomial-constant κ zero = norm_polynomial-lead (κ ∷ []) zero (length_above pairs (κ ∷ []) zero (omega arith))
norm_polynomial-constant κ (suc k) = norm_polynomial-above (κ ∷ []) zero (length_above pairs (κ ∷ []) zero (omega arith)) (suc k) (omega arith)

pub norm_polynomial-scaled : (κ : Pair) (D : List Pair) → Same wholes (norm_polynomial (scaled pairs κ D)) (scaled wholes (norm κ) (norm_polynomial D))
norm_polynomial-scaled κ D k =
    norm_polynomial-same (scaled pairs κ D) (product pairs (κ ∷ []) D) (scaled-is-product pairs_ring κ D) k
    ∙ norm_polynomial-product (κ ∷ []) D k
    ∙ product-same wholes_ring (norm_polynomial (κ ∷ [])) (norm κ ∷ []) (norm_polynomial D) (norm_polynomial D) (norm_polynomial-constant κ) (λ i. refl) k
    ∙ sym (scaled-is-product wholes_ring (norm κ) (norm_polynomial D) k)

-- ---- values
abbrev pub pair_form : ℤ → ℤ → ℕ → List Pair → Pair
pair_form s v n D = pair (form wholes s v n (re_of (at pairs D))) (form wholes s v n (im_of (at pairs D)))

pub norm_polynomial-form : (s v : ℤ) (D : List Pair) (n : ℕ) → Above pairs (at pairs D) n → form wholes s v (n + n) (at wholes (norm_polynomial D)) ≡ norm (pair_form s v n D)
norm_polynomial-form s v D n u =
    ap (form wholes s v (n + n)) (of_norm_polynomial D)
    ∙ form-plus wholes_ring s v (n + n) _ _
    ∙ ap₂ ◌+ℤ◌
    (form-product wholes_ring s v n n (re_of (at pairs D)) (re_of (at pairs D)) (re_above u) (re_above u))
    (form-product wholes_ring s v n n (im_of (at pairs D)) (im_of (at pairs D)) (im_above u) (im_above u))
