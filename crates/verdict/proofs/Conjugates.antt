-- |p|² is p p̄, with p̄ the conjugate of each coefficient, and so primitive where p is.
--   norm_polynomial-primitive      where p is primitive over pairs, |p|² is over whole numbers
use mathlib.Core.Path.{◌≡◌, refl, sym, ap, ◌∙◌, fun_ext, subst}
use mathlib.Core.List.{List, [], ◌∷◌, map}
use Prim.Native.Nat.{ℕ}
use lib.IntN.{ℤ, pos, neg_ℤ, ◌+ℤ◌, ◌-ℤ◌, ◌*ℤ◌, zero-*ℤ, +ℤ_idr, neg_ℤ-neg_ℤ}
use lib.ListN.{get_or-map}
use Rattle.whole.specs.Coefficients.{Coefficients, at, Divides}
use Rattle.poly.specs.Polynomials.{product}
use Rattle.whole.specs.Number.{wholes}
use Rattle.whole.proofs.Ring.{Ring}
use Rattle.whole.proofs.Solver.{atoms, ring, read, read_none}
use Rattle.whole.proofs.Wholes.{wholes_ring, readℤ, atomsℤ, ringℤ}
use Rattle.poly.specs.Terms.{Throughout, Primitive}
use Rattle.poly.proofs.Series.{Series, conv, series_ring}
use Rattle.poly.proofs.Lists.{at-product}
use Rattle.poly.proofs.Divisibility.{unit_of_one}
use Rattle.poly.proofs.Gauss.{primitive_product}
use Rattle.pair.specs.declared.Pair.{Pair}
use Rattle.pair.specs.Pairs.{pair, pairs, times, conjugate}
use Rattle.pair.proofs.Parts.{pair-equal}
use Rattle.pair.proofs.Laws.{pairs_ring, number_times}
use Rattle.divisor.proofs.Euclid.{pairs_bezout}
use Rattle.curve.specs.Curves.{norm_polynomial}
use Rattle.curve.proofs.Norms.{re_of, im_of, re-conv, im-conv, at-norm_polynomial}

abbrev conjugated : List Pair → List Pair
conjugated = map conjugate

at-conjugated : (p : List Pair) (k : ℕ) → at pairs (conjugated p) k ≡ conjugate (at pairs p k)
at-conjugated p k = get_or-map conjugate p k pairs.none

module _ {A : Type 0} {C : Coefficients A} (R : Ring C) where
  open C use {none as 𝟎, plus as ◌⊕◌, times as ◌⊗◌}

  infixl 60 ◌⊕◌
  infixl 70 ◌⊗◌
  conjugate-first : (a b : A) → a ⊗ a ⊕ R.negative (b ⊗ R.negative b) ≡ a ⊗ a ⊕ b ⊗ b
  conjugate-first a b = atoms R (a ∷ b ∷ []) (λ ρ e. simp (e 0, e 1, read) (ring R ρ _ _ tt))

  conjugate-second : (a b : A) → a ⊗ R.negative b ⊕ b ⊗ a ≡ 𝟎
  conjugate-second a b = atoms R (a ∷ b ∷ []) (λ ρ e. simp (e 0, e 1, read_none R ρ, read) (ring R ρ _ _ tt))

norm_polynomial-conjugate : (p : List Pair) (k : ℕ) → at pairs (product pairs p (conjugated p)) k ≡ pair (at wholes (norm_polynomial p) k) (pos 0)
norm_polynomial-conjugate p k =
    at-product pairs_ring p (conjugated p) k
    ∙ ap (λ f. conv pairs (at pairs p) f k) (fun_ext (at-conjugated p))
    ∙ pair-equal
    (re-conv f g k ∙ ap (λ h. h k) (conjugate-first (series_ring wholes_ring) (re_of f) (im_of f)) ∙ sym (at-norm_polynomial p k))
    (im-conv f g k ∙ ap (λ h. h k) (conjugate-second (series_ring wholes_ring) (re_of f) (im_of f)))
  where
    f : Series Pair
    f = at pairs p

    g : Series Pair
    g i = conjugate (at pairs p i)

conjugate-times : (a b : Pair) → conjugate (times a b) ≡ times (conjugate a) (conjugate b)
conjugate-times a b = pair-equal (first a.re a.im b.re b.im) (second a.re a.im b.re b.im)
  where
    first : (x y u v : ℤ) → x *ℤ u -ℤ y *ℤ v ≡ x *ℤ u -ℤ neg_ℤ y *ℤ neg_ℤ v
    first x y u v = atomsℤ (x ∷ y ∷ u ∷ v ∷ []) (λ ρ e. simp (e 0, e 1, e 2, e 3, readℤ) (ringℤ ρ _ _ tt))

    second : (x y u v : ℤ) → neg_ℤ (x *ℤ v +ℤ y *ℤ u) ≡ x *ℤ neg_ℤ v +ℤ neg_ℤ y *ℤ u
    second x y u v = atomsℤ (x ∷ y ∷ u ∷ v ∷ []) (λ ρ e. simp (e 0, e 1, e 2, e 3, readℤ) (ringℤ ρ _ _ tt))

divides_conjugate : {d a : Pair} → Divides pairs d a → Divides pairs (conjugate d) (conjugate a)
divides_conjugate {d} {a} h = record { factor = conjugate h.factor; is = sym (conjugate-times d h.factor) ∙ ap conjugate h.is }

conjugate-twice : (a : Pair) → conjugate (conjugate a) ≡ a
conjugate-twice a = pair-equal refl (neg_ℤ-neg_ℤ a.im)

conjugated_primitive : (p : List Pair) → Primitive pairs p → Primitive pairs (conjugated p)
conjugated_primitive p h d u x =
    subst (λ t. Divides pairs t x) (conjugate-twice d)
    (subst (Divides pairs (conjugate (conjugate d))) (conjugate-twice x) (divides_conjugate (h (conjugate d) each (conjugate x))))
  where
    each : Throughout pairs (conjugate d) (at pairs p)
    each k = subst (Divides pairs (conjugate d)) (ap conjugate (at-conjugated p k) ∙ conjugate-twice (at pairs p k)) (divides_conjugate (u k))

pub norm_polynomial-primitive : (p : List Pair) → Primitive pairs p → Primitive wholes (norm_polynomial p)
norm_polynomial-primitive p h d u =
    let v = primitive_product pairs_ring pairs_bezout p (conjugated p) h (conjugated_primitive p h) (pair d (pos 0)) each (pair (pos 1) (pos 0)) in
    unit_of_one wholes_ring (record { factor = v.factor.re; is = sym (first d v.factor) ∙ ap (λ z. z.re) v.is })
  where
    each : Throughout pairs (pair d (pos 0)) (at pairs (product pairs p (conjugated p)))
    each k = record {
      factor = pair (u k).factor (pos 0);
      is = sym (number_times d (u k).factor) ∙ ap (λ x. pair x (pos 0)) (u k).is ∙ sym (norm_polynomial-conjugate p k);
    }

    first : (d : ℤ) (v : Pair) → (times (pair d (pos 0)) v).re ≡ d *ℤ v.re
    first d v = ap (λ t. d *ℤ v.re -ℤ t) (zero-*ℤ v.im) ∙ +ℤ_idr (d *ℤ v.re)
