-- Contents and primitive parts.
--   quotients            a list whose every coefficient c divides is c times a list
--   content              every list has a greatest common divisor of its coefficients
--   greatest_some        that of a polynomial other than 0 is not 0
--   greatest_associates  two of them differ by a unit, where one is not 0
--   quotient_primitive   a polynomial divided by its greatest common divisor is primitive
--   PrimitivePart, primitive_part        a polynomial other than 0 is a number times a primitive one
--   primitive_greatest   the greatest common divisor of c f is c, where f is primitive and c not 0
--   greatest_same, primitive_same        both say something of a polynomial, however it is written
--   primitive_scaled     a unit times a primitive polynomial is primitive
--   primitive_multiple   a primitive polynomial times a number other than 0 is not 0
--   Associates, associates               a f = b g with f and g primitive and a not 0 gives f = u g and b = a u with a unit u
use mathlib.Core.Path.{◌≡◌, refl, sym, ap, ◌∙◌}
use mathlib.Core.List.{List, [], ◌∷◌}
use mathlib.Core.Logic.{◌≢◌}
use Prim.Native.Nat.{zero, suc}
use lib.IntN.{pos}
use Rattle.whole.specs.Coefficients.{Coefficients, at, Divides, Greatest}
use Rattle.poly.specs.Polynomials.{Same, scaled, product}
use Rattle.whole.proofs.Divisor.{divides_none, divides_trans, common_cons}
use Rattle.whole.proofs.Ring.{Ring, none-times, times_none}
use Rattle.poly.specs.Terms.{Throughout, IsUnit, Primitive}
use Rattle.poly.proofs.Lists.{at_scaled, product-same, scaled-product, none-scaled}
use Rattle.poly.proofs.Domain.{Domain, times_cancel}
use Rattle.poly.proofs.Divisibility.{Bezout, divides_times, divides_common, unit_of_one}

module _ {A : Type 0} (C : Coefficients A) where
  -- p is a number times a primitive polynomial
  pub record PrimitivePart (p : List A) : Type 0 where
    pub factor : A
    pub part : List A
    pub part_primitive : Primitive C part
    pub factored : Same C (scaled C factor part) p

  -- f = u g and b = a u
  pub record Associates (a b : A) (f g : List A) : Type 0 where
    pub unit : A
    pub is_unit : IsUnit C unit
    pub polynomials : Same C f (scaled C unit g)
    pub factors : C.times a unit ≡ b

module _ {A : Type 0} {C : Coefficients A} where
  pub greatest_same : {p q : List A} {c : A} → Same C p q → Greatest C p c → Greatest C q c
  greatest_same e g = record { divides = λ k. rw (e k) at (g.divides k); greatest = λ d h. g.greatest d (λ k. rw (e k) (h k)) }

  pub primitive_same : (p q : List A) → Same C p q → Primitive C p → Primitive C q
  primitive_same p q e h d u = h d (λ k. rw (e k) (u k))

-- ---- any ring
module _ {A : Type 0} {C : Coefficients A} (R : Ring C) where
  open C use {none as 𝟎, times as ◌⊗◌}

  infixl 70 ◌⊗◌
  pub quotients : (c : A) (p : List A) → Throughout C c (at C p) → (f : List A) × Same C (scaled C c f) p
  unfolding scaled
  quotients c [] h = ([], λ k. refl)
  quotients c (a ∷ p) h = let (f, e) = quotients c p (λ k. h (suc k)) in ((h zero).factor ∷ f, both f e)
    where
      both : (f : List A) → Same C (scaled C c f) p → Same C (scaled C c ((h zero).factor ∷ f)) (a ∷ p)
      both f e zero = (h zero).is
      both f e (suc k) = e k

  divides_scaled : (c : A) (f p : List A) → Same C (scaled C c f) p → Throughout C c (at C p)
  divides_scaled c f p e k = record { factor = at C f k; is = sym (at_scaled R c f k) ∙ e k }

  divides_product : (d : A) (p q : List A) → Throughout C d (at C p) → Throughout C d (at C (product C p q))
  divides_product d p q h =
      let (f, e) = quotients d p h in
      divides_scaled d (product C f q) (product C p q) (λ k. sym (scaled-product R d f q k) ∙ product-same R (scaled C d f) p q q e (λ j. refl) k)

  pub greatest_some : {p : List A} {c : A} → Greatest C p c → (Same C p [] → ⊥) → c ≢ 𝟎
  greatest_some g n z = n (λ k. sym (g.divides k).is ∙ ap (λ t. t ⊗ (g.divides k).factor) z ∙ none-times R _)

  pub primitive_scaled : {u : A} (f : List A) → IsUnit C u → Primitive C f → Primitive C (scaled C u f)
  primitive_scaled {u} f i h d each = h d (λ k. rw (undone (at C f k)) at (divides_times R (rw (at_scaled R u f k) at (each k)) v))
    where
      v : A
      v = (i (R.number (pos 1))).factor

      undone : (x : A) → u ⊗ x ⊗ v ≡ x
      undone x =
          ap (λ t. t ⊗ v) (R.times_comm u x) ∙ R.times_assoc x u v ∙ ap (λ t. x ⊗ t) (i (R.number (pos 1))).is ∙ R.times_one x

  -- were 0 primitive, it would divide everything
  primitive_zero : (p : List A) → Primitive C p → Same C p [] → (a : A) → a ≡ 𝟎
  primitive_zero p h z a = let unit = h 𝟎 (λ k. record { factor = 𝟎; is = none-times R 𝟎 ∙ sym (z k) }) a in sym unit.is ∙ none-times R _

-- ---- a domain
module _ {A : Type 0} {C : Coefficients A} (R : Ring C) (D : Domain C) where
  open C use {none as 𝟎, times as ◌⊗◌}

  infixl 70 ◌⊗◌
  -- c d x = c: then d is a unit
  unit_by : (c d : A) → c ≢ 𝟎 → Divides C (c ⊗ d) c → IsUnit C d
  unit_by c d n h = unit_of_one R (record {
    factor = h.factor;
    is = times_cancel R D c _ _ n (sym (R.times_assoc c d h.factor) ∙ h.is ∙ sym (R.times_one c));
  })

  pub greatest_associates : {p : List A} {c c' : A} → c ≢ 𝟎 → Greatest C p c → Greatest C p c' → (u : A) × IsUnit C u × (c ⊗ u ≡ c')
  greatest_associates {c} n g g' =
      let h = g'.greatest c g.divides in
      (h.factor, unit_by c h.factor n (rw h.is (g.greatest _ g'.divides)), h.is)

  pub quotient_primitive : {p : List A} {c : A} (f : List A) → c ≢ 𝟎 → Greatest C p c → Same C (scaled C c f) p → Primitive C f
  quotient_primitive {p} {c} f n g e d h = unit_by c d n (g.greatest (c ⊗ d) each)
    where
      each : Throughout C (c ⊗ d) (at C p)
      each k = record {
        factor = (h k).factor;
        is = R.times_assoc c d (h k).factor ∙ ap (λ t. c ⊗ t) (h k).is ∙ sym (at_scaled R c f k) ∙ e k;
      }

  pub primitive_multiple : (a : A) (f : List A) → a ≢ 𝟎 → Primitive C f → Same C (scaled C a f) [] → ⊥
  primitive_multiple a f n h z =
      n (primitive_zero R f h (λ k. times_cancel R D a _ _ n (sym (at_scaled R a f k) ∙ z k ∙ sym (times_none R a))) a)

-- ---- where common divisors are combinations
module _ {A : Type 0} {C : Coefficients A} (R : Ring C) (B : Bezout C) where
  greatest_cons : (a : A) (p : List A) (c : A) → Greatest C p c → Greatest C (a ∷ p) (B.common a c)
  greatest_cons a p c g = record {
    divides = (common_cons R _ a p).1 (B.left a c, λ k. divides_trans R (B.right a c) (g.divides k));
    greatest = λ d h. divides_common R B (h zero) (g.greatest d (λ k. h (suc k)));
  }

  pub content : (p : List A) → (c : A) × Greatest C p c
  content [] = (C.none, record { divides = λ k. divides_none R C.none; greatest = λ d h. h zero })
  content (a ∷ p) = let (c, g) = content p in (B.common a c, greatest_cons a p c g)

module _ {A : Type 0} {C : Coefficients A} (R : Ring C) (B : Bezout C) (D : Domain C) where
  open C use {none as 𝟎, times as ◌⊗◌}

  infixl 70 ◌⊗◌
  pub primitive_part : (p : List A) → (Same C p [] → ⊥) → PrimitivePart C p
  primitive_part p n =
      let (c, g) = content R B p in
      let (f, e) = quotients R c p g.divides in
      record { factor = c; part = f; part_primitive = quotient_primitive R D f (greatest_some R g n) g e; factored = e }

  pub primitive_greatest : (p f : List A) (c : A) → c ≢ 𝟎 → Primitive C f → Same C (scaled C c f) p → Greatest C p c
  primitive_greatest p f c n h e = record { divides = each; greatest = λ d i. divides_trans R (g.greatest d i) least }
    where
      each : Throughout C c (at C p)
      each = divides_scaled R c f p e

      g : Greatest C p (content R B p).0
      g = (content R B p).1

      -- the greatest one is c x, and x divides all of f
      x : Divides C c (content R B p).0
      x = g.greatest c each

      x_divides : Throughout C x.factor (at C f)
      x_divides k = record {
        factor = (g.divides k).factor;
        is =
            times_cancel R D c _ _ n
            (sym (R.times_assoc c x.factor _) ∙ ap (λ t. t ⊗ (g.divides k).factor) x.is ∙ (g.divides k).is ∙ sym (e k) ∙ at_scaled R c f k);
      }

      least : Divides C (content R B p).0 c
      least =
          let y = h x.factor x_divides (R.number (pos 1)) in
          record {
            factor = y.factor;
            is = ap (λ t. t ⊗ y.factor) (sym x.is) ∙ R.times_assoc c x.factor y.factor ∙ ap (λ t. c ⊗ t) y.is ∙ R.times_one c;
          }

  pub associates : (a b : A) (f g : List A) → a ≢ 𝟎 → Primitive C f → Primitive C g → Same C (scaled C a f) (scaled C b g) → Associates C a b f g
  associates a b f g n u v e =
      let (x, i, w) = greatest_associates R D n (primitive_greatest (scaled C b g) f a n u e) (primitive_greatest (scaled C b g) g b b_some v (λ k. refl)) in
      record { unit = x; is_unit = i; polynomials = polynomials x w; factors = w }
    where
      b_some : b ≢ 𝟎
      b_some z = primitive_multiple R D a f n u (λ k. e k ∙ none-scaled R b g z k)

      polynomials : (x : A) → a ⊗ x ≡ b → Same C f (scaled C x g)
      polynomials x w k =
          times_cancel R D a _ _ n (sym (at_scaled R a f k) ∙ e k ∙ at_scaled R b g k ∙ ap (λ t. t ⊗ at C g k) (sym w) ∙ R.times_assoc a x _)
          ∙ sym (at_scaled R x g k)
