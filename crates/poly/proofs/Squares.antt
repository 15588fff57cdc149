-- When a polynomial is some number times a square, and when a number is.
--   root_divides         s² d = u² with s not 0: s divides u
--   UnitSquare, square-quotient    c is the greatest common divisor of p = c f, and not 0, and p = c' q²: f = u r² with a unit u and r primitive,
--                        q = h r, and c u = c' h²
--   root-same            p = c q² says something of the polynomial q, however it is written
--   square-multiple      back again: f = u r² gives c f = (c u) r²
--   primitive_squares    κ w² = κ' w'² with w and w' primitive and κ not 0: w² = u w'² and κ' = κ u for a unit u
-- So only p divided by its content has to be tried for a root, and only up to a unit.
use mathlib.Core.Path.{◌≡◌, sym, ap, ap₂, ◌∙◌}
use mathlib.Core.List.{List, [], ◌∷◌}
use mathlib.Core.Logic.{◌≢◌}
use lib.IntN.{pos}
use Rattle.whole.specs.Coefficients.{Coefficients, Divides, Greatest}
use Rattle.poly.specs.Polynomials.{Same, scaled, square}
use Rattle.whole.proofs.Ring.{Ring, none-times}
use Rattle.whole.proofs.Solver.{atoms, ring, read}
use Rattle.poly.specs.Terms.{IsUnit, Primitive}
use Rattle.poly.proofs.Lists.{product-none, scaled-none, scaled-same, scaled-scaled, square-same, square-scaled}
use Rattle.poly.proofs.Domain.{Domain, times_cancel}
use Rattle.poly.proofs.Divisibility.{Bezout}
use Rattle.poly.proofs.Gauss.{primitive_product}
use Rattle.poly.proofs.Content.{Associates, associates, primitive_part, primitive_multiple, quotient_primitive}

module _ {A : Type 0} (C : Coefficients A) where
  -- f = u r² and q = h r, with r primitive, where c f = c' q²
  pub record UnitSquare (c c' : A) (f q : List A) : Type 0 where
    pub unit : A
    pub is_unit : IsUnit C unit
    pub root : List A
    pub root_primitive : Primitive C root
    pub squared : Same C f (scaled C unit (square C root))
    pub factor : A
    pub factored : Same C (scaled C factor root) q
    pub factors : C.times c unit ≡ C.times c' (C.times factor factor)

module _ {A : Type 0} {C : Coefficients A} (R : Ring C) where
  pub root-same : (p q r : List A) (c : A) → Same C q r → Same C p (scaled C c (square C q)) → Same C p (scaled C c (square C r))
  root-same p q r c e h k = h k ∙ scaled-same R c (square C q) (square C r) (square-same R q r e) k

  pub square-multiple : (c u : A) (f r : List A) → Same C f (scaled C u (square C r)) → Same C (scaled C c f) (scaled C (C.times c u) (square C r))
  square-multiple c u f r e k = scaled-same R c f (scaled C u (square C r)) e k ∙ scaled-scaled R c u (square C r) k

module _ {A : Type 0} {C : Coefficients A} (R : Ring C) (B : Bezout C) (D : Domain C) where
  open C use {none as 𝟎, plus as ◌⊕◌, times as ◌⊗◌}

  infixl 60 ◌⊕◌
  infixl 70 ◌⊗◌
  pub primitive_squares : (κ κ' : A) (w w' : List A) → κ ≢ 𝟎 → Primitive C w → Primitive C w'
      → Same C (scaled C κ (square C w)) (scaled C κ' (square C w')) → Associates C κ κ' (square C w) (square C w')
  primitive_squares κ κ' w w' n u v e =
      associates R B D κ κ' (square C w) (square C w') n (primitive_product R B w w u u) (primitive_product R B w' w' v v) e

  -- with a common divisor g = s x + u y, s = g s' and u = g u': 1 = s' x + u' y and s'² d = u'², so that u' = s' (u' x + s' d y)
  pub root_divides : (s d u : A) → s ≢ 𝟎 → s ⊗ s ⊗ d ≡ u ⊗ u → Divides C s u
  root_divides s d u n e = record {
    factor = u' ⊗ x ⊕ s' ⊗ d ⊗ y;
    is =
        ap (λ t. t ⊗ (u' ⊗ x ⊕ s' ⊗ d ⊗ y)) (sym s-is)
        ∙ gathered g s' u' d x y
        ∙ ap (λ t. g ⊗ (s' ⊗ u' ⊗ x ⊕ t ⊗ y)) squares
        ∙ parted g s' u' x y
        ∙ ap (λ t. g ⊗ u' ⊗ t) one
        ∙ R.times_one (g ⊗ u')
        ∙ u-is;
  }
    where
      g : A
      g = B.common s u

      s' : A
      s' = (B.left s u).factor

      s-is : g ⊗ s' ≡ s
      s-is = (B.left s u).is

      u' : A
      u' = (B.right s u).factor

      u-is : g ⊗ u' ≡ u
      u-is = (B.right s u).is

      x : A
      x = (B.combined s u).0

      y : A
      y = (B.combined s u).1

      some : g ≢ 𝟎
      some z = n (sym s-is ∙ ap (λ t. t ⊗ s') z ∙ none-times R s')

      shared : (g s u x y : A) → g ⊗ (s ⊗ x ⊕ u ⊗ y) ≡ g ⊗ s ⊗ x ⊕ g ⊗ u ⊗ y
      shared g s u x y = atoms R (g ∷ s ∷ u ∷ x ∷ y ∷ []) (λ ρ e. simp (e 0, e 1, e 2, e 3, e 4, read) (ring R ρ _ _ tt))

      one : s' ⊗ x ⊕ u' ⊗ y ≡ R.number (pos 1)
      one = times_cancel R D g (s' ⊗ x ⊕ u' ⊗ y) (R.number (pos 1)) some (shared g s' u' x y ∙ ap₂ (λ a b. a ⊗ x ⊕ b ⊗ y) s-is u-is ∙ (B.combined s u).2 ∙ sym (R.times_one g))

      twice : (g s d : A) → g ⊗ (g ⊗ (s ⊗ s ⊗ d)) ≡ g ⊗ s ⊗ (g ⊗ s) ⊗ d
      twice g s d = atoms R (g ∷ s ∷ d ∷ []) (λ ρ e. simp (e 0, e 1, e 2, read) (ring R ρ _ _ tt))

      once : (g u : A) → g ⊗ (g ⊗ (u ⊗ u)) ≡ g ⊗ u ⊗ (g ⊗ u)
      once g u = atoms R (g ∷ u ∷ []) (λ ρ e. simp (e 0, e 1, read) (ring R ρ _ _ tt))

      squares : s' ⊗ s' ⊗ d ≡ u' ⊗ u'
      squares =
          times_cancel R D g (s' ⊗ s' ⊗ d) (u' ⊗ u') some
          (times_cancel R D g (g ⊗ (s' ⊗ s' ⊗ d)) (g ⊗ (u' ⊗ u')) some
          (twice g s' d ∙ ap (λ t. t ⊗ t ⊗ d) s-is ∙ e ∙ ap (λ t. t ⊗ t) (sym u-is) ∙ sym (once g u')))

      gathered : (g s u d x y : A) → g ⊗ s ⊗ (u ⊗ x ⊕ s ⊗ d ⊗ y) ≡ g ⊗ (s ⊗ u ⊗ x ⊕ s ⊗ s ⊗ d ⊗ y)
      gathered g s u d x y = atoms R (g ∷ s ∷ u ∷ d ∷ x ∷ y ∷ []) (λ ρ e. simp (e 0, e 1, e 2, e 3, e 4, e 5, read) (ring R ρ _ _ tt))

      parted : (g s u x y : A) → g ⊗ (s ⊗ u ⊗ x ⊕ u ⊗ u ⊗ y) ≡ g ⊗ u ⊗ (s ⊗ x ⊕ u ⊗ y)
      parted g s u x y = atoms R (g ∷ s ∷ u ∷ x ∷ y ∷ []) (λ ρ e. simp (e 0, e 1, e 2, e 3, e 4, read) (ring R ρ _ _ tt))

  -- c f = c' q² with f primitive
  square_primitive : (c c' : A) (f q : List A) → c ≢ 𝟎 → Primitive C f → Same C (scaled C c f) (scaled C c' (square C q)) → UnitSquare C c c' f q
  square_primitive c c' f q n h e =
      let p = primitive_part R B D q q_some in
      let r = p.part in
      let r² : Primitive C (square C r) = primitive_product R B r r p.part_primitive p.part_primitive in
      let a = associates R B D c (c' ⊗ (p.factor ⊗ p.factor)) f (square C r) n h r² (multiple p.factor r p.factored) in
      record {
        unit = a.unit;
        is_unit = a.is_unit;
        root = r;
        root_primitive = p.part_primitive;
        squared = a.polynomials;
        factor = p.factor;
        factored = p.factored;
        factors = a.factors;
      }
    where
      q_some : Same C q [] → ⊥
      q_some z = primitive_multiple R D c f n h (λ k. e k ∙ scaled-none R c' (square C q) (product-none R q q z) k)

      multiple : (h : A) (r : List A) → Same C (scaled C h r) q → Same C (scaled C c f) (scaled C (c' ⊗ (h ⊗ h)) (square C r))
      multiple h r i k =
          e k
          ∙ scaled-same R c' (square C q) (scaled C (h ⊗ h) (square C r)) (λ j. sym (square-same R (scaled C h r) q i j) ∙ square-scaled R h r j) k
          ∙ scaled-scaled R c' (h ⊗ h) (square C r) k

  pub square-quotient : {p : List A} {c : A} (c' : A) (f q : List A) → c ≢ 𝟎 → Greatest C p c
      → Same C (scaled C c f) p → Same C p (scaled C c' (square C q)) → UnitSquare C c c' f q
  square-quotient {c} c' f q n g e h = square_primitive c c' f q n (quotient_primitive R D f n g e) (λ k. e k ∙ h k)
