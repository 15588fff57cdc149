-- The theory at whole numbers.
--   whole-zero?           whether a number is 0
--   wholes_domain, wholes_bezout     ℤ has no zero divisors, and common divisors a x + b y
--   twice-whole_some      2 a is not 0 where a is not
--   whole-unit            a unit has absolute value 1
--   content_once          a polynomial has one greatest common divisor that is not negative,
--   positive_content      and, where it is not 0, a positive one
--   WholeSquare, whole-square       p = c f, where c is p's greatest common divisor and positive: if p is c' q² for a positive c',
--                         then f is a square
use mathlib.Core.Path.{◌≡◌, refl, sym, ap, ◌∙◌}
use mathlib.Core.List.{List, []}
use mathlib.Core.Logic.{◌≢◌, ◌↔◌, ◌⊎◌, ⊎_elim}
use Prim.Native.Nat.{ℕ, zero, suc, ◌*◌}
use native.Mathlib.Omega.{arith}
use lib.IntN.{ℤ, pos, negsuc, nat_abs, ℤ_discrete, ◌*ℤ◌}
use lib.Signed.{quot_z, rem_z, ◌≤ℤ◌, ◌<ℤ◌}
use Rattle.whole.specs.Number.{wholes}
use Rattle.whole.specs.Coefficients.{at, Divides, Greatest}
use Rattle.poly.specs.Polynomials.{Same, scaled, square}
use Rattle.whole.proofs.Division.{quotient-rest, rest_below}
use Rattle.whole.proofs.Divisor.{divides_abs, greatest_says, greatest_is, greatest_once}
use Rattle.whole.proofs.Integers.{abs_times, abs_zero, *ℤ-domain, abs_one}
use Rattle.whole.proofs.Linear.{linear, times_parts}
use Rattle.whole.proofs.Order.{nonneg_times, nonneg_square, nonneg_is}
use Rattle.whole.proofs.Wholes.{wholes_ring}
use Rattle.poly.specs.Terms.{IsUnit, twice}
use Rattle.poly.proofs.Lists.{scaled-one}
use Rattle.poly.proofs.Domain.{Domain, twice_some}
use Rattle.poly.proofs.Divisibility.{Bezout}
use Rattle.poly.proofs.Euclid.{Euclid, euclid_bezout}
use Rattle.poly.proofs.Content.{content, greatest_some}
use Rattle.poly.proofs.Squares.{square-quotient}

pub whole-zero? : (a : ℤ) → Dec (a ≡ pos 0)
whole-zero? a = ℤ_discrete a (pos 0)

pub wholes_domain : Domain wholes
wholes_domain = record { splits = *ℤ-domain }

-- division leaves a smaller rest
abbrev wholes_euclid : Euclid wholes
wholes_euclid = record {
  zero? = whole-zero?;
  size = nat_abs;
  divided = λ a b n. (quot_z a b, rem_z a b, quotient-rest a b, rest_below a b n);
}

abbrev pub wholes_bezout : Bezout wholes
wholes_bezout = euclid_bezout wholes_ring wholes_euclid

pub twice-whole_some : (a : ℤ) → a ≢ pos 0 → twice wholes a ≢ pos 0
twice-whole_some = twice_some wholes_ring wholes_domain (λ e. omega linear)

-- ---- units
one_of_product : (m n : ℕ) → m * n ≡ 1 → m ≡ 1
one_of_product zero n e = absurd (omega arith)
one_of_product (suc zero) n e = refl
one_of_product (suc (suc m)) zero e = absurd (omega arith)
one_of_product (suc (suc m)) (suc n) e = absurd (omega arith)

pub whole-unit : {u : ℤ} → IsUnit wholes u → nat_abs u ≡ 1
whole-unit {u} h = let v = h (pos 1) in one_of_product (nat_abs u) (nat_abs v.factor) (sym (abs_times u v.factor) ∙ ap nat_abs v.is)

whole-unit-sign : {u : ℤ} → IsUnit wholes u → (u ≡ pos 1) ⊎ (u ≡ negsuc 0)
whole-unit-sign {u} h = abs_one u (whole-unit h)

-- c u = d with c positive, d not negative and u a unit: u is 1
unit_positive : {c u d : ℤ} → pos 0 <ℤ c → pos 0 ≤ℤ d → c *ℤ u ≡ d → IsUnit wholes u → u ≡ pos 1
unit_positive {c} {u} {d} h k e i = ⊎_elim (λ one. one) minus (whole-unit-sign i)
  where
    minus : u ≡ negsuc 0 → u ≡ pos 1
    minus z =
        let f : c *ℤ negsuc 0 ≡ d = rw z at e in
        absurd (omega (linear, times_parts c (negsuc 0)))

-- ---- contents
pub content_once : {p : List ℤ} {c d : ℤ} → pos 0 ≤ℤ c → pos 0 ≤ℤ d → Greatest wholes p c → Greatest wholes p d → c ≡ d
content_once {c} {d} h k g i =
    nonneg_is h ∙ ap pos (greatest_once (rw (nonneg_is h) at g) (rw (nonneg_is k) at i)) ∙ sym (nonneg_is k)

pub positive_content : (p : List ℤ) → (Same wholes p [] → ⊥) → (c : ℤ) × (pos 0 <ℤ c) × Greatest wholes p c
positive_content p n =
    let (c, g) = content wholes_ring wholes_bezout p in
    (pos (nat_abs c), size (nat_abs c) (λ z. greatest_some wholes_ring g n (abs_zero c z)), greatest_is wholes_ring (λ d. says d c g))
  where
    size : (k : ℕ) → (k ≡ 0 → ⊥) → pos 0 <ℤ pos k
    size zero h = absurd (h refl)
    size (suc k) h = omega linear

    says : (d c : ℤ) → Greatest wholes p c → Divides wholes d (pos (nat_abs c)) ↔ ((k : ℕ) → Divides wholes d (at wholes p k))
    says d c g = (λ h. (greatest_says wholes_ring g d).0 ((divides_abs d c).0 h), λ h. (divides_abs d c).1 ((greatest_says wholes_ring g d).1 h))

-- ---- squares
pub record WholeSquare (f : List ℤ) : Type 0 where
  pub root : List ℤ
  pub squared : Same wholes f (square wholes root)

pub whole-square : {p : List ℤ} {c : ℤ} (c' : ℤ) (f q : List ℤ) → pos 0 <ℤ c → pos 0 <ℤ c' → Greatest wholes p c
    → Same wholes (scaled wholes c f) p → Same wholes p (scaled wholes c' (square wholes q)) → WholeSquare f
whole-square {c} c' f q h h' g e i =
    let r = square-quotient wholes_ring wholes_bezout wholes_domain c' f q (λ z. omega linear) g e i in
    let one : r.unit ≡ pos 1 = unit_positive h (nonneg_times {s = c'} (omega linear) (nonneg_square r.factor)) r.factors r.is_unit in
    record { root = r.root; squared = λ k. (rw one at r.squared) k ∙ scaled-one wholes_ring (square wholes r.root) k }
