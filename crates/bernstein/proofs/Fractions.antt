-- Values at the fraction e / s, with whole numbers e and s, of a polynomial with pairs as coefficients: said without fractions, as sᵐ times the value.
--   raised x k            xᵏ
--   value_at s e m f      sᵐ f(e / s) for f of degree m: the sum of eᵏ sᵐ⁻ᵏ fₖ
--   bernstein_at s e m d  the sum of C(m, k) eᵏ (s − e)ᵐ⁻ᵏ dₖ: sᵐ times that of dₖ Bₖ(e / s), Bₖ being the Bernstein function of degree m
--   value_parts           the parts of a value are the values of the parts
--   power_form-at          the polynomial with the Bernstein coefficients ds is this sum at every fraction
use mathlib.Core.Path.{◌≡◌, refl, sym, ap, ap₂, ◌∙◌, fun_ext}
use mathlib.Core.List.{List, [], ◌∷◌}
use Prim.Native.Nat.{ℕ, zero, suc, ◌-◌}
use native.Mathlib.Omega.{arith}
use lib.IntN.{ℤ, pos, ◌+ℤ◌, ◌-ℤ◌, ◌*ℤ◌, *ℤ_comm}
use lib.ListN.{length}
use Rattle.whole.specs.Coefficients.{at}
use Rattle.whole.specs.Number.{wholes}
use Rattle.whole.proofs.Integers.{*ℤ-1, *ℤ-assoc}
use Rattle.whole.proofs.Wholes.{readℤ, atomsℤ, ringℤ}
use Rattle.poly.proofs.Series.{Series, tail}
use Rattle.poly.proofs.Forms.{power, form}
use Rattle.pair.specs.declared.Pair.{Pair}
use Rattle.pair.specs.Pairs.{pair, pairs, plus, times, multiple}
use Rattle.pair.proofs.Parts.{pair-equal}
use Rattle.pair.proofs.Laws.{pairs_ring, number_times, multiple-one, multiple-times}
use Rattle.bernstein.specs.Binomials.{choose, total}
use Rattle.bernstein.specs.Powers.{power_form}
use Rattle.bernstein.proofs.Sums.{total-times}
use Rattle.bernstein.proofs.Products.{times_choose, power_form-sum}

abbrev pub raised : ℤ → ℕ → ℤ
raised x zero = pos 1
raised x (suc k) = x *ℤ raised x k

module _ (s e : ℤ) where
  abbrev pub value_at : ℕ → Series Pair → Pair
  value_at m f = total pairs m (λ k. multiple (raised e k *ℤ raised s (m - k)) (f k))

  abbrev pub bernstein_at : ℕ → Series Pair → Pair
  bernstein_at m d = total pairs m (λ k. multiple (pos (choose m k) *ℤ (raised e k *ℤ raised (s -ℤ e) (m - k))) (d k))

-- ---- the forms of the theory
abbrev whole : ℤ → Pair
whole z = pair z (pos 0)

power-is : (s : ℤ) (n : ℕ) → power pairs (whole s) n ≡ whole (raised s (suc n))
power-is s zero = ap whole (sym (*ℤ-1 s))
power-is s (suc n) = ap (times (whole s)) (power-is s n) ∙ sym (number_times s (raised s (suc n)))

nested : (a b : ℤ) (x : Pair) → multiple (a *ℤ b) x ≡ multiple a (multiple b x)
nested a b x = pair-equal (*ℤ-assoc a b x.re) (*ℤ-assoc a b x.im)

form-is : (s e : ℤ) (m : ℕ) (f : Series Pair) → form pairs (whole s) (whole e) m f ≡ value_at s e m f
unfolding total
form-is s e zero f = sym (multiple-one (f zero))
form-is s e (suc m) f = ap₂ plus first (ap (times (whole e)) (form-is s e m (tail f)) ∙ sym (total-times pairs_ring m (whole e) term) ∙ ap (total pairs m) (fun_ext later))
  where
    term : Series Pair
    term k = multiple (raised e k *ℤ raised s (m - k)) (f (suc k))

    whole_less : suc m ≡ suc m - 0
    whole_less = omega arith

    later_less : (k : ℕ) → m - k ≡ suc m - suc k
    later_less k = omega arith

    first : times (power pairs (whole s) m) (f zero) ≡ multiple (pos 1 *ℤ raised s (suc m - 0)) (f zero)
    first =
        ap (λ p. times p (f zero)) (power-is s m)
        ∙ sym (multiple-times (raised s (suc m)) (f zero))
        ∙ ap (λ c. multiple c (f zero)) (sym (*ℤ_comm (pos 1) (raised s (suc m)) ∙ *ℤ-1 (raised s (suc m))) ∙ ap (λ n. pos 1 *ℤ raised s n) whole_less)

    later : (k : ℕ) → times (whole e) (term k) ≡ multiple (raised e (suc k) *ℤ raised s (suc m - suc k)) (f (suc k))
    later k =
        sym (multiple-times e (term k))
        ∙ sym (nested e (raised e k *ℤ raised s (m - k)) (f (suc k)))
        ∙ ap (λ c. multiple c (f (suc k))) (sym (*ℤ-assoc e (raised e k) (raised s (m - k))) ∙ ap (λ n. raised e (suc k) *ℤ raised s n) (later_less k))

-- ---- by parts
power_parts : (s : ℤ) (n : ℕ) → power pairs (whole s) n ≡ whole (power wholes s n)
power_parts s zero = refl
power_parts s (suc n) = ap (times (whole s)) (power_parts s n) ∙ sym (number_times s (power wholes s n))

form_parts : (s e : ℤ) (m : ℕ) (f : Series Pair) → form pairs (whole s) (whole e) m f ≡ pair (form wholes s e m (λ k. (f k).re)) (form wholes s e m (λ k. (f k).im))
form_parts s e zero f = refl
form_parts s e (suc m) f =
    ap₂ plus
    (ap (λ p. times p (f zero)) (power_parts s m) ∙ sym (multiple-times (power wholes s m) (f zero)))
    (ap (times (whole e)) (form_parts s e m (tail f)) ∙ sym (multiple-times e (pair (form wholes s e m (λ k. (f (suc k)).re)) (form wholes s e m (λ k. (f (suc k)).im)))))

pub value_parts : (s e : ℤ) (m : ℕ) (f : Series Pair) → value_at s e m f ≡ pair (form wholes s e m (λ k. (f k).re)) (form wholes s e m (λ k. (f k).im))
value_parts s e m f = sym (form-is s e m f) ∙ form_parts s e m f

-- ---- Bernstein coefficients
pub power_form-at : (s e : ℤ) (ds : List Pair) → value_at s e (length ds - 1) (at pairs (power_form ds)) ≡ bernstein_at s e (length ds - 1) (at pairs ds)
power_form-at s e ds =
    sym (form-is s e (length ds - 1) (at pairs (power_form ds)))
    ∙ ap (λ x. form pairs x (whole e) (length ds - 1) (at pairs (power_form ds))) (pair-equal parted refl)
    ∙ power_form-sum (whole (s -ℤ e)) (whole e) ds
    ∙ form-is (s -ℤ e) e (length ds - 1) (times_choose ds)
    ∙ ap (total pairs (length ds - 1)) (fun_ext (λ k. gathered (raised e k *ℤ raised (s -ℤ e) (length ds - 1 - k)) (pos (choose (length ds - 1) k)) (at pairs ds k)))
  where
    parted : s ≡ s -ℤ e +ℤ e
    parted = atomsℤ (s ∷ e ∷ []) (λ ρ v. simp (v 0, v 1, readℤ) (ringℤ ρ _ _ tt))

    gathered : (a c : ℤ) (x : Pair) → multiple a (multiple c x) ≡ multiple (c *ℤ a) x
    gathered a c x = sym (nested a c x) ∙ ap (λ z. multiple z x) (*ℤ_comm a c)
