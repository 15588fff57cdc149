-- Power forms of lists of Bernstein coefficients.
--   differences-length, at-differences      how many differences there are, and which
--   at-power_form            every coefficient is C(m, k) times the first of the k-th differences
--   power_form-above         no power stands above m
--   power_form-start         the value at 0 is the first of the list
--   power_form-derived       the derivative is m times the power form of the differences
--   Linear R part           a part of pairs, with values in a ring R, that keeps 0, differences and whole multiples:
--   both_parts, re-part, im-part, times-part      the pair itself, its real part, its imaginary part, its product with a pair
--   at_linear               a coefficient of the list of the parts
--   power_form-linear        a part of the power form is that of the list, from Bernstein to power coefficients
--   power_form-map           and the power form of a list of products with one pair is the product
--   power_form-decides       the power form decides the list, up to its length
--   power_form-zero          only zeros have the power form 0
use mathlib.Core.Path.{◌≡◌, refl, sym, ap, ap₂, ◌∙◌, fun_ext}
use mathlib.Core.List.{List, [], ◌∷◌, map}
use mathlib.Core.Logic.{◌↔◌}
use Prim.Native.Nat.{ℕ, zero, suc, ◌*◌, ◌-◌, ◌<◌, ◌≤◌}
use native.Mathlib.Decide.{dec_le}
use native.Mathlib.Omega.{arith}
use lib.IntN.{ℤ, pos}
use lib.ListN.{length, length-map, get_or-eq_default}
use Rattle.whole.specs.Coefficients.{Coefficients, at}
use Rattle.poly.specs.Polynomials.{Same}
use Rattle.whole.proofs.Ring.{Ring, times_none}
use Rattle.whole.proofs.Wholes.{wholes_ring}
use Rattle.poly.specs.Terms.{Above}
use Rattle.poly.proofs.Series.{Series}
use Rattle.poly.proofs.Top.{listed_same}
use Rattle.pair.specs.declared.Pair.{Pair}
use Rattle.pair.specs.Pairs.{pair, pairs, minus, times, multiple}
use Rattle.pair.proofs.Laws.{pairs_ring, none-multiple, multiple-one, multiple-times, multiple-multiple, multiple_cancel}
use Rattle.pair.proofs.PairSolver.{the, ◌⊞◌, ◌⊟◌, ◌⊠◌, opposite, solve_pairs}
use Rattle.bernstein.specs.Binomials.{choose}
use Rattle.bernstein.specs.Powers.{differences, kth_differences, power_form}
use Rattle.bernstein.proofs.Binomials.{choose_above, absorbed}
use Rattle.bernstein.proofs.Blends.{step, step-difference, steps}
use Rattle.bernstein.proofs.InPowers.{weighted_above, in_powers, in_powers-above, in_powers-once}

-- ---- differences
pub differences-length : (ps : List Pair) → length (differences ps) ≡ length ps - 1
unfolding differences
differences-length [] = refl
differences-length (p ∷ []) = refl
differences-length (p ∷ q ∷ ps) = let e = differences-length (q ∷ ps) in omega arith

pub at-differences : (ps : List Pair) (i : ℕ) → suc i < length ps → at pairs (differences ps) i ≡ minus (at pairs ps (suc i)) (at pairs ps i)
unfolding differences
at-differences [] i h = absurd (omega arith)
at-differences (p ∷ []) i h = absurd (omega arith)
at-differences (p ∷ q ∷ ps) zero h = refl
at-differences (p ∷ q ∷ ps) (suc i) h = at-differences (q ∷ ps) i (omega arith)

-- ---- coefficients
coefficient : List Pair → ℕ → Pair
coefficient ds k = multiple (pos (choose (length ds - 1) k)) (at pairs (kth_differences k ds) 0)

coefficient_above : (ds : List Pair) → Above pairs (coefficient ds) (length ds - 1)
unfolding coefficient
coefficient_above ds k l =
    ap (λ c. multiple (pos c) (at pairs (kth_differences k ds) 0)) (choose_above (length ds - 1) k l)
    ∙ none-multiple (at pairs (kth_differences k ds) 0)

pub at-power_form : (ds : List Pair) (k : ℕ) → at pairs (power_form ds) k ≡ multiple (pos (choose (length ds - 1) k)) (at pairs (kth_differences k ds) 0)
unfolding power_form coefficient
at-power_form ds k = sym (listed_same pairs (length ds - 1) (coefficient ds) (coefficient_above ds) k)

pub power_form-above : (ds : List Pair) → Above pairs (at pairs (power_form ds)) (length ds - 1)
unfolding coefficient
power_form-above ds k l = at-power_form ds k ∙ coefficient_above ds k l

pub power_form-start : (ds : List Pair) → at pairs (power_form ds) 0 ≡ at pairs ds 0
unfolding choose kth_differences
power_form-start ds = at-power_form ds 0 ∙ multiple-one (at pairs ds 0)

pub power_form-derived : (ds : List Pair) (k : ℕ)
    → multiple (pos (suc k)) (at pairs (power_form ds) (suc k)) ≡ multiple (pos (length ds - 1)) (at pairs (power_form (differences ds)) k)
unfolding kth_differences
power_form-derived ds k =
    ap (multiple (pos (suc k))) (at-power_form ds (suc k))
    ∙ multiple-multiple (pos (suc k)) (pos (choose (length ds - 1) (suc k))) (pos (length ds - 1)) (pos (choose (length (differences ds) - 1) k)) (at pairs (kth_differences k (differences ds)) 0)
    (ap pos (absorbed (length ds - 1) k ∙ ap (λ n. (length ds - 1) * choose (n - 1) k) (sym (differences-length ds))))
    ∙ ap (multiple (pos (length ds - 1))) (sym (at-power_form (differences ds) k))

-- ---- parts
pub record Linear {A : Type 0} {C : Coefficients A} (R : Ring C) (part : Pair → A) : Type 0 where
  pub of_none : part pairs.none ≡ C.none
  pub of_minus : (a b : Pair) → part (minus a b) ≡ C.plus (part a) (R.negative (part b))
  pub of_multiple : (c : ℤ) (a : Pair) → part (multiple c a) ≡ C.times (R.number c) (part a)

pub re-part : Linear wholes_ring (λ z. z.re)
re-part = record { of_none = refl; of_minus = λ a b. refl; of_multiple = λ c a. refl }

pub im-part : Linear wholes_ring (λ z. z.im)
im-part = record { of_none = refl; of_minus = λ a b. refl; of_multiple = λ c a. refl }

pub both_parts : Linear pairs_ring (λ z. z)
both_parts = record { of_none = refl; of_minus = λ a b. refl; of_multiple = multiple-times }

pub times-part : (c : Pair) → Linear pairs_ring (times c)
times-part c = record {
  of_none = times_none pairs_ring c;
  of_minus = λ a b. solve_pairs (c ∷ a ∷ b ∷ []) (the 0 ⊠ (the 1 ⊟ the 2)) (the 0 ⊠ the 1 ⊞ opposite (the 0 ⊠ the 2)) tt tt;
  of_multiple = λ n a. ap (times c) (multiple-times n a) ∙ solve_pairs (c ∷ pair n (pos 0) ∷ a ∷ []) (the 0 ⊠ (the 1 ⊠ the 2)) (the 1 ⊠ (the 0 ⊠ the 2)) tt tt;
}

-- 0 is a part too
no_part : Linear pairs_ring (λ z. pairs.none)
no_part = record { of_none = refl; of_minus = λ a b. refl; of_multiple = λ n a. sym (times_none pairs_ring (pair n (pos 0))) }

module _ {A : Type 0} {C : Coefficients A} {R : Ring C} {part : Pair → A} (P : Linear R part) where
  pub at_linear : (L : List Pair) (k : ℕ) → at C (map part L) k ≡ part (at pairs L k)
  at_linear [] k = sym P.of_none
  at_linear (z ∷ L) zero = refl
  at_linear (z ∷ L) (suc k) = at_linear L k

  -- f agrees with the part of ds as far as ds goes: what it is further on does not matter
  first-steps : (k : ℕ) (ds : List Pair) (f : Series A) → k < length ds → ((i : ℕ) → i < length ds → part (at pairs ds i) ≡ f i)
      → part (at pairs (kth_differences k ds) 0) ≡ steps R k f zero
  unfolding kth_differences
  first-steps zero ds f l h = h zero l
  first-steps (suc k) ds f l h = first-steps k (differences ds) (step R f) (omega (arith, differences-length ds)) (λ i j.
      ap part (at-differences ds i (omega (arith, differences-length ds)))
      ∙ P.of_minus _ _
      ∙ ap₂ (λ x y. C.plus x (R.negative y)) (h (suc i) (omega (arith, differences-length ds))) (h i (omega (arith, differences-length ds)))
      ∙ sym (step-difference R f i))

  pub power_form-linear : (ds : List Pair) (k : ℕ) → part (at pairs (power_form ds) k) ≡ in_powers R (length ds - 1) (λ i. part (at pairs ds i)) k
  unfolding kth_differences
  power_form-linear ds k = ap part (at-power_form ds k) ∙ P.of_multiple _ _ ∙ by ds (dec_le k (length ds - 1))
    where
      by : (ds : List Pair) → Dec (k ≤ length ds - 1)
          → C.times (R.number (pos (choose (length ds - 1) k))) (part (at pairs (kth_differences k ds) 0)) ≡ in_powers R (length ds - 1) (λ i. part (at pairs ds i)) k
      by ds (no l) =
          weighted_above R (length ds - 1) (λ j. part (at pairs (kth_differences j ds) 0)) k (omega arith)
          ∙ sym (in_powers-above R (length ds - 1) (λ i. part (at pairs ds i)) k (omega arith))
      by [] (yes l) = only k (omega arith)
        where
          only : (k : ℕ) → k ≡ 0 → C.times (R.number (pos (choose 0 k))) (part (at pairs (kth_differences k []) 0)) ≡ in_powers R 0 (λ i. part pairs.none) k
          only zero e = refl
          only (suc k) e = absurd (omega arith)
      by (d ∷ ds) (yes l) = ap (λ x. C.times (R.number (pos (choose (length (d ∷ ds) - 1) k))) x) (first-steps k (d ∷ ds) (λ i. part (at pairs (d ∷ ds) i)) (omega arith) (λ i h. refl))

pub power_form-map : {part : Pair → Pair} → Linear pairs_ring part → (ds : List Pair) (k : ℕ) → at pairs (power_form (map part ds)) k ≡ part (at pairs (power_form ds) k)
power_form-map {part} P ds k =
    power_form-linear both_parts (map part ds) k
    ∙ ap₂ (λ n f. in_powers pairs_ring (n - 1) f k) (length-map ds part) (fun_ext (at_linear P ds))
    ∙ sym (power_form-linear P ds k)

-- ---- the power form decides the list
module _ (ds : List Pair) (f : Series Pair) (e : (k : ℕ) → at pairs (power_form ds) k ≡ in_powers pairs_ring (length ds - 1) f k) where
  pub power_form-decides : (i : ℕ) → i ≤ length ds - 1 → at pairs ds i ≡ f i
  power_form-decides = in_powers-once pairs_ring cancel (length ds - 1) (at pairs ds) f (λ k. sym (power_form-linear both_parts ds k) ∙ e k)
    where
      cancel : (n : ℕ) (x y : Pair) → 0 < n → times (pair (pos n) (pos 0)) x ≡ times (pair (pos n) (pos 0)) y → x ≡ y
      cancel n x y l h = multiple_cancel n l (multiple-times (pos n) x ∙ h ∙ sym (multiple-times (pos n) y))

pub power_form-zero : (ds : List Pair) → Same pairs (power_form ds) [] ↔ Same pairs ds []
power_form-zero ds = (
  λ e i. by e i (dec_le i (length ds - 1)),
  λ e k. power_form-linear both_parts ds k ∙ ap (λ f. in_powers pairs_ring (length ds - 1) f k) (fun_ext e) ∙ sym (power_form-linear no_part ds k),
)
  where
    by : Same pairs (power_form ds) [] → (i : ℕ) → Dec (i ≤ length ds - 1) → at pairs ds i ≡ pairs.none
    by e i (yes j) = power_form-decides ds (λ k. pairs.none) (λ k. e k ∙ power_form-linear no_part ds k) i j
    by e i (no j) = get_or-eq_default ds pairs.none (omega arith)
