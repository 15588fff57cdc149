-- Values of a polynomial at the quarters of the way from 0 to 1 bound its coefficients.
--   quarter n f v         4ⁿ f(v / 4)
--   weighted, weight      a sum with weights; their sizes added up.      weighted-size   how large the sum is
--   sum_of, quarter_of      the same, and the values at the quarters, as expressions of the solver.      eval-weighted   what they are
--   greatest              the greatest of finitely many numbers has what each of them has
--   quartic-root-size     degree 4: where c (4⁴ f)² is at most B at the five quarters, 9 c fₖ² is at most 16 B
--   quadratic-size        degree 2: where 4² f is at most M in size there, 2 fₖ is at most M in size
-- A coefficient is a sum of the values with fixed weights: the solver checks the weights, and their sizes add up to the bound.
use mathlib.Core.Path.{◌≡◌, refl, ap, ap₂, ◌∙◌}
use mathlib.Core.List.{List, [], ◌∷◌, map}
use Prim.Native.Nat.{ℕ, zero, suc, ◌+◌, ◌*◌, ◌<◌, ◌≤◌, zero-le}
use native.Mathlib.Nat.{le_refl, le_trans, mul-le-mul}
use native.Mathlib.Decide.{dec_le}
use native.Mathlib.Omega.{arith}
use lib.Dec.{T}
use lib.IntN.{ℤ, pos, negsuc, nat_abs, ◌+ℤ◌, ◌*ℤ◌}
use lib.ListN.{length}
use Rattle.whole.specs.Coefficients.{Coefficients}
use Rattle.whole.specs.Number.{wholes, Within}
use Rattle.whole.proofs.Integers.{abs_times}
use Rattle.whole.proofs.Solver.{Ex, var, lit, lit⁻, plus, times, ◌:*◌, same?, nth, eval, solve}
use Rattle.whole.proofs.Wholes.{wholes_ring}
use Rattle.whole.proofs.Bound.{abs_plus}
use Rattle.poly.specs.Terms.{Above}
use Rattle.poly.proofs.Series.{Series, tail}
use Rattle.poly.proofs.Forms.{form}

abbrev pub quarter : ℕ → Series ℤ → ℕ → ℤ
quarter n f v = form wholes (pos 4) (pos v) n f

-- ---- sums with weights
module _ {A : Type 0} (C : Coefficients A) where
  abbrev pub weighted : List A → Series A → A
  weighted [] f = C.none
  weighted (w ∷ ws) f = C.plus (C.times w (f zero)) (weighted ws (tail f))

abbrev pub weight : List ℤ → ℕ
weight [] = 0
weight (w ∷ ws) = nat_abs w + weight ws

pub weighted-size : {f : Series ℤ} {M : ℕ} (ws : List ℤ) → ((i : ℕ) → i < length ws → Within M (f i)) → nat_abs (weighted wholes ws f) ≤ weight ws * M
weighted-size [] h = zero-le
weighted-size {f} (w ∷ ws) h = omega (
  arith,
  abs_plus (w *ℤ f zero) (weighted wholes ws (tail f)),
  abs_times w (f zero),
  mul-le-mul (le_refl (nat_abs w)) (h zero (omega arith)).size,
  weighted-size ws (λ i l. h (suc i) (omega arith)),
)

-- ---- expressions of the solver as coefficients, so that the form and the sum of values can be written with its variables
abbrev expressions : Coefficients Ex
expressions = record { none = lit 0; plus = plus; times = times }

abbrev literal : ℤ → Ex
literal (pos n) = lit n
literal (negsuc n) = lit⁻ n

abbrev pub sum_of : List ℤ → Series Ex → Ex
sum_of ws = weighted expressions (map literal ws)

abbrev pub quarter_of : ℕ → Series Ex
quarter_of n v = form expressions (lit 4) (lit v) n var

module _ (ρ : List ℤ) where
  eval-literal : (w : ℤ) → eval wholes_ring ρ (literal w) ≡ w
  eval-literal (pos n) = refl
  eval-literal (negsuc n) = refl

  pub eval-weighted : (ws : List ℤ) (F : Series Ex) → eval wholes_ring ρ (sum_of ws F) ≡ weighted wholes ws (λ i. eval wholes_ring ρ (F i))
  eval-weighted [] F = refl
  eval-weighted (w ∷ ws) F = ap₂ (λ x y. x *ℤ eval wholes_ring ρ (F zero) +ℤ y) (eval-literal w) (eval-weighted ws (tail F))

  -- c times the k-th variable is the weighted sum of the values F
  coefficient : {M : ℕ} (F : Series Ex) (ws : List ℤ) (c k : ℕ) → ((i : ℕ) → i < length ws → Within M (eval wholes_ring ρ (F i)))
      → T (same? (lit c :* var k) (sum_of ws F)) → c * nat_abs (nth wholes_ring ρ k) ≤ weight ws * M
  coefficient F ws c k h t =
      omega (arith, weighted-size ws h, abs_times (pos c) (nth wholes_ring ρ k), ap nat_abs (solve wholes_ring ρ (lit c :* var k) (sum_of ws F) t ∙ eval-weighted ws F))

-- ---- the coefficients
module _ (f : Series ℤ) {M : ℕ} where
  quartic-size : Above wholes f 4 → ((v : ℕ) → v < 5 → Within M (quarter 4 f v)) → (k : ℕ) → 3 * nat_abs (f k) ≤ 4 * M
  quartic-size u h = by
    where
      ρ : List ℤ
      ρ = f 0 ∷ f 1 ∷ f 2 ∷ f 3 ∷ f 4 ∷ []

      by : (k : ℕ) → 3 * nat_abs (f k) ≤ 4 * M
      by zero = omega (arith, coefficient ρ (quarter_of 4) (pos 1 ∷ pos 0 ∷ pos 0 ∷ pos 0 ∷ pos 0 ∷ []) 256 0 h tt)
      by (suc zero) = omega (arith, coefficient ρ (quarter_of 4) (negsuc 24 ∷ pos 48 ∷ negsuc 35 ∷ pos 16 ∷ negsuc 2 ∷ []) 768 1 h tt)
      by (suc (suc zero)) = omega (arith, coefficient ρ (quarter_of 4) (pos 35 ∷ negsuc 103 ∷ pos 114 ∷ negsuc 55 ∷ pos 11 ∷ []) 384 2 h tt)
      by (suc (suc (suc zero))) = omega (arith, coefficient ρ (quarter_of 4) (negsuc 4 ∷ pos 18 ∷ negsuc 23 ∷ pos 14 ∷ negsuc 2 ∷ []) 48 3 h tt)
      by (suc (suc (suc (suc zero)))) = omega (arith, coefficient ρ (quarter_of 4) (pos 1 ∷ negsuc 3 ∷ pos 6 ∷ negsuc 3 ∷ pos 1 ∷ []) 24 4 h tt)
      by (suc (suc (suc (suc (suc k))))) = rw (u (suc (suc (suc (suc (suc k))))) (omega arith)) zero-le

  pub quadratic-size : Above wholes f 2 → ((v : ℕ) → v < 5 → Within M (quarter 2 f v)) → (k : ℕ) → 2 * nat_abs (f k) ≤ M
  quadratic-size u h = by
    where
      ρ : List ℤ
      ρ = f 0 ∷ f 1 ∷ f 2 ∷ []

      by : (k : ℕ) → 2 * nat_abs (f k) ≤ M
      by zero = omega (arith, coefficient ρ (quarter_of 2) (pos 1 ∷ pos 0 ∷ pos 0 ∷ pos 0 ∷ pos 0 ∷ []) 16 0 h tt)
      by (suc zero) = omega (arith, coefficient ρ (quarter_of 2) (negsuc 2 ∷ pos 0 ∷ pos 4 ∷ pos 0 ∷ negsuc 0 ∷ []) 16 1 h tt)
      by (suc (suc zero)) = omega (arith, coefficient ρ (quarter_of 2) (pos 2 ∷ pos 0 ∷ negsuc 3 ∷ pos 0 ∷ pos 2 ∷ []) 16 2 h tt)
      by (suc (suc (suc k))) = rw (u (suc (suc (suc k))) (omega arith)) zero-le

-- ---- the greatest of finitely many numbers has what each of them has
pub greatest : (P : ℕ → Type 0) → P 0 → (n : ℕ) (g : ℕ → ℕ) → ((i : ℕ) → i < n → P (g i)) → (M : ℕ) × ((i : ℕ) → i < n → g i ≤ M) × P M
greatest P p zero g h = (0, λ i l. absurd (omega arith), p)
greatest P p (suc n) g h = let (M, most, q) = greatest P p n (tail g) (λ i l. h (suc i) (omega arith)) in by M most q (dec_le (g zero) M)
  where
    first : (M : ℕ) → g zero ≤ M → ((i : ℕ) → i < n → g (suc i) ≤ M) → (i : ℕ) → i < suc n → g i ≤ M
    first M l most zero j = l
    first M l most (suc i) j = most i (omega arith)

    by : (M : ℕ) → ((i : ℕ) → i < n → g (suc i) ≤ M) → P M → Dec (g zero ≤ M) → (M : ℕ) × ((i : ℕ) → i < suc n → g i ≤ M) × P M
    by M most q (yes l) = (M, first M l most, q)
    by M most q (no l) = (g zero, first (g zero) (le_refl (g zero)) (λ i j. le_trans (most i j) (omega arith)), h zero (omega arith))

pub quartic-root-size : (f : Series ℤ) (c B : ℕ) → Above wholes f 4 → ((v : ℕ) → v < 5 → c * (nat_abs (quarter 4 f v) * nat_abs (quarter 4 f v)) ≤ B)
    → (k : ℕ) → 9 * (c * (nat_abs (f k) * nat_abs (f k))) ≤ 16 * B
quartic-root-size f c B u h k =
    let (M, most, small) = greatest (λ x. c * (x * x) ≤ B) (omega arith) 5 (λ v. nat_abs (quarter 4 f v)) h in
    let s : 3 * nat_abs (f k) ≤ 4 * M = quartic-size f u (λ v l. record { size = most v l }) k in
    omega (arith, mul-le-mul (le_refl c) (mul-le-mul s s))
