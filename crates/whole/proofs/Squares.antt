-- Roots of natural numbers: Newton's step from above, what is left over, and how squares end; and numbers that are no squares.
--   root_positive       what is at or above the root of a number other than 0 is positive
--   newton_above        the mean of r and n / r is at or above the root of n, for any r
--   root-most           a number whose square is at most n is at most the root of n
--   root_below          the root of a number below k² is below k
--   root_once           a whole root has one answer
--   root_is             and of k² it is k
--   no_root             a number that leaves something over is no square,
--   no_end              and neither is one that does not end as squares do
--   exact-root_once     the root of a square, or that there is none, has one answer
--   marked, ends_tell   the remainders of squares by 64 are those that a number of 64 binary digits marks
--   Between, between_no_square     a whole number strictly between two squares that follow each other is no square
use Rattle.std.specs.Prelude.{Option}
use mathlib.Core.Path.{◌≡◌, refl, sym, ap, ◌∙◌, subst}
use mathlib.Core.Bool.{Bool, true, false, ◌||◌, beq}
use mathlib.Core.Logic.{◌≢◌}
use Prim.Native.Nat.{ℕ, zero, suc, ◌+◌, ◌-◌, ◌*◌, ◌/◌, ◌%◌, ◌^◌, ◌≤◌, ◌<◌}
use native.Mathlib.Nat.{mul-le-mul, add-sub_of_le, lt-mul-div-succ, mod-lt, div-add-mod', add-mul-mod_self_left}
use native.Mathlib.Numerals.{add-one}
use native.Mathlib.Decide.{dec_le, dec_lt}
use lib.Dec.{T, eqb, lit<}
use native.Mathlib.Omega.{arith}
use lib.IntN.{ℤ, pos, nat_abs, ◌*ℤ◌}
use Rattle.whole.specs.declared.Root.{Root}
use Rattle.whole.specs.Number.{Tells}
use Rattle.whole.specs.Promise.{IsRoot, IsExactRoot, EndsAsSquare}
use Rattle.whole.proofs.Integers.{abs_times}
use Rattle.whole.proofs.Flags.{told-map, equal_tells}
use Rattle.whole.proofs.Options.{option_once}
use Rattle.whole.proofs.Tables.{entry}

pub root_positive : (n r : ℕ) → n ≢ 0 → n < (r + 1) * (r + 1) → 0 < r
root_positive n zero h l = absurd (h (omega arith))
root_positive n (suc r) h l = omega arith

-- 4 r s ≤ (r + s)², where r is s + d: the difference is d²
mean : (s d : ℕ) → 4 * ((s + d) * s) ≤ (s + d + s) * (s + d + s)
mean s d = omega arith

-- n < r s and s ≤ r, and m + 1 is at least the mean of r and s: n < (m + 1)²
below_mean : (n r s m : ℕ) → n < r * s → s ≤ r → r + s ≤ 2 * suc m → n < suc m * suc m
below_mean n r s m h l k =
    let e : s + (r - s) ≡ r = add-sub_of_le l in
    let a : 4 * (r * s) ≤ (r + s) * (r + s) = rw e at (mean s (r - s)) in
    omega (arith, mul-le-mul k k)

pub newton_above : (n r : ℕ) → 0 < r → n < ((r + n / r) / 2 + 1) * ((r + n / r) / 2 + 1)
newton_above n r p = rw (add-one ((r + n / r) / 2)) (by (dec_le (n / r + 1) r))
  where
    above : n < r * (n / r + 1)
    above = lt-mul-div-succ n p

    by : Dec (n / r + 1 ≤ r) → n < suc ((r + n / r) / 2) * suc ((r + n / r) / 2)
    by (yes l) = below_mean n r (n / r + 1) ((r + n / r) / 2) above l (omega arith)
    by (no l) = below_mean n (n / r + 1) r ((r + n / r) / 2) (omega (arith, above)) (omega arith) (omega arith)

-- ---- what a root says
pub root-most : {n : ℕ} {r : Root} → IsRoot n r → (k : ℕ) → k * k ≤ n → k ≤ r.root
root-most {r} h k l = by (dec_le k r.root)
  where
    by : Dec (k ≤ r.root) → k ≤ r.root
    by (yes m) = m
    by (no m) = let above : suc r.root ≤ k = omega arith in absurd (omega (arith, h.is, h.small, mul-le-mul above above))

pub root_below : {n : ℕ} {r : Root} → IsRoot n r → (k : ℕ) → n < k * k → r.root < k
root_below {r} h k l = by (dec_le k r.root)
  where
    by : Dec (k ≤ r.root) → r.root < k
    by (yes m) = absurd (omega (arith, h.is, mul-le-mul m m))
    by (no m) = omega arith

pub root_once : {n : ℕ} {r s : Root} → IsRoot n r → IsRoot n s → r ≡ s
root_once {r} {s} h k = λ i. record { root = same i; rest = left i }
  where
    same : r.root ≡ s.root
    same = omega (arith, root-most h s.root (omega (arith, k.is)), root-most k r.root (omega (arith, h.is)))

    left : r.rest ≡ s.rest
    left = omega (arith, h.is, k.is, ap (λ x. x * x) same)

pub root_is : {n : ℕ} {r : Root} → IsRoot n r → (k : ℕ) → k * k ≡ n → r.root ≡ k
root_is {n} h k e = let s : IsRoot n (record { root = k; rest = 0 }) = record { is = omega (arith, e); small = omega arith } in ap (λ r. r.root) (root_once h s)

pub no_root : {n : ℕ} {r : Root} → IsRoot n r → r.rest ≢ 0 → (k : ℕ) → k * k ≢ n
no_root {r} h some k e = some (omega (arith, h.is, e, ap (λ x. x * x) (root_is h k e)))

pub exact-root_once : (n : ℕ) (r s : Option ℕ) → IsExactRoot n r → IsExactRoot n s → r ≡ s
exact-root_once n = option_once (IsExactRoot n) same (λ r e none. none r e)
  where
    same : (x y : ℕ) → x * x ≡ n → y * y ≡ n → x ≡ y
    same x y e f = let h : IsRoot n (record { root = x; rest = 0 }) = record { is = omega (arith, e); small = omega arith } in root_is h y f

-- ---- the remainders of squares by 64
pub no_end : {n : ℕ} → (EndsAsSquare n → ⊥) → (k : ℕ) → k * k ≢ n
no_end none k e = none (record { root = k; ends = ap (λ m. m % 64) e })

abbrev pub marked : ℕ → Bool
marked j = eqb (144680414395695635 / 2 ^ j % 2) 1

-- the square of a number below m leaves j
abbrev Left : ℕ → ℕ → Type 0
Left m j = (k : ℕ) × (k < m) × (k * k % 64 ≡ j)

tried : ℕ → ℕ → Bool
tried zero j = false
tried (suc m) j = eqb (m * m % 64) j || tried m j

one_more : (m j : ℕ) (a b : Bool) → Tells (m * m % 64 ≡ j) a → Tells (Left m j) b → Tells (Left (suc m) j) (a || b)
one_more m j true b e f = (m, omega arith, e)
one_more m j false true e (k, l, f) = (k, omega arith, f)
one_more m j false false e f = λ (k, l, g). by k l g (dec_lt k m)
  where
    by : (k : ℕ) → k < suc m → k * k % 64 ≡ j → Dec (k < m) → ⊥
    by k l g (yes h) = f (k, h, g)
    by k l g (no h) = let same : k ≡ m = omega arith in e (subst (λ i. i * i % 64 ≡ j) same g)

tried_tells : (m j : ℕ) → Tells (Left m j) (tried m j)
unfolding tried
tried_tells zero j = λ (k, l, e). omega arith
tried_tells (suc m) j = one_more m j (eqb (m * m % 64) j) (tried m j) (equal_tells (m * m % 64) j) (tried_tells m j)

same_flag : (a b : Bool) → T (beq a b) → a ≡ b
same_flag true true t = refl
same_flag true false t = absurd t
same_flag false true t = absurd t
same_flag false false t = refl

pub ends_tell : (n : ℕ) → Tells (EndsAsSquare n) (marked (n % 64))
unfolding tried
ends_tell n = told-map there back (marked (n % 64)) (subst (Tells (Left 64 (n % 64))) (sym agree) (tried_tells 64 (n % 64)))
  where
    agree : marked (n % 64) ≡ tried 64 (n % 64)
    agree = same_flag _ _ (entry 64 (λ j. beq (marked j) (tried 64 j)) tt (n % 64) (mod-lt n (lit< tt)))

    there : Left 64 (n % 64) → EndsAsSquare n
    there (k, l, e) = record { root = k; ends = e }

    multiplied : (q i : ℕ) → (q * 64 + i) * (q * 64 + i) ≡ i * i + 64 * (q * (q * 64 + 2 * i))
    multiplied q i = omega arith

    rest : (k : ℕ) → k % 64 * (k % 64) % 64 ≡ k * k % 64
    rest k = sym (ap (λ j. j * j % 64) (sym (div-add-mod' k 64)) ∙ ap (λ j. j % 64) (multiplied (k / 64) (k % 64)) ∙ add-mul-mod_self_left (k % 64 * (k % 64)) 64 _)

    back : EndsAsSquare n → Left 64 (n % 64)
    back h = (h.root % 64, mod-lt h.root (lit< tt), rest h.root ∙ h.ends)

-- ---- whole numbers
pub record Between (v : ℤ) : Type 0 where
  pub k : ℕ
  pub n : ℕ
  pub is : v ≡ pos n
  pub above : k * k < n
  pub below : n < suc k * suc k

pub between_no_square : {v : ℤ} → Between v → (m : ℤ) → v ≢ m *ℤ m
between_no_square h m e =
    let f : nat_abs m * nat_abs m ≡ h.n = sym (abs_times m m) ∙ ap nat_abs (sym e ∙ h.is) in
    let r : IsRoot h.n (record { root = h.k; rest = h.n - h.k * h.k }) = record { is = omega (arith, h.above); small = omega (arith, h.above, h.below) } in
    no_root r (λ none. omega (arith, h.above, none)) (nat_abs m) f
