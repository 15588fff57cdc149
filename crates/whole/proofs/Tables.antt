-- A rule for each number below a bound, by one computed test.
--   Passes n test      the test says yes of 0, 1, .. n − 1
--   entry              so it says yes of each
--   squares_below : (k : ℕ) → k < 5 → k * k ≤ 16
--   squares_below k l = lit≤ (entry 5 (λ j. leb (j * j) 16) tt k l)
use mathlib.Core.Bool.{Bool, true, false}
use Prim.Native.Nat.{ℕ, zero, suc, ◌*◌, ◌<◌, ◌≤◌}
use native.Mathlib.Omega.{arith}
use lib.Dec.{T, leb, lit≤}

abbrev After : Bool → Type 0 → Type 0
After true rest = rest
After false rest = ⊥

abbrev pub Passes : ℕ → (ℕ → Bool) → Type 0
Passes zero test = Unit {0}
Passes (suc n) test = After (test zero) (Passes n (λ k. test (suc k)))

parts : (rest : Type 0) (b : Bool) → After b rest → T b × rest
parts rest true t = (tt, t)
parts rest false t = absurd t

pub entry : (n : ℕ) (test : ℕ → Bool) → Passes n test → (k : ℕ) → k < n → T (test k)
entry zero test t k l = absurd (omega arith)
entry (suc n) test t zero l = (parts (Passes n (λ j. test (suc j))) (test zero) t).0
entry (suc n) test t (suc k) l = entry n (λ j. test (suc j)) (parts (Passes n (λ j. test (suc j))) (test zero) t).1 k (omega arith)

squares_below : (k : ℕ) → k < 5 → k * k ≤ 16
squares_below k l = lit≤ (entry 5 (λ j. leb (j * j) 16) tt k l)
