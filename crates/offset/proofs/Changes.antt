-- A loop that changes one coefficient of a list after the other, from the constant upward.
--   Changed n B F xs k           of the n coefficients those below k are those of F, and the others still those of B
--   changed_none, changed_more   so it is at first, and after each turn
--   changed_below                where F is B from there on, all n are those of F
--   changed_all                  and so are those above, where F is 0 there
use mathlib.Core.Path.{◌≡◌, sym, ◌∙◌}
use mathlib.Core.List.{List}
use Prim.Native.Nat.{ℕ, ◌+◌, ◌<◌, ◌≤◌}
use native.Mathlib.Decide.{dec_le}
use native.Mathlib.Omega.{arith}
use lib.IntN.{ℤ, pos}
use lib.ListN.{length, set, length-set, get_or-eq_default}
use lib.Seq.{get_or-set_same, get_or-set_other}
use Rattle.whole.specs.Coefficients.{at}
use Rattle.whole.specs.Number.{wholes}

pub record Changed (n : ℕ) (B F : ℕ → ℤ) (xs : List ℤ) (k : ℕ) : Type 0 where
  pub long : length xs ≡ n
  pub below : (j : ℕ) → j < k → at wholes xs j ≡ F j
  pub from : (j : ℕ) → k ≤ j → j < n → at wholes xs j ≡ B j

module _ {n : ℕ} {B F : ℕ → ℤ} where
  pub changed_none : {xs : List ℤ} → length xs ≡ n → ((j : ℕ) → j < n → at wholes xs j ≡ B j) → Changed n B F xs 0
  changed_none l e = record { long = l; below = λ j m. absurd (omega arith); from = λ j m. e j }

  module _ {xs : List ℤ} {k : ℕ} (c : Changed n B F xs k) where
    pub changed_more : {v : ℤ} → k < n → v ≡ F k → Changed n B F (set xs k v) (k + 1)
    changed_more {v} l e = record {
      long = length-set xs k v ∙ c.long;
      below = λ j m. by (dec_le k j) m;
      from = λ j m. λ i. get_or-set_other xs k j v (pos 0) (λ e. omega arith) ∙ c.from j (omega arith) i;
    }
      where
        by : {j : ℕ} → Dec (k ≤ j) → j < k + 1 → at wholes (set xs k v) j ≡ F j
        by {j} (yes m) i = let same : j ≡ k = omega arith in rw same (get_or-set_same xs k v (pos 0) (omega (arith, c.long)) ∙ e)
        by {j} (no m) i = get_or-set_other xs k j v (pos 0) (λ e. omega arith) ∙ c.below j (omega arith)

    module _ (past : (j : ℕ) → k ≤ j → j < n → F j ≡ B j) where
      pub changed_below : (j : ℕ) → j < n → at wholes xs j ≡ F j
      changed_below j l = by (dec_le k j)
        where
          by : Dec (k ≤ j) → at wholes xs j ≡ F j
          by (yes m) = c.from j m l ∙ sym (past j m l)
          by (no m) = c.below j (omega arith)

      pub changed_all : ((j : ℕ) → n ≤ j → F j ≡ pos 0) → (j : ℕ) → at wholes xs j ≡ F j
      changed_all none j = by (dec_le n j)
        where
          by : Dec (n ≤ j) → at wholes xs j ≡ F j
          by (yes m) = get_or-eq_default xs (pos 0) {n = j} (omega (arith, c.long)) ∙ sym (none j m)
          by (no m) = changed_below j (omega arith)
