-- A loop that writes values into a list from the front, a store a turn: after i turns it is the first i values, and then what was there.
--   put-more       a store at i makes it so for i + 1
--   fill_more      the same where all values are one: after i turns it is `replicate i a ++ drop i d`
--   fill-all       after as many turns as there are elements
use mathlib.Core.Path.{◌≡◌, refl, ap}
use mathlib.Core.List.{List, ◌∷◌, ◌++◌, append-nil}
use Prim.Native.Nat.{ℕ, zero, suc, ◌+◌, ◌≤◌, ◌<◌}
use native.Mathlib.Nat.{not-suc-le-zero, le_of_suc-le-suc, zero-add}
use native.Mathlib.Numerals.{add-one}
use native.Mathlib.Omega.{arith}
use lib.ListN.{length, set, get_or, take, drop, replicate, length-replicate, get_or-replicate, drop_of_length-le}
use lib.Seq.{paste-suc}

module _ {A : Type 0} (a : A) where
  pub put-more : (i : ℕ) (vs d : List A) → i < length vs → i < length d → set (take i vs ++ drop i d) i (get_or vs i a) ≡ take (i + 1) vs ++ drop (i + 1) d
  put-more i vs d l m =
      let e : set (take i vs ++ drop (0 + i) d) (0 + i) (get_or vs i a) ≡ take (suc i) vs ++ drop (0 + suc i) d = paste-suc d 0 vs i a (rw zero-add m) l in
      rw add-one (rw (zero-add i, zero-add (suc i)) at e)

  take-replicate : (i n : ℕ) → i ≤ n → take i (replicate n a) ≡ replicate i a
  take-replicate zero n l = refl
  take-replicate (suc i) zero l = absurd (not-suc-le-zero l)
  take-replicate (suc i) (suc n) l = ap (λ (t : List A). a ∷ t) (take-replicate i n (le_of_suc-le-suc l))

  pub fill_more : (i : ℕ) (d : List A) → i < length d → set (replicate i a ++ drop i d) i a ≡ replicate (i + 1) a ++ drop (i + 1) d
  fill_more i d l =
      rw (take-replicate i (i + 1) (omega arith), take-replicate (i + 1) (i + 1) (omega arith), get_or-replicate (i + 1) i a a (omega arith))
      at (put-more i (replicate (i + 1) a) d (omega (arith, length-replicate (i + 1) a)) l)

  pub fill-all : (i : ℕ) (d : List A) → i ≡ length d → replicate i a ++ drop i d ≡ replicate (length d) a
  fill-all i d e = rw (drop_of_length-le d {i = i} (omega arith), append-nil) (ap (λ (n : ℕ). replicate n a) e)
