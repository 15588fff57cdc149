-- What the loops over bytes and numbers carry from turn to turn: the definition from here on equals the definition from the start.
--   within_none, within_fail, within_pass   the coordinates of a record, with what was seen of them
--   numbers-none, numbers_fail, numbers_pass, numbers-at   a list of numbers
use mathlib.Core.Path.{◌≡◌, sym}
use mathlib.Core.Bool.{Bool, true, false, ◌&&◌, and-true, and-false}
use mathlib.Core.List.{List, [], ◌∷◌}
use Prim.Native.Nat.{ℕ, zero, suc, ◌+◌, ◌-◌, ◌≤◌, ◌<◌}
use native.Mathlib.Omega.{arith}
use native.Mathlib.Nat.{not-suc-le-zero, le_of_suc-le-suc}
use native.Mathlib.Numerals.{add-one}
use lib.Dec.{leb}
use lib.IntN.{ℤ, pos, nat_abs}
use lib.ListN.{length, get_or, drop, drop_of_length-le}
use lib.Seq.{drop-cons}
use borrow.Author.Tests.{leb-true}
use Rattle.whole.specs.Number.{Within}
use Rattle.curve.specs.Sizes.{coordinate_reach}
use Rattle.record.specs.Numbers.{word_at, signed_of, coordinates}
use Rattle.record.specs.Records.{all_within}
use Rattle.refusal.proofs.Answers.{both_true}

-- ---- a record's coordinates: whether those seen are within the range, and what is left of them

module _ (seen : Bool) (s : List ℕ) (at : ℕ) where
  pub within_none : (left : ℕ) → left ≤ 0 → seen ≡ seen && all_within (coordinates left s at)
  unfolding coordinates all_within
  within_none zero l = sym (and-true seen)
  within_none (suc m) l = absurd (omega arith)

  pub within_fail : {next : Bool} (left : ℕ) → 0 < left → leb (nat_abs (signed_of (word_at s at))) coordinate_reach ≡ false → next ≡ false →
      next && all_within (coordinates (left - 1) s (at + 4)) ≡ seen && all_within (coordinates left s at)
  unfolding coordinates all_within
  within_fail zero l e n = absurd (omega arith)
  within_fail (suc m) l e n = rw (n, e) (sym (and-false seen))

  pub within_pass : {next : Bool} (left : ℕ) → 0 < left → leb (nat_abs (signed_of (word_at s at))) coordinate_reach ≡ true → next ≡ seen →
      next && all_within (coordinates (left - 1) s (at + 4)) ≡ seen && all_within (coordinates left s at)
  unfolding coordinates all_within
  within_pass zero l e n = absurd (omega arith)
  within_pass (suc m) l e n = let q : suc m - 1 ≡ m = omega arith in rw (n, e, q)

-- ---- a list of numbers

pub numbers-none : (xs : List ℤ) (i : ℕ) → length xs ≤ i → true ≡ all_within (drop i xs)
unfolding all_within
numbers-none xs i h = rw (drop_of_length-le xs {i = i} h)

pub numbers_fail : (xs : List ℤ) (i : ℕ) → i < length xs → leb (nat_abs (get_or xs i (pos 0))) coordinate_reach ≡ false → false ≡ all_within (drop i xs)
unfolding all_within
numbers_fail xs i h e = rw (drop-cons xs i (pos 0) h, e)

pub numbers_pass :
    (xs : List ℤ) (i : ℕ) → i < length xs → leb (nat_abs (get_or xs i (pos 0))) coordinate_reach ≡ true → all_within (drop (i + 1) xs) ≡ all_within (drop i xs)
unfolding all_within
numbers_pass xs i h e = rw (drop-cons xs i (pos 0) h, e, add-one)

pub numbers-at : (xs : List ℤ) (i : ℕ) → all_within xs ≡ true → i < length xs → Within coordinate_reach (get_or xs i (pos 0))
unfolding all_within
numbers-at [] i a h = absurd (not-suc-le-zero h)
numbers-at (x ∷ xs) zero a h = record { size = leb-true (nat_abs x) coordinate_reach (both_true (leb (nat_abs x) coordinate_reach) (all_within xs) a).0 }
numbers-at (x ∷ xs) (suc i) a h = numbers-at xs i (both_true (leb (nat_abs x) coordinate_reach) (all_within xs) a).1 (le_of_suc-le-suc h)
