-- The bytes of a curve's record: they are a whole record, and read back they give the curve's points.
--   record_whole    where the curve is in range they are a whole record.      record_long   how long it is
--   record_points   and hold the curve's points
--   range_is        the test of RANGE says that every point is in range.      range_paired   so it does of numbers taken two by two
use mathlib.Core.Path.{◌≡◌, refl, sym, ap, ◌∙◌, subst}
use mathlib.Core.Bool.{true}
use mathlib.Core.Logic.{◌↔◌}
use mathlib.Core.List.{List, [], ◌∷◌, ◌++◌, map}
use Prim.Native.Nat.{ℕ, ◌+◌, ◌-◌, ◌*◌, ◌/◌, ◌%◌, ◌<◌}
use native.Mathlib.Omega.{arith}
use native.Mathlib.Nat.{div-div-eq-div-mul, div-add-mod'}
use lib.Dec.{leb}
use lib.IntN.{ℤ, nat_abs}
use lib.ListN.{length, get_or}
use borrow.Author.Tests.{le-leb, leb-true}
use Rattle.whole.specs.Number.{Within}
use Rattle.pair.specs.declared.Pair.{Pair}
use Rattle.curve.specs.declared.Curve.{Curve}
use Rattle.curve.specs.declared.Curve.TheVariants as curves
use Rattle.curve.specs.Curves.{points_of, InRange}
use Rattle.curve.specs.Sizes.{coordinate_reach}
use Rattle.record.specs.Numbers.{word_at, signed_of, coordinates, paired, bits, word_bytes, encoded}
use Rattle.record.specs.declared.kinds.Kind.{Kind}
use Rattle.record.specs.declared.kinds.Row.{Row}
use Rattle.record.specs.Kinds.{row_of, words, kind_of, numbers_of, record_of, points_in}
use Rattle.record.specs.Records.{named, all_within}
use Rattle.refusal.specs.Answers.{when◌then◌else◌}
use Rattle.refusal.proofs.Answers.{both_true}
use Rattle.record.proofs.Table.{row-known, own_name, head_of, head_of_row}
use Rattle.record.proofs.Words.{words_shifted, coordinates-words}
use Rattle.record.proofs.Signs.{bits_small, signed-bits}
use Rattle.record.proofs.Pieces.{encoded-long}
use Rattle.record.proofs.Shown.{Whole}

-- ---- a number's four bytes

digits : (w a b c r0 r1 r2 : ℕ) → a * 256 + r0 ≡ w → b * 256 + r1 ≡ a → c * 256 + r2 ≡ b → r0 + 256 * r1 + 65536 * r2 + 16777216 * c ≡ w
digits w a b c r0 r1 r2 p q r = omega arith

word_back : (w : ℕ) (rest : List ℕ) → w < 4294967296 → word_at (word_bytes w ++ rest) 0 ≡ w
word_back w rest l =
    let a : w / 65536 ≡ w / 256 / 256 = sym (div-div-eq-div-mul w 256 256) in
    let b : w / 16777216 ≡ w / 65536 / 256 = sym (div-div-eq-div-mul w 65536 256) in
    let top : w / 16777216 % 256 ≡ w / 16777216 = omega arith in
    rw top
    (digits w (w / 256) (w / 65536) (w / 16777216) (w % 256) (w / 256 % 256) (w / 65536 % 256)
    (div-add-mod' w 256)
    (rw a (div-add-mod' (w / 256) 256))
    (rw b (div-add-mod' (w / 65536) 256)))

-- ---- all the numbers

shifted : (n : ℕ) (front bytes : List ℕ) → coordinates n (front ++ bytes) (length front) ≡ coordinates n bytes 0
shifted n front bytes =
    coordinates-words n (front ++ bytes) (length front) ∙ ap (map signed_of) (words_shifted n front bytes) ∙ sym (coordinates-words n bytes 0)

numbers-back : (xs : List ℤ) → all_within xs ≡ true → coordinates (length xs) (encoded xs) 0 ≡ xs
unfolding coordinates all_within
numbers-back [] a = refl
numbers-back (x ∷ xs) a =
    let m = both_true (leb (nat_abs x) coordinate_reach) (all_within xs) a in
    let w : Within coordinate_reach x = record { size = leb-true (nat_abs x) coordinate_reach m.0 } in
    let e : signed_of (word_at (word_bytes (bits x) ++ encoded xs) 0) ≡ x = ap signed_of (word_back (bits x) (encoded xs) (bits_small x w)) ∙ signed-bits x w in
    let r : coordinates (length xs) (word_bytes (bits x) ++ encoded xs) 4 ≡ xs = shifted (length xs) (word_bytes (bits x)) (encoded xs) ∙ numbers-back xs m.1 in
    λ i. e i ∷ r i

-- ---- the record, by the four bytes of its head

module _ (a b c d : ℕ) (xs : List ℤ) (within : all_within xs ≡ true) where
  numbers_in_lem : coordinates (length xs) (a ∷ b ∷ c ∷ d ∷ encoded xs) 4 ≡ xs
  numbers_in_lem = shifted (length xs) (a ∷ b ∷ c ∷ d ∷ []) (encoded xs) ∙ numbers-back xs within

  whole_with : (k : Kind) → length xs ≡ words k → 4 + 4 * words k ≡ (row_of k).size → a + 256 * b ≡ (row_of k).size → named k (a ∷ b ∷ c ∷ d ∷ encoded xs) ≡ true
      → Whole k (a ∷ b ∷ c ∷ d ∷ encoded xs)
  whole_with k many full size name =
      let long : length (a ∷ b ∷ c ∷ d ∷ encoded xs) ≡ (row_of k).size = omega (arith, encoded-long xs) in
      let numbers : coordinates (words k) (a ∷ b ∷ c ∷ d ∷ encoded xs) 4 ≡ xs = ap (λ (n : ℕ). coordinates n (a ∷ b ∷ c ∷ d ∷ encoded xs) 4) (sym many) ∙ numbers_in_lem in
      record { long = long; here = record { fits = omega arith; size_is = size; name_is = name; range = ap all_within numbers ∙ within } }

  points_with : points_in (a ∷ b ∷ c ∷ d ∷ encoded xs) ≡ paired xs
  unfolding points_in
  points_with =
      let words : (length (a ∷ b ∷ c ∷ d ∷ encoded xs) - 4) / 4 ≡ length xs = omega (arith, encoded-long xs) in
      ap (λ (n : ℕ). paired (coordinates n (a ∷ b ∷ c ∷ d ∷ encoded xs) 4)) words ∙ ap paired numbers_in_lem

-- ---- a curve's own

paired-numbers : (ps : List Pair) → paired (numbers_of ps) ≡ ps
paired-numbers [] = refl
paired-numbers (p ∷ ps) = ap (λ (qs : List Pair). p ∷ qs) (paired-numbers ps)

-- a curve's kind is a curve's, with a place for each of its numbers
curve-kind : (c : Curve) → ((row_of (kind_of c)).curve ≡ true) × (length (numbers_of (points_of c)) ≡ words (kind_of c))
unfolding words when◌then◌else◌
curve-kind (curves.Cubic c) = (refl, refl)
curve-kind (curves.Quintic c) = (refl, refl)

module _ (c : Curve) where
  abbrev xs : List ℤ
  xs = numbers_of (points_of c)

  abbrev row : Row
  row = row_of (kind_of c)

  abbrev low : ℕ
  low = row.size % 256

  abbrev high : ℕ
  high = row.size / 256

  as_formed : head_of row ++ encoded xs ≡ record_of c
  as_formed = head_of_row (kind_of c) (encoded xs)

  pub record_long : length (record_of c) ≡ row.size
  record_long = omega (arith, ap length as_formed, encoded-long xs, (curve-kind c).1, (row-known (kind_of c)).curve_holds (curve-kind c).0)

  pub record_whole : all_within xs ≡ true → Whole (kind_of c) (record_of c)
  record_whole within =
      subst (Whole (kind_of c)) as_formed
      (whole_with low high (get_or row.name 0 0) (get_or row.name 1 0) xs within (kind_of c) (curve-kind c).1 ((row-known (kind_of c)).curve_holds (curve-kind c).0) (omega arith) (own_name (kind_of c) low high (encoded xs)))

  pub record_points : all_within xs ≡ true → points_in (record_of c) ≡ points_of c
  record_points within = ap points_in (sym as_formed) ∙ points_with low high (get_or row.name 0 0) (get_or row.name 1 0) xs within ∙ paired-numbers (points_of c)

pub range_paired : (xs : List ℤ) → all_within xs ≡ true → InRange (paired xs)
unfolding all_within
range_paired [] a = tt
range_paired (x ∷ []) a = tt
range_paired (x ∷ y ∷ xs) a =
    let m = both_true (leb (nat_abs x) coordinate_reach) (all_within (y ∷ xs)) a in
    let n = both_true (leb (nat_abs y) coordinate_reach) (all_within xs) m.1 in
    (record { re = record { size = leb-true (nat_abs x) coordinate_reach m.0 }; im = record { size = leb-true (nat_abs y) coordinate_reach n.0 } }, range_paired xs n.1)

from_range : (ps : List Pair) → InRange ps → all_within (numbers_of ps) ≡ true
unfolding all_within
from_range [] h = refl
from_range (p ∷ ps) h = rw (le-leb (nat_abs p.re) coordinate_reach h.0.re.size, le-leb (nat_abs p.im) coordinate_reach h.0.im.size) (from_range ps h.1)

pub range_is : (ps : List Pair) → (all_within (numbers_of ps) ≡ true) ↔ InRange ps
range_is ps = (λ a. subst InRange (paired-numbers ps) (range_paired (numbers_of ps) a), from_range ps)
