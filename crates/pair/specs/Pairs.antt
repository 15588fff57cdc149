-- Pairs: x + iy with whole x and y, as the contracts speak of them.
--   pair, plus, minus, negative, times, multiple, conjugate, norm, cross, one, imaginary      their algebra
--   pairs              pairs as coefficients of polynomials
--   PartsWithin b a    both parts are at most b away from zero
--   AllWithin b ps     so are those of every pair of a list
use Rattle.std.specs.Prelude.{ℤ, pos, neg_ℤ, ◌+ℤ◌, ◌-ℤ◌, ◌*ℤ◌, List, ℕ}
use Rattle.pair.specs.declared.Pair.{Pair}
use Rattle.whole.specs.Coefficients.{Coefficients, at}
use Rattle.whole.specs.Number.{Within}

abbrev pub pair : ℤ → ℤ → Pair
pair x y = record { re = x; im = y }

abbrev pub plus : Pair → Pair → Pair
plus a b = pair (a.re +ℤ b.re) (a.im +ℤ b.im)

abbrev pub minus : Pair → Pair → Pair
minus a b = pair (a.re -ℤ b.re) (a.im -ℤ b.im)

abbrev pub negative : Pair → Pair
negative a = pair (neg_ℤ a.re) (neg_ℤ a.im)

abbrev pub times : Pair → Pair → Pair
times a b = pair (a.re *ℤ b.re -ℤ a.im *ℤ b.im) (a.re *ℤ b.im +ℤ a.im *ℤ b.re)

abbrev pub multiple : ℤ → Pair → Pair
multiple k a = pair (k *ℤ a.re) (k *ℤ a.im)

abbrev pub conjugate : Pair → Pair
conjugate a = pair a.re (neg_ℤ a.im)

abbrev pub norm : Pair → ℤ
norm a = a.re *ℤ a.re +ℤ a.im *ℤ a.im

abbrev pub cross : Pair → Pair → ℤ
cross a b = a.re *ℤ b.im -ℤ b.re *ℤ a.im

abbrev pub one : Pair
one = pair (pos 1) (pos 0)

-- i
abbrev pub imaginary : Pair
imaginary = pair (pos 0) (pos 1)

abbrev pub pairs : Coefficients Pair
pairs = record { none = pair (pos 0) (pos 0); plus = plus; times = times }

pub record PartsWithin (b : ℕ) (a : Pair) : Type 0 where
  pub re : Within b a.re
  pub im : Within b a.im

abbrev pub AllWithin : ℕ → List Pair → Type 0
AllWithin b ps = (k : ℕ) → PartsWithin b (at pairs ps k)
