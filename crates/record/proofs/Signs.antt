-- A coordinate as a signed number and as four bytes' worth of bits.
--   word-within, word_outside   one comparison tells whether a word, read as signed, is from −20,000 to 20,000
--   word_signed                 a word as the machine reads it with a sign
--   bits_small, signed-bits     a number in range has a word, which reads back as the number
--   settled, kept, stored       a signed number that was stored is the number still, also in front of others, and so are a point's parts
use mathlib.Core.Path.{◌≡◌, refl, ◌∙◌}
use mathlib.Core.Bool.{true, false}
use mathlib.Core.List.{List, ◌∷◌}
use Prim.Native.Nat.{ℕ, zero, suc, ◌+◌, ◌-◌, ◌%◌, ◌≤◌, ◌<◌}
use native.Mathlib.Omega.{arith}
use lib.Dec.{leb, ltb}
use lib.IntN.{ℤ, pos, negsuc, neg_ℤ, nat_abs}
use lib.Signed.{mag}
use mir.Syntax.{w32, w64}
use mir.Val.{to_z, of_z}
use mir.ValLaws.{to_z-of_z}
use borrow.Author.Tests.{lt-ltb, le-ltb, le-leb, lt-leb}
use Rattle.whole.specs.Number.{Within}
use Rattle.pair.specs.declared.Pair.{Pair}
use Rattle.refusal.specs.Answers.{when◌then◌else◌}
use Rattle.curve.specs.Sizes.{coordinate_reach}
use Rattle.record.specs.Numbers.{signed_of, bits}
use Rattle.refusal.proofs.Answers.{by_test, by_order}

-- ---- a word as a signed number

abs_neg : (m : ℕ) → nat_abs (neg_ℤ (pos m)) ≡ m
abs_neg zero = refl
abs_neg (suc k) = refl

abs_low : (w : ℕ) → w < 2147483648 → nat_abs (signed_of w) ≡ w
unfolding signed_of when◌then◌else◌
abs_low w l = rw (lt-ltb w 2147483648 l)

abs_high : (w : ℕ) → 2147483648 ≤ w → nat_abs (signed_of w) ≡ 4294967296 - w
unfolding signed_of when◌then◌else◌
abs_high w l = rw (le-ltb w 2147483648 l) (abs_neg (4294967296 - w))

module _ (w : ℕ) (small : w < 4294967296) where
  pub word-within : (w + coordinate_reach) % 4294967296 ≤ 40000 → leb (nat_abs (signed_of w)) coordinate_reach ≡ true
  word-within h = le-leb (nat_abs (signed_of w)) coordinate_reach (by_order 2147483648 w (λ l. rw (abs_high w l) (omega arith)) (λ l. rw (abs_low w l) (omega arith)))

  pub word_outside : 40000 < (w + coordinate_reach) % 4294967296 → leb (nat_abs (signed_of w)) coordinate_reach ≡ false
  word_outside h = lt-leb (nat_abs (signed_of w)) coordinate_reach (by_order 2147483648 w (λ l. rw (abs_high w l) (omega arith)) (λ l. rw (abs_low w l) (omega arith)))

-- ---- the machine's word to a signed number

-- the bits of a word with a sign, as the machine reads them
pub word_signed : (w : ℕ) → w < 4294967296 → to_z w32 w ≡ signed_of w
unfolding signed_of when◌then◌else◌
word_signed w l = let high : 4294967296 - w ≡ suc (4294967296 - suc w) = omega arith in rw high (by_test (λ (x : ℤ). to_z w32 w ≡ x) (ltb w 2147483648) (λ t. rw t) (λ t. rw t))

-- a signed number that a call gave, once it has been stored
pub settled : {z y : ℤ} → mag z < 9223372036854775808 → z ≡ y → to_z w64 (of_z w64 z) ≡ y
settled {z} f e = to_z-of_z w64 z (record { sfits = f }) ∙ e

-- stored in front of other numbers
pub kept : (z : ℤ) → mag z < 9223372036854775808 → {xs ys : List ℤ} → xs ≡ ys → to_z w64 (of_z w64 z) ∷ xs ≡ z ∷ ys
kept z f e = λ i. settled {z = z} f refl i ∷ e i

-- and so a point's parts
pub stored : (p : Pair) → mag p.re < 9223372036854775808 → mag p.im < 9223372036854775808 →
    {xs ys : List ℤ} → xs ≡ ys → to_z w64 (of_z w64 p.re) ∷ to_z w64 (of_z w64 p.im) ∷ xs ≡ p.re ∷ p.im ∷ ys
stored p f g e = kept p.re f (kept p.im g e)

-- ---- a signed number in range to its word

pub bits_small : (x : ℤ) → Within coordinate_reach x → bits x < 4294967296
bits_small (pos n) h = omega arith
bits_small (negsuc n) h = omega arith

pub signed-bits : (x : ℤ) → Within coordinate_reach x → signed_of (bits x) ≡ x
unfolding signed_of when◌then◌else◌
signed-bits (pos n) h = rw (lt-ltb n 2147483648 (omega arith))
signed-bits (negsuc n) h =
    let e : 4294967296 - (4294967296 - suc n) ≡ suc n = omega arith in
    rw (le-ltb (4294967296 - suc n) 2147483648 (omega arith), e)
