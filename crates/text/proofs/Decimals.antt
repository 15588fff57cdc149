-- Decimal digits.
--   decimal-is     the digits that `io::decimal` gives, the fewest that hold a number, are those of the definition
--   decimal_few    a number below 10ᵏ has at most k digits, where k is not 0
use mathlib.Core.Path.{◌≡◌, refl, ap, ◌∙◌, subst}
use mathlib.Core.List.{List, [], ◌∷◌, ◌++◌}
use Prim.Native.Nat.{ℕ, zero, suc, ◌+◌, ◌-◌, ◌*◌, ◌/◌, ◌%◌, ◌^◌, ◌≤◌, ◌<◌}
use native.Mathlib.Omega.{arith}
use lib.Dec.{ltb}
use lib.ListN.{length, length-append}
use borrow.Author.Tests.{lt-ltb, le-ltb, ltb-false}
use Rattle.io.specs.Digits.{last_digits, hex_digit_ascii, IsDigitCount}
use Rattle.refusal.specs.Answers.{when◌then◌else◌}
use Rattle.refusal.proofs.Answers.{by_test}
use Rattle.text.specs.Texts.{digits_of, decimal}

power : (k : ℕ) → 10 ^ suc k ≡ 10 * 10 ^ k
power k = omega arith

below_power : (k : ℕ) → k < 10 ^ k
below_power zero = omega arith
below_power (suc k) = omega (arith, below_power k, power k)

glyph_is : (d : ℕ) → d < 10 → hex_digit_ascii d ≡ 48 + d
glyph_is d l = rw (lt-ltb d 10 l)

least-held : (n k : ℕ) → IsDigitCount 10 1 n (suc (suc k)) → 10 ^ suc k ≤ n
least-held n k f = let e : suc (suc k) - 1 ≡ suc k = omega arith in subst (λ (j : ℕ). 10 ^ j ≤ n) e (f.2 (omega arith))

fewer : (n k : ℕ) → IsDigitCount 10 1 n (suc (suc k)) → IsDigitCount 10 1 (n / 10) (suc k)
fewer n k f =
    let e : k ≡ suc k - 1 = omega arith in
    let least : 10 ^ k ≤ n / 10 = omega (arith, least-held n k f, power k) in
    (omega arith, omega (arith, f.1, power (suc k)), λ _. subst (λ (j : ℕ). 10 ^ j ≤ n / 10) e least)

digits_are : (most k n : ℕ) → k ≤ most → IsDigitCount 10 1 n k → last_digits 10 k n ≡ digits_of most n
unfolding digits_of when◌then◌else◌
digits_are zero zero n l f = refl
digits_are zero (suc k) n l f = absurd (omega arith)
digits_are (suc most) zero n l f = absurd (omega (arith, f.0))
digits_are (suc most) (suc zero) n l f =
    let small : n < 10 = omega (arith, f.1) in
    let e : n % 10 ≡ n = omega arith in
    rw (lt-ltb n 10 small, e) (ap (λ (x : ℕ). x ∷ []) (glyph_is n small))
digits_are (suc most) (suc (suc k)) n l f =
    let large : 10 ≤ n = omega (arith, least-held n k f, power k, below_power k) in
    rw (le-ltb n 10 large)
    (ap (λ (x : List ℕ). x ++ (hex_digit_ascii (n % 10) ∷ [])) (digits_are most (suc k) (n / 10) (omega arith) (fewer n k f))
    ∙ ap (λ (x : ℕ). digits_of most (n / 10) ++ (x ∷ [])) (glyph_is (n % 10) (omega arith)))

few : (n k : ℕ) → IsDigitCount 10 1 n k → k ≤ suc n
few n zero f = omega arith
few n (suc zero) f = omega arith
few n (suc (suc k)) f = omega (arith, least-held n k f, below_power (suc k))

pub decimal-is : (n k : ℕ) → IsDigitCount 10 1 n k → last_digits 10 k n ≡ decimal n
decimal-is n k f = digits_are (suc n) k n (few n k f) f

digits_few : (most k n : ℕ) → n < 10 ^ suc k → length (digits_of most n) ≤ suc k
unfolding digits_of
digits_few zero k n l = omega arith
digits_few (suc most) zero n l = by_test (λ (x : List ℕ). length x ≤ 1) (ltb n 10) (λ _. omega arith) (λ f. absurd (omega (arith, ltb-false n 10 f)))
digits_few (suc most) (suc k) n l =
    let h = digits_few most k (n / 10) (omega (arith, power (suc k))) in
    by_test (λ (x : List ℕ). length x ≤ suc (suc k)) (ltb n 10) (λ _. omega arith)
    (λ _. omega (arith, length-append (digits_of most (n / 10)) ((48 + n % 10) ∷ [])))

pub decimal_few : (k n : ℕ) → n < 10 ^ suc k → length (decimal n) ≤ suc k
decimal_few k n l = digits_few (suc n) k n l
