-- Whole numbers in decimal digits.
--   Digit, AllDigits     a byte from '0' to '9'; every byte of a word is one
--   value_of              the number that digits write, the highest first
--   Sized                one digit at least, and nothing but digits
--   IsSize               a word as a number without a sign, of 64 bits, or why it is none
--   signed_by, reach      a number with its sign; the largest that 64 bits hold with that sign
--   IsSigned, WithSign   a size with its sign, and digits with one before them
--   IsNumber             a word as a number with a sign: where it begins with '-', minus what stands behind
use Rattle.std.specs.Prelude.{◌≡◌, Bool, true, false, List, [], ◌∷◌, ℕ, ◌+◌, ◌-◌, ◌*◌, ◌≤◌, ◌<◌, ℤ, pos, neg_ℤ, length, get_or, drop, Result, Ok, Err}
use Rattle.reading.specs.declared.numbers.NoNumber.{NoNumber}
use Rattle.reading.specs.declared.numbers.NoNumber.TheVariants as no

abbrev pub Digit : ℕ → Type 0
Digit b = (48 ≤ b) × (b ≤ 57)

abbrev pub AllDigits : List ℕ → Type 0
AllDigits word = (i : ℕ) → i < length word → Digit (get_or word i 0)

-- behind digits that are worth n
abbrev pub value_from : ℕ → List ℕ → ℕ
value_from n [] = n
value_from n (b ∷ bytes) = value_from (n * 10 + (b - 48)) bytes

abbrev pub value_of : List ℕ → ℕ
value_of = value_from 0

abbrev pub Sized : List ℕ → Type 0
Sized word = (0 < length word) × AllDigits word

abbrev pub IsSize : List ℕ → Result ℕ NoNumber → Type 0
IsSize word (Ok n) = Sized word × (n ≡ value_of word) × (n < 18446744073709551616)
IsSize word (Err no.TooLarge) = Sized word × (18446744073709551616 ≤ value_of word)
IsSize word (Err no.None) = Sized word → ⊥

abbrev pub signed_by : Bool → ℕ → ℤ
signed_by false n = pos n
signed_by true n = neg_ℤ (pos n)

abbrev pub reach : Bool → ℕ
reach false = 9223372036854775807
reach true = 9223372036854775808

abbrev pub IsSigned : Bool → ℕ → Result ℤ NoNumber → Type 0
IsSigned negative n (Ok x) = (n ≤ reach negative) × (x ≡ signed_by negative n)
IsSigned negative n (Err no.TooLarge) = reach negative < n
IsSigned negative n (Err no.None) = ⊥

abbrev pub WithSign : Bool → List ℕ → Result ℤ NoNumber → Type 0
WithSign negative digits (Ok x) = Sized digits × IsSigned negative (value_of digits) (Ok x)
WithSign negative digits (Err no.TooLarge) = Sized digits × IsSigned negative (value_of digits) (Err no.TooLarge)
WithSign negative digits (Err no.None) = Sized digits → ⊥

-- '-' is 45
pub record IsNumber (word : List ℕ) (r : Result ℤ NoNumber) : Type 0 where
  pub plain : (get_or word 0 0 ≡ 45 → ⊥) → WithSign false word r
  pub minus : get_or word 0 0 ≡ 45 → WithSign true (drop 1 word) r
