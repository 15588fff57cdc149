-- The value of digits, and their sign.
--   value_grows     more digits behind are worth no less
--   sized-signed    digits with a sign, by what they are worth
--   far             what is too large for 64 bits is so with a sign too
use Rattle.std.proofs.Common.{Bool, true, false, List, [], ◌∷◌, ℕ, ℤ, ◌-◌, ◌+◌, ◌*◌, ◌≤◌, ◌<◌, Result, Ok, Err, arith}
use Rattle.reading.specs.declared.numbers.NoNumber.{NoNumber}
use Rattle.reading.specs.declared.numbers.NoNumber.TheVariants as no
use Rattle.reading.specs.Numbers.{value_from, value_of, reach, Sized, IsSigned, WithSign}

pub value_grows : (n : ℕ) (digits : List ℕ) → n ≤ value_from n digits
value_grows n [] = omega arith
value_grows n (b ∷ digits) = omega (arith, value_grows (n * 10 + (b - 48)) digits)

pub sized-signed : (negative : Bool) (digits : List ℕ) (r : Result ℤ NoNumber) → Sized digits → IsSigned negative (value_of digits) r → WithSign negative digits r
sized-signed negative digits (Ok x) s h = (s, h)
sized-signed negative digits (Err no.TooLarge) s h = (s, h)
sized-signed negative digits (Err no.None) s h = absurd h

pub far : (negative : Bool) (n : ℕ) → 18446744073709551616 ≤ n → reach negative < n
far true n l = omega arith
far false n l = omega arith
