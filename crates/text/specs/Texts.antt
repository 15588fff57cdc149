-- Texts as bytes.
--   codes, bytes        the characters of a text as bytes
--   digits_of, decimal   a number in decimal digits
--   sign, signed        a minus sign where a whole number is below 0; the number behind its sign
--   labelled            a whole number behind its label
use Rattle.std.specs.Prelude.{List, [], ◌∷◌, ◌++◌, ℕ, zero, suc, ◌+◌, ◌/◌, ◌%◌, ltb, ℤ, pos, negsuc, nat_abs}
use Prim.Native.Char.{code}
use Prim.Native.String.{String, len, char_at}
use Rattle.refusal.specs.Answers.{when◌then◌else◌}

-- the codes of so many characters, from a place on
abbrev pub codes : ℕ → ℕ → String → List ℕ
codes zero at text = []
codes (suc n) at text = code (char_at text at) ∷ codes n (suc at) text

abbrev pub bytes : String → List ℕ
bytes text = codes (len text) 0 text

-- 48 is the digit 0; the first number bounds how many digits there are
unfoldable pub digits_of : ℕ → ℕ → List ℕ
digits_of zero n = []
digits_of (suc most) n = when ltb n 10 then (48 + n) ∷ [] else digits_of most (n / 10) ++ ((48 + n % 10) ∷ [])

abbrev pub decimal : ℕ → List ℕ
decimal n = digits_of (suc n) n

abbrev pub sign : ℤ → List ℕ
sign (pos n) = []
sign (negsuc n) = bytes "-"

abbrev pub signed : ℤ → List ℕ
signed x = sign x ++ decimal (nat_abs x)

abbrev pub labelled : String → ℤ → List ℕ
labelled label x = bytes label ++ signed x
