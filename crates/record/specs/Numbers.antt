-- Numbers in a sheet's bytes, the lowest byte first.
--   half_at       two bytes as a number.      size_of   the length that a record says it has
--   mission_in    the number that a header's bytes hold, behind its kind
--   word_at       four bytes as a number below 2^32
--   signed_of     such a number read as a signed one
--   coordinates  so many signed numbers, from a place on
--   paired       numbers taken two by two: x then y
--   bits         a signed number as one below 2^32
--   word_bytes    the four bytes of such a number.      half_bytes   the two bytes of a number below 2^16
--   encoded      signed numbers as bytes, four each
--   written      bytes over a list, from a place on
--   words_in      so many words, from a place on; beyond the last byte stands 0
--   bytes_in      the bytes of words
--   AllBytes     every number of a list is below 256
use Rattle.std.specs.Prelude.{List, [], ◌∷◌, ◌++◌, ℕ, zero, suc, ◌+◌, ◌-◌, ◌*◌, ◌/◌, ◌%◌, ◌<◌, length, get_or, take, drop, ℤ, pos, negsuc, neg_ℤ, ltb}
use Rattle.pair.specs.declared.Pair.{Pair}
use Rattle.pair.specs.Pairs.{pair}
use Rattle.refusal.specs.Answers.{when◌then◌else◌}

abbrev pub half_at : List ℕ → ℕ → ℕ
half_at bytes at = get_or bytes at 0 + 256 * get_or bytes (at + 1) 0

abbrev pub size_of : List ℕ → ℕ
size_of bytes = half_at bytes 0

abbrev pub mission_in : List ℕ → ℕ
mission_in bytes = half_at bytes 4

abbrev pub word_at : List ℕ → ℕ → ℕ
word_at bytes at = get_or bytes at 0 + 256 * get_or bytes (at + 1) 0 + 65536 * get_or bytes (at + 2) 0 + 16777216 * get_or bytes (at + 3) 0

-- w below 2^31, and w − 2^32 from there on
unfoldable pub signed_of : ℕ → ℤ
signed_of w = when ltb w 2147483648 then pos w else neg_ℤ (pos (4294967296 - w))

unfoldable pub coordinates : ℕ → List ℕ → ℕ → List ℤ
coordinates zero bytes at = []
coordinates (suc n) bytes at = signed_of (word_at bytes at) ∷ coordinates n bytes (at + 4)

abbrev pub paired : List ℤ → List Pair
paired [] = []
paired (x ∷ []) = []
paired (x ∷ y ∷ rest) = pair x y ∷ paired rest

abbrev pub bits : ℤ → ℕ
bits (pos n) = n
bits (negsuc n) = 4294967296 - suc n

abbrev pub word_bytes : ℕ → List ℕ
word_bytes w = w % 256 ∷ w / 256 % 256 ∷ w / 65536 % 256 ∷ w / 16777216 % 256 ∷ []

abbrev pub half_bytes : ℕ → List ℕ
half_bytes m = m % 256 ∷ m / 256 ∷ []

abbrev pub encoded : List ℤ → List ℕ
encoded [] = []
encoded (x ∷ xs) = word_bytes (bits x) ++ encoded xs

abbrev pub written : List ℕ → ℕ → List ℕ → List ℕ
written s at bytes = take at s ++ (bytes ++ drop (at + length bytes) s)

unfoldable pub words_in : ℕ → List ℕ → ℕ → List ℕ
words_in zero bytes at = []
words_in (suc n) bytes at = word_at bytes at ∷ words_in n bytes (at + 4)

abbrev pub bytes_in : List ℕ → List ℕ
bytes_in [] = []
bytes_in (w ∷ ws) = word_bytes w ++ bytes_in ws

abbrev pub AllBytes : List ℕ → Type 0
AllBytes [] = Unit {0}
AllBytes (b ∷ bytes) = (b < 256) × AllBytes bytes
