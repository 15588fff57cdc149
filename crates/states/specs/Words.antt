-- Bytes in words of eight, the lowest byte first.
--   longs       words of four bytes, two by two
--   halves      and back again
--   packed      bytes as seven words, as many as hold the longest record; beyond the last byte stands 0
--   unpacked    the bytes of words
use Rattle.std.specs.Prelude.{List, [], ◌∷◌, ℕ, ◌+◌, ◌*◌, ◌/◌, ◌%◌}
use Rattle.record.specs.Numbers.{words_in, bytes_in}

abbrev pub longs : List ℕ → List ℕ
longs [] = []
longs (a ∷ []) = []
longs (a ∷ b ∷ ws) = (a + 4294967296 * b) ∷ longs ws

abbrev pub halves : List ℕ → List ℕ
halves [] = []
halves (w ∷ ws) = w % 4294967296 ∷ w / 4294967296 ∷ halves ws

abbrev pub packed : List ℕ → List ℕ
packed bytes = longs (words_in 14 bytes 0)

abbrev pub unpacked : List ℕ → List ℕ
unpacked ws = bytes_in (halves ws)
