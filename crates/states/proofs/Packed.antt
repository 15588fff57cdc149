-- Bytes packed into words, and back again.
--   packed-long, unpacked-long    how many words, and how many bytes
--   unpacked-bytes     the bytes of words are bytes
--   byte_at            each byte is below 256
--   packed-back        bytes packed into words, and taken out again
--   AllSmall, packed_small    the words of bytes have 64 bits
use mathlib.Core.Path.{◌≡◌, refl, ap, ◌∙◌}
use mathlib.Core.List.{List, [], ◌∷◌}
use Prim.Native.Nat.{ℕ, zero, suc, ◌+◌, ◌*◌, ◌/◌, ◌%◌, ◌≤◌, ◌<◌}
use native.Mathlib.Omega.{arith}
use lib.ListN.{length, get_or, take}
use Rattle.record.specs.Numbers.{AllBytes, word_at, words_in, bytes_in}
use Rattle.record.proofs.Words.{bytes-length, bytes_back, bytes-all}
use Rattle.states.specs.Words.{longs, halves, packed, unpacked}

pub packed-long : (bytes : List ℕ) → length (packed bytes) ≡ 7
unfolding words_in
packed-long bytes = refl

halves_long : (ws : List ℕ) → length (halves ws) ≡ 2 * length ws
halves_long [] = refl
halves_long (w ∷ ws) = let e = halves_long ws in omega arith

pub unpacked-long : (ws : List ℕ) → length (unpacked ws) ≡ 8 * length ws
unpacked-long ws = omega (arith, bytes-length (halves ws), halves_long ws)

pub unpacked-bytes : (ws : List ℕ) → AllBytes (unpacked ws)
unpacked-bytes ws = bytes-all (halves ws)

-- words of four bytes, an even number of them
abbrev Evenly : List ℕ → Type 0
Evenly [] = Unit {0}
Evenly (a ∷ []) = ⊥
Evenly (a ∷ b ∷ ws) = (a < 4294967296) × Evenly ws

low_half : (a b : ℕ) → a < 4294967296 → (a + 4294967296 * b) % 4294967296 ≡ a
low_half a b l = omega arith

high_half : (a b : ℕ) → a < 4294967296 → (a + 4294967296 * b) / 4294967296 ≡ b
high_half a b l = omega arith

halves-longs : (ws : List ℕ) → Evenly ws → halves (longs ws) ≡ ws
halves-longs [] e = refl
halves-longs (a ∷ []) e = absurd e
halves-longs (a ∷ b ∷ ws) e = λ i. low_half a b e.0 i ∷ high_half a b e.0 i ∷ halves-longs ws e.1 i

pub byte_at : (bytes : List ℕ) → AllBytes bytes → (i : ℕ) → get_or bytes i 0 < 256
byte_at [] h i = omega arith
byte_at (b ∷ bytes) h zero = h.0
byte_at (b ∷ bytes) h (suc i) = byte_at bytes h.1 i

word_small : (bytes : List ℕ) → AllBytes bytes → (at : ℕ) → word_at bytes at < 4294967296
word_small bytes h at =
    omega (arith, byte_at bytes h at, byte_at bytes h (at + 1), byte_at bytes h (at + 2), byte_at bytes h (at + 3))

pub packed-back : (front : List ℕ) → AllBytes front → length front ≤ 56 → take (length front) (unpacked (packed front)) ≡ front
unfolding words_in
packed-back front h l =
    let w = word_small front h in
    let even : Evenly (words_in 14 front 0) = (w 0, (w 8, (w 16, (w 24, (w 32, (w 40, (w 48, tt))))))) in
    ap (λ (ws : List ℕ). take (length front) (bytes_in ws)) (halves-longs (words_in 14 front 0) even) ∙ bytes_back 14 front h (omega arith)

abbrev pub AllSmall : List ℕ → Type 0
AllSmall [] = Unit {0}
AllSmall (w ∷ ws) = (w < 18446744073709551616) × AllSmall ws

pub packed_small : (front : List ℕ) → AllBytes front → AllSmall (packed front)
unfolding words_in
packed_small front h =
    let w = word_small front h in (
      omega (arith, w 0, w 4),
      (omega (arith, w 8, w 12), (omega (arith, w 16, w 20), (omega (arith, w 24, w 28), (omega (arith, w 32, w 36), (omega (arith, w 40, w 44), (omega (arith, w 48, w 52), tt)))))),
    )
