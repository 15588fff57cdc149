-- Bytes as words of four bytes, and words as bytes.
--   word-bytes     the bytes of a word that is made of four bytes are these
--   words_same     the same bytes are the same words.      words_shifted   also behind something else
--   coordinates-words   a record's coordinates are words, read as signed
--   words-length, bytes-length   how many words, and how many bytes
--   bytes_back     bytes taken as words, enough of them, and back again
--   bytes-all      the bytes of words are bytes
--   all_append, all_take, all_drop, all_replicate   so are those of two lists together, of a part, and one byte over and over
--   all_record     and so are the bytes of a curve's record, be the curve in range or not
use mathlib.Core.Path.{◌≡◌, refl, sym, ap, ◌∙◌}
use mathlib.Core.List.{List, [], ◌∷◌, ◌++◌, map}
use Prim.Native.Nat.{ℕ, zero, suc, ◌+◌, ◌*◌, ◌/◌, ◌%◌, ◌≤◌, ◌<◌}
use native.Mathlib.Omega.{arith}
use native.Mathlib.Nat.{add-zero, zero-add, div-div-eq-div-mul, mod-eq_of_lt}
use lib.IntN.{ℤ}
use lib.ListN.{length, get_or, take, drop, replicate}
use lib.Seq.{get_or-append-add}
use Rattle.curve.specs.declared.Curve.{Curve}
use Rattle.curve.specs.Curves.{points_of}
use Rattle.record.specs.Numbers.{word_at, signed_of, coordinates, bits, word_bytes, encoded, words_in, bytes_in, AllBytes}
use Rattle.record.specs.Kinds.{row_of, kind_of, numbers_of, record_of}
use Rattle.record.proofs.Table.{row-known}

-- the lowest byte of a number, and the rest of it
low_byte : (a q : ℕ) → a < 256 → (a + 256 * q) % 256 ≡ a
low_byte a q l = omega arith

higher : (a q : ℕ) → a < 256 → (a + 256 * q) / 256 ≡ q
higher a q l = omega arith

pub word-bytes : (a b c d : ℕ) → a < 256 → b < 256 → c < 256 → d < 256 → word_bytes (a + 256 * b + 65536 * c + 16777216 * d) ≡ a ∷ b ∷ c ∷ d ∷ []
word-bytes a b c d p q r s =
    let w = a + 256 * b + 65536 * c + 16777216 * d in
    let nested : w ≡ a + 256 * (b + 256 * (c + 256 * d)) = omega arith in
    let w1 : w / 256 ≡ b + 256 * (c + 256 * d) = ap (λ (n : ℕ). n / 256) nested ∙ higher a (b + 256 * (c + 256 * d)) p in
    let w2 : w / 65536 ≡ c + 256 * d = sym (div-div-eq-div-mul w 256 256) ∙ ap (λ (n : ℕ). n / 256) w1 ∙ higher b (c + 256 * d) q in
    let w3 : w / 16777216 ≡ d = sym (div-div-eq-div-mul w 65536 256) ∙ ap (λ (n : ℕ). n / 256) w2 ∙ higher c d r in
    let e0 : w % 256 ≡ a = ap (λ (n : ℕ). n % 256) nested ∙ low_byte a (b + 256 * (c + 256 * d)) p in
    let e1 : w / 256 % 256 ≡ b = ap (λ (n : ℕ). n % 256) w1 ∙ low_byte b (c + 256 * d) q in
    let e2 : w / 65536 % 256 ≡ c = ap (λ (n : ℕ). n % 256) w2 ∙ low_byte c d r in
    let e3 : w / 16777216 % 256 ≡ d = ap (λ (n : ℕ). n % 256) w3 ∙ mod-eq_of_lt s in
    λ i. e0 i ∷ e1 i ∷ e2 i ∷ e3 i ∷ []

-- ---- words

pub words_same : (n : ℕ) (s t : List ℕ) (a b : ℕ) → ((j : ℕ) → j < 4 * n → get_or t (b + j) 0 ≡ get_or s (a + j) 0) → words_in n t b ≡ words_in n s a
unfolding words_in
words_same zero s t a b f = refl
words_same (suc n) s t a b f =
    let p : get_or t b 0 ≡ get_or s a 0 = ap (λ (k : ℕ). get_or t k 0) (sym (add-zero b)) ∙ f 0 (omega arith) ∙ ap (λ (k : ℕ). get_or s k 0) (add-zero a) in
    let q = f 1 (omega arith) in
    let r = f 2 (omega arith) in
    let u = f 3 (omega arith) in
    let v = words_same n s t (a + 4) (b + 4) (λ j l.
    let x : b + 4 + j ≡ b + (4 + j) = omega arith in
    let y : a + 4 + j ≡ a + (4 + j) = omega arith in
    ap (λ (k : ℕ). get_or t k 0) x ∙ f (4 + j) (omega arith) ∙ ap (λ (k : ℕ). get_or s k 0) (sym y))
    in
    rw (p, q, r, u, v)

pub words_shifted : (n : ℕ) (front bytes : List ℕ) → words_in n (front ++ bytes) (length front) ≡ words_in n bytes 0
words_shifted n front bytes =
    words_same n bytes (front ++ bytes) 0 (length front) (λ j _. get_or-append-add front bytes j 0 ∙ ap (λ (k : ℕ). get_or bytes k 0) (sym (zero-add j)))

pub coordinates-words : (n : ℕ) (bytes : List ℕ) (at : ℕ) → coordinates n bytes at ≡ map signed_of (words_in n bytes at)
unfolding coordinates words_in
coordinates-words zero bytes at = refl
coordinates-words (suc n) bytes at = ap (λ (xs : List ℤ). signed_of (word_at bytes at) ∷ xs) (coordinates-words n bytes (at + 4))

pub words-length : (n : ℕ) (bytes : List ℕ) (at : ℕ) → length (words_in n bytes at) ≡ n
unfolding words_in
words-length zero bytes at = refl
words-length (suc n) bytes at = ap suc (words-length n bytes (at + 4))

pub bytes-length : (ws : List ℕ) → length (bytes_in ws) ≡ 4 * length ws
bytes-length [] = refl
bytes-length (w ∷ ws) = let e = bytes-length ws in omega arith

-- the bytes of the first word come first
word_first : (a b c d n : ℕ) (ws : List ℕ) → a < 256 → b < 256 → c < 256 → d < 256
    → take n (bytes_in ((a + 256 * b + 65536 * c + 16777216 * d) ∷ ws)) ≡ take n (a ∷ b ∷ c ∷ d ∷ bytes_in ws)
word_first a b c d n ws p q r s = ap (λ (bytes : List ℕ). take n (bytes ++ bytes_in ws)) (word-bytes a b c d p q r s)

pub bytes_back : (n : ℕ) (front : List ℕ) → AllBytes front → length front ≤ 4 * n → take (length front) (bytes_in (words_in n front 0)) ≡ front
unfolding words_in
bytes_back zero [] h l = refl
bytes_back zero (a ∷ bytes) h l = absurd (omega arith)
bytes_back (suc n) [] h l = refl
bytes_back (suc n) (a ∷ []) h l = word_first a 0 0 0 1 (words_in n (a ∷ []) 4) h.0 (omega arith) (omega arith) (omega arith)
bytes_back (suc n) (a ∷ b ∷ []) h l = word_first a b 0 0 2 (words_in n (a ∷ b ∷ []) 4) h.0 h.1.0 (omega arith) (omega arith)
bytes_back (suc n) (a ∷ b ∷ c ∷ []) h l = word_first a b c 0 3 (words_in n (a ∷ b ∷ c ∷ []) 4) h.0 h.1.0 h.1.1.0 (omega arith)
bytes_back (suc n) (a ∷ b ∷ c ∷ d ∷ bytes) h l =
    word_first a b c d (length (a ∷ b ∷ c ∷ d ∷ bytes)) (words_in n (a ∷ b ∷ c ∷ d ∷ bytes) 4) h.0 h.1.0 h.1.1.0 h.1.1.1.0
    ∙ ap (λ (ws : List ℕ). a ∷ b ∷ c ∷ d ∷ take (length bytes) (bytes_in ws)) (words_shifted n (a ∷ b ∷ c ∷ d ∷ []) bytes)
    ∙ ap (λ (rest : List ℕ). a ∷ b ∷ c ∷ d ∷ rest) (bytes_back n bytes h.1.1.1.1 (omega arith))

-- ---- that numbers are bytes

pub all_append : (a b : List ℕ) → AllBytes a → AllBytes b → AllBytes (a ++ b)
all_append [] b h k = k
all_append (x ∷ a) b h k = (h.0, all_append a b h.1 k)

pub all_take : (n : ℕ) (bytes : List ℕ) → AllBytes bytes → AllBytes (take n bytes)
all_take zero bytes h = tt
all_take (suc n) [] h = tt
all_take (suc n) (b ∷ bytes) h = (h.0, all_take n bytes h.1)

pub all_drop : (n : ℕ) (bytes : List ℕ) → AllBytes bytes → AllBytes (drop n bytes)
all_drop zero bytes h = h
all_drop (suc n) [] h = tt
all_drop (suc n) (b ∷ bytes) h = all_drop n bytes h.1

pub all_replicate : (n b : ℕ) → b < 256 → AllBytes (replicate n b)
all_replicate zero b l = tt
all_replicate (suc n) b l = (l, all_replicate n b l)

word-all : (w : ℕ) → AllBytes (word_bytes w)
word-all w = (omega arith, (omega arith, (omega arith, (omega arith, tt))))

pub bytes-all : (ws : List ℕ) → AllBytes (bytes_in ws)
bytes-all [] = tt
bytes-all (w ∷ ws) = all_append (word_bytes w) (bytes_in ws) (word-all w) (bytes-all ws)

encoded-all : (xs : List ℤ) → AllBytes (encoded xs)
encoded-all [] = tt
encoded-all (x ∷ xs) = all_append (word_bytes (bits x)) (encoded xs) (word-all (bits x)) (encoded-all xs)

pub all_record : (c : Curve) → AllBytes (record_of c)
all_record c =
    let known = row-known (kind_of c) in
    let body = encoded (numbers_of (points_of c)) in
    (omega arith, (omega (arith, known.short), all_append (row_of (kind_of c)).name body known.name_bytes (encoded-all (numbers_of (points_of c)))))
