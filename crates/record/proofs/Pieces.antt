-- Lists that are written over.
--   written-long, written-before, written_behind   a piece changes neither the length nor a byte elsewhere
--   written_twice              a piece and another behind it are one piece
--   encoded-long               how many bytes numbers take
--   words_more, words-all       the numbers of a record, written one after another
use mathlib.Core.Path.{◌≡◌, refl, sym, ap, ◌∙◌}
use mathlib.Core.List.{List, [], ◌∷◌, ◌++◌, append_assoc, append-nil}
use Prim.Native.Nat.{ℕ, ◌+◌, ◌-◌, ◌*◌, ◌≤◌, ◌<◌}
use native.Mathlib.Omega.{arith}
use native.Mathlib.Numerals.{add-one}
use lib.IntN.{ℤ, pos}
use lib.ListN.{length, take, drop, get_or, length-append, length-drop, drop_of_length-le, get_or-append}
use lib.Seq.{take-suc, take-length, length-take-le, take_at, drop-drop, drop-append-add, get_or-take, get_or-drop, get_or-append-add}
use Rattle.record.specs.Numbers.{bits, word_bytes, encoded, written}

-- ---- a piece

-- what is written over a list changes neither its length nor a byte elsewhere
pub written-long : (s : List ℕ) (at : ℕ) (x : List ℕ) → at + length x ≤ length s → length (written s at x) ≡ length s
written-long s at x l =
    omega (
      arith,
      length-append (take at s) (x ++ drop (at + length x) s),
      length-append x (drop (at + length x) s),
      length-take-le at s (omega arith),
      length-drop (at + length x) s,
    )

pub written-before : (s : List ℕ) (at : ℕ) (x : List ℕ) (i : ℕ) → at ≤ length s → i < at → get_or (written s at x) i 0 ≡ get_or s i 0
written-before s at x i l h =
    get_or-append (take at s) (x ++ drop (at + length x) s) 0 i (omega (arith, length-take-le at s l)) ∙ get_or-take at s i 0 h

pub written_behind : (s : List ℕ) (at : ℕ) (x : List ℕ) (i : ℕ) → at ≤ length s → at + length x ≤ i → get_or (written s at x) i 0 ≡ get_or s i 0
written_behind s at x i l h =
    let rest = drop (at + length x) s in
    let n = i - (at + length x) in
    let front : i ≡ length (take at s) + (length x + n) = omega (arith, length-take-le at s l) in
    ap (λ (k : ℕ). get_or (written s at x) k 0) front
    ∙ get_or-append-add (take at s) (x ++ rest) (length x + n) 0
    ∙ get_or-append-add x rest n 0
    ∙ get_or-drop (at + length x) s n 0
    ∙ ap (λ (k : ℕ). get_or s k 0) (omega arith)

-- ---- the numbers of a record

encoded-one : (xs : List ℤ) (x : ℤ) → encoded (xs ++ (x ∷ [])) ≡ encoded xs ++ word_bytes (bits x)
encoded-one [] x = append-nil (word_bytes (bits x))
encoded-one (y ∷ xs) x = ap (λ (r : List ℕ). word_bytes (bits y) ++ r) (encoded-one xs x)

pub encoded-long : (xs : List ℤ) → length (encoded xs) ≡ 4 * length xs
encoded-long [] = refl
encoded-long (x ∷ xs) = let e = encoded-long xs in omega (arith, length-append (word_bytes (bits x)) (encoded xs))

pub written_twice :
    (s : List ℕ) (at : ℕ) (a b : List ℕ) → at + length a ≤ length s →
    written (written s at a) (at + length a) b ≡ written s at (a ++ b)
written_twice s at a b l =
    let front : length (take at s ++ a) ≡ at + length a = length-append (take at s) a ∙ ap (λ (n : ℕ). n + length a) (length-take-le at s (omega arith)) in
    let seam : written s at a ≡ (take at s ++ a) ++ drop (at + length a) s = sym (append_assoc (take at s) a (drop (at + length a) s)) in
    let sum : at + length a + length b ≡ at + length (a ++ b) = omega (arith, length-append a b) in
    let kept : drop (at + length a + length b) (written s at a) ≡ drop (at + length (a ++ b)) s =
    ap (drop (at + length a + length b)) seam
    ∙ ap (λ (n : ℕ). drop (n + length b) ((take at s ++ a) ++ drop (at + length a) s)) (sym front)
    ∙ drop-append-add (take at s ++ a) (drop (at + length a) s) (length b)
    ∙ drop-drop (length b) (at + length a) s
    ∙ ap (λ (n : ℕ). drop n s) sum
    in
    ap (λ (r : List ℕ). r ++ (b ++ drop (at + length a + length b) (written s at a))) (ap (take (at + length a)) seam ∙ take_at (take at s ++ a) (drop (at + length a) s) (at + length a) front)
    ∙ ap (λ (r : List ℕ). (take at s ++ a) ++ (b ++ r)) kept
    ∙ append_assoc (take at s) a (b ++ drop (at + length (a ++ b)) s)
    ∙ ap (λ (r : List ℕ). take at s ++ r) (sym (append_assoc a b (drop (at + length (a ++ b)) s)))

module _ (s : List ℕ) (xs : List ℤ) (fits : length s ≡ 4 + 4 * length xs) where
  pub words_more :
      (i at : ℕ) {t u : List ℕ} → i < length xs → at ≡ 4 + 4 * i → t ≡ written s 4 (encoded (take i xs)) →
      u ≡ written t at (word_bytes (bits (get_or xs i (pos 0)))) → u ≡ written s 4 (encoded (take (i + 1) xs))
  words_more i at h a e f =
      let b = word_bytes (bits (get_or xs i (pos 0))) in
      let n : length (encoded (take i xs)) ≡ 4 * i = encoded-long (take i xs) ∙ ap (λ (k : ℕ). 4 * k) (length-take-le i xs (omega arith)) in
      let p : at ≡ 4 + length (encoded (take i xs)) = omega arith in
      let g : encoded (take (i + 1) xs) ≡ encoded (take i xs) ++ b =
      ap (λ (k : ℕ). encoded (take k xs)) (add-one i) ∙ ap encoded (take-suc xs i (pos 0) h) ∙ encoded-one (take i xs) (get_or xs i (pos 0))
      in
      f ∙ ap (λ (r : List ℕ). written r at b) e ∙ ap (λ (k : ℕ). written (written s 4 (encoded (take i xs))) k b) p
      ∙ written_twice s 4 (encoded (take i xs)) b (omega arith)
      ∙ ap (written s 4) (sym g)

  pub words-all : (i : ℕ) → i ≡ length xs → written s 4 (encoded (take i xs)) ≡ take 4 s ++ encoded xs
  words-all i e =
      let n : length s ≤ 4 + length (encoded xs) = omega (arith, encoded-long xs) in
      ap (λ (k : ℕ). written s 4 (encoded (take k xs))) e
      ∙ ap (λ (ys : List ℤ). written s 4 (encoded ys)) (take-length xs)
      ∙ ap (λ (r : List ℕ). take 4 s ++ (encoded xs ++ r)) (drop_of_length-le s {i = 4 + length (encoded xs)} n)
      ∙ ap (λ (r : List ℕ). take 4 s ++ r) (append-nil (encoded xs))
