-- Each promise of what is read has one answer: what meets it twice is equal.
--   find_once        there is one first place of what is sought
--   next_word_once, next_line_once     a text has one next word, and one next line, and the others stand at one place then
--   size_once        a word is one size, or too large for one, or none
--   signed_once      a size has one number with a sign
--   number_once      a word is one number with a sign, or too large for one, or none
--   until_once       a text has one part up to the first byte of a sort
--   words_once, lines_once     a text has one list of words, and one of lines
--   numbers_once     words are one list of numbers
use mathlib.Core.Path.{◌≡◌, refl, sym, ap, ◌∙◌, subst}
use mathlib.Core.Bool.{Bool, true, false}
use mathlib.Core.List.{List, [], ◌∷◌, ◌++◌}
use mathlib.Core.Logic.{⊎_elim}
use Prim.Native.Nat.{ℕ, suc, ◌-◌, ◌<◌}
use native.Mathlib.Omega.{arith}
use lib.IntN.{ℤ}
use lib.ListN.{length, get_or, take, drop}
use Rattle.std.specs.Prelude.{Some, Result, Ok, Err}
use Rattle.std.specs.Borrow.{Bor}
use Rattle.reading.specs.declared.numbers.NoNumber.{NoNumber}
use Rattle.reading.specs.declared.numbers.NoNumber.TheVariants as no
use Rattle.reading.specs.declared.places.Sought.{Sought}
use Rattle.reading.specs.declared.places.Sought.TheVariants as sought
use Rattle.reading.specs.declared.words.Word.{Word}
use Rattle.reading.specs.declared.words.Words.{Words as Following}
use Rattle.reading.specs.declared.words.Lines.{Lines as FollowingLines}
use Rattle.reading.specs.Places.{Gap, FirstPlace, NextWord, NextLine}
use Rattle.reading.specs.Numbers.{IsSize, IsSigned, WithSign, IsNumber, value_of}
use Rattle.reading.specs.Texts.{Until, Words, LineFeed, Lines, Numbers}
use Rattle.reading.specs.Texts as texts
use Rattle.reading.proofs.Texts.{equal_again}

-- ---- places

pub find_once : (text : List ℕ) (from : ℕ) (x : Sought) (r q : ℕ) → FirstPlace text from x r → FirstPlace text from x q → r ≡ q
find_once text from x r q h k =
    let late : q < r → ⊥ = λ l. h.passed q l k.behind (k.there (omega (arith, h.within))) in
    let soon : r < q → ⊥ = λ l. k.passed r l h.behind (h.there (omega (arith, k.within))) in
    omega (arith, late, soon)

-- ---- words and lines, one after another

module _ (s t u : Following) where
  pub next_word_once : (v w : Word) → NextWord s (Some v) t → NextWord s (Some w) u → (v.place ≡ w.place) × (v.bytes.now ≡ w.bytes.now) × (t.at ≡ u.at)
  next_word_once v w h k =
      let text = s.text.now in
      let place = find_once text s.at sought.Word v.place w.place h.1.begins k.1.begins in
      let end = find_once text w.place sought.Gap t.at u.at (subst (λ (n : ℕ). FirstPlace text n sought.Gap t.at) place h.1.ends) k.1.ends in
      (place, h.1.bytes ∙ (λ i. take (end i - place i) (drop (place i) text)) ∙ sym k.1.bytes, end)

module _ (s t u : FollowingLines) where
  pub next_line_once : (l m : Bor (List ℕ)) → NextLine s (Some l) t → NextLine s (Some m) u → (l.now ≡ m.now) × (t.at ≡ u.at)
  next_line_once l m h k =
      let text = s.text.now in
      let end = find_once text s.at (sought.Byte 10) h.1.end k.1.end h.1.ends k.1.ends in
      (h.1.bytes ∙ (λ i. take (end i - s.at) (drop s.at text)) ∙ sym k.1.bytes, omega (arith, h.1.next_is, k.1.next_is))

-- ---- numbers

pub size_once : (word : List ℕ) (r q : Result ℕ NoNumber) → IsSize word r → IsSize word q → r ≡ q
size_once word (Ok n) (Ok m) h k = ap Ok (h.1 ∙ sym k.1)
size_once word (Ok n) (Err no.TooLarge) h k = absurd (omega (arith, h.1, h.2, k.1))
size_once word (Ok n) (Err no.None) h k = absurd (k h.0)
size_once word (Err no.TooLarge) (Ok m) h k = absurd (omega (arith, k.1, k.2, h.1))
size_once word (Err no.TooLarge) (Err no.TooLarge) h k = refl
size_once word (Err no.TooLarge) (Err no.None) h k = absurd (k h.0)
size_once word (Err no.None) (Ok m) h k = absurd (h k.0)
size_once word (Err no.None) (Err no.TooLarge) h k = absurd (h k.0)
size_once word (Err no.None) (Err no.None) h k = refl

pub signed_once : (negative : Bool) (n : ℕ) (r q : Result ℤ NoNumber) → IsSigned negative n r → IsSigned negative n q → r ≡ q
signed_once negative n (Ok x) (Ok y) h k = ap Ok (h.1 ∙ sym k.1)
signed_once negative n (Ok x) (Err no.TooLarge) h k = absurd (omega (arith, h.0, k))
signed_once negative n (Ok x) (Err no.None) h k = absurd k
signed_once negative n (Err no.TooLarge) (Ok y) h k = absurd (omega (arith, k.0, h))
signed_once negative n (Err no.TooLarge) (Err no.TooLarge) h k = refl
signed_once negative n (Err no.TooLarge) (Err no.None) h k = absurd k
signed_once negative n (Err no.None) q h k = absurd h

sign_once : (negative : Bool) (digits : List ℕ) (r q : Result ℤ NoNumber) → WithSign negative digits r → WithSign negative digits q → r ≡ q
sign_once negative digits (Ok x) (Ok y) h k = signed_once negative (value_of digits) (Ok x) (Ok y) h.1 k.1
sign_once negative digits (Ok x) (Err no.TooLarge) h k = signed_once negative (value_of digits) (Ok x) (Err no.TooLarge) h.1 k.1
sign_once negative digits (Ok x) (Err no.None) h k = absurd (k h.0)
sign_once negative digits (Err no.TooLarge) (Ok y) h k = signed_once negative (value_of digits) (Err no.TooLarge) (Ok y) h.1 k.1
sign_once negative digits (Err no.TooLarge) (Err no.TooLarge) h k = refl
sign_once negative digits (Err no.TooLarge) (Err no.None) h k = absurd (k h.0)
sign_once negative digits (Err no.None) (Ok y) h k = absurd (h k.0)
sign_once negative digits (Err no.None) (Err no.TooLarge) h k = absurd (h k.0)
sign_once negative digits (Err no.None) (Err no.None) h k = refl

pub number_once : (word : List ℕ) (r q : Result ℤ NoNumber) → IsNumber word r → IsNumber word q → r ≡ q
number_once word r q h k =
    ⊎_elim (λ e. sign_once true (drop 1 word) r q (h.minus e) (k.minus e)) (λ n. sign_once false word r q (h.plain n) (k.plain n)) (equal_again (get_or word 0 0) 45)

of_once : {r q : Result ℤ NoNumber} {x y : ℤ} → r ≡ q → r ≡ Ok x → q ≡ Ok y → x ≡ y
of_once e f g = cc

pub numbers_once : (ws : List (List ℕ)) (xs ys : List ℤ) → Numbers ws xs → Numbers ws ys → xs ≡ ys
numbers_once [] [] [] h k = refl
numbers_once [] [] (y ∷ ys) h k = absurd k
numbers_once [] (x ∷ xs) ys h k = absurd h
numbers_once (w ∷ ws) [] ys h k = absurd h
numbers_once (w ∷ ws) (x ∷ xs) [] h k = absurd k
numbers_once (w ∷ ws) (x ∷ xs) (y ∷ ys) h k =
    let first = of_once (number_once w (Ok x) (Ok y) h.0 k.0) refl refl in
    let later = numbers_once ws xs ys h.1 k.1 in
    λ i. first i ∷ later i

-- ---- parts

module _ (Stop : ℕ → Type 0) where
  -- the part, and what stands behind it
  until_by : (part other rest tail : List ℕ) → part ++ rest ≡ other ++ tail → ((i : ℕ) → i < length part → Stop (get_or part i 0) → ⊥)
      → ((i : ℕ) → i < length other → Stop (get_or other i 0) → ⊥) → (0 < length rest → Stop (get_or rest 0 0)) → (0 < length tail → Stop (get_or tail 0 0)) → part ≡ other
  until_by [] [] rest tail e n m s t = refl
  until_by [] (b ∷ other) rest tail e n m s t =
      let some : 0 < length rest = omega (arith, ap length e) in
      absurd (m 0 (omega arith) (subst (λ (l : List ℕ). Stop (get_or l 0 0)) e (s some)))
  until_by (a ∷ part) [] rest tail e n m s t =
      let some : 0 < length tail = omega (arith, ap length e) in
      absurd (n 0 (omega arith) (subst (λ (l : List ℕ). Stop (get_or l 0 0)) (sym e) (t some)))
  until_by (a ∷ part) (b ∷ other) rest tail e n m s t =
      let first : a ≡ b = ap (λ (l : List ℕ). get_or l 0 0) e in
      let later = until_by part other rest tail (ap (drop 1) e) (λ i l. n (suc i) (omega arith)) (λ i l. m (suc i) (omega arith)) s t in
      λ i. first i ∷ later i

  pub until_once : (text part other : List ℕ) → Until Stop text part → Until Stop text other → part ≡ other
  until_once text part other h k = until_by part other h.rest k.rest (sym h.parts ∙ k.parts) h.none k.none h.stops k.stops

  -- a part that is not empty begins as the text does, and not with such a byte
  starts_else : (text part : List ℕ) → Until Stop text part → 0 < length part → (0 < length text) × (Stop (get_or text 0 0) → ⊥)
  starts_else text [] h l = absurd (omega (arith, l))
  starts_else text (b ∷ part) h l =
      (omega (arith, ap length h.parts), λ s. h.none 0 (omega arith) (subst (λ (t : List ℕ). Stop (get_or t 0 0)) h.parts s))

words_by : {text other : List ℕ} {ws vs : List (List ℕ)} → Words text ws → Words other vs → text ≡ other → ws ≡ vs
words_by texts.none texts.none e = refl
words_by texts.none (texts.gap g h) e = absurd (omega (arith, ap length e))
words_by texts.none (texts.word {w = w} {text = text} l u h) e = absurd (omega (arith, ap length e, (starts_else Gap text w u l).0))
words_by (texts.gap g h) texts.none e = absurd (omega (arith, ap length e))
words_by (texts.gap g h) (texts.gap f k) e = words_by h k (ap (drop 1) e)
words_by (texts.gap g h) (texts.word {w = w} {text = text} l u k) e =
    absurd ((starts_else Gap text w u l).1 (subst (λ (t : List ℕ). Gap (get_or t 0 0)) e g))
words_by (texts.word {w = w} {text = text} l u h) texts.none e = absurd (omega (arith, ap length e, (starts_else Gap text w u l).0))
words_by (texts.word {w = w} {text = text} l u h) (texts.gap g k) e =
    absurd ((starts_else Gap text w u l).1 (subst (λ (t : List ℕ). Gap (get_or t 0 0)) (sym e) g))
words_by (texts.word {w = w} {text = text} l u h) (texts.word {w = v} {text = other} m n k) e =
    let first : w ≡ v = until_once Gap other w v (subst (λ (t : List ℕ). Until Gap t w) e u) n in
    let later = words_by h k (λ i. drop (length (first i)) (e i)) in
    λ i. first i ∷ later i

pub words_once : (text : List ℕ) (ws vs : List (List ℕ)) → Words text ws → Words text vs → ws ≡ vs
words_once text ws vs h k = words_by h k refl

lines_by : {text other : List ℕ} {ls ks : List (List ℕ)} → Lines text ls → Lines other ks → text ≡ other → ls ≡ ks
lines_by texts.none texts.none e = refl
lines_by texts.none (texts.line l u h) e = absurd (omega (arith, ap length e, l))
lines_by (texts.line l u h) texts.none e = absurd (omega (arith, ap length e, l))
lines_by (texts.line {l = w} {text = text} l u h) (texts.line {l = v} {text = other} m n k) e =
    let first : w ≡ v = until_once LineFeed other w v (subst (λ (t : List ℕ). Until LineFeed t w) e u) n in
    let later = lines_by h k (λ i. drop (suc (length (first i))) (e i)) in
    λ i. first i ∷ later i

pub lines_once : (text : List ℕ) (ls ks : List (List ℕ)) → Lines text ls → Lines text ks → ls ≡ ks
lines_once text ls ks h k = lines_by h k refl
