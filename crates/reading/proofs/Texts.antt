-- The parts of a text, by the places that are found in it.
--   until_there      the part up to a place that was found
--   equal_again      two numbers are equal or not
--   gap_again        a byte of which it is not so that it is no gap is one
--   gaps_passed      up to the first word stand gaps
--   word-long, word_taken     from a word's first byte to the next gap stands that word
--   next_word, no_word     the next word, and that there is none, of a text by its name
--   words_exist      every text has its words
--   line_taken, line_found       from a line's first byte to the next line feed stands that line
--   next_line, no_line     the next line, and that there is none, of a text by its name
--   lines_exist      every text has its lines
--   numbers-one      a word more that is a number
--   numbers-long     as many words as numbers
--   number_fits      a number that was read has 64 bits
use mathlib.Core.Path.{◌≡◌, refl, sym, ap, ◌∙◌, subst}
use mathlib.Core.Bool.{Bool, true, false}
use mathlib.Core.List.{List, [], ◌∷◌, ◌++◌}
use mathlib.Core.Logic.{◌⊎◌, inl, inr, ⊎_elim}
use Prim.Native.Nat.{ℕ, zero, suc, ◌+◌, ◌-◌, ◌≤◌, ◌<◌}
use native.Mathlib.Omega.{arith}
use lib.Dec.{eqb}
use lib.IntN.{ℤ, pos, neg_ℤ}
use lib.ListN.{length, get_or, take, drop, take-append-drop, length-drop, drop_of_length-le}
use lib.Seq.{length-take-le, drop-cons, drop-drop, get_or-drop, get_or-take}
use borrow.Author.Tests.{eqb-true, eqb-false}
use mir.Syntax.{w64}
use mir.Val.{SFits}
use Rattle.whole.proofs.Linear.{linear, negative_parts, one-part}
use Rattle.std.specs.Prelude.{Ok, Some, None}
use Rattle.std.specs.Borrow.{Bor}
use Rattle.reading.specs.declared.places.Sought.{Sought}
use Rattle.reading.specs.declared.places.Sought.TheVariants as sought
use Rattle.reading.specs.declared.words.Word.{Word}
use Rattle.reading.specs.declared.words.Lines.{Lines as FollowingLines}
use Rattle.reading.specs.declared.words.Words.{Words as Following}
use Rattle.reading.specs.Places.{Gap, IsSought, FirstPlace, WordAt, NextWord, LineAt, NextLine}
use Rattle.reading.specs.Numbers.{signed_by, reach, IsNumber}
use Rattle.reading.specs.Texts.{Until, Words, LineFeed, Lines, Numbers}
use Rattle.reading.specs.Texts as texts

module _ (text : List ℕ) (from : ℕ) (x : Sought) (r : ℕ) (f : FirstPlace text from x r) where
  part-long : length (take (r - from) (drop from text)) ≡ r - from
  part-long = length-take-le (r - from) (drop from text) (omega (arith, f.behind, f.within, length-drop from text))

  pub rest_there : drop (r - from) (drop from text) ≡ drop r text
  rest_there =
      let there : from + (r - from) ≡ r = omega (arith, f.behind) in
      drop-drop (r - from) from text ∙ ap (λ (n : ℕ). drop n text) there

  pub until_there : Until (IsSought x) (drop from text) (take (r - from) (drop from text))
  until_there =
      record {
        rest = drop r text;
        parts = sym (take-append-drop (r - from) (drop from text)) ∙ ap (λ (l : List ℕ). take (r - from) (drop from text) ++ l) rest_there;
        none = λ i l s.
            let k : i < r - from = omega (arith, part-long) in
            f.passed (from + i) (omega arith) (omega arith) (subst (IsSought x) (get_or-take (r - from) (drop from text) i 0 k ∙ get_or-drop from text i 0) s);
        stops = λ l.
            let same : r + 0 ≡ r = omega arith in
            subst (IsSought x) (sym (get_or-drop r text 0 0 ∙ ap (λ (n : ℕ). get_or text n 0) same)) (f.there (omega (arith, length-drop r text)));
      }

-- ---- words

pub equal_again : (b n : ℕ) → (b ≡ n) ⊎ (b ≡ n → ⊥)
equal_again b n = by (eqb b n) refl
  where
    by : (t : Bool) → eqb b n ≡ t → (b ≡ n) ⊎ (b ≡ n → ⊥)
    by true e = inl (eqb-true b n e)
    by false e = inr (eqb-false b n e)

either : {P Q : Type 0} → P ⊎ (P → ⊥) → Q ⊎ (Q → ⊥) → (P ⊎ Q) ⊎ (P ⊎ Q → ⊥)
either p q = ⊎_elim (λ h. inl (inl h)) (λ n. ⊎_elim (λ h. inl (inr h)) (λ m. inr (⊎_elim n m)) q) p

bracket : (b : ℕ) → ((40 ≤ b) × (b ≤ 41)) ⊎ ((40 ≤ b) × (b ≤ 41) → ⊥)
bracket b =
    ⊎_elim (λ e. inl (omega arith, omega arith)) (λ n. ⊎_elim (λ e. inl (omega arith, omega arith)) (λ m. inr (λ h. omega (arith, h))) (equal_again b 41)) (equal_again b 40)

gap_or_not : (b : ℕ) → Gap b ⊎ (Gap b → ⊥)
gap_or_not b = either (equal_again b 9) (either (equal_again b 13) (either (equal_again b 32) (either (equal_again b 44) (bracket b))))

pub gap_again : (b : ℕ) → ((Gap b → ⊥) → ⊥) → Gap b
gap_again b h = ⊎_elim (λ g. g) (λ n. absurd (h n)) (gap_or_not b)

-- so many gaps, one after another
pass : (k : ℕ) (text : List ℕ) (from : ℕ) {ws : List (List ℕ)} → from + k ≤ length text → ((i : ℕ) → i < from + k → from ≤ i → Gap (get_or text i 0))
    → Words (drop (from + k) text) ws → Words (drop from text) ws
pass zero text from {ws} l g w =
    let same : from + 0 ≡ from = omega arith in
    subst (λ (n : ℕ). Words (drop n text) ws) same w
pass (suc k) text from {ws} l g w =
    let same : from + suc k ≡ suc from + k = omega arith in
    let later = pass k text (suc from) (omega arith) (λ i m n. g i (omega arith) (omega arith)) (subst (λ (n : ℕ). Words (drop n text) ws) same w) in
    subst (λ (t : List ℕ). Words t ws) (sym (drop-cons text from 0 (omega arith))) (texts.gap (g from (omega arith) (omega arith)) later)

pub gaps_passed : (text : List ℕ) (from r : ℕ) {ws : List (List ℕ)} → FirstPlace text from sought.Word r → Words (drop r text) ws → Words (drop from text) ws
gaps_passed text from r {ws} f w =
    let there : r ≡ from + (r - from) = omega (arith, f.behind) in
    pass (r - from) text from (omega (arith, f.within)) (λ i l k. gap_again (get_or text i 0) (f.passed i (omega arith) k)) (subst (λ (n : ℕ). Words (drop n text) ws) there w)

module _ (text : List ℕ) (at end : ℕ) (f : FirstPlace text at sought.Gap end) (inside : at < length text) (starts : Gap (get_or text at 0) → ⊥) where
  pub word-long : at < end
  word-long = ⊎_elim (λ e. absurd (starts (subst (λ (n : ℕ). Gap (get_or text n 0)) (sym e) (f.there (omega arith))))) (λ n. omega (arith, f.behind, n)) (equal_again at end)

  pub word_taken : {ws : List (List ℕ)} → Words (drop end text) ws → Words (drop at text) (take (end - at) (drop at text) ∷ ws)
  word_taken {ws} w =
      let long = part-long text at sought.Gap end f in
      let some : 0 < length (take (end - at) (drop at text)) = omega (arith, long, word-long) in
      texts.word some (until_there text at sought.Gap end f)
      (subst (λ (t : List ℕ). Words t ws) (sym (ap (λ (n : ℕ). drop n (drop at text)) long ∙ rest_there text at sought.Gap end f)) w)

module _ {text : List ℕ} (from to : Following) (e : from.text.now ≡ text) where
  pub next_word : {w : Word} → NextWord from (Some w) to → WordAt text from.at w to.at
  next_word {w} h = subst (λ (t : List ℕ). WordAt t from.at w to.at) e h.1

  pub no_word : NextWord from None to → FirstPlace text from.at sought.Word (length text)
  no_word h = subst (λ (t : List ℕ). FirstPlace t from.at sought.Word (length t)) e h.1

-- a text has words: a byte before it is a gap, or a word of its own, or the first byte of the first word
word_begins : (b : ℕ) → (Gap b → ⊥) → (w : List ℕ) → ((i : ℕ) → i < length w → Gap (get_or w i 0) → ⊥) → (i : ℕ) → i < suc (length w) → Gap (get_or (b ∷ w) i 0) → ⊥
word_begins b n w f zero l g = n g
word_begins b n w f (suc i) l g = f i (omega arith) g

word_more : (b : ℕ) → (Gap b → ⊥) → {text : List ℕ} {ws : List (List ℕ)} → Words text ws → (vs : List (List ℕ)) × Words (b ∷ text) vs
word_more b n texts.none =
    ((b ∷ []) ∷ [], texts.word {w = b ∷ []} (omega arith) (record { rest = []; parts = refl; none = word_begins b n [] (λ i l. absurd (omega (arith, l))); stops = λ l. absurd (omega (arith, l)) }) texts.none)
word_more b n (texts.gap {b = c} {text = text} {ws = ws} g h) =
    ((b ∷ []) ∷ ws, texts.word {w = b ∷ []} (omega arith) (record { rest = c ∷ text; parts = refl; none = word_begins b n [] (λ i l. absurd (omega (arith, l))); stops = λ _. g }) (texts.gap g h))
word_more b n (texts.word {w = w} {text = text} {ws = ws} l u h) =
    ((b ∷ w) ∷ ws, texts.word {w = b ∷ w} (omega arith) (record { rest = u.rest; parts = ap (λ (t : List ℕ). b ∷ t) u.parts; none = word_begins b n w u.none; stops = u.stops }) h)

pub words_exist : (text : List ℕ) → (ws : List (List ℕ)) × Words text ws
words_exist [] = ([], texts.none)
words_exist (b ∷ text) =
    let (ws, h) = words_exist text in
    ⊎_elim (λ g. (ws, texts.gap g h)) (λ n. word_more b n h) (gap_or_not b)

-- ---- lines

pub line_taken : (text : List ℕ) (at end : ℕ) {ls : List (List ℕ)} → FirstPlace text at (sought.Byte 10) end → at < length text → Lines (drop (end + 1) text) ls
    → Lines (drop at text) (take (end - at) (drop at text) ∷ ls)
line_taken text at end {ls} f l h =
    let long = part-long text at (sought.Byte 10) end f in
    let there : at + suc (length (take (end - at) (drop at text))) ≡ end + 1 = omega (arith, long, f.behind) in
    let some : 0 < length (drop at text) = omega (arith, length-drop at text) in
    texts.line some (until_there text at (sought.Byte 10) end f)
    (subst (λ (t : List ℕ). Lines t ls) (sym (drop-drop (suc (length (take (end - at) (drop at text)))) at text ∙ ap (λ (n : ℕ). drop n text) there)) h)

pub line_found : {text line : List ℕ} {at next : ℕ} → LineAt text at line next → {ls : List (List ℕ)} → Lines (drop next text) ls → Lines (drop at text) (line ∷ ls)
line_found {text} {line} {at} {next} h {ls} k =
    subst (λ (l : List ℕ). Lines (drop at text) (l ∷ ls)) (sym h.bytes) (line_taken text at h.end h.ends h.there (subst (λ (t : List ℕ). Lines t ls) (by (equal_again h.end (length text))) k))
  where
    by : (h.end ≡ length text) ⊎ (h.end ≡ length text → ⊥) → drop next text ≡ drop (h.end + 1) text
    by (inl e) = drop_of_length-le text (omega (arith, h.next_is)) ∙ sym (drop_of_length-le text (omega arith))
    by (inr n) = let there : next ≡ h.end + 1 = omega (arith, h.next_is, h.ends.within) in ap (λ (i : ℕ). drop i text) there

module _ {text : List ℕ} (from to : FollowingLines) (e : from.text.now ≡ text) where
  pub next_line : (l : Bor (List ℕ)) → NextLine from (Some l) to → LineAt text from.at l.now to.at
  next_line l h = subst (λ (t : List ℕ). LineAt t from.at l.now to.at) e h.1

  pub no_line : NextLine from None to → from.at ≡ length text
  no_line h = h.1 ∙ ap length e

-- a text has lines
first-line : (text : List ℕ) → (l : List ℕ) × Until LineFeed text l
first-line [] = ([], record { rest = []; parts = refl; none = λ i m. absurd (omega (arith, m)); stops = λ m. absurd (omega (arith, m)) })
first-line (b ∷ text) = by (equal_again b 10) (first-line text)
  where
    none_in : (l : List ℕ) → (b ≡ 10 → ⊥) → ((i : ℕ) → i < length l → LineFeed (get_or l i 0) → ⊥) → (i : ℕ) → i < suc (length l) → LineFeed (get_or (b ∷ l) i 0) → ⊥
    none_in l n f zero m e = n e
    none_in l n f (suc i) m e = f i (omega arith) e

    by : (b ≡ 10) ⊎ (b ≡ 10 → ⊥) → ((l : List ℕ) × Until LineFeed text l) → (l : List ℕ) × Until LineFeed (b ∷ text) l
    by (inl e) later = ([], record { rest = b ∷ text; parts = refl; none = λ i m. absurd (omega (arith, m)); stops = λ _. e })
    by (inr n) (l, u) = (b ∷ l, record { rest = u.rest; parts = ap (λ (t : List ℕ). b ∷ t) u.parts; none = none_in l n u.none; stops = u.stops })

abbrev HasLines : List ℕ → Type 0
HasLines text = (ls : List (List ℕ)) × Lines text ls

line-more : (most : ℕ) (text : List ℕ) → length text ≤ suc most → ((t : List ℕ) → length t ≤ most → HasLines t) → HasLines text
line-more most [] m later = ([], texts.none)
line-more most (b ∷ text) m later =
    let (l, u) = first-line (b ∷ text) in
    let rest = later (drop (suc (length l)) (b ∷ text)) (omega (arith, m, length-drop (suc (length l)) (b ∷ text))) in
    let some : 0 < length (b ∷ text) = omega arith in
    (l ∷ rest.0, texts.line some u rest.1)

lines_within : (most : ℕ) (text : List ℕ) → length text ≤ most → HasLines text
lines_within zero text m = line-more zero text (omega arith) (λ t l. (subst HasLines (sym (short t l)) ([], texts.none)))
  where
    short : (t : List ℕ) → length t ≤ 0 → t ≡ []
    short [] l = refl
    short (b ∷ t) l = absurd (omega (arith, l))
lines_within (suc most) text m = line-more most text m (λ t. lines_within most t)

pub lines_exist : (text : List ℕ) → (ls : List (List ℕ)) × Lines text ls
lines_exist text = lines_within (length text) text (omega arith)

-- ---- numbers

pub numbers-one : (ws : List (List ℕ)) (xs : List ℤ) (w : List ℕ) (x : ℤ) → Numbers ws xs → IsNumber w (Ok x) → Numbers (ws ++ (w ∷ [])) (xs ++ (x ∷ []))
numbers-one [] [] w x h n = (n, tt)
numbers-one [] (y ∷ xs) w x h n = absurd h
numbers-one (v ∷ ws) [] w x h n = absurd h
numbers-one (v ∷ ws) (y ∷ xs) w x h n = (h.0, numbers-one ws xs w x h.1 n)

pub numbers-long : (ws : List (List ℕ)) (xs : List ℤ) → Numbers ws xs → length ws ≡ length xs
numbers-long [] [] h = refl
numbers-long [] (x ∷ xs) h = absurd h
numbers-long (w ∷ ws) [] h = absurd h
numbers-long (w ∷ ws) (x ∷ xs) h = ap suc (numbers-long ws xs h.1)

signed_fits : (negative : Bool) (n : ℕ) → n ≤ reach negative → SFits w64 (signed_by negative n)
signed_fits false n l = omega linear
signed_fits true n l = omega (linear, negative_parts (pos n), one-part (neg_ℤ (pos n)))

pub number_fits : (w : List ℕ) (x : ℤ) → IsNumber w (Ok x) → SFits w64 x
number_fits w x h =
    ⊎_elim (λ e. let k = (h.minus e).1 in subst (SFits w64) (sym k.1) (signed_fits true _ k.0))
    (λ n. let k = (h.plain n).1 in subst (SFits w64) (sym k.1) (signed_fits false _ k.0)) (equal_again (get_or w 0 0) 45)
