-- What lines say, from their words.
--   words_same, no_words      words that are a word and others
--   unknown_means    words whose first is no line's mean no line
--   erased_means     nor do those of `erased` behind which stands no number of 64 bits
--   wrong-behind     a word behind which stands something wrong
--   no_room          where there is room for no curve, there is none
--   behind_says      a word, and what stands behind it
--   unknown_says     a text whose first word is none of the words means no line
--   nothing_said     gaps say nothing
--   line_says        a comment is passed over
--   one_fits, one_number, one_else    the one number of a line
--   says_one         a line more
use mathlib.Core.Path.{◌≡◌, refl, sym, ap, ◌∙◌, subst}
use mathlib.Core.List.{List, [], ◌∷◌, ◌++◌}
use Prim.Native.Nat.{ℕ, ◌-◌, ◌≤◌}
use native.Mathlib.Omega.{arith}
use lib.IntN.{ℤ, pos}
use mir.Syntax.{w64}
use mir.Val.{SFits}
use lib.ListN.{length, get_or, take, drop}
use lib.Seq.{drop-length}
use Rattle.whole.proofs.Linear.{linear}
use Rattle.curve.specs.declared.Curve.{Curve}
use Rattle.curve.specs.declared.Curve.TheVariants as form
use Rattle.curve.specs.Curves.{points_of}
use Rattle.record.specs.Kinds.{numbers_of}
use Rattle.hand.specs.Promise.{WrongCount}
use Rattle.reading.specs.declared.places.Sought.TheVariants as sought
use Rattle.reading.specs.declared.words.Word.{Word}
use Rattle.reading.specs.Places.{FirstPlace, WordAt}
use Rattle.reading.specs.Texts.{Until, Words, Numbers}
use Rattle.reading.specs.Texts as texts
use Rattle.reading.proofs.Texts.{until_there, gaps_passed, word_taken, words_exist, number_fits}
use Rattle.reading.proofs.Once.{numbers_once}
use Rattle.make_sheet.specs.declared.lines.Form.TheVariants as named
use Rattle.std.specs.Prelude.{None, Result, Ok, Err, IsErrAnd}
use Rattle.make_sheet.specs.declared.lines.Line.{Line}
use Rattle.make_sheet.specs.declared.lines.Line.TheVariants as line
use Rattle.make_sheet.specs.declared.lines.Said.{Said}
use Rattle.make_sheet.specs.declared.lines.Wrong.{Wrong}
use Rattle.make_sheet.specs.Sayings.{erased_word, NoLine, MeansIn, Sharp, Says, WordsSay, LineSays, AllSay, MeansBehind, SaysBehind, NoCurve, Named}

pub words_same : {ws : List (List ℕ)} {w v : List ℕ} {vs us : List (List ℕ)} → ws ≡ w ∷ vs → ws ≡ v ∷ us → (w ≡ v) × (vs ≡ us)
words_same h k = let e = sym h ∙ k in (ap (λ (l : List (List ℕ)). get_or l 0 []) e, ap (drop 1) e)

pub no_words : {A : Type 0} {ws : List (List ℕ)} {w : List ℕ} {vs : List (List ℕ)} → ws ≡ [] → ws ≡ w ∷ vs → A
no_words h k = absurd (omega (arith, ap length h, ap length k))

-- ---- a wrong line

pub one_fits : (vs : List (List ℕ)) (x : ℤ) → Numbers vs (x ∷ []) → SFits w64 x
one_fits [] x h = absurd h
one_fits (w ∷ vs) x h = number_fits w x h.0

module _ (vs : List (List ℕ)) where
  -- the words behind the first, of which something is so
  behind : {w v : List ℕ} {us : List (List ℕ)} (P : List (List ℕ) → Type 0) → w ∷ vs ≡ v ∷ us → P us → P vs
  behind P e h = subst P (sym (words_same refl e).1) h

  pub unknown_means : (word : List ℕ) → Named None word → NoLine (word ∷ vs)
  unknown_means word n line.Nothing m = no_words m refl
  unknown_means word n (line.Mission number) m = n named.Mission (words_same refl m.1).0
  unknown_means word n (line.Curve (form.Cubic c)) m = n named.Cubic (words_same refl m.1).0
  unknown_means word n (line.Curve (form.Quintic c)) m = n named.Quintic (words_same refl m.1).0
  unknown_means word n (line.Erased count) m = n named.Erased (words_same refl m.1).0

  pub erased_means : ((n : ℕ) → n ≤ 9223372036854775807 → Numbers vs (pos n ∷ []) → ⊥) → NoLine (erased_word ∷ vs)
  erased_means never line.Nothing m = no_words m refl
  erased_means never (line.Mission number) m = omega (arith, ap length (words_same refl m.1).0)
  erased_means never (line.Curve (form.Cubic c)) m = omega (arith, ap length (words_same refl m.1).0)
  erased_means never (line.Curve (form.Quintic c)) m = omega (arith, ap length (words_same refl m.1).0)
  erased_means never (line.Erased count) m =
      let h = behind (λ (us : List (List ℕ)). Numbers us (pos count ∷ [])) m.1 m.2 in
      never count (omega (linear, one_fits vs (pos count) h)) h

-- what is wrong, handed on as it is
pub wrong-behind : (word text : List ℕ) (r : Result Line Wrong) (w : Wrong) → IsErrAnd r (λ e. e ≡ w) → w.place ≤ length text → MeansBehind word text (Err w) → SaysBehind word text r
wrong-behind word text (Ok l) w e p h = absurd e
wrong-behind word text (Err v) w e p h = record { place_within = omega (arith, ap (λ (x : Wrong). x.place) e); means = h }

-- ---- a curve

-- where there is room for no curve, there is none
pub no_room : (text : List ℕ) (xs : List ℤ) → WrongCount xs → NoCurve text (length xs)
no_room text xs h =
    let (vs, words) = words_exist text in
    (vs, words, λ c e n. by c e)
  where
    by : (c : Curve) → length (numbers_of (points_of c)) ≡ length xs → ⊥
    by (form.Cubic c) e = h.0 (sym e)
    by (form.Quintic c) e = h.1 (sym e)

-- ---- a line

module _ (text : List ℕ) (first : Word) (end : ℕ) (h : WordAt text 0 first end) where
  -- the first word, and those behind it
  all_words : {vs : List (List ℕ)} → Words (drop end text) vs → Words text (first.bytes.now ∷ vs)
  all_words {vs} k =
      subst (λ (w : List ℕ). Words text (w ∷ vs)) (sym h.bytes) (gaps_passed text 0 first.place h.begins (word_taken text first.place end h.ends h.there (h.begins.there h.there) k))

  pub behind_says : (word : List ℕ) (r : Result Line Wrong) → first.bytes.now ≡ word → SaysBehind word (drop end text) r → MeansIn text r
  behind_says word r e k =
      let (vs, words, m) = k.means in
      (word ∷ vs, subst (λ (v : List ℕ). Words text (v ∷ vs)) e (all_words words), m)

  pub unknown_says : Named None first.bytes.now → (ws : List (List ℕ)) × Words text ws × NoLine ws
  unknown_says n =
      let (vs, words) = words_exist (drop end text) in
      (first.bytes.now ∷ vs, all_words words, unknown_means vs first.bytes.now n)

pub nothing_said : (text : List ℕ) → FirstPlace text 0 sought.Word (length text) → MeansIn text (Ok line.Nothing)
nothing_said text f =
    let none : Words (drop (length text) text) [] = subst (λ (t : List ℕ). Words t []) (sym (drop-length text)) texts.none in
    ([], gaps_passed text 0 (length text) f none, refl)

pub line_says : (text : List ℕ) (end : ℕ) (x : Result Said Wrong) → FirstPlace text 0 (sought.Byte 35) end → length (take end text) ≡ end → WordsSay (take end text) x → LineSays text x
line_says text end x f e h =
    record {
      place_within = omega (arith, h.place_within, f.within);
      says = (take end text, subst (λ (n : ℕ). Until Sharp text (take n text)) all (until_there text 0 (sought.Byte 35) end f), h.means);
    }
  where
    all : end - 0 ≡ end
    all = omega arith

-- ---- numbers and lines

pub one_number : (xs : List ℤ) (vs : List (List ℕ)) (x : ℤ) → length xs ≡ 1 → get_or xs 0 (pos 0) ≡ x → Numbers vs xs → Numbers vs (x ∷ [])
one_number [] vs x l e h = absurd (omega (arith, l))
one_number (y ∷ []) vs x l e h = subst (λ (z : ℤ). Numbers vs (z ∷ [])) e h
one_number (y ∷ z ∷ xs) vs x l e h = absurd (omega (arith, l))

-- two that one word is are equal
pub one_else : (vs : List (List ℕ)) (x y : ℤ) → Numbers vs (x ∷ []) → Numbers vs (y ∷ []) → x ≡ y
one_else vs x y h k = ap (λ (l : List ℤ). get_or l 0 (pos 0)) (numbers_once vs (x ∷ []) (y ∷ []) h k)

pub says_one : (texts : List (List ℕ)) (ls : List Line) (text : List ℕ) (l : Line) → AllSay texts ls → Says text (Ok l) → AllSay (texts ++ (text ∷ [])) (ls ++ (l ∷ []))
says_one [] [] text l h s = (s, tt)
says_one [] (k ∷ ls) text l h s = absurd h
says_one (t ∷ texts) [] text l h s = absurd h
says_one (t ∷ texts) (k ∷ ls) text l h s = (h.0, says_one texts ls text l h.1 s)
