-- The numbers of a line, word by word.
--   Passed          the words that were passed are numbers, and stand in the area
--   passed_none, passed-one, passed-all    before the first, one more, and behind the last
--   passed_else, passed-more, passed_less  at a word that is no number, at one more than there is room for, and at the end with room left
use mathlib.Core.Path.{◌≡◌, refl, sym, ap, ◌∙◌, subst}
use mathlib.Core.List.{List, [], ◌∷◌, ◌++◌, append_assoc, append-nil}
use Prim.Native.Nat.{ℕ, ◌+◌, ◌-◌, ◌≤◌, ◌<◌}
use native.Mathlib.Omega.{arith}
use native.Mathlib.Numerals.{add-one}
use lib.IntN.{ℤ}
use lib.ListN.{length, take, drop, set, length-set, length-append}
use lib.Seq.{length-take-le, take_all, take-suc-set, drop-length}
use Rattle.std.specs.Prelude.{Ok, Err}
use Rattle.reading.specs.declared.numbers.NoNumber.{NoNumber}
use Rattle.reading.specs.declared.places.Sought.TheVariants as sought
use Rattle.reading.specs.declared.words.Word.{Word}
use Rattle.reading.specs.Places.{FirstPlace, WordAt}
use Rattle.reading.specs.Numbers.{IsNumber}
use Rattle.reading.specs.Texts.{Words, Numbers}
use Rattle.reading.specs.Texts as texts
use Rattle.reading.proofs.Texts.{gaps_passed, word_taken, words_exist, numbers-one, numbers-long}
use Rattle.reading.proofs.Once.{number_once}
use Rattle.make_sheet.specs.Sayings.{NotSoMany, NumbersIn}

pub record Passed (text : List ℕ) (room : ℕ) (out : List ℤ) (count at : ℕ) : Type 0 where
  pub same_room : length out ≡ room
  pub few : count ≤ length out
  pub words : List (List ℕ)
  pub numbers : Numbers words (take count out)
  pub behind : (more : List (List ℕ)) → Words (drop at text) more → Words text (words ++ more)

pub passed_none : (text : List ℕ) (out : List ℤ) → Passed text (length out) out 0 0
passed_none text out = record { same_room = refl; few = omega arith; words = []; numbers = tt; behind = λ more w. w }

-- some words of which one is no number
no_number : (ws more : List (List ℕ)) (w : List ℕ) (xs : List ℤ) → ((x : ℤ) → IsNumber w (Ok x) → ⊥) → Numbers (ws ++ (w ∷ more)) xs → ⊥
no_number [] more w [] never h = h
no_number [] more w (x ∷ xs) never h = never x h.0
no_number (v ∷ ws) more w [] never h = h
no_number (v ∷ ws) more w (x ∷ xs) never h = no_number ws more w xs never h.1

never : (n : NoNumber) (x : ℤ) → Err n ≡ Ok x → ⊥
never n x e = cc

module _ (text : List ℕ) (room : ℕ) (out : List ℤ) (count at : ℕ) (p : Passed text room out count at) where
  -- behind the last word stand gaps
  at-end : FirstPlace text at sought.Word (length text) → Words (drop at text) []
  at-end f = gaps_passed text at (length text) f (subst (λ (t : List ℕ). Words t []) (sym (drop-length text)) texts.none)

  pub passed-all : FirstPlace text at sought.Word (length text) → length out ≤ count → NumbersIn text out (Ok tt)
  passed-all f c = (p.words, subst (Words text) (append-nil p.words) (p.behind [] (at-end f)), subst (Numbers p.words) (take_all count out c) p.numbers)

  passed-long : length p.words ≡ count
  passed-long = numbers-long p.words (take count out) p.numbers ∙ length-take-le count out p.few

  module _ (w : Word) (end : ℕ) (h : WordAt text at w end) where
    -- the words that were passed, the one here, and those behind it
    words-here : (more : List (List ℕ)) → Words (drop end text) more → Words text (p.words ++ (w.bytes.now ∷ more))
    words-here more k =
        subst (λ (v : List ℕ). Words text (p.words ++ (v ∷ more))) (sym h.bytes)
        (p.behind (take (end - w.place) (drop w.place text) ∷ more) (gaps_passed text at w.place h.begins (word_taken text w.place end h.ends h.there (h.begins.there h.there) k)))

    pub passed-one : (x : ℤ) → IsNumber w.bytes.now (Ok x) → count < length out → Passed text room (set out count x) (count + 1) end
    passed-one x n c =
        let taken : take count out ++ (x ∷ []) ≡ take (count + 1) (set out count x) = sym (ap (λ (k : ℕ). take k (set out count x)) (add-one count) ∙ take-suc-set out count x c) in
        record {
          same_room = length-set out count x ∙ p.same_room;
          few = omega (arith, length-set out count x);
          words = p.words ++ (w.bytes.now ∷ []);
          numbers = subst (Numbers (p.words ++ (w.bytes.now ∷ []))) taken (numbers-one p.words (take count out) w.bytes.now x p.numbers n);
          behind = λ more k. subst (Words text) (sym (append_assoc p.words (w.bytes.now ∷ []) more)) (words-here more k);
        }

    pub passed_else : (why : NoNumber) → IsNumber w.bytes.now (Err why) → NotSoMany text (length out)
    passed_else why n =
        let (more, k) = words_exist (drop end text) in
        (p.words ++ (w.bytes.now ∷ more), words-here more k, λ xs e m. no_number p.words more w.bytes.now xs (λ x i. never why x (number_once w.bytes.now (Err why) (Ok x) n i)) m)

    pub passed-more : length out ≤ count → NotSoMany text (length out)
    passed-more c =
        let (more, k) = words_exist (drop end text) in
        (p.words ++ (w.bytes.now ∷ more), words-here more k, λ xs e m. omega (arith, e, numbers-long (p.words ++ (w.bytes.now ∷ more)) xs m, length-append p.words (w.bytes.now ∷ more), passed-long))

  pub passed_less : FirstPlace text at sought.Word (length text) → count < length out → NotSoMany text (length out)
  passed_less f c =
      (p.words, subst (Words text) (append-nil p.words) (p.behind [] (at-end f)), λ xs e k. omega (arith, e, numbers-long p.words xs k, passed-long))
