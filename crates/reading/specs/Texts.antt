-- The parts of a text.
--   Until        the part of a text up to the first byte of a sort, or up to its end
--   Words        the words of a text, which gaps part
--   Lines        the lines of a text, each without its line feed
--   Numbers      words that are these numbers
use Rattle.std.specs.Prelude.{◌≡◌, List, [], ◌∷◌, ◌++◌, ℕ, suc, ◌<◌, ℤ, length, get_or, drop, Ok}
use Rattle.reading.specs.Places.{Gap}
use Rattle.reading.specs.Numbers.{IsNumber}

pub record Until (Stop : ℕ → Type 0) (text part : List ℕ) : Type 0 where
  pub rest : List ℕ
  pub parts : text ≡ part ++ rest
  pub none : (i : ℕ) → i < length part → Stop (get_or part i 0) → ⊥
  pub stops : 0 < length rest → Stop (get_or rest 0 0)

pub data Words : List ℕ → List (List ℕ) → Type 0 where
  none : Words [] []
  gap : {b : ℕ} {text : List ℕ} {ws : List (List ℕ)} → Gap b → Words text ws → Words (b ∷ text) ws
  word : {w : List ℕ} {text : List ℕ} {ws : List (List ℕ)} → 0 < length w → Until Gap text w → Words (drop (length w) text) ws → Words text (w ∷ ws)

-- a line feed is 10
abbrev pub LineFeed : ℕ → Type 0
LineFeed b = b ≡ 10

pub data Lines : List ℕ → List (List ℕ) → Type 0 where
  none : Lines [] []
  line : {l : List ℕ} {text : List ℕ} {ls : List (List ℕ)} → 0 < length text → Until LineFeed text l → Lines (drop (suc (length l)) text) ls → Lines text (l ∷ ls)

abbrev pub Numbers : List (List ℕ) → List ℤ → Type 0
Numbers [] [] = Unit {0}
Numbers [] (x ∷ xs) = ⊥
Numbers (w ∷ ws) [] = ⊥
Numbers (w ∷ ws) (x ∷ xs) = IsNumber w (Ok x) × Numbers ws xs
