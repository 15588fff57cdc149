-- Where something stands in a text.
--   Gap          a byte that parts words: a blank, a bracket, a comma
--   IsSought     a byte is what is sought
--   FirstPlace   the first place from another on that has it, or the text's end
--   WordAt       a word behind a place: where it begins and ends
--   NextWord     the next of the words of a text, and where the others stand then; none where no word is left
--   LineAt       a line from its first byte on, and where the next begins
--   NextLine     the same of the lines of a text
use Rattle.std.specs.Prelude.{◌≡◌, List, ◌⊎◌, ℕ, ◌+◌, ◌-◌, ◌≤◌, ◌<◌, length, get_or, take, drop, min, Option, Some, None}
use Rattle.std.specs.Borrow.{Bor}
use Rattle.reading.specs.declared.places.Sought.{Sought}
use Rattle.reading.specs.declared.places.Sought.TheVariants as sought
use Rattle.reading.specs.declared.words.Word.{Word}
use Rattle.reading.specs.declared.words.Lines.{Lines}
use Rattle.reading.specs.declared.words.Words.{Words}

-- tab, carriage return, blank, comma, and the two brackets
abbrev pub Gap : ℕ → Type 0
Gap b = (b ≡ 9) ⊎ ((b ≡ 13) ⊎ ((b ≡ 32) ⊎ ((b ≡ 44) ⊎ ((40 ≤ b) × (b ≤ 41)))))

abbrev pub IsSought : Sought → ℕ → Type 0
IsSought (sought.Byte x) b = b ≡ x
IsSought sought.Gap b = Gap b
IsSought sought.Word b = Gap b → ⊥

pub record FirstPlace (text : List ℕ) (from : ℕ) (x : Sought) (r : ℕ) : Type 0 where
  pub behind : from ≤ r
  pub within : r ≤ length text
  pub passed : (i : ℕ) → i < r → from ≤ i → IsSought x (get_or text i 0) → ⊥
  pub there : r < length text → IsSought x (get_or text r 0)

pub record WordAt (text : List ℕ) (from : ℕ) (w : Word) (end : ℕ) : Type 0 where
  pub begins : FirstPlace text from sought.Word w.place
  pub there : w.place < length text
  pub ends : FirstPlace text w.place sought.Gap end
  pub bytes : w.bytes.now ≡ take (end - w.place) (drop w.place text)

abbrev pub NextWord : Words → Option Word → Words → Type 0
NextWord s None t = (t.text ≡ s.text) × FirstPlace s.text.now s.at sought.Word (length s.text.now)
NextWord s (Some w) t = (t.text ≡ s.text) × WordAt s.text.now s.at w t.at

-- '\n' is 10. The last line may have no line feed behind it
pub record LineAt (text : List ℕ) (from : ℕ) (line : List ℕ) (next : ℕ) : Type 0 where
  pub there : from < length text
  pub end : ℕ
  pub ends : FirstPlace text from (sought.Byte 10) end
  pub bytes : line ≡ take (end - from) (drop from text)
  pub next_is : next ≡ min (length text) (end + 1)

abbrev pub NextLine : Lines → Option (Bor (List ℕ)) → Lines → Type 0
NextLine s None t = (t.text ≡ s.text) × (s.at ≡ length s.text.now)
NextLine s (Some l) t = (t.text ≡ s.text) × LineAt s.text.now s.at l.now t.at
