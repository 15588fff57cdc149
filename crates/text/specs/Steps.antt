-- What the pieces of a text promise one another.
--   Holds      the bytes of a text stand in its area, or the area is too short for them
--   Begins     the empty text in an area
--   Stands     the text of so many bytes that stand in an area, if it has so many
--   Writes     a piece was written behind whatever was held before; the area is the same, and as long as before
--   Finishes   a text that was held is finished: zeros stand behind it, or throughout where it did not fit
use Rattle.std.specs.Prelude.{◌≡◌, List, ◌++◌, ℕ, ◌≤◌, ◌<◌, length, take, MatchOption, Some, None, Result}
use Rattle.std.specs.Borrow.{MutBor}
use Rattle.refusal.specs.declared.Refusal.{Refusal}
use Rattle.refusal.specs.Answers.{answer_of}
use Rattle.text.specs.declared.Text.{Text}
use Rattle.text.specs.Promise.{asked, area_after}

abbrev pub Holds : Text → List ℕ → Type 0
Holds t text = MatchOption t.len (length t.area.now < length text) (λ n. (n ≡ length text) × (n ≤ length t.area.now) × (take n t.area.now ≡ text))

pub record Begins (area : MutBor (List ℕ)) (t : Text) : Type 0 where
  pub same_area : t.area.ghost_name ≡ area.ghost_name
  pub same_bytes : t.area.now ≡ area.now
  pub empty : t.len ≡ Some 0

pub record Stands (area : MutBor (List ℕ)) (end : ℕ) (t : Text) : Type 0 where
  pub same_area : t.area.ghost_name ≡ area.ghost_name
  pub same_bytes : t.area.now ≡ area.now
  pub within : end ≤ length area.now → t.len ≡ Some end
  pub beyond : length area.now < end → t.len ≡ None

pub record Writes (before : Text) (piece : List ℕ) (after : Text) : Type 0 where
  pub same_area : after.area.ghost_name ≡ before.area.ghost_name
  pub same_length : length after.area.now ≡ length before.area.now
  pub then_holds : (held : List ℕ) → Holds before held → Holds after (held ++ piece)

pub record Finishes (t : Text) (after : List ℕ) (r : Result ℕ Refusal) : Type 0 where
  pub says : (text : List ℕ) → Holds t text → answer_of r ≡ asked (length t.area.now) text
  pub leaves : (text : List ℕ) → Holds t text → after ≡ area_after (length t.area.now) text
