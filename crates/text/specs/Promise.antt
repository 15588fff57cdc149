-- What a call that writes a text promises of the lent byte area.
--   asked, area_after   the answer and the area that a text asks for
--   TextIn             the promise: the area holds such a text from its start, and zeros behind it; where it is too short, zeros alone
use Rattle.std.specs.Prelude.{◌≡◌, List, ◌++◌, ℕ, ◌-◌, ltb, length, replicate, Result}
use Rattle.refusal.specs.declared.Refusal.{Refusal}
use Rattle.refusal.specs.declared.Refusal.TheVariants as refusal
use Rattle.refusal.specs.Answers.{Answer, given, refuse, answer_of, when◌then◌else◌}

-- of an area of so many bytes
unfoldable pub asked : ℕ → List ℕ → Answer ℕ
asked room text = when ltb room (length text) then refuse refusal.Room 0 else given (length text)

unfoldable pub area_after : ℕ → List ℕ → List ℕ
area_after room text = when ltb room (length text) then replicate room 0 else text ++ replicate (room - length text) 0

pub record TextIn (Is : List ℕ → Type 0) (before after : List ℕ) (r : Result ℕ Refusal) : Type 0 where
  pub text : List ℕ
  pub is : Is text
  pub says : answer_of r ≡ asked (length before) text
  pub leaves : after ≡ area_after (length before) text
