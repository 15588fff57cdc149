-- What a lent number area holds after a call.
--   Cleared before after    as many zeros as there were numbers
--   Fills answer area       the answer from the area's start, and zeros behind it; after a refusal the answer is empty
use Rattle.std.specs.Prelude.{◌≡◌, List, ◌++◌, ◌-◌, ℤ, pos, length, replicate}

abbrev pub Cleared : List ℤ → List ℤ → Type 0
Cleared before after = after ≡ replicate (length before) (pos 0)

abbrev pub Fills : List ℤ → List ℤ → Type 0
Fills answer area = area ≡ answer ++ replicate (length area - length answer) (pos 0)
