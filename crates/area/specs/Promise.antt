-- The one promise of the calls that fill a lent number area.
--   values_of         the numbers that an answer leaves there: none where it is refused
--   FirstOrIn        the first of these causes that holds, or else an answer of which this is said: what comes back is how many it counts,
--                    and the area holds its numbers from the start, and zeros behind them
use Rattle.std.specs.Prelude.{◌≡◌, List, [], ℕ, ℤ, length}
use Rattle.refusal.specs.Table.{Cause}
use Rattle.refusal.specs.Answers.{Answer, refused, given, with_given, FirstOr}
use Rattle.area.specs.Area.{Fills}

abbrev pub values_of : Answer (List ℤ) → List ℤ
values_of (refused f) = []
values_of (given vs) = vs

pub record FirstOrIn {A : Type 0} (causes : List Cause) (Says : A → Type 0) (numbers : A → List ℤ) (count : A → ℕ) (before after : List ℤ) (r : Answer ℕ) : Type 0 where
  pub answer : Answer A
  pub first_or : FirstOr causes Says answer
  pub counts : r ≡ with_given count answer
  pub same_room : length after ≡ length before
  pub fills : Fills (values_of (with_given numbers answer)) after
