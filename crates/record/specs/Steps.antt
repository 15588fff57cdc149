-- What the tests of a step promise one another.
--   head_word     the head of a kind's records as a word: their length, then its name
--   Headed, Headless   the bytes begin with the head of a kind's records; with that of no kind that may stand there
--   HeldAs       the curve that a record's bytes hold by its kind, or that it is none
use Rattle.std.specs.Prelude.{◌≡◌, Bool, true, false, List, ℕ, ◌+◌, ◌*◌, ◌≤◌, length, Option, Some, None}
use Rattle.curve.specs.Curves.{points_of}
use Rattle.record.specs.declared.kinds.Kind.{Kind}
use Rattle.record.specs.declared.points.Held.{Held}
use Rattle.record.specs.Numbers.{half_at, word_at}
use Rattle.record.specs.Kinds.{row_of, points_in}
use Rattle.record.specs.Records.{may_stand}

abbrev pub head_word : Kind → ℕ
head_word k = (row_of k).size + 65536 * half_at (row_of k).name 0

pub record Headed (k : Kind) (rest : List ℕ) : Type 0 where
  pub long : 4 ≤ length rest
  pub head : word_at rest 0 ≡ head_word k

abbrev pub Headless : Bool → List ℕ → Type 0
Headless first rest = (k : Kind) → may_stand first k ≡ true → Headed k rest → ⊥

abbrev pub HeldAs : Kind → List ℕ → Option Held → Type 0
HeldAs k bytes (Some held) = ((row_of k).curve ≡ true) × (held.size ≡ (row_of k).size) × (points_of held.curve ≡ points_in bytes)
HeldAs k bytes None = (row_of k).curve ≡ false
