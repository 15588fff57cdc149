-- The first bytes of a text.
--   counted      a number that is not above the text's length counts them
use mathlib.Core.Path.{sym}
use mathlib.Core.List.{List}
use Prim.Native.Nat.{ℕ, ◌≤◌}
use lib.ListN.{length}
use lib.Seq.{length-take-le}
use Rattle.io.specs.Counts.{IsPrefixLen}

pub counted : (n : ℕ) (text : List ℕ) → n ≤ length text → IsPrefixLen n text
counted n text h = (h, sym (length-take-le n text h))
