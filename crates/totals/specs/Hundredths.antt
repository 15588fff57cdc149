-- A length √c A / B in whole hundredths.
--   Reaches l m      it is at least m hundredths: m² B² ≤ 10,000 c A²
--   Hundredths l m   m is the greatest such number
use Rattle.std.specs.Prelude.{ℕ, ◌*◌, ◌≤◌, pos, ◌*ℤ◌, ◌≤ℤ◌}
use Rattle.measure.specs.declared.lengths.Length.{Length}

abbrev pub Reaches : Length → ℕ → Type 0
Reaches l m = (pos (m * m) *ℤ (l.b *ℤ l.b)) ≤ℤ (pos 10000 *ℤ (l.c *ℤ (l.a *ℤ l.a)))

pub record Hundredths (l : Length) (m : ℕ) : Type 0 where
  pub reached : Reaches l m
  pub greatest : (k : ℕ) → Reaches l k → k ≤ m
