-- The turning polynomial of a pre-image, and how often it changes its sign between 0 and 1.
--   turning_of                  x01 + 2·x02·t + x12·t², where x_jk is the cross product of two coefficients of w
--   turn_at x s e               s² times its value at the fraction e / s
--   Ascending low s es         low < e₀ < e₁ < .. < s
--   Alternate                  none of the numbers is zero, and each has another sign than the one before
--   SignChanges x k            k changes of sign, seen at k + 1 fractions over one denominator
--   Straight, CountIs          zero throughout; the greatest k, and 0 where it is zero throughout
--   Inflects w i               i is the turning polynomial of w with its count and its mark
use Rattle.std.specs.Prelude.{◌≡◌, List, [], ◌∷◌, map, ◌≢◌, ◌⊎◌, ℕ, suc, ◌≤◌, ◌<◌, ◌*◌, ℤ, pos, ◌+ℤ◌, ◌*ℤ◌, ◌<ℤ◌, length}
use Rattle.whole.specs.Number.{Tells}
use Rattle.pair.specs.Pairs.{cross}
use Rattle.verdict.specs.declared.Quadratic.{Quadratic}
use Rattle.measure.specs.declared.Turning.{Turning}
use Rattle.measure.specs.declared.counting.Inflections.{Inflections}

abbrev pub turning_of : Quadratic → Turning
turning_of w = record { t0 = cross w.b0 w.b1; t1 = cross w.b0 w.b2 *ℤ pos 2; t2 = cross w.b1 w.b2 }

abbrev pub turn_at : Turning → ℕ → ℕ → ℤ
turn_at x s e = x.t0 *ℤ pos (s * s) +ℤ x.t1 *ℤ pos (e * s) +ℤ x.t2 *ℤ pos (e * e)

abbrev pub Ascending : ℕ → ℕ → List ℕ → Type 0
Ascending low s [] = low < s
Ascending low s (e ∷ es) = (low < e) × Ascending e s es

abbrev pub Alternate : List ℤ → Type 0
Alternate [] = ⊥
Alternate (v ∷ []) = v ≢ pos 0
Alternate (u ∷ v ∷ vs) = ((u *ℤ v) <ℤ pos 0) × Alternate (v ∷ vs)

pub record SignChanges (x : Turning) (k : ℕ) : Type 0 where
  pub s : ℕ
  pub es : List ℕ
  pub inside : Ascending 0 s es
  pub many : length es ≡ suc k
  pub alternate : Alternate (map (turn_at x s) es)

abbrev pub Straight : Turning → Type 0
Straight x = (x.t0 ≡ pos 0) × (x.t1 ≡ pos 0) × (x.t2 ≡ pos 0)

pub record CountIs (x : Turning) (k : ℕ) : Type 0 where
  pub reached : (Straight x × (k ≡ 0)) ⊎ SignChanges x k
  pub most : (j : ℕ) → SignChanges x j → j ≤ k

pub record Inflects (w : Quadratic) (i : Inflections) : Type 0 where
  pub turning : i.turning ≡ turning_of w
  pub count : CountIs i.turning i.count
  pub straight : Tells (Straight i.turning) i.straight
