-- The quintics that join a first leg to a last leg over a travel, and what `joins` promises.
--   Triple                       the pairs w0, V, w2: V is twice the middle coefficient, which may be a half
--   travelled, Travels w T       six times the way that w makes; the rule of the middle coefficient: it is six times T
--   QuinticLegs, LegsOf w d      the five legs of a quintic; d are the legs that w makes
--   Join a z T w                 w is a curve with whole legs from leg a to leg z over T, and of w and its negative the one that is kept
--   Below, key, Sorted           the order: ascending by Re w2, Im w2, Re V, Im V
--   Member, Lists P ws           ws holds every triple with P, nothing else, in the order
--   AllJoins a z T ws            ws is the list of joins
--   numbers                      six numbers a triple, w0 first, real before imaginary
--   travel_reach                  the parts of T: from −40,000 to 40,000
--   EndsInRange, DeadEnd, causes  the causes of refusal, in the call's order
--   Joined                       the promise of `joins`: how many triples were written, or the refusal
use Rattle.std.specs.Prelude.{◌≡◌, Result, List, [], ◌∷◌, ◌⊎◌, ℕ, ◌<◌, ℤ, pos, length, ◌<ℤ◌}
use Rattle.refusal.specs.declared.Refusal.{Refusal}
use Rattle.refusal.specs.declared.Refusal.TheVariants as R
use Rattle.refusal.specs.Table.{Cause}
use Rattle.refusal.specs.Answers.{answer_of}
use Rattle.whole.specs.Number.{FirstPositive}
use Rattle.area.specs.Promise.{FirstOrIn}
use Rattle.pair.specs.declared.Pair.{Pair}
use Rattle.pair.specs.Pairs.{pairs, plus, times, multiple, PartsWithin}
use Rattle.curve.specs.Sizes.{coordinate_reach}

pub record Triple : Type 0 where
  pub w0 : Pair
  pub v : Pair
  pub w2 : Pair

-- 6 w0² + 3 w0 V + V² + 2 w0 w2 + 3 V w2 + 6 w2²
abbrev pub travelled : Triple → Pair
travelled w =
    plus (multiple (pos 6) (times w.w0 w.w0))
    (plus (multiple (pos 3) (times w.w0 w.v))
    (plus (times w.v w.v)
    (plus (multiple (pos 2) (times w.w0 w.w2))
    (plus (multiple (pos 3) (times w.v w.w2))
    (multiple (pos 6) (times w.w2 w.w2))))))

abbrev pub Travels : Triple → Pair → Type 0
Travels w T = multiple (pos 6) T ≡ travelled w

pub record QuinticLegs : Type 0 where
  pub d0 : Pair
  pub d1 : Pair
  pub d2 : Pair
  pub d3 : Pair
  pub d4 : Pair

-- w0², w0 V / 2, (V² + 2 w0 w2) / 6, V w2 / 2 and w2²
pub record LegsOf (w : Triple) (d : QuinticLegs) : Type 0 where
  pub first : d.d0 ≡ times w.w0 w.w0
  pub second : multiple (pos 2) d.d1 ≡ times w.w0 w.v
  pub third : multiple (pos 6) d.d2 ≡ plus (times w.v w.v) (multiple (pos 2) (times w.w0 w.w2))
  pub fourth : multiple (pos 2) d.d3 ≡ times w.v w.w2
  pub fifth : d.d4 ≡ times w.w2 w.w2

pub record Join (a z T : Pair) (w : Triple) : Type 0 where
  pub first : times w.w0 w.w0 ≡ a
  pub last : times w.w2 w.w2 ≡ z
  pub travel : Travels w T
  pub legs : (d : QuinticLegs) × LegsOf w d
  pub kept : FirstPositive w.w0.re w.w0.im

abbrev pub key : Triple → List ℤ
key w = w.w2.re ∷ w.w2.im ∷ w.v.re ∷ w.v.im ∷ []

-- the first number that differs is lower
abbrev pub Below : List ℤ → List ℤ → Type 0
Below [] ys = ⊥
Below (x ∷ xs) [] = ⊥
Below (x ∷ xs) (y ∷ ys) = (x <ℤ y) ⊎ ((x ≡ y) × Below xs ys)

abbrev pub Sorted : List Triple → Type 0
Sorted [] = Unit {0}
Sorted (u ∷ []) = Unit {0}
Sorted (u ∷ v ∷ ws) = Below (key u) (key v) × Sorted (v ∷ ws)

abbrev pub Member : Triple → List Triple → Type 0
Member w [] = ⊥
Member w (u ∷ us) = (w ≡ u) ⊎ Member w us

pub record Lists (P : Triple → Type 0) (ws : List Triple) : Type 0 where
  pub every : (w : Triple) → P w → Member w ws
  pub nothing_else : (w : Triple) → Member w ws → P w
  pub sorted : Sorted ws

abbrev pub AllJoins : Pair → Pair → Pair → List Triple → Type 0
AllJoins a z T = Lists (Join a z T)

unfoldable pub numbers : List Triple → List ℤ
numbers [] = []
numbers (w ∷ ws) = w.w0.re ∷ w.w0.im ∷ w.v.re ∷ w.v.im ∷ w.w2.re ∷ w.w2.im ∷ numbers ws

abbrev pub travel_reach : ℕ
travel_reach = 40000

pub record EndsInRange (a z T : Pair) : Type 0 where
  pub first : PartsWithin coordinate_reach a
  pub last : PartsWithin coordinate_reach z
  pub travel : PartsWithin travel_reach T

abbrev pub DeadEnd : Pair → Pair → Type 0
DeadEnd a z = (a ≡ pairs.none) ⊎ (z ≡ pairs.none)

-- room is how many numbers the area holds
abbrev pub causes : Pair → Pair → Pair → ℕ → List Cause
causes a z T room =
    record { refusal = R.Range; holds = EndsInRange a z T → ⊥ } ∷
    record { refusal = R.DeadEnd; holds = DeadEnd a z } ∷
    record { refusal = R.Room; holds = room < 24 } ∷ []

abbrev pub Joined : Pair → Pair → Pair → List ℤ → List ℤ → Result ℕ Refusal → Type 0
Joined a z T before after r = FirstOrIn (causes a z T (length before)) (AllJoins a z T) numbers length before after (answer_of r)
