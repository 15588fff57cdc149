-- What the steps of `joins` promise one another.
--   triple                    three pairs as one
--   shift                     3 (w0 + w2)
--   fixed a z T               24 T − 15 (a + z), the part of a discriminant that no sign changes
--   discriminant f p          f + 10 p, for p = w0 w2: it is 9 (w0 + w2)² − 8 (3 a + 3 z + w0 w2 − 3 T)
--   centre w0 V w2            2 V + 3 (w0 + w2)
--   Even x                    half of x is whole
--   HalfSteps w               the legs w0 V / 2 and V w2 / 2 are whole
--   Halved w0 n w2            the triples with these ends and such legs for which 2 V is n
--   Centred w0 D w2           the triples with these ends and such legs whose centre is a root of D
--   Ending w0 f r             the triples that end in −r or in r, centred by the discriminant with f
--   root_reach                 200, which no part of a root of a or z exceeds
--   MiddleSizes, CentreSizes, EndSizes     the sizes that the arithmetic meets: with a middle or its double, with a discriminant, with its fixed part
--   WritesTriples n P …       the triples with P, at most n, are written from an area's start, so many numbers; what stood behind them stays
use Rattle.std.specs.Prelude.{◌≡◌, List, ◌++◌, ◌⊎◌, ℕ, ◌*◌, ◌≤◌, ℤ, pos, length, drop}
use Rattle.pair.specs.declared.Pair.{Pair}
use Rattle.pair.specs.Pairs.{plus, minus, negative, times, multiple, PartsWithin}
use Rattle.join.specs.Promise.{Triple, Lists, numbers}

abbrev pub triple : Pair → Pair → Pair → Triple
triple x y z = record { w0 = x; v = y; w2 = z }

abbrev pub shift : Pair → Pair → Pair
shift w0 w2 = multiple (pos 3) (plus w0 w2)

abbrev pub fixed : Pair → Pair → Pair → Pair
fixed a z T = minus (multiple (pos 24) T) (multiple (pos 15) (plus a z))

abbrev pub discriminant : Pair → Pair → Pair
discriminant f p = plus f (multiple (pos 10) p)

abbrev pub centre : Pair → Pair → Pair → Pair
centre w0 v w2 = plus (multiple (pos 2) v) (shift w0 w2)

abbrev pub Even : Pair → Type 0
Even x = (h : Pair) × (multiple (pos 2) h ≡ x)

abbrev pub HalfSteps : Triple → Type 0
HalfSteps w = Even (times w.w0 w.v) × Even (times w.v w.w2)

pub record Halved (w0 n w2 : Pair) (w : Triple) : Type 0 where
  pub first : w.w0 ≡ w0
  pub last : w.w2 ≡ w2
  pub middle : multiple (pos 2) w.v ≡ n
  pub steps : HalfSteps w

pub record Centred (w0 D w2 : Pair) (w : Triple) : Type 0 where
  pub first : w.w0 ≡ w0
  pub last : w.w2 ≡ w2
  pub middle : times (centre w0 w.v w2) (centre w0 w.v w2) ≡ D
  pub steps : HalfSteps w

abbrev pub Ending : Pair → Pair → Pair → Triple → Type 0
Ending w0 f r w = Centred w0 (discriminant f (times w0 (negative r))) (negative r) w ⊎ Centred w0 (discriminant f (times w0 r)) r w

abbrev pub root_reach : ℕ
root_reach = 200

pub record MiddleSizes (w0 x w2 : Pair) : Type 0 where
  pub first : PartsWithin root_reach w0
  pub middle : PartsWithin 4200 x
  pub last : PartsWithin root_reach w2

pub record CentreSizes (w0 D w2 : Pair) : Type 0 where
  pub first : PartsWithin root_reach w0
  pub discriminant : PartsWithin 2360000 D
  pub last : PartsWithin root_reach w2

pub record EndSizes (w0 f r : Pair) : Type 0 where
  pub first : PartsWithin root_reach w0
  pub fixed : PartsWithin 1560000 f
  pub last : PartsWithin root_reach r

pub record WritesTriples (n : ℕ) (P : Triple → Type 0) (before after : List ℤ) (count : ℕ) : Type 0 where
  pub triples : List Triple
  pub lists : Lists P triples
  pub few : length triples ≤ n
  pub same_room : length after ≡ length before
  pub count_is : count ≡ 6 * length triples
  pub writes : after ≡ numbers triples ++ drop count before
