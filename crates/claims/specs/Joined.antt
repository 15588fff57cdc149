-- What is claimed of a listed join whose middle coefficient is whole, when it is built.
--   Leads a z T ps       ps are the six points of a curve with the first leg a and the last leg z, over the travel T
--   Leading a z T r      what was built leads so; what was refused is out of range, and has no other fault
--   JoinsLead            so is the answer to building any triple of the list of joins with V = 2 w1
use Rattle.std.specs.Prelude.{◌≡◌, Result, Ok, Err, List, pos, length}
use Rattle.refusal.specs.declared.Refusal.{Refusal}
use Rattle.refusal.specs.declared.Refusal.TheVariants as R
use Rattle.whole.specs.Coefficients.{at}
use Rattle.pair.specs.declared.Pair.{Pair}
use Rattle.pair.specs.Pairs.{pairs, minus, multiple}
use Rattle.bernstein.specs.Powers.{differences}
use Rattle.curve.specs.Curves.{points_of}
use Rattle.curve.specs.declared.Curve.{Curve}
use Rattle.build.specs.Promise.{quintic, Built}
use Rattle.join.specs.Promise.{Triple, Member, AllJoins}

pub record Leads (a z T : Pair) (ps : List Pair) : Type 0 where
  pub six : length ps ≡ 6
  pub first : at pairs (differences ps) 0 ≡ a
  pub last : at pairs (differences ps) 4 ≡ z
  pub travel : minus (at pairs ps 5) (at pairs ps 0) ≡ T

abbrev pub Leading : Pair → Pair → Pair → Result Curve Refusal → Type 0
Leading a z T (Ok c) = Leads a z T (points_of c)
Leading a z T (Err r) = r ≡ R.Range

abbrev pub JoinsLead : Type 0
JoinsLead =
    (a z T : Pair) (ws : List Triple) → AllJoins a z T ws → (w : Triple) → Member w ws → (w1 : Pair) → multiple (pos 2) w1 ≡ w.v
    → (p0 : Pair) (r : Result Curve Refusal) → Built p0 (quintic w.w0 w1 w.w2) r → Leading a z T r
