-- What each call on a curve promises. r is what it returns; before and after are the lent area, as it was and as it is left.
--   verdict_numbers, length_numbers, inflection_numbers, built_numbers   the library's answers, as numbers for an area
--   CurveCall                                               a call on the curve that its numbers give: the library's answer, handed over as numbers
--   OnSource                                                a call on what a curve is built from, as OnCurve is for a curve
--   RecogniseCall, LengthCall, InflectionCall, OffsetCall, BuildCall, JoinCall       the calls
use Rattle.std.specs.Prelude.{◌≡◌, Result, cond, List, [], ◌∷◌, ◌++◌, ◌⊎◌, ℤ, pos, replicate}
use Rattle.refusal.specs.declared.Refusal.{Refusal}
use Rattle.refusal.specs.declared.Refusal.TheVariants as refusal
use Rattle.refusal.specs.Answers.{answer_of, refuse}
use Rattle.pair.specs.declared.Pair.{Pair}
use Rattle.root.specs.Promise.{quartic}
use Rattle.verdict.specs.Verdicts.{quadratic}
use Rattle.curve.specs.declared.Curve.{Curve}
use Rattle.curve.specs.Curves.{points_of}
use Rattle.verdict.specs.declared.Verdict.{Verdict}
use Rattle.verdict.specs.declared.Verdict.TheVariants as verdict
use Rattle.verdict.specs.Promise.{Recognised}
use Rattle.measure.specs.declared.lengths.Length.{Length}
use Rattle.measure.specs.declared.counting.Inflections.{Inflections}
use Rattle.measure.specs.Promise.{Measured, Inflected}
use Rattle.offset.specs.Promise.{OffsetBy}
use Rattle.build.specs.Promise.{Source, Built, pairs_of as built_from}
use Rattle.join.specs.Promise.{Joined}
use Rattle.record.specs.Kinds.{numbers_of}
use Rattle.hand.specs.Promise.{Hands, Handed, Counted, OnCurve, NoSource}

-- 0 still, 1 no, 2 ph, 3 pre; then c, q0 .. q4, κ, b0, b1, b2. What a verdict does not have is 0.
abbrev pub verdict_numbers : Verdict → List ℤ
verdict_numbers verdict.Still = pos 0 ∷ replicate 14 (pos 0)
verdict_numbers verdict.No = pos 1 ∷ replicate 14 (pos 0)
verdict_numbers (verdict.Ph s) = pos 2 ∷ s.c ∷ quartic s.q ++ replicate 8 (pos 0)
verdict_numbers (verdict.Pre p) = pos 3 ∷ p.square.c ∷ quartic p.square.q ++ numbers_of (p.kappa ∷ quadratic p.w)

-- c, A, B
abbrev pub length_numbers : Length → List ℤ
length_numbers l = l.c ∷ l.a ∷ l.b ∷ []

-- t0, t1, t2, how many, and 1 where the curve is straight
abbrev pub inflection_numbers : Inflections → List ℤ
inflection_numbers i = i.turning.t0 ∷ i.turning.t1 ∷ i.turning.t2 ∷ pos i.count ∷ pos (cond i.straight 1 0) ∷ []

abbrev pub built_numbers : Curve → List ℤ
built_numbers c = numbers_of (points_of c)

-- a wrong count of numbers is refused before anything else
abbrev pub CurveCall : {A : Type 0} → (Curve → Result A Refusal → Type 0) → (A → List ℤ) → List ℤ → List ℤ → List ℤ → ℤ → Type 0
CurveCall Promised numbers p before after r =
    OnCurve p (Hands (refuse refusal.Length 0) before after r) (λ c. Handed (Promised c) answer_of numbers before after r)

abbrev pub RecogniseCall : List ℤ → List ℤ → List ℤ → ℤ → Type 0
RecogniseCall = CurveCall (λ c. Recognised (points_of c)) verdict_numbers

abbrev pub LengthCall : List ℤ → List ℤ → List ℤ → ℤ → Type 0
LengthCall = CurveCall Measured length_numbers

abbrev pub InflectionCall : List ℤ → List ℤ → List ℤ → ℤ → Type 0
InflectionCall = CurveCall Inflected inflection_numbers

abbrev pub OffsetCall : List ℤ → ℤ → List ℤ → List ℤ → ℤ → Type 0
OffsetCall p h before after r =
    OnCurve p (Hands (refuse refusal.Length 0) before after r)
    (λ c. Counted (OffsetBy c h before after) answer_of r)

abbrev pub OnSource : List ℤ → Type 0 → (Source → Type 0) → Type 0
OnSource w Wrong Right = (NoSource w × Wrong) ⊎ ((s : Source) × (numbers_of (built_from s) ≡ w) × Right s)

abbrev pub BuildCall : Pair → List ℤ → List ℤ → List ℤ → ℤ → Type 0
BuildCall p0 w before after r =
    OnSource w (Hands (refuse refusal.Length 0) before after r) (λ s. Handed (Built p0 s) answer_of built_numbers before after r)

abbrev pub JoinCall : Pair → Pair → Pair → List ℤ → List ℤ → ℤ → Type 0
JoinCall a z T before after = Counted (Joined a z T before after) answer_of
