-- The legs of a source, and the points that go by them.
--   legs_once                 a source has one list of legs
--   outside                   where their points are out of range, that cause holds
--   points-squared            the leg polynomial of their points is the square of the w's, from Bernstein to power coefficients
--   third-found               a third of t shows that 3 divides both parts of t
--   points_on, points-end     one point more, and no more
use mathlib.Core.Path.{◌≡◌, refl, sym, ap, ◌∙◌, subst}
use mathlib.Core.List.{List, [], ◌∷◌}
use mathlib.Core.Logic.{inl, inr}
use native.Mathlib.Omega.{arith}
use lib.IntN.{pos}
use Rattle.poly.specs.Polynomials.{Same, square}
use Rattle.pair.specs.declared.Pair.{Pair}
use Rattle.pair.specs.Pairs.{pairs, plus, times, multiple}
use Rattle.pair.proofs.Parts.{re-equal, im-equal}
use Rattle.pair.proofs.Laws.{multiple_cancel, plus-minus}
use Rattle.bernstein.specs.Powers.{differences, power_form}
use Rattle.curve.specs.Curves.{InRange, leg_polynomial}
use Rattle.curve.proofs.SquaredLegs.{cubic-legs, quintic-legs}
use Rattle.build.specs.Promise.{Source, cubic, quintic, pairs_of, AreLegs, NoThird, points, point_out_of_range}

pub legs_once : (s : Source) (ds es : List Pair) → AreLegs s ds → AreLegs s es → ds ≡ es
legs_once (cubic w0 w1) ds es h k = h ∙ sym k
legs_once (quintic w0 w1 w2) ds es (d, t, h) (e, u, k) =
    h ∙ ap (λ m. times w0 w0 ∷ times w0 w1 ∷ m ∷ times w1 w2 ∷ times w2 w2 ∷ []) (multiple_cancel 3 (omega arith) (t ∙ sym u)) ∙ sym k

-- where the points of one list of legs are not in range, those of none are
pub outside : (p0 : Pair) (s : Source) (ds : List Pair) → AreLegs s ds → (InRange (points p0 ds) → ⊥) → (point_out_of_range p0 s).holds
outside p0 s ds l n es k i = n (subst (λ xs. InRange (points p0 xs)) (legs_once s es ds k l) i)

legs-squared : (s : Source) (ds : List Pair) → AreLegs s ds → Same pairs (power_form ds) (square pairs (power_form (pairs_of s)))
legs-squared (cubic w0 w1) ds h = rw h (cubic-legs w0 w1)
legs-squared (quintic w0 w1 w2) ds (d, t, h) =
    let three = multiple (pos 3) in
    rw h
    ((quintic-legs w0 w1 w2 (times w0 w0) (times w0 w1) d (times w1 w2) (times w2 w2)).1
    (λ i. three (times w0 w0) ∷ three (times w0 w1) ∷ t i ∷ three (times w1 w2) ∷ three (times w2 w2) ∷ []))

points-legs : (p : Pair) (ds : List Pair) → differences (points p ds) ≡ ds
unfolding points differences
points-legs p [] = refl
points-legs p (d ∷ []) = ap (λ x. x ∷ []) (plus-minus p d)
points-legs p (d ∷ e ∷ ds) = λ i. plus-minus p d i ∷ points-legs (plus p d) (e ∷ ds) i

pub points-squared : (p0 : Pair) (s : Source) (ds : List Pair) → AreLegs s ds → Same pairs (leg_polynomial (points p0 ds)) (square pairs (power_form (pairs_of s)))
unfolding leg_polynomial
points-squared p0 s ds l = rw (points-legs p0 ds) (legs-squared s ds l)

pub third-found : (d : Pair) {t : Pair} → multiple (pos 3) d ≡ t → NoThird t → ⊥
third-found d e (inl n) = n (record { factor = d.re; is = re-equal e })
third-found d e (inr n) = n (record { factor = d.im; is = im-equal e })

pub points_on : {p q : Pair} {ps : List Pair} (d : Pair) (ds : List Pair) → q ≡ plus p d → ps ≡ points q ds → p ∷ ps ≡ points p (d ∷ ds)
unfolding points
points_on {p} d ds e h = ap (λ qs. p ∷ qs) (h ∙ ap (λ q. points q ds) e)

pub points-end : {p : Pair} → p ∷ [] ≡ points p []
unfolding points
points-end = refl
