-- Which of the four verdicts holds of a curve, with its data, from its leg polynomial D.
--   quadratic                            the polynomial that the struct holds
--   Kept, LeadKept                       the sign rule: of a pair, and of the highest coefficient that is not 0
--   Squared, Generated                   N = c q²; D = κ w²
--   Still, NotSquared, NotGenerated      D = 0; N is no c q²; D is no κ w²
--   Coprime                              w has no common divisor but the four units
--   SquareOf, PreimageOf                 the one c and q, the one κ and w, that the rules leave
--   WithPreimage D P                     D has a pre-image, and P holds of it
--   Holds                                the verdict on D
use Rattle.std.specs.Prelude.{◌≡◌, List, [], ◌∷◌, ℕ, ℤ, pos, ◌<ℤ◌}
use Rattle.whole.specs.Coefficients.{at, Divides, Greatest}
use Rattle.poly.specs.Polynomials.{Same, scaled, square}
use Rattle.whole.specs.Number.{wholes, FirstPositive}
use Rattle.pair.specs.declared.Pair.{Pair}
use Rattle.pair.specs.Pairs.{norm, pairs}
use Rattle.root.specs.Promise.{quartic, LeadPositive}
use Rattle.root.specs.Search.{Lead}
use Rattle.curve.specs.Curves.{norm_polynomial}
use Rattle.verdict.specs.declared.Quadratic.{Quadratic}
use Rattle.verdict.specs.declared.Square.{Square}
use Rattle.verdict.specs.declared.Preimage.{Preimage}
use Rattle.verdict.specs.declared.Verdict.{Verdict}
use Rattle.verdict.specs.declared.Verdict.TheVariants as verdict

abbrev pub quadratic : Quadratic → List Pair
quadratic w = w.b0 ∷ w.b1 ∷ w.b2 ∷ []

-- the first part that is not zero is positive
abbrev pub Kept : Pair → Type 0
Kept a = FirstPositive a.re a.im

abbrev pub LeadKept : List Pair → Type 0
LeadKept = Lead pairs Kept

-- N = c q², with whole numbers
abbrev pub Squared : List Pair → ℤ → List ℤ → Type 0
Squared D c q = Same wholes (norm_polynomial D) (scaled wholes c (square wholes q))

-- D = κ w², with pairs
abbrev pub Generated : List Pair → Pair → List Pair → Type 0
Generated D κ w = Same pairs D (scaled pairs κ (square pairs w))

abbrev pub Still : List Pair → Type 0
Still D = Same pairs D []

abbrev pub NotSquared : List Pair → Type 0
NotSquared D = (c : ℤ) (q : List ℤ) → pos 0 <ℤ c → Squared D c q → ⊥

abbrev pub NotGenerated : List Pair → Type 0
NotGenerated D = (κ : Pair) (w : List Pair) → Generated D κ w → ⊥

-- no common divisor but the four units
abbrev pub Coprime : List Pair → Type 0
Coprime w = (d : Pair) → ((k : ℕ) → Divides pairs d (at pairs w k)) → norm d ≡ pos 1

pub record SquareOf (D : List Pair) (s : Square) : Type 0 where
  pub positive : pos 0 <ℤ s.c
  pub squared : Squared D s.c (quartic s.q)
  pub content : Greatest wholes (norm_polynomial D) s.c
  pub lead : LeadPositive (quartic s.q)

pub record PreimageOf (D : List Pair) (p : Preimage) : Type 0 where
  pub generated : Generated D p.kappa (quadratic p.w)
  pub coprime : Coprime (quadratic p.w)
  pub factor : FirstPositive p.kappa.re p.kappa.im
  pub lead : LeadKept (quadratic p.w)
  pub square_of : SquareOf D p.square

pub record WithPreimage (D : List Pair) (P : Preimage → Type 0) : Type 0 where
  pub preimage : Preimage
  pub is_preimage : PreimageOf D preimage
  pub has : P preimage

abbrev pub Holds : List Pair → Verdict → Type 0
Holds D verdict.Still = Still D
Holds D verdict.No = (Still D → ⊥) × NotSquared D
Holds D (verdict.Ph s) = (Still D → ⊥) × SquareOf D s × NotGenerated D
Holds D (verdict.Pre p) = (Still D → ⊥) × PreimageOf D p
