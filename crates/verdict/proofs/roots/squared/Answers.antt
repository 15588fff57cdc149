-- `roots::squared` meets its contract: N is c times what a root is looked for of.
use mathlib.Core.Path.{◌≡◌, sym, ◌∙◌, subst}
use mathlib.Core.List.{List}
use mathlib.Core.Logic.{◌≢◌}
use Prim.Native.Nat.{ℕ, ◌+◌}
use lib.IntN.{ℤ, pos}
use mir.Syntax.{w64}
use mir.Val.{to_z, of_z}
use Rattle.whole.specs.Coefficients.{Greatest}
use Rattle.poly.specs.Polynomials.{Same, scaled}
use Rattle.whole.specs.Number.{wholes}
use Rattle.whole.proofs.Bound.{read_back}
use Rattle.whole.proofs.Linear.{linear}
use Rattle.whole.proofs.Wholes.{wholes_ring}
use Rattle.poly.specs.Terms.{Top}
use Rattle.poly.proofs.Top.{top-same, top_some, top-quotient}
use Rattle.poly.proofs.Content.{greatest_same}
use Rattle.poly.proofs.Wholes.{wholes_domain}
use Rattle.pair.specs.declared.Pair.{Pair}
use Rattle.root.specs.declared.Octic.{Octic}
use Rattle.curve.specs.declared.LegPowers.{LegPowers}
use Rattle.pair.specs.Pairs.{pairs, AllWithin}
use Rattle.root.specs.Promise.{octic, Sized, Positive}
use Rattle.root.specs.Search.{Each}
use Rattle.bernstein.specs.Powers.{power_form}
use Rattle.curve.specs.Curves.{norm_polynomial}
use Rattle.curve.specs.Steps.{legs_of, leg_powers}
use Rattle.curve.proofs.Norms.{norm_polynomial-same, norm_polynomial-top}
use Rattle.verdict.specs.Verdicts.{Still, SquareOf}
use Rattle.verdict.specs.Steps.{OfCurve, OfLegs}
use Rattle.verdict.proofs.Squares.{no_root-not-squared, root-square_of}
use Rattle.verdict.proofs.Known.{of_legs, legs_small, pairs_slight, length-sized, roots_small}
use Rattle.verdict.proofs.roots.squared.Goals as goal

pub drawn-e-requires : goal.drawn-e-requires
drawn-e-requires c = legs_small (legs_of c.args.legs) c.requires.0

-- ---- D, drawn
module _ (ds : List Pair) (o : OfLegs ds) (e : LegPowers) (is : Same pairs (leg_powers e) (power_form ds)) where
  abbrev D : List Pair
  D = power_form ds

  of_curve : OfCurve D
  of_curve = of_legs ds o

  e_small : AllWithin 1280000 (leg_powers e)
  e_small k = rw (is k) (pairs_slight D of_curve k)

  -- N
  module _ (n : Octic) (said : Same wholes (octic n) (norm_polynomial (leg_powers e))) where
    n-is : Same wholes (octic n) (norm_polynomial D)
    n-is j = said j ∙ norm_polynomial-same (leg_powers e) D is j

    n-sized : Each wholes Sized (octic n)
    n-sized j = rw (n-is j) (length-sized D of_curve j)

    n-top : (l : ℕ) → Top pairs (leg_powers e) l → Top wholes (octic n) (l + l)
    n-top l top = top-same (λ j. sym (n-is j)) (norm_polynomial-top (top-same is top))

  moves : (l : ℕ) → Top pairs (leg_powers e) l → Still D → ⊥
  moves l top = top_some (top-same is top)

pub returns-in_default : goal.returns-in_default
returns-in_default c k = sym (c.drawn-e.ensures k) ∙ c.in_default.ensures k

pub norm_polynomial-n-requires : goal.norm_polynomial-n-requires
norm_polynomial-n-requires c = e_small (legs_of c.args.legs) c.requires.0 c.drawn-e.result c.drawn-e.ensures

pub content-c-requires : goal.content-c-requires
content-c-requires c =
    let ds = legs_of c.args.legs in
    let e = c.drawn-e.result in
    let n = c.norm_polynomial-n.result in (
      n-sized ds c.requires.0 e c.drawn-e.ensures n c.norm_polynomial-n.ensures,
      top_some (n-top ds c.requires.0 e c.drawn-e.ensures n c.norm_polynomial-n.ensures c.in-Some.l c.in-Some.ensures.0),
    )

-- ---- the content, as it is stored
pub shared-requires : goal.shared-requires
shared-requires c =
    let h = c.content-c.ensures in
    let n = c.norm_polynomial-n.result in
    let kept : to_z w64 (of_z w64 c.content-c.result) ≡ c.content-c.result = read_back tt h.2 in (
      n-sized (legs_of c.args.legs) c.requires.0 c.drawn-e.result c.drawn-e.ensures n c.norm_polynomial-n.ensures,
      subst (Greatest wholes (octic n)) (sym kept) h.0,
      subst Positive (sym kept) h.1,
      subst Sized (sym kept) h.2,
    )

-- ---- N / c
module _ (c : goal.After-shared) where
  abbrev ds : List Pair
  ds = legs_of c.args.legs

  abbrev x : ℤ
  x = c.content-c.result

  abbrev M : List ℤ
  M = octic c.shared.result

  x-kept : to_z w64 (of_z w64 x) ≡ x
  x-kept = read_back tt c.content-c.ensures.2

  answered : Same wholes (scaled wholes x M) (octic c.norm_polynomial-n.result) × Each wholes Sized M
  answered = rw x-kept at c.shared.ensures

  said : Same wholes (octic c.norm_polynomial-n.result) (norm_polynomial (power_form ds))
  said = n-is ds c.requires.0 c.drawn-e.result c.drawn-e.ensures c.norm_polynomial-n.result c.norm_polynomial-n.ensures

  multiple : Same wholes (scaled wholes x M) (norm_polynomial (power_form ds))
  multiple j = answered.0 j ∙ said j

  content-is : Greatest wholes (norm_polynomial (power_form ds)) x
  content-is = greatest_same said c.content-c.ensures.0

  some : x ≢ pos 0
  some z = let h = c.content-c.ensures.1 in omega linear

pub whole_root-requires : goal.whole_root-requires
whole_root-requires c = (
  (answered c).1,
  top-quotient wholes_ring wholes_domain (some c) (answered c).0
      (n-top (ds c) c.requires.0 c.drawn-e.result c.drawn-e.ensures c.norm_polynomial-n.result c.norm_polynomial-n.ensures c.in-Some.l c.in-Some.ensures.0),
  c.in-Some.ensures.1,
)

pub returns-in_default-whole_root : goal.returns-in_default-whole_root
returns-in_default-whole_root c =
    let s = c.before.before in
    let E = power_form (ds s) in
    let positive = c.content-c.ensures.1 in (
      moves (ds s) c.requires.0 c.drawn-e.result c.drawn-e.ensures c.in-Some.l c.in-Some.ensures.0,
      no_root-not-squared E (x s) (M s) positive (content-is s) (multiple s)
          (λ q h. roots_small E (of_legs (ds s) c.requires.0) (x s) q positive h)
          c.in_default-whole_root.ensures,
    )

pub returns : goal.returns
returns c =
    let s = c.before.before in
    let E = power_form (ds s) in
    let q = c.in-Some-whole_root.q in (
      moves (ds s) c.requires.0 c.drawn-e.result c.drawn-e.ensures c.in-Some.l c.in-Some.ensures.0,
      subst (λ a. SquareOf E (record { c = a; q = q })) (sym (x-kept s))
          (root-square_of E (x s) (M s) c.content-c.ensures.1 (content-is s) (multiple s) q c.in-Some-whole_root.ensures),
      c.requires.1,
    )
