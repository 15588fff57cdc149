-- N = c q²: what a root of N divided by its content says, and that no root there means no square.
--   no_root-not-squared      N = c M with c its greatest common divisor: where M has no root, N is no positive multiple of a square
--   root-square_of           and where it has one with a positive lead, c and that root are the ones that the rules leave
use mathlib.Core.Path.{sym, ◌∙◌}
use mathlib.Core.List.{List}
use lib.IntN.{ℤ, pos}
use lib.Signed.{◌<ℤ◌}
use Rattle.poly.specs.Polynomials.{Same, scaled, square}
use Rattle.whole.specs.Coefficients.{Greatest}
use Rattle.std.specs.Prelude.{Some}
use Rattle.whole.specs.Number.{wholes}
use Rattle.whole.proofs.Wholes.{wholes_ring}
use Rattle.poly.proofs.Lists.{scaled-same}
use Rattle.poly.proofs.Wholes.{whole-square}
use Rattle.pair.specs.declared.Pair.{Pair}
use Rattle.root.specs.declared.Quartic.{Quartic}
use Rattle.root.specs.Search.{Each}
use Rattle.root.specs.Promise.{quartic, IsWholeRoot, Small}
use Rattle.curve.specs.Curves.{norm_polynomial}
use Rattle.verdict.specs.Verdicts.{Squared, NotSquared, SquareOf}

module _ (D : List Pair) (c : ℤ) (M : List ℤ) (h : pos 0 <ℤ c) (g : Greatest wholes (norm_polynomial D) c)
    (e : Same wholes (scaled wholes c M) (norm_polynomial D)) where
  root-squared : (q : List ℤ) → Same wholes (square wholes q) M → Squared D c q
  root-squared q i k = sym (e k) ∙ sym (scaled-same wholes_ring c (square wholes q) M i k)

  pub no_root-not-squared : ((q : List ℤ) → Squared D c q → Each wholes Small q) → ((q : List ℤ) → Each wholes Small q → Same wholes (square wholes q) M → ⊥) → NotSquared D
  no_root-not-squared small none c' q h' s =
      let r = whole-square c' M q h h' g e s in
      let i : Same wholes (square wholes r.root) M = λ k. sym (r.squared k) in
      none r.root (small r.root (root-squared r.root i)) i

  pub root-square_of : (q : Quartic) → IsWholeRoot M (Some q) → SquareOf D (record { c = c; q = q })
  root-square_of q r = record { positive = h; squared = root-squared (quartic q) r.squared; content = g; lead = r.lead }
