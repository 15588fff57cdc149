-- `preimages::generated` meets its contract: c = |κ|² and q = |w|².
use Rattle.std.proofs.Common.{List, ℕ, ◌≢◌, sym, subst}
use mathlib.Core.Path.{refl, ap, ◌∙◌}
use mathlib.Core.Logic.{⊎_elim}
use borrow.Author.Rules.{rules}
use mir.Syntax.{w64}
use mir.ValLaws.{to_z-of_z}
use Rattle.poly.specs.Polynomials.{scaled, square}
use Rattle.poly.specs.Terms.{Top}
use Rattle.poly.proofs.Top.{top_some, top-scaled, top-product, find-top}
use Rattle.pair.specs.declared.Pair.{Pair}
use Rattle.pair.specs.Pairs.{pairs}
use Rattle.pair.proofs.Laws.{pairs_ring, pairs_domain, pair-zero?}
use Rattle.verdict.specs.Verdicts.{Still, SquareOf, Coprime, quadratic}
use Rattle.verdict.proofs.Coprime.{coprime_primitive}
use Rattle.verdict.proofs.Norms.{generated-square_of}
use Rattle.verdict.proofs.Turned.{coprime_some, pre_holds}
use Rattle.verdict.proofs.preimages.generated.Goals as goal

-- w is not 0, and so neither is κ w²
top : (w : List Pair) → Coprime w → (l : ℕ) × Top pairs w l
top w h = ⊎_elim (λ z. absurd (coprime_some w h z)) (λ t. t) (find-top pair-zero? w)

moves : (κ : Pair) (w : List Pair) → κ ≢ pairs.none → Coprime w → Still (scaled pairs κ (square pairs w)) → ⊥
moves κ w some h = let t = (top w h).1 in top_some (top-scaled pairs_ring pairs_domain some (top-product pairs_ring pairs_domain t t))

pub normalised-requires : goal.normalised-requires
normalised-requires c = let h = c.requires in (h.0, h.1, h.2, coprime_some (quadratic c.args.s.w) h.3)

pub returns : goal.returns
returns c =
    let s = c.args.s in
    let w = quadratic s.w in
    let D = scaled pairs s.k (square pairs w) in
    let h = c.normalised.ensures in
    let q = c.speed.result in
    let stored = to_z-of_z w64 c.norm.result (search rules) ∙ c.norm.ensures in
    let square_of = generated-square_of D s.k w q c.requires.1 (coprime_primitive w c.requires.3) (top w c.requires.3).1 (λ k. refl) c.speed.ensures in
    pre_holds D w s.k c.normalised.result (moves s.k w c.requires.1 c.requires.3) (λ k. refl) c.requires.3
    (subst (SquareOf D) (sym (h.1 ∙ ap (λ x. record { c = x; q = q }) stored)) square_of) h.0
