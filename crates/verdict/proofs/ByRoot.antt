-- v² = d D with d not 0, for D of any degree: v divided by its greatest common divisor e is a w of D = κ w², and κ is e² / d.
--   whole              d divides e², by Gauss's lemma
--   root_preimage      w is coprime, and D = κ w²
--   root-whole         d divides e², whatever w is
--   by_root            there are such κ and w
use mathlib.Core.Path.{◌≡◌, sym, ap, ◌∙◌}
use mathlib.Core.List.{List}
use mathlib.Core.Logic.{◌≢◌, ⊎_elim}
use Rattle.whole.specs.Coefficients.{at, Divides, Greatest}
use Rattle.poly.specs.Polynomials.{Same, scaled, square}
use Rattle.poly.specs.Terms.{Primitive}
use Rattle.poly.proofs.Lists.{at_scaled, square-scaled, square-same}
use Rattle.poly.proofs.Domain.{times_cancel}
use Rattle.poly.proofs.Gauss.{primitive_product}
use Rattle.poly.proofs.Content.{quotients, quotient_primitive, primitive_greatest}
use Rattle.pair.specs.declared.Pair.{Pair}
use Rattle.pair.specs.Pairs.{pairs, times}
use Rattle.pair.proofs.Laws.{pairs_ring, pairs_domain, times_assoc}
use Rattle.divisor.proofs.Euclid.{pairs_bezout}
use Rattle.verdict.specs.Verdicts.{Generated, Coprime}
use Rattle.verdict.proofs.Coprime.{primitive_coprime}
use Rattle.verdict.specs.Rules.{ByDivisor}

module _ (D v : List Pair) (d e : Pair) (d_some : d ≢ pairs.none) (e_some : e ≢ pairs.none)
    (s : Same pairs (square pairs v) (scaled pairs d D)) (g : Greatest pairs v e) where
  square_some : times e e ≢ pairs.none
  square_some z = ⊎_elim e_some e_some (pairs_domain.splits e e z)

  module _ (w : List Pair) (f : Same pairs (scaled pairs e w) v) where
    primitive : Primitive pairs w
    primitive = quotient_primitive pairs_ring pairs_domain w e_some g f

    -- d D = e² w²
    squared : Same pairs (scaled pairs (times e e) (square pairs w)) (scaled pairs d D)
    squared k = sym (square-scaled pairs_ring e w k) ∙ square-same pairs_ring (scaled pairs e w) v f k ∙ s k

    whole : Divides pairs d (times e e)
    whole =
        (primitive_greatest pairs_ring pairs_bezout pairs_domain (scaled pairs d D) (square pairs w) (times e e) square_some
        (primitive_product pairs_ring pairs_bezout w w primitive primitive) squared
        ).greatest d (λ k. record { factor = at pairs D k; is = sym (at_scaled pairs_ring d D k) })

    generated : (κ : Pair) → times d κ ≡ times e e → Generated D κ w
    generated κ t k =
        times_cancel pairs_ring pairs_domain d _ _ d_some
        (sym (at_scaled pairs_ring d D k)
        ∙ sym (squared k)
        ∙ at_scaled pairs_ring (times e e) (square pairs w) k
        ∙ ap (λ x. times x (at pairs (square pairs w) k)) (sym t)
        ∙ times_assoc d κ (at pairs (square pairs w) k)
        ∙ ap (times d) (sym (at_scaled pairs_ring κ (square pairs w) k)))

    pub root_preimage : ByDivisor D d e w
    root_preimage = record { coprime = primitive_coprime w primitive; whole = whole; generated = generated }

  pub root-whole : Divides pairs d (times e e)
  root-whole = let (w, f) = quotients pairs_ring e v g.divides in whole w f

  pub by_root : (κ : Pair) × (w : List Pair) × Generated D κ w × Coprime w
  by_root =
      let (w, f) = quotients pairs_ring e v g.divides in
      let h = whole w f in
      (h.factor, w, generated w f h.factor h.is, primitive_coprime w (primitive w f))
