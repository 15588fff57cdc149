-- The promise of `offset` has one answer.
--   offset_once     two answers, and two areas, that meet the promise for the same input are equal
use mathlib.Core.Path.{◌≡◌, sym, ap, ◌∙◌}
use mathlib.Core.List.{List}
use Prim.Native.Nat.{ℕ}
use lib.IntN.{ℤ, pos, nat_abs}
use Rattle.std.specs.Prelude.{Result}
use Rattle.refusal.specs.declared.Refusal.{Refusal}
use Rattle.refusal.proofs.Answers.{answer_once}
use Rattle.whole.specs.Number.{wholes}
use Rattle.poly.specs.Polynomials.{scaled}
use Rattle.area.proofs.Promises.{first_or_in_once}
use Rattle.pair.proofs.Laws.{root-equal}
use Rattle.root.specs.Promise.{quartic}
use Rattle.curve.specs.declared.Curve.{Curve}
use Rattle.curve.specs.Curves.{points_of, leg_polynomial}
use Rattle.verdict.proofs.Once.{one_preimage}
use Rattle.offset.specs.Promise.{offset_curve, offset_numbers, OffsetOf, OffsetBy}

module _ (curve : Curve) (h : ℤ) where
  numbers_once : (a b : List ℤ) → OffsetOf curve h a → OffsetOf curve h b → a ≡ b
  numbers_once a b i j =
      let (p, k, l) = one_preimage (leg_polynomial (points_of curve)) i j in
      let m : k.m ≡ l.m = root-equal k.m l.m (ap nat_abs (sym k.root ∙ l.root)) in
      k.is ∙ ap (λ n. offset_numbers curve (offset_curve (points_of curve) (scaled wholes (pos n) (quartic p.square.q)) h)) m ∙ sym l.is

  pub offset_once : (before a b : List ℤ) (r s : Result ℕ Refusal) → OffsetBy curve h before a r → OffsetBy curve h before b s → (r ≡ s) × (a ≡ b)
  offset_once before a b r s i j = let (e, areas) = first_or_in_once numbers_once i j in (answer_once r s e, areas)
