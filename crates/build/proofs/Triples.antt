-- Three w's, and two of them with 0 for the third.
--   of_three                   what holds of each of three and of 0 holds of the list:
--   all-within                 so it is with a bound
--   allowed_two, none_two      a flag that tells of a list of three which ends in 0 tells of the list of two
use mathlib.Core.Path.{◌≡◌, refl, sym, subst, fun_ext}
use mathlib.Core.Bool.{Bool}
use mathlib.Core.List.{[], ◌∷◌}
use Prim.Native.Nat.{ℕ, zero, suc}
use Rattle.whole.specs.Coefficients.{at}
use Rattle.poly.specs.Polynomials.{Same}
use Rattle.whole.specs.Number.{Tells}
use Rattle.poly.proofs.Series.{Series}
use Rattle.poly.proofs.Zeros.{same-padded}
use Rattle.pair.specs.declared.Pair.{Pair}
use Rattle.pair.specs.Pairs.{pairs, PartsWithin, AllWithin}
use Rattle.pair.proofs.Parts.{zero-within}
use Rattle.curve.specs.Sizes.{coordinate_reach}
use Rattle.build.specs.Promise.{Allowed, AllZero, source_reach}

of_three : (P : Pair → Type 0) {w0 w1 w2 : Pair} → P w0 → P w1 → P w2 → P pairs.none → (k : ℕ) → P (at pairs (w0 ∷ w1 ∷ w2 ∷ []) k)
of_three P h0 h1 h2 none zero = h0
of_three P h0 h1 h2 none (suc zero) = h1
of_three P h0 h1 h2 none (suc (suc zero)) = h2
of_three P h0 h1 h2 none (suc (suc (suc k))) = none

pub all-within : {B : ℕ} {w0 w1 w2 : Pair} → PartsWithin B w0 → PartsWithin B w1 → PartsWithin B w2 → AllWithin B (w0 ∷ w1 ∷ w2 ∷ [])
all-within {B} h0 h1 h2 = of_three (PartsWithin B) h0 h1 h2 zero-within

module _ (w0 w1 : Pair) where
  same : Same pairs (w0 ∷ w1 ∷ pairs.none ∷ []) (w0 ∷ w1 ∷ [])
  same k = sym (same-padded pairs 1 (w0 ∷ w1 ∷ []) (w0 ∷ w1 ∷ pairs.none ∷ []) refl k)

  pub allowed_two : (p0 : Pair) (r : Bool) → Tells (Allowed p0 (w0 ∷ w1 ∷ pairs.none ∷ [])) r → Tells (Allowed p0 (w0 ∷ w1 ∷ [])) r
  allowed_two p0 r = subst (λ (f : Series Pair). Tells (PartsWithin coordinate_reach p0 × ((k : ℕ) → PartsWithin source_reach (f k))) r) (fun_ext same)

  pub none_two : (r : Bool) → Tells (AllZero (w0 ∷ w1 ∷ pairs.none ∷ [])) r → Tells (AllZero (w0 ∷ w1 ∷ [])) r
  none_two r = subst (λ (f : Series Pair). Tells ((k : ℕ) → f k ≡ pairs.none) r) (fun_ext same)
