-- For every curve there is a verdict that holds: whether N is some c q² and D some κ w² is decided by trying, since all their numbers are bounded.
--   square_or_none       of a curve in range that moves: the c and q of N, or that there are none,
--   preimage_or_none     and the κ and w of D, or that there are none
--   verdict_found        of a curve in range, a verdict that holds
--   recognised_found     of any curve, an answer that keeps the promise of `recognise`
use mathlib.Core.Path.{◌≡◌, refl, sym, ap, ◌∙◌, subst}
use mathlib.Core.List.{List, [], ◌∷◌}
use mathlib.Core.Logic.{◌⊎◌, inl, inr}
use Prim.Native.Nat.{ℕ, ◌+◌, ◌≤◌}
use native.Mathlib.Omega.{arith}
use lib.IntN.{ℤ, pos, nat_abs, ℤ_discrete}
use lib.ListN.{length}
use lib.Signed.{◌<ℤ◌}
use Rattle.std.specs.Prelude.{Result, Ok, Err}
use Rattle.refusal.specs.declared.Refusal.{Refusal}
use Rattle.refusal.specs.declared.Refusal.TheVariants as R
use Rattle.whole.specs.Coefficients.{at, Greatest}
use Rattle.poly.specs.Polynomials.{scaled, square}
use Rattle.whole.specs.Number.{wholes, Within}
use Rattle.whole.proofs.Linear.{linear}
use Rattle.poly.proofs.Deciding.{same?, Tried, tried?, tried_found}
use Rattle.poly.specs.Terms.{Above}
use Rattle.poly.proofs.Wholes.{content_once, positive_content}
use Rattle.pair.specs.declared.Pair.{Pair}
use Rattle.pair.specs.Pairs.{pair, pairs, norm, PartsWithin}
use Rattle.pair.proofs.Laws.{pair-equal?}
use Rattle.divisor.proofs.Division.{parts_below-norm}
use Rattle.root.specs.Promise.{quartic, root_size}
use Rattle.curve.specs.declared.Curve.{Curve}
use Rattle.curve.specs.Curves.{points_of, InRange, leg_polynomial, norm_polynomial}
use Rattle.curve.proofs.LegPolynomial.{points_of_length, leg_polynomial-fourth}
use Rattle.curve.proofs.Norms.{norm_polynomial-zero}
use Rattle.verdict.specs.declared.Square.{Square}
use Rattle.verdict.specs.declared.Preimage.{Preimage}
use Rattle.verdict.specs.declared.Verdict.{Verdict}
use Rattle.verdict.specs.declared.Verdict.TheVariants as verdict
use Rattle.verdict.specs.Verdicts.{Still, Squared, NotSquared, Generated, NotGenerated, SquareOf, PreimageOf, Holds, quadratic}
use Rattle.verdict.specs.Promise.{Recognised}
use Rattle.verdict.proofs.Once.{square_once, preimage_norms}
use Rattle.verdict.proofs.Normal.{square-found, preimage_found}
use Rattle.verdict.proofs.Refusals.{recognised_by}
use Rattle.verdict.proofs.FoundSizes.{in-range?}
use Rattle.verdict.proofs.RootSizes.{root-within, preimage_within}

-- κ and w from eight numbers
abbrev factor_of : List ℤ → Pair
factor_of xs = pair (at wholes xs 0) (at wholes xs 1)

abbrev root_of : List ℤ → List Pair
root_of xs = pair (at wholes xs 2) (at wholes xs 3) ∷ pair (at wholes xs 4) (at wholes xs 5) ∷ pair (at wholes xs 6) (at wholes xs 7) ∷ []

module _ (ps : List Pair) (r : InRange ps) (l : length ps ≤ 6) where
  abbrev D : List Pair
  D = leg_polynomial ps

  low : Above pairs (at pairs D) 4
  low = leg_polynomial-fourth ps l

  module _ (some : Still D → ⊥) where
    -- the content of N is the only c, and q has five coefficients
    module _ (c : ℤ) (h : pos 0 <ℤ c) (g : Greatest wholes (norm_polynomial D) c) where
      root_or_none : Dec (Tried root_size 5 (Squared D c)) → ((s : Square) × SquareOf D s) ⊎ NotSquared D
      unfolding Tried
      root_or_none (yes t) = let (q, e) = tried_found root_size 5 (Squared D c) t in inl (square-found D c q low some h e)
      root_or_none (no n) = inr (λ d q i e. let (s, k) = square-found D d q low some i e in none s k (root-within ps r l s.c (quartic s.q) k.positive k.squared))
        where
          none : (s : Square) → SquareOf D s → ((k : ℕ) → Within root_size (at wholes (quartic s.q) k)) → ⊥
          none s k small =
              let same : s.c ≡ c = content_once (omega (linear, k.positive)) (omega (linear, h)) k.content g in
              let q = s.q in
              n (q.q0, small 0, (q.q1, small 1, (q.q2, small 2, (q.q3, small 3, (q.q4, small 4, subst (λ (x : ℤ). Squared D x (quartic q)) same k.squared)))))

    pub square_or_none : ((s : Square) × SquareOf D s) ⊎ NotSquared D
    square_or_none =
        let (c, h, g) = positive_content (norm_polynomial D) (λ z. some ((norm_polynomial-zero D).1 z)) in
        root_or_none c h g (tried? root_size 5 (Squared D c) (λ q. same? wholes ℤ_discrete (norm_polynomial D) (scaled wholes c (square wholes q))))

    -- |κ|² is c, and w has three coefficients
    module _ (s : Square) (k : SquareOf D s) where
      abbrev B : ℕ
      B = nat_abs s.c + 2000

      abbrev Makes : List ℤ → Type 0
      Makes xs = Generated D (factor_of xs) (root_of xs)

      factor_small : (p : Preimage) → PreimageOf D p → PartsWithin (nat_abs s.c) p.kappa
      factor_small p j =
          let e : norm p.kappa ≡ s.c = sym (preimage_norms D p j).0 ∙ ap (λ (t : Square). t.c) (square_once D p.square s j.square_of k) in
          subst (λ (x : ℤ). PartsWithin (nat_abs x) p.kappa) e (parts_below-norm p.kappa)

      generator_or_none : Dec (Tried B 8 Makes) → ((p : Preimage) × PreimageOf D p) ⊎ NotGenerated D
      unfolding Tried
      generator_or_none (yes t) = let (xs, e) = tried_found B 8 Makes t in inl (preimage_found D s _ _ low some k e)
      generator_or_none (no n) = inr (λ κ w e.
          let (p, j) = preimage_found D s κ w low some k e in none p j (factor_small p j) (preimage_within ps r l p.kappa (quadratic p.w) some j.generated))
        where
          wider : {b : ℕ} {x : ℤ} → Within b x → b ≤ B → Within B x
          wider w h = record { size = omega (arith, w.size) }

          none : (p : Preimage) → PreimageOf D p → PartsWithin (nat_abs s.c) p.kappa → ((i : ℕ) → PartsWithin 2000 (at pairs (quadratic p.w) i)) → ⊥
          none p j f v =
              let w = p.w in
              let x : PartsWithin B p.kappa = record { re = wider f.re (omega arith); im = wider f.im (omega arith) } in
              let y : (i : ℕ) → PartsWithin B (at pairs (quadratic w) i) = λ i. record { re = wider (v i).re (omega arith); im = wider (v i).im (omega arith) } in
              n (
                p.kappa.re,
                x.re,
                (
                  p.kappa.im,
                  x.im,
                  (
                    w.b0.re,
                    (y 0).re,
                    (
                      w.b0.im,
                      (y 0).im,
                      (w.b1.re, (y 1).re, (w.b1.im, (y 1).im, (w.b2.re, (y 2).re, (w.b2.im, (y 2).im, j.generated)))),
                    ),
                  ),
                ),
              )

      pub preimage_or_none : ((p : Preimage) × PreimageOf D p) ⊎ NotGenerated D
      preimage_or_none = generator_or_none (tried? B 8 Makes (λ xs. same? pairs pair-equal? D (scaled pairs (factor_of xs) (square pairs (root_of xs)))))

    moving : (v : Verdict) × Holds D v
    moving = of square_or_none
      where
        by : (s : Square) → SquareOf D s → ((p : Preimage) × PreimageOf D p) ⊎ NotGenerated D → (v : Verdict) × Holds D v
        by s k (inl (p, j)) = (verdict.Pre p, (some, j))
        by s k (inr n) = (verdict.Ph s, (some, k, n))

        of : ((s : Square) × SquareOf D s) ⊎ NotSquared D → (v : Verdict) × Holds D v
        of (inl (s, k)) = by s k (preimage_or_none s k)
        of (inr n) = (verdict.No, (some, n))

  pub verdict_found : (v : Verdict) × Holds D v
  verdict_found = by (same? pairs pair-equal? D [])
    where
      by : Dec (Still D) → (v : Verdict) × Holds D v
      by (yes z) = (verdict.Still, z)
      by (no some) = moving some

pub recognised_found : (curve : Curve) → (r : Result Verdict Refusal) × Recognised (points_of curve) r
recognised_found curve = by (in-range? (points_of curve))
  where
    by : Dec (InRange (points_of curve)) → (r : Result Verdict Refusal) × Recognised (points_of curve) r
    by (yes i) = let (v, h) = verdict_found (points_of curve) i (points_of_length curve) in (Ok v, recognised_by (points_of curve) i v h)
    by (no out) = (Err R.Range, (inl (out, refl), refl))
