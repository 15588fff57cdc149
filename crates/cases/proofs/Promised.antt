-- From what is known of a curve or of a join to the promises that a row of the table names.
--   spread                 the sizes of all coordinates, added up: where that is small, every coordinate is in range
--   Finds                  that `preimage_of` finds a pre-image
--   no_row, ph-row, pre-row     a row of each verdict
--   measured, long, turned, offset      the claims on a curve with a pre-image
--   joins-row              a row of joins
use mathlib.Core.Path.{◌≡◌, refl, sym, ap, ◌∙◌}
use mathlib.Core.Bool.{false}
use mathlib.Core.List.{List, [], ◌∷◌, ◌++◌}
use mathlib.Core.Logic.{◌≢◌, inl, inr, ⊎_elim}
use Prim.Native.Nat.{ℕ, ◌+◌, ◌-◌, ◌*◌, ◌≤◌, ◌<◌}
use native.Mathlib.Omega.{arith}
use lib.IntN.{ℤ, pos, nat_abs, ◌*ℤ◌, zero-*ℤ}
use lib.ListN.{length, replicate, length-append, length-replicate}
use Rattle.std.specs.Prelude.{Ok}
use Rattle.refusal.specs.Table.{Cause, First}
use Rattle.refusal.specs.Answers.{given}
use Rattle.refusal.proofs.Laws.{first_after_lem}
use Rattle.poly.specs.Polynomials.{scaled}
use Rattle.whole.specs.Number.{wholes, Within}
use Rattle.whole.proofs.Linear.{linear}
use Rattle.whole.proofs.Squares.{Between}
use Rattle.area.specs.Area.{Fills}
use Rattle.poly.specs.Terms.{value}
use Rattle.pair.specs.declared.Pair.{Pair}
use Rattle.pair.specs.Pairs.{pairs, times, norm}
use Rattle.pair.proofs.Parts.{wider}
use Rattle.root.specs.Promise.{quartic}
use Rattle.curve.specs.declared.Curve.{Curve}
use Rattle.curve.specs.Curves.{InRange, points_of, leg_polynomial, norm_polynomial}
use Rattle.curve.specs.Promise.{out_of_range}
use Rattle.curve.proofs.Norms.{norm_polynomial-zero}
use Rattle.curve.specs.Sizes.{coordinate_reach}
use Rattle.verdict.specs.declared.Square.{Square}
use Rattle.verdict.specs.declared.Preimage.{Preimage}
use Rattle.verdict.specs.declared.Verdict.{Verdict}
use Rattle.verdict.specs.declared.Verdict.TheVariants as verdict
use Rattle.verdict.specs.Verdicts.{Still, SquareOf, PreimageOf, Holds}
use Rattle.verdict.specs.Promise.{still, not_ph, no_preimage, Recognised, Preimaged}
use Rattle.verdict.proofs.Multiples.{not-squared_moves}
use Rattle.verdict.proofs.Refusals.{recognised_by, recognised_preimage}
use Rattle.measure.specs.declared.Turning.{Turning}
use Rattle.measure.specs.declared.lengths.Length.{Length}
use Rattle.measure.specs.Lengths.{length_of}
use Rattle.measure.specs.Turns.{turning_of, Straight, CountIs}
use Rattle.measure.specs.Promise.{Measured, Inflected}
use Rattle.offset.specs.Promise.{offset_curve, offset_numbers, needs, beyond, no_root, no_room, OffsetBy}
use Rattle.join.specs.Promise as join
use Rattle.cases.specs.Rows.{Claim, SaysAll, CurveHolds, Long, JoinsHold, filled}
use Rattle.cases.proofs.Certificates.{not-squared, not-generated}

-- ---- verdicts
abbrev pub spread : List Pair → ℕ
spread [] = 0
spread (p ∷ ps) = nat_abs p.re + nat_abs p.im + spread ps

in_range_lem : (ps : List Pair) → spread ps ≤ coordinate_reach → InRange ps
in_range_lem [] h = tt
in_range_lem (p ∷ ps) h = (record { re = record { size = omega arith }; im = record { size = omega arith } }, in_range_lem ps (omega arith))

recognised : (ps : List Pair) (v : Verdict) → spread ps ≤ coordinate_reach → Holds (leg_polynomial ps) v → Recognised ps (Ok v)
recognised ps v h k = recognised_by ps (in_range_lem ps h) v k

-- a curve whose N is c q² is not still: 0 would divide c
square_moves : (D : List Pair) (s : Square) → SquareOf D s → Still D → ⊥
square_moves D s h z =
    let d = h.content.greatest (pos 0) (λ k. record { factor = pos 0; is = sym ((norm_polynomial-zero D).0 z k) }) in
    omega (linear, h.positive, sym (zero-*ℤ d.factor) ∙ d.is)

abbrev D : Curve → List Pair
D curve = leg_polynomial (points_of curve)

-- a record, so that it says by itself of which curve
pub record Finds (curve : Curve) (p : Preimage) : Type 0 where
  pub found : Preimaged (points_of curve) (Ok p)

module _ {curve : Curve} {claims : List Claim} (small : spread (points_of curve) ≤ coordinate_reach) where
  pub no_row : (x y : ℤ) → Between (value wholes x (norm_polynomial (D curve)) *ℤ value wholes y (norm_polynomial (D curve)))
      → SaysAll curve claims → CurveHolds curve verdict.No claims
  no_row x y b f =
      let h = not-squared (D curve) x y b in
      record { recognised = recognised (points_of curve) verdict.No small (not-squared_moves (D curve) h, h); said = f }

  pub ph-row : {s : Square} → SquareOf (D curve) s → (x y : Pair) → Between (norm (times (value pairs x (D curve)) (value pairs y (D curve))))
      → SaysAll curve claims → CurveHolds curve (verdict.Ph s) claims
  ph-row {s} h x y b f = record {
    recognised = recognised (points_of curve) (verdict.Ph s) small (square_moves (D curve) s h, h, not-generated (D curve) x y b);
    said = f;
  }

  pub pre-row : {p : Preimage} → PreimageOf (D curve) p → (Finds curve p → SaysAll curve claims) → CurveHolds curve (verdict.Pre p) claims
  pre-row {p} h f =
      let r = recognised (points_of curve) (verdict.Pre p) small (square_moves (D curve) p.square h.square_of, h) in
      record { recognised = r; said = f (record { found = recognised_preimage (points_of curve) (Ok (verdict.Pre p)) r }) }

-- ---- an area made of an answer and zeros
filled-length : (room : ℕ) (vs : List ℤ) → length vs ≤ room → length (filled room vs) ≡ room
filled-length room vs h = omega (arith, length-append vs (replicate (room - length vs) (pos 0)), length-replicate (room - length vs) (pos 0))

filled_fills : (room : ℕ) (vs : List ℤ) → length vs ≤ room → Fills vs (filled room vs)
filled_fills room vs h = ap (λ n. vs ++ replicate (n - length vs) (pos 0)) (sym (filled-length room vs h))

-- ---- claims on a curve with a pre-image
-- why a curve in range has none
abbrev no_way : List Pair → List Cause
no_way ps = still ps ∷ not_ph ps ∷ no_preimage ps ∷ []

module _ {curve : Curve} {p : Preimage} (i : Finds curve p) where
  pub measured : {l : Length} → l ≡ length_of curve p.square → Measured curve (Ok l)
  measured e = (i.found.0, record { preimage = p; is_preimage = i.found.1; has = e })

  pub long : {whole : ℕ} → let l = length_of curve p.square in l.c *ℤ (l.a *ℤ l.a) ≡ pos (whole * whole) *ℤ (l.b *ℤ l.b) → Long curve whole
  long e = record { l = length_of curve p.square; measured = measured refl; is = e }

  pub turned : {x : Turning} {k : ℕ} → x ≡ turning_of p.w → CountIs x k → (Straight x → ⊥) → Inflected curve (Ok (record { turning = x; count = k; straight = false }))
  turned e n s = (i.found.0, record { preimage = p; is_preimage = i.found.1; has = record { turning = e; count = n; straight = s } })

  pub offset : {h : ℤ} {vs : List ℤ} (m : ℕ) → p.square.c ≡ pos (m * m) → Within coordinate_reach h
      → offset_numbers curve (offset_curve (points_of curve) (scaled wholes (pos m) (quartic p.square.q)) h) ≡ vs → length vs ≡ needs curve
      → (area : List ℤ) → needs curve ≤ length area → OffsetBy curve h area (filled (length area) vs) (Ok (needs curve))
  offset {h} {vs} m root w e l area room = record {
    answer = given vs;
    first_or = (none i.found.0, record { preimage = p; is_preimage = i.found.1; has = record { m = m; root = root; is = sym e } });
    counts = ap given (sym l);
    same_room = filled-length (length area) vs (omega arith);
    fills = filled_fills (length area) vs (omega arith);
  }
    where
      none : First (out_of_range (points_of curve) ∷ no_way (points_of curve)) 0
          → First (beyond curve h ∷ no_way (points_of curve) ++ no_root (points_of curve) ∷ no_room curve (length area) ∷ []) 0
      none (inl out) = absurd (omega (arith, out.1))
      none (inr (inside, f)) =
          inr (λ out. inside (λ r. out (r, w)), first_after_lem (no_way (points_of curve)) (no_root (points_of curve) ∷ no_room curve (length area) ∷ []) 0 f (inr (λ n. n p m i.found.1 root, inr (λ less. omega arith, refl))))

-- ---- joins
pub joins-row : {a z T : Pair} {ws : List join.Triple} → spread (a ∷ z ∷ T ∷ []) ≤ coordinate_reach → 0 < spread (a ∷ []) → 0 < spread (z ∷ []) → length (join.numbers ws) ≤ 24
    → join.AllJoins a z T ws → JoinsHold a z T ws
joins-row {a} {z} {T} {ws} small first last few h = record {
  all = h;
  answer = λ area n. record {
    answer = given ws;
    first_or = (inr (λ out. out range, inr (⊎_elim (some a first) (some z last), inr (λ less. omega arith, refl))), h);
    counts = refl;
    same_room = filled-length (length area) (join.numbers ws) (omega arith);
    fills = filled_fills (length area) (join.numbers ws) (omega arith);
  };
}
  where
    some : (p : Pair) → 0 < spread (p ∷ []) → p ≢ pairs.none
    some p l e = omega (arith, l, ap (λ t. spread (t ∷ [])) e)

    range : join.EndsInRange a z T
    range = let (i, (j, (k, e))) = in_range_lem (a ∷ z ∷ T ∷ []) small in record { first = i; last = j; travel = wider (omega arith) k }
