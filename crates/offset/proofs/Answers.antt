-- The answers of the steps, put together to that of the call.
--   root-asked                      what is known of the root of a curve with a pre-image
--   denominated_refused, denominated_found      W, or the refusal, from the answers of the tests
--   offset-refused, offset-put      the offset, or the refusal, from W and the area
--   written-needs                   an offset that is written has as many numbers as its curve needs
use mathlib.Core.Path.{◌≡◌, refl, ap, ◌∙◌}
use mathlib.Core.List.{List, [], ◌∷◌}
use mathlib.Core.Logic.{inl, inr}
use Prim.Native.Nat.{ℕ, zero, suc, ◌*◌}
use native.Mathlib.Omega.{arith}
use lib.IntN.{ℤ}
use lib.ListN.{length}
use Rattle.std.specs.Prelude.{Result, Ok, Err}
use Rattle.refusal.specs.declared.Refusal.{Refusal}
use Rattle.refusal.specs.Table.{Cause, First, number_of}
use Rattle.refusal.specs.Answers.{answer_of}
use Rattle.refusal.proofs.Laws.{first-kept, first_after_lem, number_some}
use Rattle.refusal.proofs.Answers.{first_or_by}
use Rattle.whole.specs.Number.{Within}
use Rattle.area.specs.Area.{Cleared}
use Rattle.area.proofs.Promises.{refuse_in, given_in, first_or_in_by}
use Rattle.pair.specs.declared.Pair.{Pair}
use Rattle.root.specs.declared.Quartic.{Quartic}
use Rattle.root.specs.Promise.{quartic}
use Rattle.curve.specs.declared.Curve.{Curve}
use Rattle.curve.specs.Curves.{points_of, leg_polynomial}
use Rattle.curve.proofs.LegPolynomial.{points_of_length}
use Rattle.curve.specs.Sizes.{coordinate_reach}
use Rattle.verdict.specs.declared.Preimage.{Preimage}
use Rattle.verdict.specs.Promise.{still, not_ph, no_preimage, preimage_causes, Preimaged}
use Rattle.verdict.proofs.RootSizes.{root-size}
use Rattle.verdict.proofs.Once.{preimage_once}
use Rattle.verdict.proofs.FoundSizes.{found_in_range}
use Rattle.offset.specs.Promise.{offset_curve, point_numbers, offset_degree, needs, offset_numbers, beyond, no_root, no_room, curve_causes, OffsetBy}
use Rattle.offset.specs.Steps.{RootAsked, no_square, IsRooted, Denominated, PutIn}

module _ (curve : Curve) where
  abbrev ps : List Pair
  ps = points_of curve

  -- ---- a curve with a pre-image
  module _ (p : Preimage) (i : Preimaged ps (Ok p)) where
    pub root-asked : RootAsked p.square
    root-asked =
        let s = i.1.square_of in
        record { positive = s.positive; small = root-size ps (found_in_range ps p i) (points_of_length curve) p.square.c (quartic p.square.q) s.positive s.squared }

    -- the root of c is that of the one pre-image
    root_cause : (n : ℕ) → First (no_square p.square ∷ []) n → First (no_root ps ∷ []) n
    root_cause n (inl (none, e)) =
        inl (λ q m k f. none m (ap (λ (z : Preimage). z.square.c) (preimage_once (leg_polynomial ps) p q i.1 k) ∙ f), e)
    root_cause n (inr (some, e)) = inr (λ none. some (λ m f. none p m i.1 f), e)

  -- ---- W
  module _ (h : ℤ) where
    module _ (w : Within coordinate_reach h) where
      -- the causes of the pre-image, with h in the range
      abbrev causes : List Cause
      causes = beyond curve h ∷ still ps ∷ not_ph ps ∷ no_preimage ps ∷ []

      with_h : (n : ℕ) → First (preimage_causes ps) n → First causes n
      with_h n (inl f) = inl (λ both. f.0 both.0, f.1)
      with_h n (inr f) = inr (λ out. f.0 (λ r. out (r, w)), f.1)

      pub denominated_refused : (r : Refusal) → Preimaged ps (Err r) → Denominated curve h (Err r)
      denominated_refused r i = (first-kept causes (no_root ps ∷ []) (number_of r) (with_h (number_of r) i.0) (number_some r), i.1)

      pub denominated_found : (p : Preimage) → Preimaged ps (Ok p) → (r : Result Quartic Refusal) → IsRooted p.square r → Denominated curve h r
      denominated_found p i r =
          first_or_by (no_square p.square ∷ []) (curve_causes curve h)
          (λ n f. first_after_lem causes (no_root ps ∷ []) n (with_h 0 i.0) (root_cause p i n f))
          (λ v k. record {
            asked = record { range = found_in_range ps p i; h_small = w; w_small = k.small };
            rooted = record { preimage = p; is_preimage = i.1; has = k };
          })
          (answer_of r)

    -- ---- the area
    pub offset-refused : (r : Refusal) (before after : List ℤ) (s : Result ℕ Refusal) → Denominated curve h (Err r) → Cleared before after × (s ≡ Err r) → OffsetBy curve h before after s
    offset-refused r before after s i = refuse_in r (first-kept (curve_causes curve h) (no_room curve (length before) ∷ []) (number_of r) i.0 (number_some r))

    pub offset-put : (w : Quartic) (before after : List ℤ) (r : Result ℕ Refusal) → Denominated curve h (Ok w) → PutIn curve (offset_curve ps (quartic w) h) before after r → OffsetBy curve h before after r
    offset-put w before after r i =
        let g = i.1.rooted in
        first_or_in_by (no_room curve (length before) ∷ [])
        (λ n. first_after_lem (curve_causes curve h) (no_room curve (length before) ∷ []) n i.0)
        (λ ns e. record {
          preimage = g.preimage;
          is_preimage = g.is_preimage;
          has = record { m = g.has.m; root = g.has.root; is = e ∙ ap (λ u. offset_numbers curve (offset_curve ps u h)) g.has.is };
        })

numbers_of-length : (points : ℕ) (w x y : ℕ → ℤ) → length (point_numbers points w x y) ≡ 3 * points
unfolding point_numbers
numbers_of-length zero w x y = refl
numbers_of-length (suc points) w x y = omega (arith, numbers_of-length points (λ k. w (suc k)) (λ k. x (suc k)) (λ k. y (suc k)))

pub written-needs : (curve : Curve) (h : ℤ) {before after : List ℤ} {n : ℕ} → OffsetBy curve h before after (Ok n) → n ≡ needs curve
written-needs curve h o = let (ns, of, e, f) = given_in o in e ∙ ap length of.has.is ∙ numbers_of-length (suc (offset_degree curve)) _ _ _
