-- `polynomials::row` meets its contract: each call of `joined` makes the next stage.
use mathlib.Core.Path.{◌≡◌, refl, sym, subst}
use mathlib.Core.List.{List, [], ◌∷◌}
use Prim.Native.Nat.{ℕ, suc, ◌≤◌}
use native.Mathlib.Omega.{arith}
use lib.IntN.{ℤ, pos, ◌*ℤ◌}
use lib.ListN.{length, replicate}
use mir.Syntax.{w64}
use mir.Val.{SFits, to_z, of_z}
use Rattle.whole.specs.Coefficients.{at}
use Rattle.whole.specs.Number.{wholes, Within}
use Rattle.whole.proofs.Wholes.{readℤ}
use Rattle.whole.proofs.Bound.{done, ◌▸◌, bounds, fits, kept, within, read_back}
use Rattle.root.specs.declared.Quartic.{Quartic}
use Rattle.root.specs.Promise.{quartic, root_size}
use Rattle.curve.specs.Sizes.{coordinate_reach}
use Rattle.offset.specs.Steps.{IsJoined, RowAsked}
use Rattle.offset.proofs.Products.{row_size-most, Stage, stage_none, stage_step, stage_within, stage_row}
use Rattle.offset.proofs.polynomials.row.Goals as goal

-- h times a coefficient of d
module _ {h b : ℤ} (hh : Within coordinate_reach h) (hb : Within 1280000 b) where
  product_fits : SFits w64 (to_z w64 (of_z w64 h) *ℤ to_z w64 (of_z w64 b))
  product_fits = bounds (hh ▸ hb ▸ done) (λ ρ e k. simp (e 0, e 1, readℤ, kept k) (fits k _ refl))

  product_is : to_z w64 (of_z w64 (to_z w64 (of_z w64 h) *ℤ to_z w64 (of_z w64 b))) ≡ h *ℤ b
  product_is = bounds (hh ▸ hb ▸ done) (λ ρ e k. simp (e 0, e 1, readℤ, kept k))

  product-within : Within 25600000000 (h *ℤ b)
  product-within = bounds (hh ▸ hb ▸ done) (λ ρ e k. simp (e 0, e 1, readℤ) (within k _ refl))

-- as the machine reads a number back
abbrev bits : ℤ → ℤ
bits z = to_z w64 (of_z w64 z)

-- one call of `joined`, from a stage on: what it asks, and the stage that it makes
module _ {x : List ℤ} {h : ℤ} (short : length x ≤ 6) (hx : (k : ℕ) → Within 1600000 (at wholes x k)) (hh : Within coordinate_reach h) {n : ℕ} {p w d : List ℤ} (l : n ≤ 4) (s : Stage x h n p w d) {a b : ℤ}
    (ha : Within root_size a) (hb : Within 1280000 b) where
  asks : ((k : ℕ) → Within 130000000000000 (at wholes p k)) × Within root_size (bits a) × ((k : ℕ) → Within 1600000 (at wholes x k)) × Within 25600000000 (bits (bits h *ℤ bits b))
  asks = (
    λ k. record { size = omega (arith, (stage_within x short hx hh n p w d s k).size, row_size-most n k) },
    subst (Within root_size) (sym (read_back tt ha)) ha,
    hx,
    subst (Within 25600000000) (sym (product_is hh hb)) (product-within hh hb),
  )

  made : {r : List ℤ} → length r ≡ 10 → IsJoined p (bits a) x (bits (bits h *ℤ bits b)) r → Stage x h (suc n) r (a ∷ w) (b ∷ d)
  made {r} long e = stage_step x short hx hh n p w d r a b l ha hb s long (subst (λ X. X) (λ i. IsJoined p (read_back tt ha i) x (product_is hh hb i) r) e)

-- r is what `joined` answers of p
record Next (x : List ℤ) (h : ℤ) (p : List ℤ) (a b : ℤ) (r : List ℤ) : Type 0 where
  long : length r ≡ 10
  is : IsJoined p (bits a) x (bits (bits h *ℤ bits b)) r

abbrev none : List ℤ
none = replicate 10 (pos 0)

-- the stages
module _ (w : Quartic) {x : List ℤ} {h : ℤ} (d : Quartic) (short : length x ≤ 6) (o : RowAsked (quartic w) x h (quartic d)) where
  stage-1 : {r4 : List ℤ} → Next x h none w.q4 d.q4 r4 → Stage x h 1 r4 (w.q4 ∷ []) (d.q4 ∷ [])
  stage-1 n4 = made short o.x_small o.h_small (omega arith) (stage_none x h) (o.w_small 4) (o.d_small 4) n4.long n4.is

  stage-2 : {r4 r3 : List ℤ} → Next x h none w.q4 d.q4 r4 → Next x h r4 w.q3 d.q3 r3 → Stage x h 2 r3 (w.q3 ∷ w.q4 ∷ []) (d.q3 ∷ d.q4 ∷ [])
  stage-2 n4 n3 = made short o.x_small o.h_small (omega arith) (stage-1 n4) (o.w_small 3) (o.d_small 3) n3.long n3.is

  stage-3 : {r4 r3 r2 : List ℤ} → Next x h none w.q4 d.q4 r4 → Next x h r4 w.q3 d.q3 r3 → Next x h r3 w.q2 d.q2 r2 → Stage x h 3 r2 (w.q2 ∷ w.q3 ∷ w.q4 ∷ []) (d.q2 ∷ d.q3 ∷ d.q4 ∷ [])
  stage-3 n4 n3 n2 = made short o.x_small o.h_small (omega arith) (stage-2 n4 n3) (o.w_small 2) (o.d_small 2) n2.long n2.is

  stage-4 : {r4 r3 r2 r1 : List ℤ} → Next x h none w.q4 d.q4 r4 → Next x h r4 w.q3 d.q3 r3 → Next x h r3 w.q2 d.q2 r2 → Next x h r2 w.q1 d.q1 r1
      → Stage x h 4 r1 (w.q1 ∷ w.q2 ∷ w.q3 ∷ w.q4 ∷ []) (d.q1 ∷ d.q2 ∷ d.q3 ∷ d.q4 ∷ [])
  stage-4 n4 n3 n2 n1 = made short o.x_small o.h_small (omega arith) (stage-3 n4 n3 n2) (o.w_small 1) (o.d_small 1) n1.long n1.is

  stage-5 : {r4 r3 r2 r1 r0 : List ℤ} → Next x h none w.q4 d.q4 r4 → Next x h r4 w.q3 d.q3 r3 → Next x h r3 w.q2 d.q2 r2 → Next x h r2 w.q1 d.q1 r1 → Next x h r1 w.q0 d.q0 r0
      → Stage x h 5 r0 (quartic w) (quartic d)
  stage-5 n4 n3 n2 n1 n0 = made short o.x_small o.h_small (omega arith) (stage-4 n4 n3 n2 n1) (o.w_small 0) (o.d_small 0) n0.long n0.is

pub overflow_mul-h : goal.overflow_mul-h
overflow_mul-h c = let o = c.requires in product_fits o.h_small (o.d_small 4)

pub joined-r4-requires : goal.joined-r4-requires
joined-r4-requires c = let o = c.requires in asks (omega arith) o.x_small o.h_small (omega arith) (stage_none c.args.x c.args.h) (o.w_small 4) (o.d_small 4)

pub overflow_mul-h-2 : goal.overflow_mul-h-2
overflow_mul-h-2 c = let o = c.requires in product_fits o.h_small (o.d_small 3)

pub joined-r3-requires : goal.joined-r3-requires
joined-r3-requires c =
    let o = c.requires in
    let s = stage-1 c.args.w c.args.d (omega arith) o (record { long = omega arith; is = c.joined-r4.ensures }) in
    asks (omega arith) o.x_small o.h_small (omega arith) s (o.w_small 3) (o.d_small 3)

pub overflow_mul-h-3 : goal.overflow_mul-h-3
overflow_mul-h-3 c = let o = c.requires in product_fits o.h_small (o.d_small 2)

pub joined-r2-requires : goal.joined-r2-requires
joined-r2-requires c =
    let o = c.requires in
    let s = stage-2 c.args.w c.args.d (omega arith) o (record { long = omega arith; is = c.joined-r4.ensures }) (record { long = omega arith; is = c.joined-r3.ensures }) in
    asks (omega arith) o.x_small o.h_small (omega arith) s (o.w_small 2) (o.d_small 2)

pub overflow_mul-h-4 : goal.overflow_mul-h-4
overflow_mul-h-4 c = let o = c.requires in product_fits o.h_small (o.d_small 1)

pub joined-r1-requires : goal.joined-r1-requires
joined-r1-requires c =
    let o = c.requires in
    let s = stage-3 c.args.w c.args.d (omega arith) o (record { long = omega arith; is = c.joined-r4.ensures }) (record { long = omega arith; is = c.joined-r3.ensures }) (record { long = omega arith; is = c.joined-r2.ensures }) in
    asks (omega arith) o.x_small o.h_small (omega arith) s (o.w_small 1) (o.d_small 1)

pub overflow_mul-h-5 : goal.overflow_mul-h-5
overflow_mul-h-5 c = let o = c.requires in product_fits o.h_small (o.d_small 0)

pub joined-requires : goal.joined-requires
joined-requires c =
    let o = c.requires in
    let s = stage-4 c.args.w c.args.d (omega arith) o (record { long = omega arith; is = c.joined-r4.ensures }) (record { long = omega arith; is = c.joined-r3.ensures }) (record { long = omega arith; is = c.joined-r2.ensures }) (record { long = omega arith; is = c.joined-r1.ensures }) in
    asks (omega arith) o.x_small o.h_small (omega arith) s (o.w_small 0) (o.d_small 0)

pub returns : goal.returns
returns c =
    stage_row (stage-5 c.args.w c.args.d (omega arith) c.requires (record { long = omega arith; is = c.joined-r4.ensures }) (record { long = omega arith; is = c.joined-r3.ensures }) (record { long = omega arith; is = c.joined-r2.ensures }) (record { long = omega arith; is = c.joined-r1.ensures }) (record { long = omega arith; is = c.joined.ensures }))
