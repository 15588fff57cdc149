-- `read` meets its contract: the curve's record is located, and its bytes hold the curve.
use mathlib.Core.Path.{◌≡◌, refl, subst}
use mathlib.Core.List.{List}
use Prim.Native.Nat.{ℕ, ◌-◌}
use native.Mathlib.Omega.{arith}
use lib.ListN.{length, take, drop}
use Rattle.std.specs.Prelude.{Option, Some, None, Result, Ok}
use Rattle.std.specs.Option.{IsSome}
use Rattle.refusal.specs.declared.Fault.{Fault}
use Rattle.record.specs.declared.points.Held.{Held}
use Rattle.record.specs.Promise.{IsHeld}
use Rattle.sheet.specs.declared.Location.{Location}
use Rattle.sheet.specs.Promise.{Locates}
use Rattle.sheet.proofs.Passed.{rest-is}
use Rattle.sheet.proofs.Places.{Stands, fits, held-curve, held-nothing}
use Rattle.sheet.proofs.Told.{located, located_read}
use Rattle.sheet.proofs.read.Goals as goal

-- where the record stands, and what the bytes there hold
module _ (s : List ℕ) (expected number : ℕ) {at : Location} {r : Result Location Fault} (h : Locates s expected number r) (e : r ≡ Ok at) where
  locates : Locates s expected number (Ok at)
  locates = subst (Locates s expected number) e h

  here : Stands s number at.place at.length
  here = (located _ _ _ _ locates).here

  held_there : {x y : Option Held} → IsHeld (take (length s - at.place) (drop at.place s)) x → x ≡ y → IsHeld (drop at.place s) y
  held_there {x} g q = subst (λ (y : Option Held). IsHeld (drop at.place s) y) q (subst (λ (rest : List ℕ). IsHeld rest x) (rest-is s at.place) g)

is_held : {s : List ℕ} {number place long : ℕ} → Stands s number place long → (r : Option Held) → IsHeld (drop place s) r → IsSome r
is_held h None n = absurd (held-nothing h n)
is_held h (Some x) n = refl

pub slice_bounds-held_curve-count : goal.slice_bounds-held_curve-count
slice_bounds-held_curve-count c = omega (arith, fits (here c.args.sheet.now c.args.mission c.args.number c.locate.ensures c.in_ok-at.was))

pub slice_bounds-held_curve-start : goal.slice_bounds-held_curve-start
slice_bounds-held_curve-start c = omega (arith, fits (here c.args.sheet.now c.args.mission c.args.number c.locate.ensures c.in_ok-at.was))

pub unwrap-held-requires : goal.unwrap-held-requires
unwrap-held-requires c =
    let s = c.args.sheet.now in
    let m = c.args.mission in
    let n = c.args.number in
    is_held (here s m n c.locate.ensures c.in_ok-at.was) c.held_curve.result (held_there s m n c.locate.ensures c.in_ok-at.was c.held_curve.ensures refl)

pub returns : goal.returns
returns c =
    let s = c.args.sheet.now in
    let m = c.args.mission in
    let n = c.args.number in
    located_read _ _ _ _ (locates s m n c.locate.ensures c.in_ok-at.was) c.unwrap-held.result.curve
    (held-curve (here s m n c.locate.ensures c.in_ok-at.was) c.unwrap-held.result (held_there s m n c.locate.ensures c.in_ok-at.was c.held_curve.ensures c.unwrap-held.ensures)).0
