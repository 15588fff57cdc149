-- `terms::rows` meets its contract.
use mathlib.Core.Path.{◌≡◌, refl, sym, ap, ◌∙◌, subst}
use mathlib.Core.List.{List}
use Prim.Native.Nat.{ℕ, ◌-◌, ◌≤◌}
use native.Mathlib.Omega.{arith}
use lib.IntN.{ℤ, pos, neg_ℤ, ◌-ℤ◌, +ℤ_idl}
use lib.ListN.{length, get_or-map}
use mir.Syntax.{w64}
use mir.Val.{to_z, of_z}
use Rattle.whole.specs.Coefficients.{at}
use Rattle.poly.specs.Polynomials.{Same}
use Rattle.whole.specs.Number.{wholes, Within}
use Rattle.whole.proofs.Wholes.{readℤ}
use Rattle.whole.proofs.Bound.{done, ◌▸◌, bounds, kept, within, read_back}
use Rattle.pair.specs.declared.Pair.{Pair}
use Rattle.pair.specs.Pairs.{pairs, PartsWithin}
use Rattle.root.specs.declared.Quartic.{Quartic}
use Rattle.root.specs.Promise.{quartic, root_size}
use Rattle.bernstein.specs.Powers.{power_form}
use Rattle.bernstein.proofs.PowerForms.{re-part, im-part}
use Rattle.curve.specs.declared.Curve.{Curve}
use Rattle.curve.specs.declared.LegPowers.{LegPowers}
use Rattle.curve.specs.Curves.{points_of, leg_polynomial}
use Rattle.curve.specs.Steps.{leg_powers}
use Rattle.curve.proofs.LegPolynomial.{points_of_length, legs-within}
use Rattle.curve.proofs.Sizes.{leg_polynomial-within}
use Rattle.curve.proofs.Derivative.{start-within, power_form-within}
use Rattle.curve.specs.Sizes.{leg_reach, coordinate_reach}
use Rattle.offset.specs.Steps.{PathAsked, IsPath, RowAsked}
use Rattle.offset.proofs.Products.{row_size, row_size-most, row_sized}
use Rattle.offset.proofs.Paths.{path-asked, path-is, coordinate, weight-least, weight-size, weighted_of}
use Rattle.offset.proofs.terms.rows.Goals as goal
use Rattle.offset.proofs.terms.rows.Goals.{Start, After-drawn-d, After-imaginaries-im}

pub drawn-d-requires : goal.drawn-d-requires
drawn-d-requires c k =
    subst (λ (l : List Pair). PartsWithin leg_reach (at pairs l k)) (sym c.legs_of.ensures) (legs-within (points_of c.args.curve) c.requires.range k)

-- ---- what is known of D and of r, once D is drawn
module _ (c : After-imaginaries-im) where
  abbrev drew : After-drawn-d
  drew = c.before.before

  abbrev o : Start
  o = drew.before.before.before.before

  abbrev ps : List Pair
  ps = points_of o.args.curve

  abbrev d : LegPowers
  d = drew.drawn-d.result

  abbrev re : Quartic
  re = c.reals-re.result

  abbrev im : Quartic
  im = c.imaginaries-im.result

  short : length ps ≤ 6
  short = points_of_length o.args.curve

  drawn-is : Same pairs (leg_powers d) (leg_polynomial ps)
  unfolding leg_polynomial
  drawn-is k = drew.drawn-d.ensures k ∙ ap (λ (l : List Pair). at pairs (power_form l) k) drew.legs_of.ensures

  re-is : (k : ℕ) → at wholes (quartic re) k ≡ (at pairs (leg_polynomial ps) k).re
  re-is k = ap (λ (l : List ℤ). at wholes l k) c.reals-re.ensures ∙ get_or-map (λ (z : Pair). z.re) (leg_powers d) k pairs.none ∙ ap (λ (z : Pair). z.re) (drawn-is k)

  im-is : (k : ℕ) → at wholes (quartic im) k ≡ (at pairs (leg_polynomial ps) k).im
  im-is k = ap (λ (l : List ℤ). at wholes l k) c.imaginaries-im.ensures ∙ get_or-map (λ (z : Pair). z.im) (leg_powers d) k pairs.none ∙ ap (λ (z : Pair). z.im) (drawn-is k)

  re_small : (k : ℕ) → Within 1280000 (at wholes (quartic re) k)
  re_small k = rw (re-is k) (leg_polynomial-within ps o.requires.range short k).re

  im_small : (k : ℕ) → Within 1280000 (at wholes (quartic im) k)
  im_small k = rw (im-is k) (leg_polynomial-within ps o.requires.range short k).im

  abbrev n : ℤ
  n = to_z w64 (of_z w64 drew.legs-n.result)

  n-is : n ≡ pos (length ps - 1)
  n-is =
      let small : Within 5 (pos (length ps - 1)) = record { size = omega (arith, short) } in
      ap (λ z. to_z w64 (of_z w64 z)) drew.legs-n.ensures ∙ read_back tt small

  re-asked : PathAsked (quartic re) n
  re-asked = subst (PathAsked (quartic re)) (sym n-is) (path-asked re-part ps (quartic re) re-is short re_small)

  im-asked : PathAsked (quartic im) n
  im-asked = subst (PathAsked (quartic im)) (sym n-is) (path-asked im-part ps (quartic im) im-is short im_small)

pub path-x-requires : goal.path-x-requires
path-x-requires c = re-asked c.before.before

pub path-y-requires : goal.path-y-requires
path-y-requires c = im-asked c.before.before.before.before

-- ---- what is known of r, once its paths are made
module _ (c : goal.After-path-y) where
  abbrev g : After-imaginaries-im
  g = c.before.before.before.before

  start_small : PartsWithin coordinate_reach (drew g).start-p.result
  start_small = subst (PartsWithin coordinate_reach) (sym (drew g).start-p.ensures) (start-within (ps g) (o g).requires.range)

  start-re : to_z w64 (of_z w64 (drew g).start-p.result.re) ≡ (at pairs (ps g) 0).re
  start-re = read_back tt start_small.re ∙ ap (λ (z : Pair). z.re) (drew g).start-p.ensures

  start-im : to_z w64 (of_z w64 (drew g).start-p.result.im) ≡ (at pairs (ps g) 0).im
  start-im = read_back tt start_small.im ∙ ap (λ (z : Pair). z.im) (drew g).start-p.ensures

  abbrev x : List ℤ
  x = c.path-x.result

  abbrev y : List ℤ
  y = c.path-y.result

  x-is : (k : ℕ) → at wholes x k ≡ (at pairs (power_form (ps g)) k).re
  x-is = path-is re-part (ps g) (quartic (re g)) (re-is g) x (subst (λ X. X) (λ i. IsPath (start-re i) (quartic (re g)) (n-is g i) x) c.path-x.ensures)

  y-is : (k : ℕ) → at wholes y k ≡ (at pairs (power_form (ps g)) k).im
  y-is = path-is im-part (ps g) (quartic (im g)) (im-is g) y (subst (λ X. X) (λ i. IsPath (start-im i) (quartic (im g)) (n-is g i) y) c.path-y.ensures)

  x_long : length x ≤ 6
  x_long = omega (arith, c.path-x.type_inv)

  y_long : length y ≤ 6
  y_long = omega (arith, c.path-y.type_inv)

  abbrev h : ℤ
  h = (o g).args.h

  h-kept : to_z w64 (of_z w64 h) ≡ h
  h-kept = read_back tt (o g).requires.h_small

  less_is : to_z w64 (of_z w64 (pos 0 -ℤ to_z w64 (of_z w64 h))) ≡ neg_ℤ h
  less_is = bounds ((o g).requires.h_small ▸ done) (λ ρ e k. simp (e 0, +ℤ_idl, readℤ, kept k))

  less_small : Within coordinate_reach (neg_ℤ h)
  less_small = bounds ((o g).requires.h_small ▸ done) (λ ρ e k. simp (e 0, readℤ) (within k _ refl))

  x-asked : RowAsked (quartic (o g).args.w) x (to_z w64 (of_z w64 h)) (quartic (im g))
  x-asked = record {
    w_small = (o g).requires.w_small;
    x_small = λ k. rw (x-is k) (power_form-within (ps g) (o g).requires.range (short g) k).re;
    h_small = rw h-kept (o g).requires.h_small;
    d_small = im_small g;
  }

  y-asked : {z : ℤ} → Within coordinate_reach z → RowAsked (quartic (o g).args.w) y z (quartic (re g))
  y-asked hz = record {
    w_small = (o g).requires.w_small;
    x_small = λ k. rw (y-is k) (power_form-within (ps g) (o g).requires.range (short g) k).im;
    h_small = hz;
    d_small = re_small g;
  }

pub row-a-requires : goal.row-a-requires
row-a-requires c = x-asked c

pub row-b-requires : goal.row-b-requires
row-b-requires c = y-asked c.before (bounds ((o (g c.before)).requires.h_small ▸ done) (λ ρ e k. simp (e 0, +ℤ_idl, readℤ, kept k) (within k _ refl)))

-- ---- the rows and their weights
module _ (c : goal.After-weights-s) where
  abbrev p : goal.After-path-y
  p = c.before.before.before.before

  abbrev curve : Curve
  curve = (o (g p)).args.curve

  x-sized : (k : ℕ) → Within (row_size 5 k) (at wholes c.row-a.result k)
  x-sized = row_sized c.row-a.result (x-asked p) (x_long p) (omega arith) (omega arith) c.row-a.ensures

  y-sized : (k : ℕ) → Within (row_size 5 k) (at wholes c.row-b.result k)
  y-sized = row_sized c.row-b.result (y-asked p (subst (Within coordinate_reach) (sym (less_is p)) (less_small p))) (y_long p) (omega arith) (omega arith) c.row-b.ensures

  w-sized : (k : ℕ) → Within root_size (at wholes c.extended-c.result k)
  w-sized k = rw (c.extended-c.ensures k) ((o (g p)).requires.w_small k)

  s-sized : (k : ℕ) → Within 252 (at wholes c.weights-s.result k)
  s-sized k = rw (c.weights-s.ensures k) (record { size = weight-least curve k })

pub weighted-ws-requires : goal.weighted-ws-requires
weighted-ws-requires c = (λ k. record { size = omega (arith, (w-sized c k).size) }, s-sized c)

pub weighted-xs-requires : goal.weighted-xs-requires
weighted-xs-requires c = (λ k. record { size = omega (arith, (x-sized c.before k).size, row_size-most 5 k) }, s-sized c.before)

pub weighted-ys-requires : goal.weighted-ys-requires
weighted-ys-requires c = (λ k. record { size = omega (arith, (y-sized c.before.before k).size, row_size-most 5 k) }, s-sized c.before.before)

pub returns : goal.returns
returns c =
    let s = c.before.before.before in
    let t = p s in
    record {
      w = weighted_of (curve s) c.extended-c.result c.weights-s.result _ (λ k. root_size) c.weights-s.ensures c.weighted-ws.ensures c.extended-c.ensures (w-sized s)
          (λ k. omega (arith, weight-least (curve s) k));
      x = weighted_of (curve s) c.row-a.result c.weights-s.result _ (row_size 5) c.weights-s.ensures c.weighted-xs.ensures
          (coordinate re-part im-part (ps (g t)) (quartic (o (g t)).args.w) (x t) (quartic (im (g t))) c.row-a.result (h t) (x-is t) (im-is (g t)) (rw (h-kept t) at c.row-a.ensures))
          (x-sized s) (weight-size (curve s));
      y = weighted_of (curve s) c.row-b.result c.weights-s.result _ (row_size 5) c.weights-s.ensures c.weighted-ys.ensures
          (coordinate im-part re-part (ps (g t)) (quartic (o (g t)).args.w) (y t) (quartic (re (g t))) c.row-b.result (neg_ℤ (h t)) (y-is t) (re-is (g t)) (rw (less_is t) at c.row-b.ensures))
          (y-sized s) (weight-size (curve s));
    }
