-- `join::put_both` meets its contract: the root of the discriminant, and a half for each of its two signs.
use mathlib.Core.Path.{◌≡◌, sym, ap, ap₂, ◌∙◌, subst}
use mathlib.Core.Logic.{◌⊎◌, inl, ⊎_elim}
use native.Mathlib.Omega.{arith}
use lib.IntN.{pos}
use Rattle.pair.specs.declared.Pair.{Pair}
use Rattle.pair.specs.Pairs.{pairs, plus, minus, negative, multiple, PartsWithin}
use Rattle.pair.proofs.Parts.{wider, minus-within, negative-within}
use Rattle.divisor.specs.Promise.{KeptRoot}
use Rattle.join.specs.Promise.{Triple}
use Rattle.join.specs.Steps.{shift, centre, Halved, CentreSizes, MiddleSizes}
use Rattle.join.proofs.Centres.{signs_centred, centred_signs, halves-below}
use Rattle.join.proofs.Sizes.{shift-within, root-within}
use Rattle.join.proofs.Writing.{writes_none, writes_both, writes_as, writes_same}
use Rattle.join.proofs.put_both.Goals as goal

-- what is known with a root δ of the discriminant d
module _ (w0 d w2 δ : Pair) (sized : CentreSizes w0 d w2) (found : KeptRoot d δ) where
  δ-within : PartsWithin 3000 δ
  δ-within = root-within d δ sized.discriminant found.squared

  -- with s, three times the sum of the ends, and with the other root
  module _ {s n : Pair} (s-is : s ≡ shift w0 w2) (n-is : n ≡ negative δ) where
    s-within : PartsWithin 1200 s
    s-within = rw s-is (shift-within w0 w2 sized.first sized.last)

    n-within : PartsWithin 3000 n
    n-within = rw n-is (negative-within δ-within)

-- sizes are found for whichever middle is meant
sized_by : {w0 d w2 : Pair} (x : Pair) → CentreSizes w0 d w2 → PartsWithin 4200 x → MiddleSizes w0 x w2
sized_by x p h = record { first = p.first; middle = h; last = p.last }

-- where δ is 0 both signs are one
one-sign : (w0 w2 s δ : Pair) → δ ≡ pairs.none → (w : Triple) → Halved w0 (minus (negative δ) s) w2 w ⊎ Halved w0 (minus δ s) w2 w → Halved w0 (minus (negative δ) s) w2 w
one-sign w0 w2 s δ e w = ⊎_elim (λ h. h) (λ h. subst (λ (d : Pair). Halved w0 (minus d s) w2 w) (e ∙ ap negative (sym e)) h)

shift-is : (w0 w2 : Pair) {x s : Pair} → x ≡ plus w0 w2 → s ≡ multiple (pos 3) x → s ≡ shift w0 w2
shift-is w0 w2 e f = f ∙ ap (multiple (pos 3)) e

pub returns-in_default : goal.returns-in_default
returns-in_default c = writes_none (λ w h. c.in_default.ensures (centre c.args.w0 w.v c.args.w2) h.middle)

pub negative-requires : goal.negative-requires
negative-requires c = wider (omega arith) (δ-within c.args.w0 c.args.d c.args.w2 c.in-Some.c c.requires.0 c.in-Some.ensures)

pub difference-low-requires : goal.difference-low-requires
difference-low-requires c =
    let a = c.args in
    let p = c.requires.0 in
    let f = c.in-Some.ensures in
    let s-is = shift-is a.w0 a.w2 c.sum.ensures c.multiple-s.ensures in (
      wider (omega arith) (n-within a.w0 a.d a.w2 c.in-Some.c p f s-is c.negative.ensures),
      wider (omega arith) (s-within a.w0 a.d a.w2 c.in-Some.c p f s-is c.negative.ensures),
    )

pub difference-high-requires : goal.difference-high-requires
difference-high-requires c =
    let a = c.args in
    let p = c.requires.0 in
    let f = c.in-Some.ensures in (
      wider (omega arith) (δ-within a.w0 a.d a.w2 c.in-Some.c p f),
      wider (omega arith) (s-within a.w0 a.d a.w2 c.in-Some.c p f (shift-is a.w0 a.w2 c.sum.ensures c.multiple-s.ensures) c.negative.ensures),
    )

pub put_half-n-requires : goal.put_half-n-requires
put_half-n-requires c =
    let a = c.args in
    let p = c.requires.0 in
    let f = c.in-Some.ensures in
    let s-is = shift-is a.w0 a.w2 c.sum.ensures c.multiple-s.ensures in
    let n = n-within a.w0 a.d a.w2 c.in-Some.c p f s-is c.negative.ensures in
    let s = s-within a.w0 a.d a.w2 c.in-Some.c p f s-is c.negative.ensures in
    (sized_by c.difference-low.result p (rw c.difference-low.ensures (minus-within n s)), omega (arith, c.requires.1))

-- the lower double of the middle, and the higher
low-is : (w0 w2 δ : Pair) {s n x : Pair} → s ≡ shift w0 w2 → n ≡ negative δ → x ≡ minus n s → x ≡ minus (negative δ) (shift w0 w2)
low-is w0 w2 δ s-is n-is e = e ∙ ap₂ minus n-is s-is

high_is : (w0 w2 δ : Pair) {s x : Pair} → s ≡ shift w0 w2 → x ≡ minus δ s → x ≡ minus δ (shift w0 w2)
high_is w0 w2 δ s-is e = e ∙ ap (minus δ) s-is

pub returns-then-is_zero : goal.returns-then-is_zero
returns-then-is_zero c =
    let a = c.args in
    let δ = c.in-Some.c in
    let f = c.in-Some.ensures in
    let low = low-is a.w0 a.w2 δ (shift-is a.w0 a.w2 c.sum.ensures c.multiple-s.ensures) c.negative.ensures c.difference-low.ensures in
    writes_as (omega arith)
    (λ w x. signs_centred a.w0 a.d a.w2 δ f.squared w (inl x))
    (λ w x. one-sign a.w0 a.w2 (shift a.w0 a.w2) δ c.if-is_zero.ensures w (centred_signs a.w0 a.d a.w2 δ f.squared w x))
    (writes_same (λ i. Halved a.w0 (low i) a.w2) c.put_half-n.ensures)

pub put_half-requires : goal.put_half-requires
put_half-requires c =
    let a = c.args in
    let p = c.requires.0 in
    let f = c.in-Some.ensures in
    let q = c.put_half-n.ensures in
    let h = δ-within a.w0 a.d a.w2 c.in-Some.c p f in
    let s = s-within a.w0 a.d a.w2 c.in-Some.c p f (shift-is a.w0 a.w2 c.sum.ensures c.multiple-s.ensures) c.negative.ensures in
    (sized_by c.difference-high.result p (rw c.difference-high.ensures (minus-within h s)), omega (arith, q.count_is, q.few, q.same_room, c.requires.1))

pub returns : goal.returns
returns c =
    let a = c.args in
    let δ = c.in-Some.c in
    let f = c.in-Some.ensures in
    let s-is = shift-is a.w0 a.w2 c.sum.ensures c.multiple-s.ensures in
    let low = low-is a.w0 a.w2 δ s-is c.negative.ensures c.difference-low.ensures in
    let high = high_is a.w0 a.w2 δ s-is c.difference-high.ensures in
    writes_as (omega arith)
    (signs_centred a.w0 a.d a.w2 δ f.squared)
    (centred_signs a.w0 a.d a.w2 δ f.squared)
    (writes_both (halves-below a.w0 a.w2 (shift a.w0 a.w2) δ (f.sign c.if-is_zero.ensures))
    (writes_same (λ i. Halved a.w0 (low i) a.w2) c.put_half-n.ensures) (writes_same (λ i. Halved a.w0 (high i) a.w2) c.put_half.ensures))
