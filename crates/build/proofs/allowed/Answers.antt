-- `build::allowed` meets its contract: each test that succeeds adds one to what holds.
use mathlib.Core.Path.{◌≡◌, sym, ◌∙◌, subst}
use mathlib.Core.Bool.{Bool, true, false}
use mathlib.Core.Logic.{◌⊎◌, inl, inr}
use Rattle.whole.specs.Number.{Tells}
use Rattle.whole.proofs.Flags.{told_true, told_false, told-map}
use Rattle.pair.specs.declared.Pair.{Pair}
use Rattle.pair.specs.Pairs.{PartsWithin}
use Rattle.curve.specs.Sizes.{coordinate_reach}
use Rattle.build.specs.Promise.{source_reach}
use Rattle.build.proofs.Triples.{all-within}
use Rattle.build.proofs.allowed.Goals as goal
use Rattle.build.proofs.allowed.Goals.{then-within, else-within, then-within-2, else-within-2}

-- the value v of a && b: it is b's where a is true, and else it is a's
and_tells : (P Q : Type 0) (a v : Bool) → Tells P a → ((a ≡ true) × ((b : Bool) × Tells Q b × (v ≡ b))) ⊎ ((a ≡ false) × (v ≡ a)) → Tells (P × Q) v
and_tells P Q a v h (inl (t, (b, k, e))) = subst (Tells (P × Q)) (sym e) (told-map (λ q. (told_true h t, q)) (λ p. p.1) b k)
and_tells P Q a v h (inr (f, e)) = subst (Tells (P × Q)) (sym (e ∙ f)) (λ p. told_false h f p.0)

abbrev Near : Pair → Type 0
Near p = PartsWithin coordinate_reach p

abbrev Small : Pair → Type 0
Small w = PartsWithin source_reach w

pub returns-then-within-3 : goal.returns-then-within-3
returns-then-within-3 c =
    let a = c.args in
    let two = and_tells (Near a.p0) (Small a.w0) c.within.result c.if-within.value c.within.ensures (elim c.if-within.branch [
      | then-within w ↦ inl (w.if-within.true, (w.within-then-within.result, w.within-then-within.ensures, w.value-is))
      | else-within w ↦ inr (w.if-within.false, w.value-is)
    ]) in
    let three = and_tells (Near a.p0 × Small a.w0) (Small a.w1) c.if-within.value c.if-within-2.value two (elim c.if-within-2.branch [
      | then-within-2 w ↦ inl (w.if-within-2.true, (w.within-then-within-2.result, w.within-then-within-2.ensures, w.value-is))
      | else-within-2 w ↦ inr (w.if-within-2.false, w.value-is)
    ]) in
    let last = c.within-then-within-3 in
    let h = told_true three c.if-within-3.true in
    told-map (λ w2. (h.0.0, all-within h.0.1 h.1 w2)) (λ t. t.1 2) last.result last.ensures

pub returns-else-within-3 : goal.returns-else-within-3
returns-else-within-3 c =
    let a = c.args in
    let two = and_tells (Near a.p0) (Small a.w0) c.within.result c.if-within.value c.within.ensures (elim c.if-within.branch [
      | then-within w ↦ inl (w.if-within.true, (w.within-then-within.result, w.within-then-within.ensures, w.value-is))
      | else-within w ↦ inr (w.if-within.false, w.value-is)
    ]) in
    let three = and_tells (Near a.p0 × Small a.w0) (Small a.w1) c.if-within.value c.if-within-2.value two (elim c.if-within-2.branch [
      | then-within-2 w ↦ inl (w.if-within-2.true, (w.within-then-within-2.result, w.within-then-within-2.ensures, w.value-is))
      | else-within-2 w ↦ inr (w.if-within-2.false, w.value-is)
    ]) in
    rw c.if-within-3.false (λ h. told_false three c.if-within-3.false ((h.0, h.1 0), h.1 1))
