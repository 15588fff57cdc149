-- What `!=` on pairs tells.
--   equal, unequal     the pairs are equal where it answers false, and are not where it answers true
use Rattle.std.proofs.Common.{◌≡◌, true, false, ◌&&◌, sym, ap, ◌∙◌, int_eq}
use mathlib.Core.Path.{ap₂}
use mathlib.Core.Bool.{not}
use borrow.Author.Tests.{not-true, not-false}
use Rattle.std.proofs.lemmas.Bool.{false≢true}
use Rattle.std.proofs.lemmas.Bool.Decides.{Decides-int_eq}
use Rattle.refusal.proofs.Answers.{both_true}
use Rattle.pair.specs.declared.Pair.{Pair}
use Rattle.pair.specs.Pairs.{pair}

pub equal : {a b : Pair} → false ≡ not (int_eq a.re b.re && int_eq a.im b.im) → a ≡ b
equal {a} {b} e =
    let (re, im) = both_true _ _ (not-false _ (sym e)) in
    ap₂ pair ((Decides-int_eq a.re b.re).0 re) ((Decides-int_eq a.im b.im).0 im)

pub unequal : {a b : Pair} → true ≡ not (int_eq a.re b.re && int_eq a.im b.im) → a ≡ b → ⊥
unequal {a} {b} e h =
    let re = (Decides-int_eq a.re b.re).1 (ap (λ (p : Pair). p.re) h) in
    let im = (Decides-int_eq a.im b.im).1 (ap (λ (p : Pair). p.im) h) in
    false≢true (sym (not-true _ (sym e)) ∙ ap₂ ◌&&◌ re im)
