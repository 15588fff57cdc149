-- `judging::hundredths` meets its contract: the whole root of 10,000 c A² over B².
use Rattle.std.proofs.Common.{◌≡◌, ap, ◌∙◌, subst, rules, ℕ, ◌*◌, ◌/◌, nat_abs, w64}
use Rattle.std.proofs.lemmas.Int.{to_z-of_z}
use Rattle.whole.specs.Promise.{IsRoot}
use Rattle.totals.proofs.Reached.{hundredths_by}
use Rattle.totals.proofs.judging.hundredths.Goals as goal

pub returns : goal.returns
returns c =
    let l = c.args.l in
    let a : c.unsigned_abs-a.result ≡ nat_abs l.a = c.unsigned_abs-a.ensures.value ∙ ap nat_abs (to_z-of_z w64 l.a (search rules)) in
    let b : c.unsigned_abs-b.result ≡ nat_abs l.b = c.unsigned_abs-b.ensures.value ∙ ap nat_abs (to_z-of_z w64 l.b (search rules)) in
    let k : c.unsigned_abs-c.result ≡ nat_abs l.c = c.unsigned_abs-c.ensures.value ∙ ap nat_abs (to_z-of_z w64 l.c (search rules)) in
    hundredths_by l c.requires c.square_root.result
    (subst (λ (n : ℕ). IsRoot n c.square_root.result) (λ i. 10000 * (k i * (a i * a i)) / (b i * b i)) c.square_root.ensures)
