-- `Text::finish` meets its contract: zeros behind the text, or throughout.
use Rattle.std.proofs.Common.{◌≡◌, ◌≤◌, ap, ◌∙◌, rules, arith, List, ◌++◌, append-nil, ℕ, ◌-◌, length, take, replicate}
use lib.Seq.{drop-length}
use borrow.Rule.Slice.PartMut.{mid_of, Post-is, mid_len}
use Rattle.text.proofs.Held.{end_within, finished}
use Rattle.text.proofs.Text.finish.Goals as goal

pub returns : goal.returns
returns c =
    let end = c.unwrap_or.result in
    let area = c.args.self.area.now in
    let within : end ≤ length area = omega (arith, end_within c.args.self, c.unwrap_or.ensures) in
    let zeros : c.fill.new.self ≡ replicate (length (mid_of end (length area - end) area)) 0 = search rules in
    finished c.args.self c.unwrap_or.ensures c.ok_or.ensures.value
    (ap (λ (xs : List ℕ). take end area ++ xs)
    (ap (λ (xs : List ℕ). c.fill.new.self ++ xs) (Post-is end (length area) area within ∙ drop-length area) ∙ append-nil c.fill.new.self ∙ zeros
    ∙ ap (λ (n : ℕ). replicate n 0) (mid_len end (length area) area (omega arith))))
