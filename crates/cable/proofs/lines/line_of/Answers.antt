-- `lines::line_of` meets its contract: there is room for the line.
use Rattle.std.proofs.Common.{◌≡◌, ◌≤◌, refl, ap, arith, rules, length, take, List, ℕ}
use Rattle.refusal.specs.Answers.{answer_at}
use Rattle.text.specs.Promise.{TextIn}
use Rattle.text.proofs.Held.{text_in, room_ok, ok_is}
use Rattle.cable.specs.Cables.{answer_line}
use Rattle.cable.proofs.lines.line_of.Goals as goal

pub unwrap-requires : goal.unwrap-requires
unwrap-requires c =
    let line : List ℕ = answer_line (answer_at c.args.answer) in
    room_ok {Is = λ t. t ≡ line} (length line) (λ t h. omega (arith, ap length h)) c.args.area.now c.finish.new.self.0 c.finish.result c.requires
    (text_in line refl c.new-text.ensures c.put_answer.ensures c.finish.ensures)

pub returns : goal.returns
returns c =
    let line : List ℕ = answer_line (answer_at c.args.answer) in
    let after : List ℕ = c.finish.new.self.0 in
    let t : TextIn (λ t. t ≡ line) c.args.area.now after c.finish.result = text_in line refl c.new-text.ensures c.put_answer.ensures c.finish.ensures in
    let is : (c.unwrap.result ≤ length after) × (take c.unwrap.result after ≡ line) = ok_is _ _ c.unwrap.ensures t in
    search rules
