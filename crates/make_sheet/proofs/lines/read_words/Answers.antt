-- `lines::read_words` meets its contract: the first word, and what stands behind it.
use Rattle.std.proofs.Common.{ap, ◌∙◌, subst, arith, length, length-drop, drop, List, ℕ, Ok, Err}
use Rattle.reading.specs.declared.places.Sought.TheVariants as sought
use Rattle.reading.specs.Places.{FirstPlace, WordAt}
use Rattle.reading.proofs.Texts.{next_word, no_word}
use Rattle.make_sheet.specs.Sayings.{word_of, SaysBehind}
use Rattle.make_sheet.proofs.Sentences.{behind_says, unknown_says, nothing_said}
use Rattle.make_sheet.proofs.lines.read_words.Goals as goal

pub returns-in_default : goal.returns-in_default
returns-in_default c =
    let text = c.args.text.now in
    let is = ap (λ b. b.now) c.of-words.ensures.text in
    let none = no_word c.of-words.result c.next.new.self is c.in_default.ensures.steps in
    record { place_within = omega arith; means = nothing_said text (subst (λ (n : ℕ). FirstPlace text n sought.Word (length text)) c.of-words.ensures.at none) }

pub returns-in_default-form_of : goal.returns-in_default-form_of
returns-in_default-form_of c =
    let text = c.args.text.now in
    let is = ap (λ b. b.now) c.of-words.ensures.text in
    let first = c.in-Some.field-0 in
    let h = subst (λ (n : ℕ). WordAt text n first c.next.new.self.at) c.of-words.ensures.at (next_word c.of-words.result c.next.new.self is c.in-Some.ensures.steps) in
    record { place_within = omega (arith, h.there); means = unknown_says text first c.next.new.self.at h c.in_default-form_of.ensures }

pub returns-in-Ok : goal.returns-in-Ok
returns-in-Ok c =
    let text = c.args.text.now in
    let is = ap (λ b. b.now) c.of-words.ensures.text in
    let first = c.in-Some.field-0 in
    let at = c.next.new.self.at in
    let h = subst (λ (n : ℕ). WordAt text n first at) c.of-words.ensures.at (next_word c.of-words.result c.next.new.self is c.in-Some.ensures.steps) in
    let rest = c.rest.ensures ∙ ap (λ (t : List ℕ). drop at t) (ap (λ b. b.now) c.in-Some.ensures.steps.0 ∙ is) in
    let k = subst (λ (t : List ℕ). SaysBehind (word_of c.in-Some-form_of.form) t (Ok c.in-Ok.line)) rest c.in-Ok.ensures in
    record { place_within = omega (arith, h.there); means = behind_says text first at h (word_of c.in-Some-form_of.form) (Ok c.in-Ok.line) c.in-Some-form_of.ensures k }

pub returns-in-Err : goal.returns-in-Err
returns-in-Err c =
    let text = c.args.text.now in
    let is = ap (λ b. b.now) c.of-words.ensures.text in
    let first = c.in-Some.field-0 in
    let at = c.next.new.self.at in
    let h = subst (λ (n : ℕ). WordAt text n first at) c.of-words.ensures.at (next_word c.of-words.result c.next.new.self is c.in-Some.ensures.steps) in
    let rest = c.rest.ensures ∙ ap (λ (t : List ℕ). drop at t) (ap (λ b. b.now) c.in-Some.ensures.steps.0 ∙ is) in
    let k = subst (λ (t : List ℕ). SaysBehind (word_of c.in-Some-form_of.form) t (Err c.in-Err.wrong)) rest c.in-Err.ensures in
    record {
      place_within = omega (arith, k.place_within, length-drop at text, h.ends.within);
      means = behind_says text first at h (word_of c.in-Some-form_of.form) (Err c.in-Err.wrong) c.in-Some-form_of.ensures k;
    }
