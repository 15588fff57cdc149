-- `make` meets its contract: the lines that were passed made the area.
use Rattle.std.proofs.Common.{◌≡◌, ℕ, ◌+◌, List, length, replicate, refl, sym, ap, ◌∙◌, subst, arith, rules, Result, Ok, Err, IsOk}
use borrow.Author.Tests.{le-ltb}
use Rattle.refusal.specs.declared.Fault.{Fault}
use Rattle.refusal.specs.Answers.{given, when◌then◌else◌}
use Rattle.refusal.proofs.Answers.{no_answer}
use Rattle.reading.proofs.Texts.{next_line, no_line}
use Rattle.record.specs.Records.{longest, erased}
use Rattle.record.specs.Promise.{bytes_after}
use Rattle.sheet.specs.Promise.{erasing, Erases}
use Rattle.make_sheet.specs.declared.making.Stage.{Stage}
use Rattle.make_sheet.specs.declared.making.Stage.TheVariants as stage
use Rattle.make_sheet.specs.Making.{MadeOf, Makes}
use Rattle.std.specs.Iterator.Adapters.{enumerate_source, enumerate_count}
use Rattle.make_sheet.proofs.Progress.{Progress, progress_none, progress_one, progress_all, progress_stops}
use Rattle.make_sheet.proofs.make.Goals as goal

-- an area of a sheet's full length is erased
module _ (s : List ℕ) (l : length s ≡ longest) where
  all_erased : erasing s ≡ given (replicate (length s) erased)
  unfolding erasing when◌then◌else◌
  all_erased = rw (le-ltb longest (length s) (omega arith))

  erased_done : {t : List ℕ} (r : Result (Unit {0}) Fault) → Erases s t r → IsOk r
  erased_done (Ok done) h = refl
  erased_done (Err f) h = no_answer (sym (h.says ∙ all_erased))

  erased_as : {t : List ℕ} {r : Result (Unit {0}) Fault} → Erases s t r → t ≡ replicate longest erased
  erased_as h = h.leaves ∙ ap (bytes_after s) all_erased ∙ ap (λ (n : ℕ). replicate n erased) l

pub unwrap-requires : goal.unwrap-requires
unwrap-requires c = erased_done c.args.area.now c.told-area c.erase.result c.erase.ensures

pub loop-passed-init : goal.loop-passed-init
loop-passed-init c =
    let it = c.into_iter-passed-iterator.result in
    let m = c.of-sheet.result in
    let text : (enumerate_source it).text.now ≡ c.args.text.now = cc in
    let at : (enumerate_source it).at ≡ 0 = cc in
    let none : enumerate_count it ≡ 0 = cc in
    let first = progress_none c.args.text.now m.area.now (c.of-sheet.ensures.same_bytes ∙ erased_as c.args.area.now c.told-area c.erase.ensures) in (
      text,
      refl,
      subst (λ (st : Stage). Progress c.args.text.now m.area.now st (enumerate_source it).at (enumerate_count it + 1)) (sym c.of-sheet.ensures.blank)
          (subst (λ (n : ℕ). Progress c.args.text.now m.area.now stage.Blank n (enumerate_count it + 1)) (sym at) (subst (λ (n : ℕ). Progress c.args.text.now m.area.now stage.Blank 0 (n + 1)) (sym none) first)),
    )

-- the lines so far, by the number of the line here
so_far : {text area : List ℕ} {st : Stage} {at passed count : ℕ} → passed ≡ count → Progress text area st at (count + 1) → Progress text area st at (passed + 1)
so_far {text} {area} {st} {at} e p = subst (λ (n : ℕ). Progress text area st at (n + 1)) (sym e) p

pub returns-in_err-take : goal.returns-in_err-take
returns-in_err-take c =
    let l = c.loop-passed in
    let from = enumerate_source l.passed-iterator in
    let to = enumerate_source c.next.new.self in
    let step = c.in-Some.ensures.steps in
    let made : Makes c.args.text.now c.take.new.self.area.now c.from_residual.result = progress_stops c.args.text.now l.sheet.area.now l.sheet.stage from.at (c.in-Some.passed + 1) (so_far step.1 l.invariant.2) c.in-Some.line.now to.at c.take.new.self.area.now (next_line from to l.invariant.0 c.in-Some.line step.0)
    c.in_err-take.field-0.0 c.from_residual.result c.from_residual.ensures.1 c.in_err-take.ensures.takes in
    search rules

pub loop-passed-preserved : goal.loop-passed-preserved
loop-passed-preserved c =
    let l = c.loop-passed in
    let from = enumerate_source l.passed-iterator in
    let to = enumerate_source c.next.new.self in
    let step = c.in-Some.ensures.steps in
    let taken = c.in_ok-take.ensures in
    let more = progress_one c.args.text.now l.sheet.area.now l.sheet.stage from.at (c.in-Some.passed + 1) (so_far step.1 l.invariant.2) c.in-Some.line.now to.at c.take.new.self.area.now (next_line from to l.invariant.0 c.in-Some.line step.0)
    c.take.new.self.stage taken.takes (taken.same_length ∙ l.invariant.2.long) in
    let next : enumerate_count c.next.new.self ≡ c.in-Some.passed + 1 = cc in
    (ap (λ b. b.now) step.0.0 ∙ l.invariant.0, taken.same_area ∙ l.invariant.1, so_far next more)

pub returns : goal.returns
returns c =
    let l = c.loop-passed in
    let from = enumerate_source l.passed-iterator in
    let made : MadeOf c.args.text.now l.sheet.area.now c.size.result = progress_all c.args.text.now l.sheet.area.now l.sheet.stage from.at (enumerate_count l.passed-iterator + 1) l.invariant.2 c.size.result (no_line from (enumerate_source c.next.new.self) l.invariant.0 c.in-None.ensures.steps.0) c.size.ensures in
    search rules
