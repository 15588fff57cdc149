-- `lines::take_numbers` meets its contract: the words that were passed are the numbers in the area.
use Rattle.std.proofs.Common.{◌≡◌, ℕ, ◌+◌, ◌≤◌, List, length, sym, ap, ◌∙◌, subst, arith, rules, ℤ, w64, Result, Ok, Err}
use Rattle.std.specs.Prelude.{IsErrAnd}
use Rattle.std.specs.Result.{MatchResult}
use Rattle.reading.specs.declared.numbers.NoNumber.{NoNumber}
use Rattle.reading.specs.declared.words.Word.{Word}
use Rattle.reading.specs.Numbers.{IsNumber}
use Rattle.make_sheet.specs.declared.lines.Wrong.{Wrong}
use Rattle.make_sheet.specs.Sayings.{NotSoMany, NumbersIn}
use lib.ListN.{set}
use mir.ValLaws.{to_z-of_z}
use Rattle.reading.proofs.Texts.{number_fits, next_word, no_word}
use Rattle.make_sheet.proofs.Taking.{Passed, passed-one, passed-all, passed_else, passed-more, passed_less}
use Rattle.make_sheet.proofs.lines.take_numbers.Goals as goal

-- a word that is told as wrong is no number, and it is told of its place; one that is passed is a number
module _ (word : Word) (r : Result ℤ Wrong) (P : NoNumber → Wrong → Type 0) where
  no_number : (n : Result ℤ NoNumber) → IsNumber word.bytes.now n → MatchResult n (λ x. r ≡ Ok x) (λ e. IsErrAnd r (P e)) → ((e : NoNumber) (w : Wrong) → P e w → w.place ≡ word.place) → (w : Wrong) → r ≡ Err w → (why : NoNumber) × IsNumber word.bytes.now (Err why) × (w.place ≡ word.place)
  no_number (Ok x) is m k w e = cc
  no_number (Err why) is m k w e = (why, is, k why w (subst (λ (q : Result ℤ Wrong). IsErrAnd q (P why)) e m))

  a_number : (n : Result ℤ NoNumber) → IsNumber word.bytes.now n → MatchResult n (λ x. r ≡ Ok x) (λ e. IsErrAnd r (P e)) → (x : ℤ) → r ≡ Ok x → IsNumber word.bytes.now (Ok x)
  a_number (Ok y) is m x e = let same : y ≡ x = cc in subst (λ (z : ℤ). IsNumber word.bytes.now (Ok z)) same is
  a_number (Err why) is m x e = absurd (subst (λ (q : Result ℤ Wrong). IsErrAnd q (P why)) e m)

wrong_numbers : (text : List ℕ) (out : List ℤ) (r : Result (Unit {0}) Wrong) (w : Wrong) → IsErrAnd r (λ e. e ≡ w) → w.place ≤ length text → NotSoMany text (length out) → NumbersIn text out r
wrong_numbers text out (Ok u) w e p n = absurd e
wrong_numbers text out (Err v) w e p n = (subst (λ (x : Wrong). x.place ≤ length text) (sym e) p, n)

pub returns-in_err-x : goal.returns-in_err-x
returns-in_err-x c =
    let l = c.loop-word in
    let h = next_word l.word-iterator c.next.new.self l.invariant.0 c.in-Some.ensures.steps in
    let w = c.in_err-x.field-0.0 in
    let (why, is, at) = no_number c.in-Some.word _ _ _ c.number_in.ensures c.map_err.ensures.cases (λ e w k. search rules) w c.in_err-x.was in
    wrong_numbers c.args.text.now l.out c.from_residual.result w c.from_residual.ensures.1 (omega (arith, h.there, at))
    (passed_else c.args.text.now _ l.out l.count l.word-iterator.at l.invariant.1 c.in-Some.word c.next.new.self.at h why is)

pub returns-then-count-out : goal.returns-then-count-out
returns-then-count-out c =
    let l = c.loop-word in
    let h = next_word l.word-iterator c.next.new.self l.invariant.0 c.in-Some.ensures.steps in
    (omega (arith, h.there), passed-more c.args.text.now _ l.out l.count l.word-iterator.at l.invariant.1 c.in-Some.word c.next.new.self.at h (omega (arith, c.if-count-out.true)))

pub loop-word-preserved : goal.loop-word-preserved
loop-word-preserved c =
    let l = c.loop-word in
    let text = c.args.text.now in
    let h = next_word l.word-iterator c.next.new.self l.invariant.0 c.in-Some.ensures.steps in
    let x = c.in_ok-x.x in
    let n = a_number c.in-Some.word _ _ _ c.number_in.ensures c.map_err.ensures.cases x c.in_ok-x.was in (
      ap (λ b. b.now) c.in-Some.ensures.steps.0 ∙ l.invariant.0,
      subst (λ (y : ℤ). Passed text (length c.args.out.now) (set l.out l.count y) (l.count + 1) c.next.new.self.at) (sym (to_z-of_z w64 x (number_fits _ x n)))
          (passed-one text _ l.out l.count l.word-iterator.at l.invariant.1 c.in-Some.word c.next.new.self.at h x n (omega (arith, c.if-count-out.false))),
    )

pub returns-then-count-out-2 : goal.returns-then-count-out-2
returns-then-count-out-2 c =
    let l = c.loop-word in
    let h = no_word l.word-iterator c.next.new.self l.invariant.0 c.in-None.ensures.steps in
    (omega arith, passed_less c.args.text.now _ l.out l.count l.word-iterator.at l.invariant.1 h (omega (arith, c.if-count-out-2.true)))

pub returns : goal.returns
returns c =
    let l = c.loop-word in
    let h = no_word l.word-iterator c.next.new.self l.invariant.0 c.in-None.ensures.steps in
    passed-all c.args.text.now _ l.out l.count l.word-iterator.at l.invariant.1 h (omega (arith, c.if-count-out-2.false))
