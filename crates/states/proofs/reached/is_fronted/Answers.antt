-- `reached::is_fronted` meets its contract: what the tests saw of the front, and the words last.
use borrow.Author.Rules.{rules}
use mathlib.Core.Bool.{Bool, true, false, false≢true}
use mathlib.Core.Path.{◌≡◌, refl, sym, ap, ◌∙◌, subst}
use mathlib.Core.List.{List}
use Prim.Native.Nat.{ℕ, ◌-◌}
use native.Mathlib.Omega.{arith}
use lib.Dec.{eqb}
use lib.ListN.{length, take}
use lib.Pointwise.{pointwise, bytes_decides}
use lib.Seq.{take_all}
use Rattle.whole.specs.Number.{Tells}
use Rattle.whole.proofs.Flags.{told_true, told-map, equal_tells, order_tells}
use Rattle.record.specs.Kinds.{longest_record}
use Rattle.record.specs.Records.{erased_bytes}
use Rattle.sheet.specs.Survey.{survey_of}
use Rattle.states.specs.declared.State.{State}
use Rattle.states.specs.Words.{packed, unpacked}
use Rattle.states.specs.Steps.{first_in, held_in, front_in}
use Rattle.states.proofs.Fronts.{held-long}
use Rattle.states.proofs.reached.is_fronted.Goals as goal
use Rattle.states.proofs.reached.is_fronted.Goals.{then-state-left, else-state-left, then-min-erased_bytes, else-min-erased_bytes}

-- what two lists' comparison tells
same_tells : (xs ys : List ℕ) {r : Bool} → r ≡ pointwise eqb xs ys → Tells (xs ≡ ys) r
same_tells xs ys e = subst (Tells (xs ≡ ys)) (sym e) (by (pointwise eqb xs ys) refl)
  where
    by : (t : Bool) → pointwise eqb xs ys ≡ t → Tells (xs ≡ ys) t
    by true q = (bytes_decides xs ys).0 q
    by false q = λ z. false≢true (sym q ∙ (bytes_decides xs ys).1 z)

-- the front of the state, as the tests see it
module _ (state : State) (seven : length state.words ≡ 7) {held : ℕ} {bytes : List ℕ} (held-is : held ≡ held_in state) (bytes_are : bytes ≡ unpacked state.words) where
  front-is : take held bytes ≡ front_in state
  front-is = λ i. take (held-is i) (bytes_are i)

  words_of_front : {own : List ℕ} → own ≡ packed (take longest_record (take held bytes)) → own ≡ packed (front_in state)
  words_of_front e =
      e ∙ ap (λ (x : List ℕ). packed (take longest_record x)) front-is ∙ ap packed (take_all longest_record (front_in state) (omega (arith, held-long state seven)))

pub returns-then-walk-eq0 : goal.returns-then-walk-eq0
returns-then-walk-eq0 c =
    let state = c.args.state in
    let seven : length state.words ≡ 7 = search rules in
    let front = front-is state seven c.min-held.ensures c.bytes_of-bytes.ensures in
    let own = words_of_front state seven c.min-held.ensures c.bytes_of-bytes.ensures c.front_words.ensures in
    elim c.if-min-erased_bytes.branch [
      | then-min-erased_bytes w ↦ elim c.if-state-left.branch [
        | then-state-left v ↦
            told-map
            (λ z. record {
              words_are = z ∙ own;
              erased_inside = v.if-state-left.true;
              erased_is = sym v.min.ensures ∙ told_true (equal_tells v.min.result v.erased_bytes.result) (sym v.value-is ∙ w.if-min-erased_bytes.true) ∙ v.erased_bytes.ensures ∙ ap erased_bytes front;
              no_record = sym (w.walk.ensures.end_is ∙ ap (λ (x : List ℕ). (survey_of (first_in state) x).end) front) ∙ told_true (equal_tells w.walk.result.end 0) (sym w.value-is ∙ c.if-walk-eq0.true);
            })
            (λ f. f.words_are ∙ sym own)
            c.eq.result (same_tells state.words c.front_words.result c.eq.ensures)
        | else-state-left v ↦ absurd (omega (arith, told_true (order_tells state.erased (state.count - state.place)) (sym v.value-is ∙ w.if-min-erased_bytes.true), v.if-state-left.false))
      ]
      | else-min-erased_bytes w ↦ absurd (false≢true (sym (w.value-is ∙ w.if-min-erased_bytes.false) ∙ c.if-walk-eq0.true))
    ]
