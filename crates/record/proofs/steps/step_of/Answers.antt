-- `steps::step_of` meets its contract: it is that of the functions it goes by. Where no head of a kind that may stand there is found, there is none.
use mathlib.Core.Path.{◌≡◌, sym, ◌∙◌}
use mathlib.Core.Bool.{Bool, true, false≢true}
use mathlib.Core.List.{List}
use Prim.Native.Nat.{ℕ}
use native.Mathlib.Omega.{arith}
use Rattle.record.specs.declared.kinds.Kind.{Kind}
use Rattle.record.specs.declared.kinds.Kind.TheVariants.{Header, Cubic, Quintic}
use Rattle.record.specs.Numbers.{word_at}
use Rattle.record.specs.Records.{may_stand}
use Rattle.record.specs.Steps.{head_word, Headless}
use Rattle.record.proofs.steps.step_of.Goals as goal
use Rattle.record.proofs.steps.step_of.Goals.{then-rest-ge4+else-may_stand+else-may_stand-2+else-may_stand-3, else-rest-ge4}
use Rattle.record.proofs.steps.step_of.Goals.{else-may_stand-via-then-may_stand+else-head-head_word, else-may_stand-via-else-may_stand}
use Rattle.record.proofs.steps.step_of.Goals.{else-may_stand-2-via-then-may_stand-2+else-head-head_word-2, else-may_stand-2-via-else-may_stand-2}
use Rattle.record.proofs.steps.step_of.Goals.{else-may_stand-3-via-then-may_stand-3+else-head-head_word-3, else-may_stand-3-via-else-may_stand-3}

-- a kind that may stand there has another head
abbrev Other : Bool → List ℕ → Kind → Type 0
Other first s k = may_stand first k ≡ true → word_at s 0 ≡ head_word k → ⊥

-- the table, kind by kind
of_none : (first : Bool) (s : List ℕ) → Other first s Header → Other first s Cubic → Other first s Quintic → Headless first s
of_none first s f g q Header m h = f m h.head
of_none first s f g q Cubic m h = g m h.head
of_none first s f g q Quintic m h = q m h.head

pub headless_step-requires : goal.headless_step-requires
headless_step-requires c =
    elim c.if-rest-ge4.branch [
      | then-rest-ge4+else-may_stand+else-may_stand-2+else-may_stand-3 w ↦ of_none _ _
          (λ m e. elim w.else-may_stand.branch [
            | else-may_stand-via-then-may_stand+else-head-head_word v ↦ v.if-head-head_word.false (w.word_at-head.ensures.0 ∙ e ∙ sym v.head_word.ensures)
            | else-may_stand-via-else-may_stand v ↦ false≢true (sym v.if-may_stand.false ∙ w.may_stand.ensures ∙ m)
          ])
          (λ m e. elim w.else-may_stand-2.branch [
            | else-may_stand-2-via-then-may_stand-2+else-head-head_word-2 v ↦
                v.if-head-head_word-2.false (w.word_at-head.ensures.0 ∙ e ∙ sym v.head_word-then-may_stand-2.ensures)
            | else-may_stand-2-via-else-may_stand-2 v ↦ false≢true (sym v.if-may_stand-2.false ∙ w.may_stand-then-rest-ge4.ensures ∙ m)
          ])
          (λ m e. elim w.else-may_stand-3.branch [
            | else-may_stand-3-via-then-may_stand-3+else-head-head_word-3 v ↦
                v.if-head-head_word-3.false (w.word_at-head.ensures.0 ∙ e ∙ sym v.head_word-then-may_stand-3.ensures)
            | else-may_stand-3-via-else-may_stand-3 v ↦ false≢true (sym v.if-may_stand-3.false ∙ w.may_stand-then-rest-ge4-2.ensures ∙ m)
          ])
      | else-rest-ge4 w ↦ λ k m h. omega (arith, w.if-rest-ge4.false, h.long)
    ]
