-- `steps::headless_step` meets its contract: its tests are those of the definition, in the same order. Without its head a known kind has a wrong length.
use borrow.Author.Tests.{eq-eqb, ne_eqb, lt-ltb, le-ltb}
use mathlib.Core.Path.{sym, ap, ◌∙◌}
use Rattle.std.specs.Prelude.{Err}
use Rattle.refusal.specs.Answers.{when◌then◌else◌}
use Rattle.record.specs.Kinds.{kinds}
use Rattle.record.specs.Records.{sized_step, step_of}
use Rattle.record.proofs.Table.{named-is}
use Rattle.record.proofs.Heads.{head_made}
use Rattle.record.proofs.steps.headless_step.Goals as goal

pub returns-then-left-eq0 : goal.returns-then-left-eq0
unfolding step_of when◌then◌else◌
returns-then-left-eq0 c = rw (eq-eqb _ _ c.if-left-eq0.true)

pub returns-then-rest : goal.returns-then-rest
unfolding step_of when◌then◌else◌
returns-then-rest c = rw (ne_eqb _ _ c.if-left-eq0.false, eq-eqb _ _ c.if-left-eq1.true, eq-eqb _ _ c.if-rest.true)

pub returns-then-left-eq1 : goal.returns-then-left-eq1
unfolding step_of when◌then◌else◌
returns-then-left-eq1 c = rw (ne_eqb _ _ c.if-left-eq0.false, eq-eqb _ _ c.if-left-eq1.true, ne_eqb _ _ c.if-rest.false) (ap Err c.into.ensures)

pub returns-then-half_at-eq-ERASED_LENGTH : goal.returns-then-half_at-eq-ERASED_LENGTH
unfolding step_of when◌then◌else◌
returns-then-half_at-eq-ERASED_LENGTH c =
    rw (
      ne_eqb _ _ c.if-left-eq0.false,
      ne_eqb _ _ c.if-left-eq1.false,
      eq-eqb _ _ (sym c.half_at.ensures ∙ c.if-half_at-eq-ERASED_LENGTH.true),
    )
    c.erased_step.ensures

pub returns-then-left-lt4 : goal.returns-then-left-lt4
unfolding step_of when◌then◌else◌
returns-then-left-lt4 c =
    rw (
      ne_eqb _ _ c.if-left-eq0.false,
      ne_eqb _ _ c.if-left-eq1.false,
      ne_eqb _ _ (λ e. c.if-half_at-eq-ERASED_LENGTH.false (c.half_at.ensures ∙ e)),
      lt-ltb _ 4 c.if-left-lt4.true,
    ) (ap Err c.into-then-left-lt4.ensures)

-- a kind that may stand there has another length
pub returns-then-may_stand : goal.returns-then-may_stand
unfolding step_of sized_step when◌then◌else◌
returns-then-may_stand c =
    let rest = c.args.rest.now in
    let told = sym c.kind_in.ensures ∙ c.in-Some.is in
    let may = sym c.may_stand.ensures ∙ c.if-may_stand.true in
    rw (
      ne_eqb _ _ c.if-left-eq0.false,
      ne_eqb _ _ c.if-left-eq1.false,
      ne_eqb _ _ (λ z. c.if-half_at-eq-ERASED_LENGTH.false (c.half_at.ensures ∙ z)),
      le-ltb _ 4 c.if-left-lt4.false,
      told,
      may,
      ne_eqb _ _ (λ z. c.requires _ may (head_made _ rest c.if-left-lt4.false z (named-is kinds rest _ told))),
    ) (ap Err c.into-then-may_stand.ensures)

pub returns-else-may_stand : goal.returns-else-may_stand
unfolding step_of when◌then◌else◌
returns-else-may_stand c =
    rw (
      ne_eqb _ _ c.if-left-eq0.false,
      ne_eqb _ _ c.if-left-eq1.false,
      ne_eqb _ _ (λ z. c.if-half_at-eq-ERASED_LENGTH.false (c.half_at.ensures ∙ z)),
      le-ltb _ 4 c.if-left-lt4.false,
      sym c.kind_in.ensures ∙ c.in-Some.is,
      sym c.may_stand.ensures ∙ c.if-may_stand.false,
    ) (ap Err c.into-else-may_stand.ensures)

pub returns-in-None : goal.returns-in-None
unfolding step_of when◌then◌else◌
returns-in-None c =
    rw (
      ne_eqb _ _ c.if-left-eq0.false,
      ne_eqb _ _ c.if-left-eq1.false,
      ne_eqb _ _ (λ z. c.if-half_at-eq-ERASED_LENGTH.false (c.half_at.ensures ∙ z)),
      le-ltb _ 4 c.if-left-lt4.false,
      sym c.kind_in.ensures ∙ c.in-None.is,
    ) (ap Err c.into-in-None.ensures)
