-- `steps::record_step` meets its contract: behind a kind's head, its tests are the last ones of the definition.
use borrow.Author.Tests.{eq-eqb, lt-ltb, le-ltb}
use mathlib.Core.Path.{◌≡◌, sym, ap, ◌∙◌}
use mathlib.Core.Bool.{Bool, true, false}
use mathlib.Core.List.{List}
use Prim.Native.Nat.{ℕ, ◌<◌, ◌≤◌}
use native.Mathlib.Omega.{arith}
use lib.ListN.{length, get_or}
use mir.Syntax.{w8}
use mir.Val.{Fits}
use Rattle.refusal.specs.declared.Refusal.TheVariants as refusal
use Rattle.refusal.specs.Answers.{when◌then◌else◌}
use Rattle.record.specs.declared.kinds.Kind.{Kind}
use Rattle.record.specs.declared.kinds.Row.{Row}
use Rattle.record.specs.Records.{slip}
use Rattle.std.specs.Prelude.{Some, Ok, Err}
use Rattle.record.specs.Numbers.{size_of, coordinates}
use Rattle.record.specs.Kinds.{row_of, words as words_of}
use Rattle.record.specs.Records.{may_stand, all_within, sized_step, step_of}
use Rattle.record.specs.Steps.{Headed}
use Rattle.record.proofs.Table.{row-known}
use Rattle.record.proofs.Heads.{head-size, headed_step}
use Rattle.record.proofs.steps.record_step.Goals as goal

-- where the rest begins with a kind's head, and a row of the table is that kind's
module _ (kind : Kind) (rest : List ℕ) (bytes : (i : ℕ) → Fits w8 (get_or rest i 0)) (first : Bool) (h : may_stand first kind ≡ true × Headed kind rest) {row : Row} (is : row ≡ row_of kind) where
  size_is : row.size ≡ (row_of kind).size
  size_is = ap (λ (r : Row). r.size) is

  sized : size_of rest ≡ (row_of kind).size
  sized = head-size kind rest bytes h.1

  step_is : step_of first rest ≡ sized_step kind rest
  step_is = headed_step kind rest bytes h.1 first h.0

  cut_short : length rest < row.size → slip refusal.Cut 0 ≡ step_of first rest
  unfolding sized_step when◌then◌else◌
  cut_short short = rw (step_is, eq-eqb _ _ sized, lt-ltb _ _ (rw size_is at short))

  -- by the test of the coordinates, as many as the table says
  module _ (long : row.size ≤ length rest) {b : Bool} (range : b ≡ all_within (coordinates (words_of kind) rest 4)) where
    found : b ≡ true → Ok (Some kind) ≡ step_of first rest
    unfolding sized_step when◌then◌else◌
    found e = rw (step_is, eq-eqb _ _ sized, le-ltb _ _ (rw size_is at long), sym range ∙ e)

    out_of_range : b ≡ false → slip refusal.Range 0 ≡ step_of first rest
    unfolding sized_step when◌then◌else◌
    out_of_range e = rw (step_is, eq-eqb _ _ sized, le-ltb _ _ (rw size_is at long), sym range ∙ e)

pub returns-then-rest-row_of : goal.returns-then-rest-row_of
returns-then-rest-row_of c = ap Err c.into.ensures ∙ cut_short c.args.kind c.args.rest.now c.type_inv.rest c.args.first c.requires c.row_of.ensures c.if-rest-row_of.true

pub all_within-requires : goal.all_within-requires
all_within-requires c =
    omega (arith, c.words.ensures, (row-known c.args.kind).holds, ap (λ (r : Row). r.size) c.row_of.ensures, c.if-rest-row_of.false)

-- as many coordinates as the table says
range_is : {b : Bool} {n : ℕ} (kind : Kind) (rest : List ℕ) → b ≡ all_within (coordinates n rest 4) → n ≡ words_of kind → b ≡ all_within (coordinates (words_of kind) rest 4)
range_is kind rest e n = e ∙ ap (λ (n : ℕ). all_within (coordinates n rest 4)) n

pub returns-then-all_within : goal.returns-then-all_within
returns-then-all_within c =
    found c.args.kind c.args.rest.now c.type_inv.rest c.args.first c.requires c.row_of.ensures c.if-rest-row_of.false
    (range_is c.args.kind c.args.rest.now c.all_within.ensures c.words.ensures) c.if-all_within.true

pub returns-else-all_within : goal.returns-else-all_within
returns-else-all_within c =
    ap Err c.into-else-all_within.ensures ∙ out_of_range c.args.kind c.args.rest.now c.type_inv.rest c.args.first c.requires c.row_of.ensures c.if-rest-row_of.false
    (range_is c.args.kind c.args.rest.now c.all_within.ensures c.words.ensures) c.if-all_within.false
