-- `steps::kind_in` meets its contract: of the kinds in the table's order the first that is named.
use borrow.Author.Rules.{rules}
use borrow.Author.Tests.{tests}
use mathlib.Core.Path.{◌≡◌, refl, sym, ◌∙◌}
use mathlib.Core.Bool.{Bool, true, false, cond}
use mathlib.Core.List.{List, [], ◌∷◌}
use Prim.Native.Nat.{ℕ}
use Rattle.std.specs.Prelude.{Option, Some, None}
use Rattle.std.specs.List.{find}
use Rattle.std.specs.Option.{option_map}
use Rattle.std.proofs.lemmas.Iterator.{YieldsList-from_slice}
use Rattle.std.proofs.lemmas.Iterator.Consumers.{YieldsList-from_copied}
use Rattle.std.proofs.lemmas.Iterator.Search.{find_from_yields_List}
use Rattle.refusal.specs.Answers.{when◌then◌else◌}
use Rattle.record.specs.declared.kinds.Kind.{Kind}
use Rattle.record.specs.Kinds.{kinds}
use Rattle.record.specs.Records.{named, kind_in}
use Rattle.record.proofs.steps.kind_in.Goals as goal

as_it_is : (r : Option Kind) → option_map (λ x. x) r ≡ r
as_it_is None = refl
as_it_is (Some k) = refl

first_named : (ks : List Kind) (s : List ℕ) → find (λ k. named k s) ks ≡ kind_in ks s
unfolding kind_in when◌then◌else◌
first_named [] s = refl
first_named (k ∷ ks) s = by (named k s) (first_named ks s)
  where
    by : (t : Bool) {found told : Option Kind} → found ≡ told → cond t (Some k) found ≡ (when t then Some k else told)
    by true e = refl
    by false e = e

pub returns : goal.returns
returns c =
    let all = YieldsList-from_copied (YieldsList-from_slice kinds cc) in
    let e = find_from_yields_List (λ k. named k c.args.rest.now) _ _ c.find.result c.find.ensures.ran all (λ x b q k. search (rules, tests)) in
    sym (as_it_is c.find.result) ∙ e ∙ first_named kinds c.args.rest.now
