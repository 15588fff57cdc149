-- `steps::erased_bytes` meets its contract: the first byte that is not FF stands behind those that are.
use borrow.Author.Rules.{rules}
use borrow.Author.Tests.{tests}
use mathlib.Core.Path.{◌≡◌, refl, ap, ◌∙◌}
use lib.Dec.{eqb, ltb}
use lib.ListN.{length}
use borrow.Author.Tests.{ltb-false}
use mathlib.Core.Bool.{Bool, true, false, not, cond}
use mathlib.Core.List.{List, [], ◌∷◌}
use Prim.Native.Nat.{ℕ, suc, ◌+◌, ◌≤◌}
use native.Mathlib.Omega.{arith}
use Rattle.std.specs.Prelude.{Option, Some, None, unwrap_or}
use Rattle.std.specs.List.{position_or_len}
use Rattle.refusal.specs.Answers.{when◌then◌else◌}
use Rattle.record.specs.Records.{erased, erased_bytes}
use Rattle.record.proofs.Front.{erased-within}
use Rattle.std.proofs.lemmas.Iterator.{YieldsList-from_slice}
use Rattle.std.proofs.lemmas.Iterator.Search.{position_from_yields_List}
use Rattle.record.proofs.steps.erased_bytes.Goals as goal

-- the place of the first other byte
first_other : (s : List ℕ) → position_or_len (λ (b : ℕ). not (eqb b erased)) s ≡ erased_bytes s
unfolding when◌then◌else◌
first_other [] = refl
first_other (b ∷ s) = by (eqb b erased) (first_other s)
  where
    by : (t : Bool) → position_or_len (λ (b : ℕ). not (eqb b erased)) s ≡ erased_bytes s → cond (not (not t)) (1 + position_or_len (λ (b : ℕ). not (eqb b erased)) s) 0 ≡ (when t then suc (erased_bytes s) else 0)
    by true e = omega (arith, e)
    by false e = refl

-- and where there is none, how many bytes there are
or_all : (p n : ℕ) → p ≤ n → unwrap_or (cond (ltb p n) (Some p) None) n ≡ p
or_all p n l = by (ltb p n) refl
  where
    by : (t : Bool) → ltb p n ≡ t → unwrap_or (cond t (Some p) None) n ≡ p
    by true e = refl
    by false e = omega (arith, ltb-false p n e, l)

pub returns : goal.returns
returns c =
    let s = c.args.rest.now in
    let e = position_from_yields_List (λ (b : ℕ). not (eqb b 255)) _ _ _ c.position.ensures.ran (YieldsList-from_slice c.args.rest.now cc) (λ x b q k. search (rules, tests)) in
    let first = first_other s in
    c.unwrap_or.ensures ∙ ap (λ (o : Option ℕ). unwrap_or o (length s)) e ∙ or_all _ (length s) (omega (arith, first, erased-within s)) ∙ first
