-- `places::find` meets its contract: what `position` passed is not what is sought.
use Rattle.std.proofs.Common.{◌≡◌, ℕ, List, Option, ◌+◌, ◌-◌, ◌≤◌, ◌<◌, length, drop, length-drop, get_or, ap, ◌∙◌, subst, arith, rules}
use Rattle.std.proofs.lemmas.List.{get_or-drop}
use lib.Seq.{take_all}
use Rattle.std.specs.List.{AllWithin, HoldsAt}
use Rattle.std.specs.Option.{MatchOption}
use Rattle.std.proofs.lemmas.Iterator.{IsFirst-from_position, YieldsList-from_slice}
use Rattle.reading.specs.declared.places.Sought.{Sought}
use Rattle.reading.specs.Places.{IsSought, FirstPlace}
use Rattle.reading.proofs.places.find.Goals as goal

abbrev Other : Sought → ℕ → Type 0
Other x b = IsSought x b → ⊥

-- where the first is, if there is one
abbrev FirstIn : Sought → List ℕ → Option ℕ → Type 0
FirstIn x s o = MatchOption o (AllWithin (Other x) s 0 (length s)) (λ i. (i < length s) × HoldsAt (IsSought x) s i × AllWithin (Other x) s 0 i)

-- what is first in the rest is first from there on
module _ (text : List ℕ) (from : ℕ) (x : Sought) (l : from ≤ length text) where
  here : (i : ℕ) → from ≤ i → get_or (drop from text) (i - from) 0 ≡ get_or text i 0
  here i f = get_or-drop from text (i - from) 0 ∙ ap (λ (k : ℕ). get_or text k 0) (omega (arith, f))

  passed : (n i : ℕ) → AllWithin (Other x) (drop from text) 0 n → i < from + n → from ≤ i → IsSought x (get_or text i 0) → ⊥
  passed n i h a f = subst (Other x) (here i f) (h (i - from) 0 (omega arith) (omega (arith, a, f)))

  first_there : (i : ℕ) → (i < length (drop from text)) × HoldsAt (IsSought x) (drop from text) i × AllWithin (Other x) (drop from text) 0 i → FirstPlace text from x (from + i)
  first_there i (w, h, p) =
      record {
        behind = omega arith;
        within = omega (arith, l, w, length-drop from text);
        passed = λ j a f. passed i j p a f;
        there = λ a. subst (IsSought x) (get_or-drop from text i 0) (h 0);
      }

  none_there : AllWithin (Other x) (drop from text) 0 (length (drop from text)) → FirstPlace text from x (length text)
  none_there p =
      record {
        behind = l;
        within = omega arith;
        passed = λ j a f. passed (length (drop from text)) j p (omega (arith, l, a, length-drop from text)) f;
        there = λ a. let no : ⊥ = omega (arith, a) in absurd no;
      }

pub returns-in-Some : goal.returns-in-Some
returns-in-Some c =
    let x = c.args.sought in
    let first = IsFirst-from_position _ _ _ (IsSought x) (Other x) c.position.ensures.ran (YieldsList-from_slice (drop c.args.from c.args.text.now) (c.iter.ensures.rest ∙ take_all _ _ (omega (arith, length-drop c.args.from c.args.text.now)))) (λ b q k. search rules) (λ b q k. search rules) in
    first_there c.args.text.now c.args.from x c.requires c.in-Some.skipped (subst (FirstIn x (drop c.args.from c.args.text.now)) c.in-Some.is first)

pub returns-in-None : goal.returns-in-None
returns-in-None c =
    let x = c.args.sought in
    let first = IsFirst-from_position _ _ _ (IsSought x) (Other x) c.position.ensures.ran (YieldsList-from_slice (drop c.args.from c.args.text.now) (c.iter.ensures.rest ∙ take_all _ _ (omega (arith, length-drop c.args.from c.args.text.now)))) (λ b q k. search rules) (λ b q k. search rules) in
    none_there c.args.text.now c.args.from x c.requires (subst (FirstIn x (drop c.args.from c.args.text.now)) c.in-None.is first)
