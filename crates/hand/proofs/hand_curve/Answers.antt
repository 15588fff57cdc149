-- `hand_curve` meets its contract.
use mathlib.Core.Path.{◌≡◌, sym, ap, ◌∙◌}
use lib.IntN.{ℤ}
use mathlib.Core.List.{List}
use Rattle.curve.specs.declared.Curve.{Curve}
use Rattle.curve.specs.Curves.{points_of}
use Rattle.record.specs.Kinds.{numbers_of}
use Rattle.refusal.specs.Answers.{Answer, given}
use Rattle.hand.proofs.Areas.{hands_same}
use Rattle.hand.proofs.hand_curve.Goals as goal

-- the numbers of the curve that the test found
named : {xs : List ℤ} {c d : Curve} → c ≡ d → xs ≡ numbers_of (points_of d) → ◌≡◌ {A = Answer (List ℤ)} (given xs) (given (numbers_of (points_of c)))
named e n = ap given (n ∙ sym (ap (λ (c : Curve). numbers_of (points_of c)) e))

pub returns-in-Quintic : goal.returns-in-Quintic
returns-in-Quintic c = let numbers = c in hands_same (named numbers.in-Quintic.is numbers.quintic_numbers.ensures) c.hand-in-Quintic.type_inv c.hand-in-Quintic.ensures
