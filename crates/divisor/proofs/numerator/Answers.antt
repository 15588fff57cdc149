-- `divisor::numerator` meets its contract.
use mathlib.Core.Path.{refl}
use Rattle.whole.proofs.Wholes.{readℤ, ringℤ}
use Rattle.whole.proofs.Bound.{bounds, fits, kept}
use Rattle.pair.proofs.Parts.{parts_two, pair-equal}
use Rattle.divisor.proofs.numerator.Goals as goal

pub overflow_mul-result : goal.overflow_mul-result
overflow_mul-result c = bounds (parts_two c.requires.0 c.requires.1) (λ ρ e k. simp (e 0, e 2, readℤ, kept k) (fits k _ refl))

pub overflow_mul-result-2 : goal.overflow_mul-result-2
overflow_mul-result-2 c = bounds (parts_two c.requires.0 c.requires.1) (λ ρ e k. simp (e 1, e 3, readℤ, kept k) (fits k _ refl))

pub overflow_add-result : goal.overflow_add-result
overflow_add-result c = bounds (parts_two c.requires.0 c.requires.1) (λ ρ e k. simp (e 0, e 1, e 2, e 3, readℤ, kept k) (fits k _ refl))

pub overflow_mul-result-3 : goal.overflow_mul-result-3
overflow_mul-result-3 c = bounds (parts_two c.requires.0 c.requires.1) (λ ρ e k. simp (e 1, e 2, readℤ, kept k) (fits k _ refl))

pub overflow_mul-result-4 : goal.overflow_mul-result-4
overflow_mul-result-4 c = bounds (parts_two c.requires.0 c.requires.1) (λ ρ e k. simp (e 0, e 3, readℤ, kept k) (fits k _ refl))

pub overflow_sub-result : goal.overflow_sub-result
overflow_sub-result c = bounds (parts_two c.requires.0 c.requires.1) (λ ρ e k. simp (e 0, e 1, e 2, e 3, readℤ, kept k) (fits k _ refl))

pub returns : goal.returns
returns c =
    pair-equal
    (bounds (parts_two c.requires.0 c.requires.1) (λ ρ e k. simp (e 0, e 1, e 2, e 3, readℤ, kept k) (ringℤ ρ _ _ tt)))
    (bounds (parts_two c.requires.0 c.requires.1) (λ ρ e k. simp (e 0, e 1, e 2, e 3, readℤ, kept k) (ringℤ ρ _ _ tt)))
