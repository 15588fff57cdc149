-- `root::square` meets its contract: every number of it fits, and the nine are those of the square.
use mathlib.Core.Path.{refl, subst}
use mathlib.Core.List.{[], ◌∷◌}
use Rattle.whole.proofs.Wholes.{readℤ, read_pos}
use Rattle.whole.proofs.Bound.{Bounded, done, ◌▸◌, bounds, fits, kept}
use Rattle.root.specs.declared.Quartic.{Quartic}
use Rattle.whole.specs.Number.{wholes}
use Rattle.root.specs.Search.{Each}
use Rattle.root.specs.Promise.{quartic, Small, IsSquare, root_size}
use Rattle.root.proofs.Squared.{square_is}
use Rattle.root.proofs.square.Goals as goal

sizes : {q : Quartic} → Each wholes Small (quartic q)
    → Bounded (root_size ∷ root_size ∷ root_size ∷ root_size ∷ root_size ∷ []) (q.q0 ∷ q.q1 ∷ q.q2 ∷ q.q3 ∷ q.q4 ∷ [])
sizes h = h 0 ▸ h 1 ▸ h 2 ▸ h 3 ▸ h 4 ▸ done

pub overflow_mul-d0 : goal.overflow_mul-d0
overflow_mul-d0 c = bounds (sizes c.requires) (λ ρ e k. simp (e 0, readℤ, read_pos ρ 2, kept k) (fits k _ refl))

pub overflow_mul-d1 : goal.overflow_mul-d1
overflow_mul-d1 c = bounds (sizes c.requires) (λ ρ e k. simp (e 1, readℤ, read_pos ρ 2, kept k) (fits k _ refl))

pub overflow_mul-d2 : goal.overflow_mul-d2
overflow_mul-d2 c = bounds (sizes c.requires) (λ ρ e k. simp (e 2, readℤ, read_pos ρ 2, kept k) (fits k _ refl))

pub overflow_mul-result : goal.overflow_mul-result
overflow_mul-result c = bounds (sizes c.requires) (λ ρ e k. simp (e 0, readℤ, kept k) (fits k _ refl))

pub overflow_mul-result-2 : goal.overflow_mul-result-2
overflow_mul-result-2 c = bounds (sizes c.requires) (λ ρ e k. simp (e 0, e 1, readℤ, read_pos ρ 2, kept k) (fits k _ refl))

pub overflow_mul-result-3 : goal.overflow_mul-result-3
overflow_mul-result-3 c = bounds (sizes c.requires) (λ ρ e k. simp (e 0, e 2, readℤ, read_pos ρ 2, kept k) (fits k _ refl))

pub overflow_mul-result-4 : goal.overflow_mul-result-4
overflow_mul-result-4 c = bounds (sizes c.requires) (λ ρ e k. simp (e 1, readℤ, kept k) (fits k _ refl))

pub overflow_add-result : goal.overflow_add-result
overflow_add-result c = bounds (sizes c.requires) (λ ρ e k. simp (e 0, e 1, e 2, readℤ, read_pos ρ 2, kept k) (fits k _ refl))

pub overflow_mul-result-5 : goal.overflow_mul-result-5
overflow_mul-result-5 c = bounds (sizes c.requires) (λ ρ e k. simp (e 0, e 3, readℤ, read_pos ρ 2, kept k) (fits k _ refl))

pub overflow_mul-result-6 : goal.overflow_mul-result-6
overflow_mul-result-6 c = bounds (sizes c.requires) (λ ρ e k. simp (e 1, e 2, readℤ, read_pos ρ 2, kept k) (fits k _ refl))

pub overflow_add-result-2 : goal.overflow_add-result-2
overflow_add-result-2 c = bounds (sizes c.requires) (λ ρ e k. simp (e 0, e 1, e 2, e 3, readℤ, read_pos ρ 2, kept k) (fits k _ refl))

pub overflow_mul-result-7 : goal.overflow_mul-result-7
overflow_mul-result-7 c = bounds (sizes c.requires) (λ ρ e k. simp (e 0, e 4, readℤ, read_pos ρ 2, kept k) (fits k _ refl))

pub overflow_mul-result-8 : goal.overflow_mul-result-8
overflow_mul-result-8 c = bounds (sizes c.requires) (λ ρ e k. simp (e 1, e 3, readℤ, read_pos ρ 2, kept k) (fits k _ refl))

pub overflow_add-result-3 : goal.overflow_add-result-3
overflow_add-result-3 c = bounds (sizes c.requires) (λ ρ e k. simp (e 0, e 1, e 3, e 4, readℤ, read_pos ρ 2, kept k) (fits k _ refl))

pub overflow_mul-result-9 : goal.overflow_mul-result-9
overflow_mul-result-9 c = bounds (sizes c.requires) (λ ρ e k. simp (e 2, readℤ, kept k) (fits k _ refl))

pub overflow_add-result-4 : goal.overflow_add-result-4
overflow_add-result-4 c = bounds (sizes c.requires) (λ ρ e k. simp (e 0, e 1, e 2, e 3, e 4, readℤ, read_pos ρ 2, kept k) (fits k _ refl))

pub overflow_mul-result-10 : goal.overflow_mul-result-10
overflow_mul-result-10 c = bounds (sizes c.requires) (λ ρ e k. simp (e 1, e 4, readℤ, read_pos ρ 2, kept k) (fits k _ refl))

pub overflow_mul-result-11 : goal.overflow_mul-result-11
overflow_mul-result-11 c = bounds (sizes c.requires) (λ ρ e k. simp (e 2, e 3, readℤ, read_pos ρ 2, kept k) (fits k _ refl))

pub overflow_add-result-5 : goal.overflow_add-result-5
overflow_add-result-5 c = bounds (sizes c.requires) (λ ρ e k. simp (e 1, e 2, e 3, e 4, readℤ, read_pos ρ 2, kept k) (fits k _ refl))

pub overflow_mul-result-12 : goal.overflow_mul-result-12
overflow_mul-result-12 c = bounds (sizes c.requires) (λ ρ e k. simp (e 2, e 4, readℤ, read_pos ρ 2, kept k) (fits k _ refl))

pub overflow_mul-result-13 : goal.overflow_mul-result-13
overflow_mul-result-13 c = bounds (sizes c.requires) (λ ρ e k. simp (e 3, readℤ, kept k) (fits k _ refl))

pub overflow_add-result-6 : goal.overflow_add-result-6
overflow_add-result-6 c = bounds (sizes c.requires) (λ ρ e k. simp (e 2, e 3, e 4, readℤ, read_pos ρ 2, kept k) (fits k _ refl))

pub overflow_mul-result-14 : goal.overflow_mul-result-14
overflow_mul-result-14 c = bounds (sizes c.requires) (λ ρ e k. simp (e 3, readℤ, read_pos ρ 2, kept k) (fits k _ refl))

pub overflow_mul-result-15 : goal.overflow_mul-result-15
overflow_mul-result-15 c = bounds (sizes c.requires) (λ ρ e k. simp (e 3, e 4, readℤ, read_pos ρ 2, kept k) (fits k _ refl))

pub overflow_mul-result-16 : goal.overflow_mul-result-16
overflow_mul-result-16 c = bounds (sizes c.requires) (λ ρ e k. simp (e 4, readℤ, kept k) (fits k _ refl))

pub returns : goal.returns
returns c = subst (IsSquare c.args.q) (bounds (sizes c.requires) (λ ρ e k. simp (e 0, e 1, e 2, e 3, e 4, readℤ, read_pos ρ 2, kept k))) (square_is c.args.q)
