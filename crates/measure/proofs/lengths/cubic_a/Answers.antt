-- `lengths::cubic_a` meets its contract: nothing wraps.
use mathlib.Core.Path.{refl}
use mathlib.Core.List.{[], ◌∷◌}
use Rattle.whole.specs.Number.{wholes}
use Rattle.whole.proofs.Wholes.{readℤ, read_pos}
use Rattle.whole.proofs.Bound.{Bounded, done, ◌▸◌, bounds, fits, kept}
use Rattle.root.specs.declared.Quartic.{Quartic}
use Rattle.root.specs.Search.{Each}
use Rattle.root.specs.Promise.{quartic, root_size, Small}
use Rattle.measure.proofs.lengths.cubic_a.Goals as goal

sizes : (q : Quartic) → Each wholes Small (quartic q) → Bounded (root_size ∷ root_size ∷ root_size ∷ []) (q.q0 ∷ q.q1 ∷ q.q2 ∷ [])
sizes q h = h 0 ▸ h 1 ▸ h 2 ▸ done

pub overflow_mul-result : goal.overflow_mul-result
overflow_mul-result c = bounds (sizes c.args.q c.requires) (λ ρ e k. simp (e 0, e 1, e 2, readℤ, read_pos ρ 6, read_pos ρ 3, read_pos ρ 2, kept k) (fits k _ refl))

pub overflow_mul-result-2 : goal.overflow_mul-result-2
overflow_mul-result-2 c = bounds (sizes c.args.q c.requires) (λ ρ e k. simp (e 0, e 1, e 2, readℤ, read_pos ρ 6, read_pos ρ 3, read_pos ρ 2, kept k) (fits k _ refl))

pub overflow_mul-result-3 : goal.overflow_mul-result-3
overflow_mul-result-3 c = bounds (sizes c.args.q c.requires) (λ ρ e k. simp (e 0, e 1, e 2, readℤ, read_pos ρ 6, read_pos ρ 3, read_pos ρ 2, kept k) (fits k _ refl))

pub overflow_add-result : goal.overflow_add-result
overflow_add-result c = bounds (sizes c.args.q c.requires) (λ ρ e k. simp (e 0, e 1, e 2, readℤ, read_pos ρ 6, read_pos ρ 3, read_pos ρ 2, kept k) (fits k _ refl))

pub overflow_add-result-2 : goal.overflow_add-result-2
overflow_add-result-2 c = bounds (sizes c.args.q c.requires) (λ ρ e k. simp (e 0, e 1, e 2, readℤ, read_pos ρ 6, read_pos ρ 3, read_pos ρ 2, kept k) (fits k _ refl))

pub returns : goal.returns
returns c = bounds (sizes c.args.q c.requires) (λ ρ e k. simp (e 0, e 1, e 2, readℤ, read_pos ρ 6, read_pos ρ 3, read_pos ρ 2, kept k))
