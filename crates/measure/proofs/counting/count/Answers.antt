-- `counting::count` meets its contract: each way through the tests is a case of Counts.
use mathlib.Core.Path.{◌≡◌, refl, ap}
use mathlib.Core.List.{[], ◌∷◌}
use mathlib.Core.Logic.{◌≢◌, ⊎_elim}
use mir.Facts.{sfits_lit}
use mir.Syntax.{w64}
use mir.Val.{of_z}
use lib.IntN.{ℤ, pos, ◌+ℤ◌, ◌*ℤ◌}
use lib.Signed.{◌≤ℤ◌, ◌<ℤ◌}
use Rattle.whole.proofs.Wholes.{readℤ, read_pos}
use Rattle.whole.proofs.Linear.{linear}
use Rattle.whole.proofs.Machine.{same_bits}
use Rattle.whole.proofs.Order.{compare}
use Rattle.whole.proofs.Bound.{Bounded, done, ◌▸◌, bounds, fits, kept}
use Rattle.measure.specs.declared.Turning.{Turning}
use Rattle.measure.specs.Steps.{Moderate}
use Rattle.measure.proofs.Most.{start_of, middle_of, end_of}
use Rattle.measure.proofs.Counts.{count_apart, count_level, count_edge, count_deep, count-flat}
use Rattle.measure.proofs.counting.count.Goals as goal
use Rattle.measure.proofs.counting.count.Goals.{Else-ac-lt0, Else-level, Else-ac-eq0, Else-ac-b}

abbrev ac : Turning → ℤ
ac x = start_of x *ℤ end_of x

abbrev turn : Turning → ℤ
turn x = middle_of x *ℤ (start_of x +ℤ end_of x)

abbrev bb : Turning → ℤ
bb x = middle_of x *ℤ middle_of x

sizes : (x : Turning) → Moderate x → Bounded (8000000 ∷ 16000000 ∷ 8000000 ∷ []) (x.t0 ∷ x.t1 ∷ x.t2 ∷ [])
sizes x m = m.start ▸ m.middle ▸ m.end ▸ done

-- ---- what the tests tell
below : (c : goal.Then-ac-lt0) → ac c.args.x <ℤ pos 0
below c =
    bounds (sizes c.args.x c.requires)
    (λ ρ e k. let t = simp (e 0, e 1, e 2, readℤ, kept k) at c.if-ac-lt0.true in simp (e 0, e 1, e 2, readℤ) (omega linear))

not-below : (c : Else-ac-lt0) → pos 0 ≤ℤ ac c.args.x
not-below c =
    bounds (sizes c.args.x c.requires)
    (λ ρ e k. let t = simp (e 0, e 1, e 2, readℤ, kept k) at c.if-ac-lt0.false in simp (e 0, e 1, e 2, readℤ) (omega linear))

level : (c : goal.Then-level) → pos 0 ≤ℤ turn c.args.x
level c =
    bounds (sizes c.args.x c.requires)
    (λ ρ e k. let t = simp (e 0, e 1, e 2, readℤ, read_pos ρ 2, kept k) at c.if-level.true in simp (e 0, e 1, e 2, readℤ, read_pos ρ 2) (omega linear))

turned : (c : Else-level) → turn c.args.x <ℤ pos 0
turned c =
    bounds (sizes c.args.x c.requires)
    (λ ρ e k. let t = simp (e 0, e 1, e 2, readℤ, read_pos ρ 2, kept k) at c.if-level.false in simp (e 0, e 1, e 2, readℤ, read_pos ρ 2) (omega linear))

edge : (c : goal.Then-ac-eq0) → ac c.args.x ≡ pos 0
edge c =
    bounds (sizes c.args.x c.requires)
    (λ ρ e k. let t = simp (e 0, e 1, e 2, readℤ, kept k) at c.if-ac-eq0.true in simp (e 0, e 1, e 2, readℤ) (same_bits (fits k _ refl) (sfits_lit tt) t))

not_edge : (c : Else-ac-eq0) → ac c.args.x ≢ pos 0
not_edge c =
    bounds (sizes c.args.x c.requires)
    (λ ρ e k. let t = simp (e 0, e 1, e 2, readℤ, kept k) at c.if-ac-eq0.false in simp (e 0, e 1, e 2, readℤ) (λ z. t (ap (of_z w64) z)))

above : (c : Else-ac-eq0) → pos 0 <ℤ ac c.args.x
above c = ⊎_elim (λ h. absurd (not_edge c (omega (linear, not-below c.before.before)))) (λ h. h) (compare (ac c.args.x) (pos 0))

deep : (c : goal.Then-ac-b) → (ac c.args.x *ℤ pos 4) <ℤ bb c.args.x
deep c =
    bounds (sizes c.args.x c.requires)
    (λ ρ e k.
    let t = simp (e 0, e 1, e 2, readℤ, read_pos ρ 2, read_pos ρ 4, kept k) at c.if-ac-b.true in simp (e 0, e 1, e 2, readℤ, read_pos ρ 2, read_pos ρ 4) (omega linear))

flat : (c : Else-ac-b) → bb c.args.x ≤ℤ (ac c.args.x *ℤ pos 4)
flat c =
    bounds (sizes c.args.x c.requires)
    (λ ρ e k.
    let t = simp (e 0, e 1, e 2, readℤ, read_pos ρ 2, read_pos ρ 4, kept k) at c.if-ac-b.false in simp (e 0, e 1, e 2, readℤ, read_pos ρ 2, read_pos ρ 4) (omega linear))

-- ---- the needs
pub overflow_mul-ac : goal.overflow_mul-ac
overflow_mul-ac c = bounds (sizes c.args.x c.requires) (λ ρ e k. simp (e 0, e 1, e 2, readℤ, read_pos ρ 2, kept k) (fits k _ refl))

pub returns-then-ac-lt0 : goal.returns-then-ac-lt0
returns-then-ac-lt0 c = count_apart c.args.x (below c)

pub overflow_add-level : goal.overflow_add-level
overflow_add-level c = bounds (sizes c.args.x c.requires) (λ ρ e k. simp (e 0, e 1, e 2, readℤ, read_pos ρ 2, kept k) (fits k _ refl))

pub overflow_mul-level : goal.overflow_mul-level
overflow_mul-level c = bounds (sizes c.args.x c.requires) (λ ρ e k. simp (e 0, e 1, e 2, readℤ, read_pos ρ 2, kept k) (fits k _ refl))

pub returns-then-level : goal.returns-then-level
returns-then-level c = count_level c.args.x (not-below c.before) (level c)

pub returns-then-ac-eq0 : goal.returns-then-ac-eq0
returns-then-ac-eq0 c = count_edge c.args.x (edge c) (turned c.before)

pub overflow_mul-ac-else-ac-eq0 : goal.overflow_mul-ac-else-ac-eq0
overflow_mul-ac-else-ac-eq0 c = bounds (sizes c.args.x c.requires) (λ ρ e k. simp (e 0, e 1, e 2, readℤ, read_pos ρ 2, read_pos ρ 4, kept k) (fits k _ refl))

pub overflow_mul-b-else-ac-eq0 : goal.overflow_mul-b-else-ac-eq0
overflow_mul-b-else-ac-eq0 c = bounds (sizes c.args.x c.requires) (λ ρ e k. simp (e 0, e 1, e 2, readℤ, read_pos ρ 2, read_pos ρ 4, kept k) (fits k _ refl))

pub returns-then-ac-b : goal.returns-then-ac-b
returns-then-ac-b c = count_deep c.args.x (above c.before) (turned c.before.before) (deep c)

pub returns-else-ac-b : goal.returns-else-ac-b
returns-else-ac-b c = count-flat c.args.x (above c.before) (flat c)
