-- One answer for each call: two that are promised are the same.
--   starts_once, feeds_once, ends_once, asks_once
--   ends_twice     ending twice is ending once
--   feeds_each     feeding makes the state of any bytes that of the bytes and the part
use mathlib.Core.Path.{◌≡◌, refl, sym, ap, ◌∙◌}
use mathlib.Core.Bool.{true, false}
use mathlib.Core.List.{List, ◌++◌}
use Prim.Native.Nat.{ℕ}
use native.Mathlib.Omega.{arith}
use Rattle.sheet.specs.declared.Checked.{Checked}
use Rattle.sheet.proofs.Once.{check_once}
use Rattle.states.specs.declared.State.{State}
use Rattle.std.specs.Prelude.{Option, Some, Result, Ok}
use Rattle.refusal.specs.declared.Refusal.{Refusal}
use Rattle.refusal.specs.declared.Fault.{Fault}
use Rattle.states.specs.States.{state_of, IsOf}
use Rattle.parts.specs.Promise.{Starts, Feeds, goes_on, too_late, feeds_none, EndsSheet, ends, ends_none, Asks, checked, not_ended, asks_none}
use Rattle.states.specs.Steps.{answer_in}
use Rattle.states.proofs.Fronts.{state_flag}
use Rattle.states.proofs.More.{fed_is, ended_is}
use Rattle.states.proofs.Outcome.{answer-is}

-- a state has ended or not
not_both {ℓ} : {X : Type ℓ} {st : State} {s t : List ℕ} → IsOf st s false → IsOf st t true → X
not_both {st = st} {s} {t} h k = absurd (omega (arith, state_flag st s false h, state_flag st t true k))

pub starts_once : (x y : State) → Starts x → Starts y → x ≡ y
starts_once x y h k = h ∙ sym k

pub feeds_once : (st : State) (part : List ℕ) (x y : Result State Fault) → Feeds st part x → Feeds st part y → x ≡ y
feeds_once st part _ _ (goes_on s h) (goes_on t k) = ap Ok (sym (fed_is st s part h) ∙ fed_is st t part k)
feeds_once st part _ _ (goes_on s h) (too_late t k) = not_both h k
feeds_once st part _ _ (goes_on s h) (feeds_none k) = absurd (k (s, false, h))
feeds_once st part _ _ (too_late s h) (goes_on t k) = not_both k h
feeds_once st part _ _ (too_late s h) (too_late t k) = refl
feeds_once st part _ _ (too_late s h) (feeds_none k) = absurd (k (s, true, h))
feeds_once st part _ _ (feeds_none h) (goes_on t k) = absurd (h (t, false, k))
feeds_once st part _ _ (feeds_none h) (too_late t k) = absurd (h (t, true, k))
feeds_once st part _ _ (feeds_none h) (feeds_none k) = refl

pub feeds_each : (st : State) (s part : List ℕ) (x : Result State Fault) → IsOf st s false → Feeds st part x → x ≡ Ok (state_of (s ++ part) false)
feeds_each st s part x h f = feeds_once st part x (Ok (state_of (s ++ part) false)) f (goes_on s h)

pub ends_once : (st x y : State) → EndsSheet st x → EndsSheet st y → x ≡ y
ends_once st _ _ (ends s b h) (ends t d k) = sym (ended_is st s b h) ∙ ended_is st t d k
ends_once st _ _ (ends s b h) (ends_none k) = absurd (k (s, b, h))
ends_once st _ _ (ends_none h) (ends t d k) = absurd (h (t, d, k))
ends_once st _ _ (ends_none h) (ends_none k) = refl

-- ending twice is ending once
pub ends_twice : (st x y : State) → EndsSheet st x → EndsSheet x y → y ≡ x
ends_twice st _ y (ends s b h) k = ends_once (state_of s true) y (state_of s true) k (ends s true (record { bytes = h.bytes; is = refl }))
ends_twice st _ y (ends_none h) k = ends_once st y st k (ends_none h)

pub asks_once : (st : State) (x y : Result (Option (Result Checked Fault)) Refusal) → Asks st x → Asks st y → x ≡ y
asks_once st _ _ (checked s x h c) (checked t y k d) =
    ap (λ (a : Result Checked Fault). Ok (Some a)) (check_once s x (answer_in st) c (answer-is st s true h) ∙ check_once t (answer_in st) y (answer-is st t true k) d)
asks_once st _ _ (checked s x h c) (not_ended t k) = not_both k h
asks_once st _ _ (checked s x h c) (asks_none k) = absurd (k (s, true, h))
asks_once st _ _ (not_ended s h) (checked t y k d) = not_both h k
asks_once st _ _ (not_ended s h) (not_ended t k) = refl
asks_once st _ _ (not_ended s h) (asks_none k) = absurd (k (s, false, h))
asks_once st _ _ (asks_none h) (checked t y k d) = absurd (h (t, true, k))
asks_once st _ _ (asks_none h) (not_ended t k) = absurd (h (t, false, k))
asks_once st _ _ (asks_none h) (asks_none k) = refl
