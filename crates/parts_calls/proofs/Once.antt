-- One answer for each call: what is returned, and what the area holds.
--   start_once, feed_once, end_once, ask_once
use mathlib.Core.Path.{◌≡◌, refl, sym, ap, ap₂, ◌∙◌, subst}
use mathlib.Core.List.{List}
use mathlib.Core.Logic.{inl, inr}
use Prim.Native.Nat.{ℕ}
use native.Mathlib.Omega.{arith}
use lib.IntN.{ℤ}
use Rattle.states.specs.declared.State.{State}
use Rattle.std.specs.Prelude.{Result}
use Rattle.refusal.specs.declared.Fault.{Fault}
use Rattle.parts.specs.Promise.{Asks}
use Rattle.parts.proofs.Once as once
use Rattle.parts_calls.specs.Numbers.{state_in}
use Rattle.parts_calls.specs.Promise.{fed_code, told_code, left, fed_area, ended_area, OnState, StartCall, FeedCall, EndCall, AskCall}

on_once : (before a b : List ℤ) (r q : ℤ) {P Q : Type 0} → (P → Q → (r ≡ q) × (a ≡ b)) → OnState before a r P → OnState before b q Q → (r ≡ q) × (a ≡ b)
on_once before a b r q f (inl h) (inl k) = (h.1 ∙ sym k.1, h.2 ∙ sym k.2)
on_once before a b r q f (inl h) (inr k) = absurd (omega (arith, h.0, k.0))
on_once before a b r q f (inr h) (inl k) = absurd (omega (arith, h.0, k.0))
on_once before a b r q f (inr h) (inr k) = f h.1 k.1

module _ (before a b : List ℤ) (r q : ℤ) where
  pub start_once : StartCall before a r → StartCall before b q → (r ≡ q) × (a ≡ b)
  start_once = on_once before a b r q (λ h k. (h.2 ∙ sym k.2, h.3 ∙ ap (left before) (once.starts_once h.0 k.0 h.1 k.1) ∙ sym k.3))

  pub feed_once : (part : List ℕ) → FeedCall before part a r → FeedCall before part b q → (r ≡ q) × (a ≡ b)
  feed_once part =
      on_once before a b r q (λ h k.
      let e = once.feeds_once (state_in before) part h.0 k.0 h.1 k.1 in (
        h.2 ∙ ap (λ (x : Result State Fault). fed_code x) e ∙ sym k.2,
        h.3 ∙ ap (λ (x : Result State Fault). fed_area before x) e ∙ sym k.3,
      ))

  pub end_once : EndCall before a r → EndCall before b q → (r ≡ q) × (a ≡ b)
  end_once =
      on_once before a b r q (λ h k.
      let s = once.ends_once (state_in before) h.0 k.0 h.2 k.2 in
      let t = once.asks_once k.0 h.1 k.1 (subst (λ (x : State). Asks x h.1) s h.3) k.3 in
      (h.4 ∙ ap told_code t ∙ sym k.4, h.5 ∙ ap₂ (ended_area before) s t ∙ sym k.5))

  pub ask_once : AskCall before r → AskCall before q → r ≡ q
  ask_once h k =
      (on_once before before before r q (λ x y. (x.2 ∙ ap told_code (once.asks_once (state_in before) x.0 y.0 x.1 y.1) ∙ sym y.2, refl)) h k).0
