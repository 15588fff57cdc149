-- What a flag tells.
--   told, untold     P holds where its flag is true, and not where it is false: for a branch that has tested it
--   told_true, told_false      the same for a flag that was not tested by `!`
--   told_once        P has one flag: one answer of every promise by `Tells`
--   told-map         what holds exactly where P does has the same flag
--   decided          the same of std's `Decides`
--   equal_tells, order_tells     what a returned test of two natural numbers tells: that they are equal, and their order
use Rattle.std.specs.Bool.{Decides}
use Rattle.std.proofs.lemmas.Bool.Decides.{Decides-eqb}
use mathlib.Core.Path.{◌≡◌, refl, subst}
use mathlib.Core.Bool.{Bool, true, false, not, false≢true}
use Prim.Native.Nat.{ℕ, ◌≤◌}
use borrow.Author.Tests.{not-true, not-false, leb-true, le-leb}
use lib.Dec.{eqb, leb}
use Rattle.whole.specs.Number.{Tells}

pub told : {P : Type 0} (r : Bool) → Tells P r → not r ≡ false → P
told {P} r h e = subst (Tells P) (not-false r e) h

pub untold : {P : Type 0} (r : Bool) → Tells P r → not r ≡ true → P → ⊥
untold {P} r h e = subst (Tells P) (not-true r e) h

pub told_true : {P : Type 0} {r : Bool} → Tells P r → r ≡ true → P
told_true {P} h e = subst (Tells P) e h

pub told_false : {P : Type 0} {r : Bool} → Tells P r → r ≡ false → P → ⊥
told_false {P} h e = subst (Tells P) e h

pub told_once : (P : Type 0) (a b : Bool) → Tells P a → Tells P b → a ≡ b
told_once P true true h k = refl
told_once P true false h k = absurd (k h)
told_once P false true h k = absurd (h k)
told_once P false false h k = refl

pub told-map : {P Q : Type 0} → (P → Q) → (Q → P) → (r : Bool) → Tells P r → Tells Q r
told-map there back false h = λ q. h (back q)
told-map there back true h = there h

pub decided : {P : Type 0} (r : Bool) → Decides r P → Tells P r
decided true d = d.0 refl
decided false d = λ p. false≢true (d.1 p)

pub equal_tells : (a b : ℕ) → Tells (a ≡ b) (eqb a b)
equal_tells a b = decided (eqb a b) (Decides-eqb a b)

pub order_tells : (a b : ℕ) → Tells (a ≤ b) (leb a b)
order_tells a b = decided (leb a b) (leb-true a b, le-leb a b)
