-- Promises of what there may be: what is said of a number that is found, and that there is none.
--   option_once      where two that are found are equal, and none is not said of what is found, the promise has one answer
use Rattle.std.specs.Prelude.{Option, Some, None}
use mathlib.Core.Path.{◌≡◌, refl, ap}

pub option_once : {A : Type 0} (Says : Option A → Type 0) → ((x y : A) → Says (Some x) → Says (Some y) → x ≡ y) → ((x : A) → Says (Some x) → Says None → ⊥)
    → (r s : Option A) → Says r → Says s → r ≡ s
option_once Says same none (Some x) (Some y) h k = ap Some (same x y h k)
option_once Says same none (Some x) None h k = absurd (none x h k)
option_once Says same none None (Some y) h k = absurd (none y k h)
option_once Says same none None None h k = refl
