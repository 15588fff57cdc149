-- One answer of each call on a number: what is promised leaves one number to return, and one area.
--   root_once     the root of a number
use mathlib.Core.Path.{◌≡◌}
use mathlib.Core.List.{List}
use Prim.Native.Nat.{ℕ}
use lib.IntN.{ℤ}
use Rattle.whole.proofs.Squares.{root_once as whole-root_once}
use Rattle.hand.proofs.Handing.{handed_once}
use Rattle.number_calls.specs.Promise.{RootCall}

pub root_once : (n : ℕ) (before : List ℤ) {x y : List ℤ} {r s : ℤ} → RootCall n before x r → RootCall n before y s → (r ≡ s) × (x ≡ y)
root_once n before = handed_once before (λ a b. whole-root_once)
