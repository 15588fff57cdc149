-- `divisor::root` meets its contract: where z is w², |z|² is the square of |w|².
use mathlib.Core.Path.{◌≡◌, sym, ap, ◌∙◌}
use Prim.Native.Nat.{◌*◌}
use borrow.Author.Rules.{rules}
use lib.IntN.{ℤ, nat_abs}
use mir.Syntax.{w64}
use mir.Val.{SFits, to_z, of_z}
use Rattle.whole.proofs.Integers.{abs_times}
use Rattle.pair.specs.declared.Pair.{Pair}
use Rattle.pair.specs.Pairs.{times, norm}
use Rattle.whole.proofs.Machine.{read_as}
use Rattle.pair.proofs.Laws.{norm-times}
use Rattle.divisor.proofs.root.Goals as goal

-- |w|² is the root of |z|² where w² is z; n is the norm of z, as the machine has it
squared : {z : Pair} {n : ℤ} (w : Pair) → times w w ≡ z → n ≡ norm z → SFits w64 n → nat_abs (norm w) * nat_abs (norm w) ≡ nat_abs (to_z w64 (of_z w64 n))
squared w h e f = sym (abs_times (norm w) (norm w)) ∙ ap nat_abs (sym (norm-times w w) ∙ ap norm h ∙ sym (read_as f e))

pub returns-in_err-size : goal.returns-in_err-size
returns-in_err-size c = rw c.from_residual.ensures (λ w h. c.in_err-size.ensures (nat_abs (norm w)) (squared w h c.norm.ensures (search rules)))
