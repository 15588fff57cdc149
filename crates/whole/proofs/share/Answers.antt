-- `whole::share` meets its contract.
use native.Mathlib.Nat.{div-le_self}
use native.Mathlib.Omega.{arith}
use lib.IntN.{ℤ, nat_abs}
use lib.Signed.{quot_z}
use Rattle.whole.specs.Number.{Within, norm_size}
use Rattle.whole.proofs.Bound.{read_back}
use Rattle.whole.proofs.Division.{abs_quotient, rest-zero, zero_rest}
use Rattle.whole.proofs.share.Goals as goal

module _ (c : goal.Start) where
  abbrev q : ℤ
  q = quot_z c.args.n c.args.d

  small : Within norm_size q
  small = record { size = omega (arith, c.requires.n_small.size, abs_quotient c.args.n c.args.d, div-le_self (nat_abs c.args.n) (nat_abs c.args.d)) }

pub returns : goal.returns
returns c =
    simp (read_back tt c.requires.n_small, read_back tt c.requires.d_small, read_back tt (small c))
    (zero_rest c.args.n c.args.d (rest-zero c.args.n c.args.d c.requires.whole), small c)
