-- `root::whole_root` meets its contract: the call in it is one power higher, up to the fourth, and its answer comes down by as much.
use mathlib.Core.Path.{◌≡◌}
use Prim.Native.Nat.{ℕ, ◌+◌}
use native.Mathlib.Omega.{arith}
use lib.Dec.{lit≤}
use Rattle.whole.proofs.Wholes.{wholes_ring}
use Rattle.poly.proofs.Wholes.{wholes_domain}
use Rattle.root.specs.Promise.{octic, quartic, Sized, Small}
use Rattle.root.proofs.Shifting.{raised_each, raised-top, root-constant, lowered-root, no_lowered-root}
use Rattle.root.proofs.+whole_root.Goals as goal

next : (l : ℕ) → l + 1 + (l + 1) ≡ l + l + 2
next l = omega arith

pub whole_root-requires : goal.whole_root-requires
whole_root-requires t c =
    let (sized, top, low) = c.requires in (
      omega (arith, c.decreases, c.if-l-eq4.false, low),
      (
        raised_each wholes_ring (octic c.args.m) (octic c.raised.result) c.raised.ensures Sized (record { size = lit≤ tt }) sized,
        rw (next c.args.l) (raised-top wholes_ring (octic c.args.m) (octic c.raised.result) c.raised.ensures (c.args.l + c.args.l) top),
        omega (arith, c.if-l-eq4.false, low),
      ),
    )

pub returns-in_err-q : goal.returns-in_err-q
returns-in_err-q t c =
    rw c.from_residual.ensures
    (no_lowered-root wholes_ring (octic c.args.m) (octic c.raised.result) c.raised.ensures Small (record { size = lit≤ tt }) c.in_err-q.ensures)

pub lowered-requires : goal.lowered-requires
lowered-requires t c =
    let answer = c.in_ok-q.ensures in
    root-constant wholes_ring (octic c.args.m) (octic c.raised.result) c.raised.ensures wholes_domain (quartic c.in_ok-q.q) answer.squared

pub returns : goal.returns
returns t c =
    lowered-root wholes_ring (octic c.args.m) (octic c.raised.result) c.raised.ensures (λ z. z.lt) (quartic c.lowered.result) (quartic c.in_ok-q.q)
    c.lowered.ensures c.in_ok-q.ensures
