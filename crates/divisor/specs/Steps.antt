-- What the steps of a root and of a common divisor promise one another.
--   rounded n d        n / d rounded, but for what 2^42 / d cut down leaves out
--   Near a b q         q is near enough to a / b for Euclid's loop: what it leaves over has a smaller norm than b, and both have small parts
--   Rest a b r         what a near quotient leaves over
--   HalfRoot s r       r is the whole root of the half of s
--   Candidate z w      w is a root of z, if z has one, and its sign is the one that is kept
use Rattle.std.specs.Prelude.{◌≡◌, ◌/◌, ◌^◌, ◌<◌, ℤ, pos, nat_abs, ◌+ℤ◌, ◌*ℤ◌, ◌≤ℤ◌}
use Rattle.std.specs.Int.Signed.{quot_z, shr_z}
use Rattle.pair.specs.declared.Pair.{Pair}
use Rattle.pair.specs.Pairs.{minus, times, norm, PartsWithin}
use Rattle.whole.specs.declared.Root.{Root}
use Rattle.whole.specs.Promise.{IsRoot}

abbrev pub rounded : ℤ → ℤ → ℤ
rounded n d = shr_z (n *ℤ quot_z (pos (2 ^ 42)) d +ℤ pos (2 ^ 41)) (2 ^ 42)

pub record Near (a b q : Pair) : Type 0 where
  pub small : PartsWithin (2 ^ 20) q
  pub less : nat_abs (norm (minus a (times q b))) < nat_abs (norm b)
  pub rest_small : PartsWithin (2 ^ 20) (minus a (times q b))

pub record Rest (a b r : Pair) : Type 0 where
  pub quotient : Pair
  pub near : Near a b quotient
  pub is : minus a (times quotient b) ≡ r

pub record HalfRoot (s r : ℤ) : Type 0 where
  pub half : Root
  pub found : IsRoot (nat_abs s / 2) half
  pub is : r ≡ pos half.root

pub record Candidate (z w : Pair) : Type 0 where
  pub small : PartsWithin (2 ^ 30) w
  pub first : pos 0 ≤ℤ w.re
  pub second : pos 0 ≤ℤ z.im → pos 0 ≤ℤ w.im
  pub finds : (r : Pair) → times r r ≡ z → times w w ≡ z
