-- The call in `root::whole_root` is one power higher, up to the fourth: the measure is what is left up to there.
use Prim.Native.Nat.{◌-◌}
use Rattle.root.proofs.+whole_root.Given as goal

abbrev pub decreases-whole_root : goal.decreases-whole_root
decreases-whole_root l = 4 - l.l
