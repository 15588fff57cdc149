-- `ends::divides_square` meets its contract: what is left of n x² is what is left of n times what is left of x².
use mathlib.Core.Path.{◌≡◌, sym, ◌∙◌}
use Prim.Native.Nat.{◌*◌, ◌%◌}
use lib.Dec.{eqb}
use Rattle.whole.proofs.Flags.{told-map, equal_tells}
use Rattle.verdict.proofs.Rests.{rest_of_multiple}
use Rattle.verdict.proofs.ends.divides_square.Goals as goal

pub returns-else-x-le1073741824 : goal.returns-else-x-le1073741824
returns-else-x-le1073741824 c =
    let a = c.args in
    let same = rest_of_multiple (a.x * a.x) a.n a.d in
    told-map {P = a.x * a.x % a.d * a.n % a.d ≡ 0} {Q = a.x * a.x * a.n % a.d ≡ 0} (λ e. same ∙ e) (λ e. sym same ∙ e) (eqb (a.x * a.x % a.d * a.n % a.d) 0)
    (equal_tells (a.x * a.x % a.d * a.n % a.d) 0)
