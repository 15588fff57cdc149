-- `front::joined` meets its contract: the part is written over zeros.
use mathlib.Core.Path.{◌≡◌, sym, subst}
use mathlib.Core.List.{List, ◌++◌}
use Prim.Native.Nat.{ℕ, ◌-◌}
use lib.ListN.{length, take, drop}
use Rattle.states.specs.Words.{unpacked}
use Rattle.states.specs.Steps.{joined_to, padded}
use Rattle.states.proofs.Pieces.{joined-padded}
use Rattle.states.proofs.front.joined.Goals as goal

pub returns : goal.returns
returns c =
    let held = c.args.held in
    let part = c.args.part.now in
    subst
    (λ (r : List ℕ).
    c.put.new.area ≡ take (length (take (52 - held) (drop held r))) part ++ drop (length part) (take (52 - held) (drop held r))
    → take held r ++ (c.put.new.area ++ drop (52 - held) (drop held r)) ≡ padded (joined_to (take held (unpacked c.args.words.now)) held part))
    (sym c.bytes_of-front.ensures)
    (joined-padded c.args.words.now part held c.requires.0 c.requires.1)
    c.put.ensures
