-- What each call on a number promises. r is what it returns; before and after are the lent area, as it was and as it is left.
--   root_numbers     a root and what is left over, as numbers for an area
--   RootCall        the whole root of n, handed over as numbers
use Rattle.std.specs.Prelude.{List, [], ◌∷◌, ℕ, ℤ, pos}
use Rattle.refusal.specs.Answers.{given}
use Rattle.whole.specs.declared.Root.{Root}
use Rattle.whole.specs.Promise.{IsRoot}
use Rattle.hand.specs.Promise.{Handed}

abbrev pub root_numbers : Root → List ℤ
root_numbers r = pos r.root ∷ pos r.rest ∷ []

abbrev pub RootCall : ℕ → List ℤ → List ℤ → ℤ → Type 0
RootCall n = Handed (IsRoot n) given root_numbers
