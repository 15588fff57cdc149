-- `roots::shared` meets its contract, quotient by quotient.
use mathlib.Core.Path.{◌≡◌, sym, ap₂, ◌∙◌, subst}
use Prim.Native.Nat.{ℕ}
use lib.IntN.{ℤ, pos, ◌*ℤ◌}
use mir.Syntax.{w64}
use mir.Val.{to_z, of_z}
use lib.Signed.{◌<ℤ◌}
use Rattle.whole.specs.Coefficients.{at, Greatest}
use Rattle.whole.specs.Number.{wholes, Within, norm_size}
use Rattle.whole.specs.Promise.{Shares}
use Rattle.whole.proofs.Bound.{read_back}
use Rattle.root.specs.declared.Octic.{Octic}
use Rattle.root.specs.Promise.{octic, Sized}
use Rattle.root.specs.Search.{Each}
use Rattle.verdict.proofs.Contents.{octic_each, octic-shared}
use Rattle.verdict.proofs.roots.shared.Goals as goal

abbrev bits : ℤ → ℤ
bits x = to_z w64 (of_z w64 x)

-- of n and c, as they are asked of the caller
module _ (n : Octic) (c : ℤ) (r : Each wholes Sized (octic n) × Greatest wholes (octic n) c × (pos 0 <ℤ c) × Sized c) where
  -- what each call asks
  shares : (k : ℕ) → Shares (bits (at wholes (octic n) k)) (bits c)
  shares k = rw (read_back tt (r.0 k), read_back tt r.3) (record { whole = r.1.divides k; positive = r.2; n_small = r.0 k; d_small = r.3 })

  -- what each call answers
  answered : (k : ℕ) {q : ℤ} → (bits c *ℤ q ≡ bits (at wholes (octic n) k)) × Within norm_size q → c *ℤ bits q ≡ at wholes (octic n) k
  answered k h = ap₂ ◌*ℤ◌ (sym (read_back tt r.3)) (read_back tt h.1) ∙ h.0 ∙ read_back tt (r.0 k)

kept : {r : ℤ} → Within norm_size r → Sized (bits r)
kept h = subst (Within norm_size) (sym (read_back tt h)) h

pub share-requires : goal.share-requires
share-requires c = shares c.args.n c.args.c c.requires 0

pub share-requires-2 : goal.share-requires-2
share-requires-2 c = shares c.args.n c.args.c c.requires 1

pub share-requires-3 : goal.share-requires-3
share-requires-3 c = shares c.args.n c.args.c c.requires 2

pub share-requires-4 : goal.share-requires-4
share-requires-4 c = shares c.args.n c.args.c c.requires 3

pub share-requires-5 : goal.share-requires-5
share-requires-5 c = shares c.args.n c.args.c c.requires 4

pub share-requires-6 : goal.share-requires-6
share-requires-6 c = shares c.args.n c.args.c c.requires 5

pub share-requires-7 : goal.share-requires-7
share-requires-7 c = shares c.args.n c.args.c c.requires 6

pub share-requires-8 : goal.share-requires-8
share-requires-8 c = shares c.args.n c.args.c c.requires 7

pub share-requires-9 : goal.share-requires-9
share-requires-9 c = shares c.args.n c.args.c c.requires 8

pub returns : goal.returns
returns c = (
  octic-shared c.args.c _ c.args.n (answered c.args.n c.args.c c.requires 0 c.share.ensures) (answered c.args.n c.args.c c.requires 1 c.share-2.ensures) (answered c.args.n c.args.c c.requires 2 c.share-3.ensures) (answered c.args.n c.args.c c.requires 3 c.share-4.ensures) (answered c.args.n c.args.c c.requires 4 c.share-5.ensures) (answered c.args.n c.args.c c.requires 5 c.share-6.ensures) (answered c.args.n c.args.c c.requires 6 c.share-7.ensures) (answered c.args.n c.args.c c.requires 7 c.share-8.ensures) (answered c.args.n c.args.c c.requires 8 c.share-9.ensures),
  octic_each _ (kept c.share.ensures.1) (kept c.share-2.ensures.1) (kept c.share-3.ensures.1) (kept c.share-4.ensures.1) (kept c.share-5.ensures.1) (kept c.share-6.ensures.1) (kept c.share-7.ensures.1) (kept c.share-8.ensures.1) (kept c.share-9.ensures.1),
)
