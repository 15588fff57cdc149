-- `ends::end_divides` meets its contract, by remainders.
use mathlib.Core.Path.{◌≡◌, refl, sym, ap, ap₂, ◌∙◌, subst}
use Prim.Native.Nat.{ℕ, ◌*◌, ◌%◌, ◌≤◌}
use borrow.Author.Rules.{rules}
use lib.IntN.{ℤ, pos, nat_abs, ◌*ℤ◌}
use mir.Syntax.{w64}
use mir.Val.{to_z, of_z}
use mir.ValLaws.{to_z-of_z}
use Rattle.whole.specs.Number.{Within}
use Rattle.whole.proofs.Bound.{bounds, within}
use Rattle.whole.proofs.Integers.{abs_zero}
use Rattle.whole.proofs.Flags.{told-map}
use Rattle.whole.proofs.Wholes.{readℤ}
use Rattle.pair.specs.declared.Pair.{Pair}
use Rattle.pair.specs.Pairs.{norm, cross, PartsWithin}
use Rattle.pair.proofs.Parts.{parts, parts_two}
use Rattle.pair.proofs.Laws.{norm-zero}
use Rattle.verdict.proofs.Rests.{divides_by_rest, square-size}
use Rattle.verdict.proofs.ends.end_divides.Goals as goal

norm_small : (d : Pair) → PartsWithin 40000 d → Within 3200000000 (norm d)
norm_small d h = bounds (parts h) (λ ρ e k. simp (e 0, e 1, readℤ) (within k _ refl))

cross_small : (d e : Pair) → PartsWithin 40000 d → PartsWithin 40000 e → Within 3200000000 (cross d e)
cross_small d e h i = bounds (parts_two h i) (λ ρ e k. simp (e 0, e 1, e 2, e 3, readℤ) (within k _ refl))

-- the norm as it is stored, and the size of the cross product
module _ (c : goal.After-unsigned_abs) where
  n-is : to_z w64 (of_z w64 c.norm.result) ≡ norm c.args.d
  n-is = to_z-of_z w64 c.norm.result (search rules) ∙ c.norm.ensures

  x-is : c.unsigned_abs.result ≡ nat_abs (cross c.args.d c.args.e)
  x-is = c.unsigned_abs.ensures.value ∙ ap nat_abs (to_z-of_z w64 c.cross.result (search rules) ∙ c.cross.ensures)

pub divides_square-requires : goal.divides_square-requires
divides_square-requires c =
    let h = c.requires in
    let d = c.args.d in (
      rw (n-is c) (λ z. c.if-is_zero.ensures (norm-zero d (abs_zero (norm d) z))),
      rw (n-is c) (norm_small d h.0).size,
      subst (λ k. k ≤ 3200000000) (sym (x-is c)) (cross_small d c.args.e h.0 h.1).size,
      h.2,
    )

pub returns-else-is_zero : goal.returns-else-is_zero
returns-else-is_zero c =
    let n = c.args.n in
    let x : ℤ = cross c.args.d c.args.e in
    let rest = divides_by_rest (norm c.args.d) (x *ℤ x *ℤ pos n) in
    let same : nat_abs (x *ℤ x *ℤ pos n) % nat_abs (norm c.args.d) ≡ c.unsigned_abs.result * c.unsigned_abs.result * n % nat_abs (to_z w64 (of_z w64 c.norm.result))
    = ap₂ ◌%◌ (square-size x n ∙ ap (λ (k : ℕ). k * k * n) (sym (x-is c.before))) (ap nat_abs (sym (n-is c.before))) in
    told-map (λ e. rest.0 (same ∙ e)) (λ h. sym same ∙ rest.1 h) c.divides_square.result c.divides_square.ensures
