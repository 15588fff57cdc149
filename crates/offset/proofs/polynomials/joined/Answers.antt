-- `polynomials::joined` meets its contract.
use mathlib.Core.Path.{◌≡◌, refl, sym, ap, ap₂, ◌∙◌, subst}
use mathlib.Core.List.{List, [], ◌∷◌}
use Prim.Native.Nat.{ℕ, zero, suc, ◌<◌, ◌≤◌}
use native.Mathlib.Omega.{arith}
use lib.IntN.{ℤ, pos, ◌+ℤ◌, ◌*ℤ◌, *ℤ-zero, +ℤ_idl, +ℤ_comm}
use lib.ListN.{get_or-eq_default}
use mir.Syntax.{w64}
use mir.Val.{SFits, to_z, of_z}
use Rattle.whole.specs.Coefficients.{at}
use Rattle.whole.specs.Number.{wholes, Within}
use Rattle.whole.proofs.Wholes.{readℤ}
use Rattle.whole.proofs.Bound.{done, ◌▸◌, bounds, fits, kept, read_back}
use Rattle.root.specs.Promise.{root_size}
use Rattle.offset.proofs.Changes.{changed_none, changed_more, changed_below}
use Rattle.offset.proofs.polynomials.joined.Goals as goal

-- one coefficient
module _ {a b z : ℤ} (h : Within root_size a) (k : Within 1600000 b) (l : Within 130000000000000 z) where
  product_fits : SFits w64 (to_z w64 (of_z w64 a) *ℤ to_z w64 (of_z w64 b))
  product_fits = bounds (h ▸ k ▸ done) (λ ρ e k. simp (e 0, e 1, readℤ, kept k) (fits k _ refl))

  sum_fits : SFits w64 (to_z w64 (of_z w64 z) +ℤ to_z w64 (of_z w64 (to_z w64 (of_z w64 a) *ℤ to_z w64 (of_z w64 b))))
  sum_fits = bounds (h ▸ k ▸ l ▸ done) (λ ρ e k. simp (e 0, e 1, e 2, readℤ, kept k) (fits k _ refl))

  sum_is : to_z w64 (of_z w64 (to_z w64 (of_z w64 z) +ℤ to_z w64 (of_z w64 (to_z w64 (of_z w64 a) *ℤ to_z w64 (of_z w64 b))))) ≡ to_z w64 (of_z w64 a) *ℤ b +ℤ z
  sum_is =
      bounds (h ▸ k ▸ l ▸ done) (λ ρ e k. simp (e 0, e 1, e 2, readℤ, kept k))
      ∙ +ℤ_comm z (a *ℤ b)
      ∙ ap (λ (t : ℤ). t *ℤ b +ℤ z) (sym (read_back tt h))

-- as the machine reads a number back
abbrev bits : ℤ → ℤ
bits x = to_z w64 (of_z w64 x)

-- the coefficients that are moved up
module _ (p : List ℤ) {g : ℤ} (hp : (k : ℕ) → Within 130000000000000 (at wholes p k)) (hg : Within 25600000000 g) where
  moved : (j : ℕ) → j < 10 → at wholes (bits g ∷ bits (at wholes p 0) ∷ bits (at wholes p 1) ∷ bits (at wholes p 2) ∷ bits (at wholes p 3) ∷ bits (at wholes p 4) ∷ bits (at wholes p 5) ∷ bits (at wholes p 6)
      ∷ bits (at wholes p 7) ∷ bits (at wholes p 8) ∷ []) j ≡ at wholes (bits g ∷ p) j
  moved zero l = refl
  moved (suc zero) l = read_back tt (hp 0)
  moved (suc (suc zero)) l = read_back tt (hp 1)
  moved (suc (suc (suc zero))) l = read_back tt (hp 2)
  moved (suc (suc (suc (suc zero)))) l = read_back tt (hp 3)
  moved (suc (suc (suc (suc (suc zero))))) l = read_back tt (hp 4)
  moved (suc (suc (suc (suc (suc (suc zero)))))) l = read_back tt (hp 5)
  moved (suc (suc (suc (suc (suc (suc (suc zero))))))) l = read_back tt (hp 6)
  moved (suc (suc (suc (suc (suc (suc (suc (suc zero)))))))) l = read_back tt (hp 7)
  moved (suc (suc (suc (suc (suc (suc (suc (suc (suc zero))))))))) l = read_back tt (hp 8)
  moved (suc (suc (suc (suc (suc (suc (suc (suc (suc (suc j)))))))))) l = absurd (omega arith)

  small : (j : ℕ) → Within 130000000000000 (at wholes (bits g ∷ p) j)
  small zero = rw (read_back tt hg) (record { size = omega (arith, hg.size) })
  small (suc j) = hp j

pub loop-k-init : goal.loop-k-init
loop-k-init c = changed_none refl (moved c.args.p c.requires.0 c.requires.3)

pub overflow_mul-r : goal.overflow_mul-r
overflow_mul-r c = product_fits c.requires.1 (c.requires.2 c.loop-k.k) (small c.args.p c.requires.0 c.requires.3 0)

pub overflow_add-r : goal.overflow_add-r
overflow_add-r c =
    let l = c.loop-k in
    let e = l.invariant.from l.k (omega arith) (omega (arith, c.loop-k-test.true)) in
    sum_fits c.requires.1 (c.requires.2 l.k) (subst (Within 130000000000000) (sym e) (small c.args.p c.requires.0 c.requires.3 l.k))

pub loop-k-preserved : goal.loop-k-preserved
loop-k-preserved c =
    let l = c.loop-k in
    let s = c.args in
    let e = l.invariant.from l.k (omega arith) (omega (arith, c.loop-k-test.true)) in
    changed_more l.invariant (omega (arith, c.loop-k-test.true))
    (sum_is c.requires.1 (c.requires.2 l.k) (subst (Within 130000000000000) (sym e) (small c.args.p c.requires.0 c.requires.3 l.k))
    ∙ ap (λ (z : ℤ). bits s.f *ℤ at wholes s.x l.k +ℤ z) e)

pub returns : goal.returns
returns c k m =
    let s = c.args in
    let g : bits s.g ≡ s.g = read_back tt c.requires.3 in
    let past : (j : ℕ) → c.loop-k.k ≤ j → j < 10 → bits s.f *ℤ at wholes s.x j +ℤ at wholes (bits s.g ∷ s.p) j ≡ at wholes (bits s.g ∷ s.p) j =
    (λ j n l. ap (λ (z : ℤ). bits s.f *ℤ z +ℤ at wholes (bits s.g ∷ s.p) j) (get_or-eq_default s.x (pos 0) {n = j} (omega (arith, c.loop-k-test.false)))
    ∙ ap (λ (z : ℤ). z +ℤ at wholes (bits s.g ∷ s.p) j) (*ℤ-zero (bits s.f)) ∙ +ℤ_idl (at wholes (bits s.g ∷ s.p) j)) in
    changed_below c.loop-k.invariant past k m
    ∙ ap₂ (λ (f g : ℤ). f *ℤ at wholes s.x k +ℤ at wholes (g ∷ s.p) k) (read_back tt c.requires.1) g
