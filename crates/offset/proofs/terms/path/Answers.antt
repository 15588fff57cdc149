-- `terms::path` meets its contract: each quotient is exact, since x' = n d.
use mathlib.Core.Path.{◌≡◌, refl, sym, ap, ◌∙◌, subst}
use mathlib.Core.List.{[], ◌∷◌}
use Prim.Native.Nat.{ℕ, zero, suc, ◌≤◌}
use native.Mathlib.Omega.{arith}
use lib.IntN.{ℤ, pos, ◌*ℤ◌, *ℤ_comm, *ℤ-zero, zero-*ℤ}
use mir.Syntax.{w64}
use mir.Val.{SFits, to_z, of_z}
use mir.ValLaws.{to_z-of_z}
use Rattle.whole.specs.Coefficients.{at, Divides}
use Rattle.whole.specs.Number.{wholes, Within, norm_size}
use Rattle.whole.specs.Promise.{Shares}
use Rattle.whole.proofs.Integers.{*ℤ-1}
use Rattle.whole.proofs.Linear.{linear}
use Rattle.whole.proofs.Wholes.{readℤ}
use Rattle.whole.proofs.Bound.{done, ◌▸◌, bounds, fits, kept, within, read_back}
use Rattle.root.specs.declared.Quartic.{Quartic}
use Rattle.root.specs.Promise.{quartic}
use Rattle.offset.specs.Steps.{PathAsked, IsPath}
use Rattle.offset.proofs.terms.path.Goals as goal

-- n times a coefficient of d
module _ {x y : ℤ} (h : Within 1280000 x) (k : Within 5 y) where
  product_fits : SFits w64 (to_z w64 (of_z w64 x) *ℤ to_z w64 (of_z w64 y))
  product_fits = bounds (h ▸ k ▸ done) (λ ρ e k. simp (e 0, e 1, readℤ, kept k) (fits k _ refl))

  product_is : to_z w64 (of_z w64 (to_z w64 (of_z w64 x) *ℤ to_z w64 (of_z w64 y))) ≡ x *ℤ y
  product_is = bounds (h ▸ k ▸ done) (λ ρ e k. simp (e 0, e 1, readℤ, kept k))

  product-within : Within norm_size (x *ℤ y)
  product-within = bounds (h ▸ k ▸ done) (λ ρ e k. simp (e 0, e 1, readℤ) (within k _ refl))

module _ (d : Quartic) (n : ℤ) (o : PathAsked (quartic d) n) where
  abbrev times_n : ℕ → ℤ
  times_n k = to_z w64 (of_z w64 (to_z w64 (of_z w64 (at wholes (quartic d) k)) *ℤ to_z w64 (of_z w64 n)))

  times-n-is : (k : ℕ) → times_n k ≡ at wholes (quartic d) k *ℤ n
  times-n-is k = product_is (o.small k) o.n_small

  fitting : (k : ℕ) → SFits w64 (to_z w64 (of_z w64 (at wholes (quartic d) k)) *ℤ to_z w64 (of_z w64 n))
  fitting k = product_fits (o.small k) o.n_small

  shares : (k : ℕ) → k ≤ 4 → Shares (times_n k) (pos (suc k))
  shares k l = record {
    whole = subst (Divides wholes (pos (suc k))) (sym (times-n-is k)) (o.whole k);
    positive = omega linear;
    n_small = subst (Within norm_size) (sym (times-n-is k)) (product-within (o.small k) o.n_small);
    d_small = record { size = omega arith };
  }

  -- what `share` answers
  shared : (k : ℕ) {r : ℤ} → (pos (suc k) *ℤ r ≡ times_n k) × Within norm_size r → pos (suc k) *ℤ to_z w64 (of_z w64 r) ≡ at wholes (quartic d) k *ℤ n
  shared k (e, h) = ap (λ z. pos (suc k) *ℤ z) (read_back tt h) ∙ e ∙ times-n-is k

pub overflow_mul-result : goal.overflow_mul-result
overflow_mul-result c = fitting c.args.d c.args.n c.requires 0

pub overflow_mul-d : goal.overflow_mul-d
overflow_mul-d c = fitting c.args.d c.args.n c.requires 1

pub share-requires : goal.share-requires
share-requires c = shares c.args.d c.args.n c.requires 1 (omega arith)

pub overflow_mul-d-2 : goal.overflow_mul-d-2
overflow_mul-d-2 c = fitting c.args.d c.args.n c.requires 2

pub share-requires-2 : goal.share-requires-2
share-requires-2 c = shares c.args.d c.args.n c.requires 2 (omega arith)

pub overflow_mul-d-3 : goal.overflow_mul-d-3
overflow_mul-d-3 c = fitting c.args.d c.args.n c.requires 3

pub share-requires-3 : goal.share-requires-3
share-requires-3 c = shares c.args.d c.args.n c.requires 3 (omega arith)

pub overflow_mul-d-4 : goal.overflow_mul-d-4
overflow_mul-d-4 c = fitting c.args.d c.args.n c.requires 4

pub share-requires-4 : goal.share-requires-4
share-requires-4 c = shares c.args.d c.args.n c.requires 4 (omega arith)

-- from the equation of each coefficient
is-path : {start n d0 d1 d2 d3 d4 x0 x1 x2 x3 x4 x5 : ℤ} → x0 ≡ start → x1 ≡ d0 *ℤ n → pos 2 *ℤ x2 ≡ d1 *ℤ n → pos 3 *ℤ x3 ≡ d2 *ℤ n → pos 4 *ℤ x4 ≡ d3 *ℤ n
    → pos 5 *ℤ x5 ≡ d4 *ℤ n → IsPath start (d0 ∷ d1 ∷ d2 ∷ d3 ∷ d4 ∷ []) n (x0 ∷ x1 ∷ x2 ∷ x3 ∷ x4 ∷ x5 ∷ [])
is-path {n} {d0} {d1} {d2} {d3} {d4} {x0} {x1} {x2} {x3} {x4} {x5} e e0 e1 e2 e3 e4 = record { start = e; derived = derived }
  where
    derived : (k : ℕ) → pos (suc k) *ℤ at wholes (x0 ∷ x1 ∷ x2 ∷ x3 ∷ x4 ∷ x5 ∷ []) (suc k) ≡ at wholes (d0 ∷ d1 ∷ d2 ∷ d3 ∷ d4 ∷ []) k *ℤ n
    derived zero = *ℤ_comm (pos 1) x1 ∙ *ℤ-1 x1 ∙ e0
    derived (suc zero) = e1
    derived (suc (suc zero)) = e2
    derived (suc (suc (suc zero))) = e3
    derived (suc (suc (suc (suc zero)))) = e4
    derived (suc (suc (suc (suc (suc k))))) = *ℤ-zero (pos (suc (suc (suc (suc (suc (suc k))))))) ∙ sym (zero-*ℤ n)

pub returns : goal.returns
returns c =
    let s = c.args in
    let o = c.requires in
    is-path (to_z-of_z w64 s.start c.ranges.start) (times-n-is s.d s.n o 0) (shared s.d s.n o 1 c.share.ensures) (shared s.d s.n o 2 c.share-2.ensures)
    (shared s.d s.n o 3 c.share-3.ensures) (shared s.d s.n o 4 c.share-4.ensures)
