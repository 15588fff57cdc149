-- ℤ as a ring for the solver, the reader at ℤ, and equations from others.
--   wholes_ring              the laws
--   atomsℤ, readℤ, ringℤ     the reader at ℤ; literals do not show the environment ρ, so it is written: read_pos ρ, read-negsuc ρ
--   equal_by                 l ≡ r, from l − r ≡ s and s ≡ 0, where s is a combination of equations, by zero-equal, zero-times, zero-plus
--   *ℤ-cancel                a factor other than 0 is cancelled
-- An identity is its atoms and the reader, and an equation from others is the combination and an identity:
--   squares : (a b : ℤ) → (a +ℤ b) *ℤ (a -ℤ b) ≡ a *ℤ a -ℤ b *ℤ b
--   squares a b = atomsℤ (a ∷ b ∷ []) (λ ρ e. simp (e 0, e 1, readℤ) (ringℤ ρ _ _ tt))
-- An atom may be any term. A first operand that computes to a literal, as `neg_ℤ (pos 3) *ℤ x`, is gone before it can be read: there the
-- expressions are written out, `solve wholes_ring ρ …`. Of nested atoms the outer goes first, in a `simp` of its own.
use mathlib.Core.Path.{◌≡◌, refl, ap, ap₂, ◌∙◌}
use mathlib.Core.List.{List, [], ◌∷◌}
use mathlib.Core.Logic.{◌≢◌, ⊎_elim}
use Prim.Native.Nat.{ℕ}
use lib.IntN.{ℤ, pos, negsuc, neg_ℤ, ◌+ℤ◌, ◌-ℤ◌, ◌*ℤ◌, +ℤ_idr, +ℤ_assoc, +ℤ_comm, +ℤ_invr, *ℤ_comm, *ℤ-zero}
use Rattle.whole.specs.Number.{wholes}
use Rattle.whole.proofs.Integers.{*ℤ-plus, *ℤ-assoc, *ℤ-1, *ℤ-domain}
use Rattle.whole.proofs.Ring.{Ring, zero-difference}
use lib.Dec.{T}
use Rattle.whole.proofs.Solver.{Ex, var, lit, lit⁻, plus, times, minus, same?, nth, val, read-plus, read-times, read-negative, read_lit, read-lit⁻, atoms, ring}

abbrev pub wholes_ring : Ring wholes
wholes_ring = record {
  negative = neg_ℤ;
  number = λ z. z;
  plus_assoc = +ℤ_assoc;
  plus_comm = +ℤ_comm;
  plus_none = +ℤ_idr;
  plus_negative = +ℤ_invr;
  times_assoc = *ℤ-assoc;
  times_comm = *ℤ_comm;
  times_one = *ℤ-1;
  times_plus = *ℤ-plus;
  number_none = refl;
  number_plus = λ m n. refl;
  number_times = λ m n. refl;
}

-- ---- the reader
abbrev pub valℤ : List ℤ → Ex → ℤ
valℤ = val wholes_ring

pub read-+ℤ : (ρ : List ℤ) (a b : Ex) → valℤ ρ a +ℤ valℤ ρ b ≡ valℤ ρ (plus a b)
read-+ℤ = read-plus wholes_ring

pub read-*ℤ : (ρ : List ℤ) (a b : Ex) → valℤ ρ a *ℤ valℤ ρ b ≡ valℤ ρ (times a b)
read-*ℤ = read-times wholes_ring

pub read-negℤ : (ρ : List ℤ) (a : Ex) → neg_ℤ (valℤ ρ a) ≡ valℤ ρ (minus a)
read-negℤ = read-negative wholes_ring

-- a difference is a sum with a negative
pub ruleset readℤ = (read-+ℤ, read-*ℤ, read-negℤ)

pub read_pos : (ρ : List ℤ) (n : ℕ) → pos n ≡ valℤ ρ (lit n)
read_pos = read_lit wholes_ring

pub read-negsuc : (ρ : List ℤ) (n : ℕ) → negsuc n ≡ valℤ ρ (lit⁻ n)
read-negsuc = read-lit⁻ wholes_ring

pub atomsℤ : {G : Type 0} (σ : List ℤ) → ((ρ : List ℤ) → ((i : ℕ) → nth wholes_ring σ i ≡ valℤ ρ (var i)) → G) → G
atomsℤ = atoms wholes_ring

pub ringℤ : (ρ : List ℤ) (a b : Ex) → T (same? a b) → valℤ ρ a ≡ valℤ ρ b
ringℤ = ring wholes_ring

-- ---- equations from others
pub equal_by : {l r s : ℤ} → s ≡ pos 0 → l -ℤ r ≡ s → l ≡ r
equal_by {l} {r} z e = zero-difference wholes_ring l r (e ∙ z)

pub zero-equal : {a b : ℤ} → a ≡ b → a -ℤ b ≡ pos 0
zero-equal {b} e = ap (λ x. x -ℤ b) e ∙ +ℤ_invr b

pub zero-times : (c : ℤ) {s : ℤ} → s ≡ pos 0 → c *ℤ s ≡ pos 0
zero-times c z = ap (λ x. c *ℤ x) z ∙ *ℤ-zero c

pub zero-plus : {s t : ℤ} → s ≡ pos 0 → t ≡ pos 0 → s +ℤ t ≡ pos 0
zero-plus z y = ap₂ ◌+ℤ◌ z y

spread : (c a b : ℤ) → c *ℤ (a -ℤ b) ≡ c *ℤ a -ℤ c *ℤ b
spread c a b = atomsℤ (c ∷ a ∷ b ∷ []) (λ ρ e. simp (e 0, e 1, e 2, readℤ) (ringℤ ρ _ _ tt))

pub *ℤ-cancel : (c : ℤ) {a b : ℤ} → c ≢ pos 0 → c *ℤ a ≡ c *ℤ b → a ≡ b
*ℤ-cancel c {a} {b} h e =
    ⊎_elim (λ z. absurd (h z)) (λ z. zero-difference wholes_ring a b z) (*ℤ-domain c (a -ℤ b) (spread c a b ∙ zero-equal e))
