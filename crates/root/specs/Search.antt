-- What a search for the root of a polynomial promises, for coefficients of any kind. What counts as positive and as small is the kind's.
--   Each P p           P holds of every coefficient
--   SameBelow n, SameFrom n    the same coefficients below the power n; from it up
--   Lead               the highest coefficient that is not zero is positive
--   SmallRoot          a root with a positive lead and small coefficients
--   NoSmallRoot        there is no root with small coefficients, of any length
-- and its steps, for a root with s at the power L:
--   UpperRoot          a polynomial with small coefficients whose square is M from the power L up
use Rattle.std.specs.Prelude.{◌≡◌, List, ℕ, ◌≤◌, ◌<◌}
use Rattle.whole.specs.Coefficients.{Coefficients, at}
use Rattle.poly.specs.Polynomials.{Same, square}
use Rattle.poly.specs.Terms.{Above}

module _ {A : Type 0} (C : Coefficients A) where
  abbrev pub Each : (A → Type 0) → List A → Type 0
  Each P p = (k : ℕ) → P (at C p k)

  abbrev pub SameBelow : ℕ → List A → List A → Type 0
  SameBelow n p q = (k : ℕ) → k < n → at C p k ≡ at C q k

  abbrev pub SameFrom : ℕ → List A → List A → Type 0
  SameFrom n p q = (k : ℕ) → n ≤ k → at C p k ≡ at C q k

  pub record Lead (Positive : A → Type 0) (q : List A) : Type 0 where
    pub power : ℕ
    pub positive : Positive (at C q power)
    pub above : Above C (at C q) power

  pub record SmallRoot (Positive Small : A → Type 0) (M q : List A) : Type 0 where
    pub squared : Same C (square C q) M
    pub lead : Lead Positive q
    pub small : Each Small q

  abbrev pub NoSmallRoot : (A → Type 0) → List A → Type 0
  NoSmallRoot Small M = (q : List A) → Each Small q → Same C (square C q) M → ⊥

  pub record UpperRoot (Small : A → Type 0) (M : List A) (L : ℕ) (s : A) (q : List A) : Type 0 where
    pub small : Each Small q
    pub above : Above C (at C q) L
    pub lead : at C q L ≡ s
    pub squared : SameFrom L (square C q) M
