-- Coefficients of any kind, with a zero, a sum and a product, and what divides them. One text serves whole numbers and pairs.
--   Coefficients         that zero, sum and product
--   at                   a list's coefficient at a power: 0 past the end
--   Divides, Greatest    d divides x; c is a greatest common divisor of a list
use Rattle.std.specs.Prelude.{◌≡◌, List, ℕ, get_or}

pub record Coefficients (A : Type 0) : Type 0 where
  pub none : A
  pub plus : A → A → A
  pub times : A → A → A

module _ {A : Type 0} (C : Coefficients A) where
  abbrev pub at : List A → ℕ → A
  at p k = get_or p k C.none

  pub record Divides (d x : A) : Type 0 where
    pub factor : A
    pub is : C.times d factor ≡ x

  pub record Greatest (p : List A) (c : A) : Type 0 where
    pub divides : (k : ℕ) → Divides c (at p k)
    pub greatest : (d : A) → ((k : ℕ) → Divides d (at p k)) → Divides d c
