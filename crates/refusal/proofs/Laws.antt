-- Laws of the refusal table.
--   number_positive, number_some, number_small     no refusal has the number 0, which stands for an answer, nor one from 32 on
--   number_once      a number names one refusal
--   first_once       a call's causes leave one number
--   NoneHolds, first-none     where that number is 0, no cause holds
--   first-kept       a refusal stands, whatever causes come behind
--   first_after_lem      where no cause of the first order holds, the second decides
use mathlib.Core.Path.{◌≡◌, refl, sym, ap, ◌∙◌}
use mathlib.Core.List.{List, [], ◌∷◌, ◌++◌}
use mathlib.Core.Logic.{inl, inr}
use Prim.Native.Nat.{ℕ, ◌-◌, ◌<◌}
use native.Mathlib.Omega.{arith}
use lib.ListN.{get_or, replicate}
use Rattle.refusal.specs.declared.Refusal.{Refusal}
use Rattle.refusal.specs.declared.Refusal.TheVariants.{TooLong, Cut, Leftover, Kind, Length, Range, Number, Still, NotPh, NoPreimage, Root, Room, Thirds, DeadEnd, NoMission, OtherMission, Ended, Full}
use Rattle.refusal.specs.Table.{number_of, Cause, First}

-- the table's row of a number; of any other number some refusal
named : ℕ → Refusal
named n =
    get_or
    ((TooLong ∷ Cut ∷ Leftover ∷ Kind ∷ Length ∷ Range ∷ Number ∷ Still ∷ NotPh ∷ NoPreimage ∷ Root ∷ Room ∷ Thirds ∷ DeadEnd ∷ NoMission ∷ OtherMission ∷ []) ++ replicate 2 TooLong ++ (Ended ∷ Full ∷ []))
    (n - 1) TooLong

-- what holds of every row: the one place that goes through the table
row : (r : Refusal) → (named (number_of r) ≡ r) × (0 < number_of r) × (number_of r < 32)
unfolding named
row TooLong = (refl, omega arith, omega arith)
row Cut = (refl, omega arith, omega arith)
row Leftover = (refl, omega arith, omega arith)
row Kind = (refl, omega arith, omega arith)
row Length = (refl, omega arith, omega arith)
row Range = (refl, omega arith, omega arith)
row Number = (refl, omega arith, omega arith)
row Still = (refl, omega arith, omega arith)
row NotPh = (refl, omega arith, omega arith)
row NoPreimage = (refl, omega arith, omega arith)
row Root = (refl, omega arith, omega arith)
row Room = (refl, omega arith, omega arith)
row Thirds = (refl, omega arith, omega arith)
row DeadEnd = (refl, omega arith, omega arith)
row NoMission = (refl, omega arith, omega arith)
row OtherMission = (refl, omega arith, omega arith)
row Ended = (refl, omega arith, omega arith)
row Full = (refl, omega arith, omega arith)

pub number_positive : (r : Refusal) → 0 < number_of r
number_positive r = (row r).1

pub number_some : (r : Refusal) → number_of r ≡ 0 → ⊥
number_some r e = omega (arith, number_positive r)

pub number_small : (r : Refusal) → number_of r < 32
number_small r = (row r).2

pub number_once : (r s : Refusal) → number_of r ≡ number_of s → r ≡ s
number_once r s e = sym (row r).0 ∙ ap named e ∙ (row s).0

pub first_once : (cs : List Cause) (m n : ℕ) → First cs m → First cs n → m ≡ n
first_once [] m n p q = p ∙ sym q
first_once (c ∷ cs) m n (inl p) (inl q) = p.1 ∙ sym q.1
first_once (c ∷ cs) m n (inl p) (inr q) = absurd (q.0 p.0)
first_once (c ∷ cs) m n (inr p) (inl q) = absurd (p.0 q.0)
first_once (c ∷ cs) m n (inr p) (inr q) = first_once cs m n p.1 q.1

abbrev pub NoneHolds : List Cause → Type 0
NoneHolds [] = Unit {0}
NoneHolds (c ∷ cs) = (c.holds → ⊥) × NoneHolds cs

pub first-none : (cs : List Cause) → First cs 0 → NoneHolds cs
first-none [] f = tt
first-none (c ∷ cs) (inl f) = absurd (omega (arith, number_positive c.refusal, f.1))
first-none (c ∷ cs) (inr f) = (f.0, first-none cs f.1)

pub first-kept : (cs ds : List Cause) (n : ℕ) → First cs n → (n ≡ 0 → ⊥) → First (cs ++ ds) n
first-kept [] ds n f p = absurd (p f)
first-kept (c ∷ cs) ds n (inl f) p = inl f
first-kept (c ∷ cs) ds n (inr f) p = inr (f.0, first-kept cs ds n f.1 p)

pub first_after_lem : (cs ds : List Cause) (n : ℕ) → First cs 0 → First ds n → First (cs ++ ds) n
first_after_lem [] ds n f g = g
first_after_lem (c ∷ cs) ds n (inl f) g = absurd (omega (arith, number_positive c.refusal, f.1))
first_after_lem (c ∷ cs) ds n (inr f) g = inr (f.0, first_after_lem cs ds n f.1 g)
