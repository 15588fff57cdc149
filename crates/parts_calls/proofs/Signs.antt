-- Numbers of 64 bits with and without a sign, as the machine has them.
--   unsigned-read            a number that was stored, read without its sign
--   machine_signed           a number without a sign, read with one
--   seven-words              a list of seven, one by one
use mathlib.Core.Path.{◌≡◌, refl, ap, ◌∙◌}
use mathlib.Core.List.{List, [], ◌∷◌}
use Prim.Native.Nat.{ℕ, suc, ◌-◌, ◌<◌}
use native.Mathlib.Omega.{arith}
use lib.IntN.{ℤ, pos, negsuc}
use lib.ListN.{length, get_or, drop, drop_of_length-le}
use lib.Seq.{drop-cons}
use lib.Signed.{mag}
use mir.Syntax.{w64}
use mir.Val.{to_z, of_z}
use mir.ValLaws.{to_z-of_z}
use lib.Dec.{ltb}
use Rattle.refusal.specs.Answers.{when◌then◌else◌}
use Rattle.refusal.proofs.Answers.{by_test}
use Rattle.parts_calls.specs.Numbers.{unsigned, signed}

without_sign : (x : ℤ) → of_z w64 x ≡ unsigned x
without_sign (pos n) = refl
without_sign (negsuc n) = refl

pub unsigned-read : (x : ℤ) {n : ℕ} → mag x < 9223372036854775808 → n ≡ of_z w64 (to_z w64 (of_z w64 x)) → n ≡ unsigned x
unsigned-read x f e = e ∙ ap (of_z w64) (to_z-of_z w64 x (record { sfits = f })) ∙ without_sign x

pub machine_signed : (n : ℕ) → to_z w64 n ≡ signed n
unfolding signed when◌then◌else◌
machine_signed n =
    let e : 18446744073709551616 - suc n ≡ 18446744073709551615 - n = omega arith in
    by_test (λ (x : ℤ). to_z w64 n ≡ x) (ltb n 9223372036854775808) (λ t. rw t) (λ t. rw (t, e))

-- ---- seven words, one by one

pub seven-words : (ws : List ℕ) → length ws ≡ 7
    → ws ≡ get_or ws 0 0 ∷ get_or ws 1 0 ∷ get_or ws 2 0 ∷ get_or ws 3 0 ∷ get_or ws 4 0 ∷ get_or ws 5 0 ∷ get_or ws 6 0 ∷ []
seven-words ws e =
    next 0 (omega arith)
    (next 1 (omega arith) (next 2 (omega arith) (next 3 (omega arith) (next 4 (omega arith) (next 5 (omega arith) (next 6 (omega arith) (drop_of_length-le ws {i = 7} (omega arith))))))))
  where
    next : (i : ℕ) → i < length ws → {rest : List ℕ} → drop (suc i) ws ≡ rest → drop i ws ≡ get_or ws i 0 ∷ rest
    next i l q = drop-cons ws i 0 l ∙ ap (λ (rest : List ℕ). get_or ws i 0 ∷ rest) q
