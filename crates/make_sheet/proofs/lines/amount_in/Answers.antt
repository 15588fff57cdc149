-- `lines::amount_in` meets its contract: no other number is meant than the one that was taken.
use Rattle.std.proofs.Common.{◌≡◌, ℕ, List, [], ◌∷◌, length, get_or, refl, ap, ◌∙◌, sym, subst, arith, ℤ, pos, to_z, of_z, w64}
use Rattle.std.specs.Int.{FitsUnsignedBits}
use Rattle.std.proofs.lemmas.Result.{OkIff-at_ok, Ok-from_Ok_iff}
use lib.IntN.{nat_abs}
use mir.ValLaws.{to_z-of_z}
use Rattle.reading.specs.Texts.{Numbers}
use Rattle.make_sheet.proofs.Sentences.{one_number, one_fits, one_else}
use Rattle.make_sheet.proofs.lines.amount_in.Goals as goal
use Rattle.make_sheet.proofs.lines.amount_in.Goals.{in_default-via-in-Ok+else-size-most, in_default-via-in_default}

meant : (vs : List (List ℕ)) (xs : List ℤ) (n : ℕ) → length xs ≡ 1 → Numbers vs xs → Numbers vs (pos n ∷ []) → to_z w64 (of_z w64 (get_or xs 0 (pos 0))) ≡ pos n
meant vs xs n long h k =
    let x = get_or xs 0 (pos 0) in
    let one = one_number xs vs x long refl h in
    to_z-of_z w64 x (one_fits vs x one) ∙ one_else vs x (pos n) one k

pub returns-in_default : goal.returns-in_default
returns-in_default c =
    let (vs, words, h) = c.in_ok-take_numbers.ensures in (
      omega arith,
      (
        vs,
        words,
        λ n l k.
            let is = meant vs c.take_numbers.new.out n c.take_numbers.auto.out h k in
            elim c.in_default.branch [
              | in_default-via-in-Ok+else-size-most w ↦ omega (arith, w.if-size-most.false, (OkIff-at_ok _ _ _ _ c.try_from.ensures w.in-Ok.is).1, ap nat_abs is)
              | in_default-via-in_default w ↦ w.in_default.not-Ok _ (Ok-from_Ok_iff _ _ _ c.try_from.ensures (subst (FitsUnsignedBits 64) (sym is) (omega (arith, c.ranges.most.fits))))
            ],
      ),
    )
