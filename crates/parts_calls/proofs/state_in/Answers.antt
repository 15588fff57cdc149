-- `state_in` meets its contract: number by number.
use mathlib.Core.List.{[], ◌∷◌}
use native.Mathlib.Omega.{arith}
use lib.IntN.{pos}
use lib.ListN.{get_or}
use Rattle.parts_calls.proofs.Signs.{unsigned-read}
use Rattle.parts_calls.proofs.state_in.Goals as goal

pub returns : goal.returns
returns c =
    let area = c.args.numbers.now in
    λ i. record {
      ended = unsigned-read (get_or area 0 (pos 0)) (omega arith) c.cast_unsigned.ensures i;
      count = unsigned-read (get_or area 1 (pos 0)) (omega arith) c.cast_unsigned-2.ensures i;
      mission = unsigned-read (get_or area 2 (pos 0)) (omega arith) c.cast_unsigned-3.ensures i;
      curves = unsigned-read (get_or area 3 (pos 0)) (omega arith) c.cast_unsigned-4.ensures i;
      place = unsigned-read (get_or area 4 (pos 0)) (omega arith) c.cast_unsigned-5.ensures i;
      erased = unsigned-read (get_or area 5 (pos 0)) (omega arith) c.cast_unsigned-6.ensures i;
      words =
          (unsigned-read (get_or area 6 (pos 0)) (omega arith) c.cast_unsigned-7.ensures i)
          ∷ (unsigned-read (get_or area 7 (pos 0)) (omega arith) c.cast_unsigned-8.ensures i)
          ∷ (unsigned-read (get_or area 8 (pos 0)) (omega arith) c.cast_unsigned-9.ensures i)
          ∷ (unsigned-read (get_or area 9 (pos 0)) (omega arith) c.cast_unsigned-10.ensures i)
          ∷ (unsigned-read (get_or area 10 (pos 0)) (omega arith) c.cast_unsigned-11.ensures i)
          ∷ (unsigned-read (get_or area 11 (pos 0)) (omega arith) c.cast_unsigned-12.ensures i)
          ∷ (unsigned-read (get_or area 12 (pos 0)) (omega arith) c.cast_unsigned-13.ensures i)
          ∷ [];
    }
