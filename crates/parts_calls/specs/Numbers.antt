-- A state as the numbers of an area.
--   state_numbers       how many they are
--   unsigned, signed   a number of 64 bits without a sign, and with one: the same bits
--   number_at           a number of the area
--   state_in            the state that an area holds
--   numbers_in          a state's numbers
use Rattle.std.specs.Prelude.{List, [], ◌∷◌, map, ℕ, suc, ◌-◌, ltb, ℤ, pos, negsuc, get_or}
use Rattle.refusal.specs.Answers.{when◌then◌else◌}
use Rattle.states.specs.declared.State.{State}

abbrev pub state_numbers : ℕ
state_numbers = 13

-- of a number below 0 it is 2^64 more
abbrev pub unsigned : ℤ → ℕ
unsigned (pos n) = n
unsigned (negsuc n) = 18446744073709551616 - suc n

unfoldable pub signed : ℕ → ℤ
signed n = when ltb n 9223372036854775808 then pos n else negsuc (18446744073709551615 - n)

abbrev pub number_at : List ℤ → ℕ → ℕ
number_at area i = unsigned (get_or area i (pos 0))

abbrev pub state_in : List ℤ → State
state_in area = record {
  ended = number_at area 0;
  count = number_at area 1;
  mission = number_at area 2;
  curves = number_at area 3;
  place = number_at area 4;
  erased = number_at area 5;
  words = map (number_at area) (6 ∷ 7 ∷ 8 ∷ 9 ∷ 10 ∷ 11 ∷ 12 ∷ []);
}

abbrev pub numbers_in : State → List ℤ
numbers_in st = map signed (st.ended ∷ st.count ∷ st.mission ∷ st.curves ∷ st.place ∷ st.erased ∷ st.words)
