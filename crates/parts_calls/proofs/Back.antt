-- What a call leaves in the area is what the next call reads there.
--   sign-back      a number with a sign, and without it again
--   state-back     a state's numbers, read again
use mathlib.Core.Path.{◌≡◌, refl, sym, ap, ◌∙◌, subst}
use mathlib.Core.List.{List, [], ◌∷◌, ◌++◌, map}
use Prim.Native.Nat.{ℕ, ◌<◌}
use native.Mathlib.Omega.{arith}
use lib.IntN.{ℤ}
use lib.Dec.{ltb}
use lib.ListN.{get_or, drop}
use borrow.Author.Tests.{ltb-false}
use Rattle.refusal.proofs.Answers.{by_test}
use Rattle.states.specs.declared.State.{State}
use Rattle.states.specs.States.{Reached}
use Rattle.states.proofs.Packed.{AllSmall}
use Rattle.states.proofs.Possible.{reached_possible, Small, possible_small}
use Rattle.parts_calls.specs.Numbers.{unsigned, signed, state_in}
use Rattle.parts_calls.specs.Promise.{left}
use Rattle.parts_calls.proofs.Signs.{seven-words}

pub sign-back : (n : ℕ) → n < 18446744073709551616 → unsigned (signed n) ≡ n
unfolding signed
sign-back n l = by_test (λ (x : ℤ). unsigned x ≡ n) (ltb n 9223372036854775808) (λ _. refl) (λ e. omega (arith, ltb-false n 9223372036854775808 e))

module _ (before : List ℤ) (st : State) (r : Reached st) where
  small : Small st
  small = possible_small st (reached_possible st r)

  abbrev word : ℕ → ℕ
  word i = get_or st.words i 0

  abbrev seven : List ℕ
  seven = word 0 ∷ word 1 ∷ word 2 ∷ word 3 ∷ word 4 ∷ word 5 ∷ word 6 ∷ []

  all-seven : AllSmall seven
  all-seven = subst AllSmall (seven-words st.words small.seven) small.words

  pub state-back : state_in (left before st) ≡ st
  state-back =
      let s = seven-words st.words small.seven in
      let w = all-seven in
      ap (λ (ws : List ℕ). state_in (map signed (st.ended ∷ st.count ∷ st.mission ∷ st.curves ∷ st.place ∷ st.erased ∷ ws) ++ drop 13 before)) s
      ∙ (λ i. record {
        ended = sign-back st.ended (omega (arith, (reached_possible st r).flag)) i;
        count = sign-back st.count (omega (arith, small.count)) i;
        mission = sign-back st.mission (omega (arith, small.mission)) i;
        curves = sign-back st.curves (omega (arith, small.curves)) i;
        place = sign-back st.place (omega (arith, small.place)) i;
        erased = sign-back st.erased (omega (arith, small.erased)) i;
        words =
            sign-back (word 0) w.0 i
            ∷ sign-back (word 1) w.1.0 i
            ∷ sign-back (word 2) w.1.1.0 i
            ∷ sign-back (word 3) w.1.1.1.0 i
            ∷ sign-back (word 4) w.1.1.1.1.0 i
            ∷ sign-back (word 5) w.1.1.1.1.1.0 i
            ∷ sign-back (word 6) w.1.1.1.1.1.1.0 i
            ∷ [];
      })
      ∙ (λ i. record { ended = st.ended; count = st.count; mission = st.mission; curves = st.curves; place = st.place; erased = st.erased; words = sym s i })
