-- `numbers_in` meets its contract: number by number.
use borrow.Author.Rules.{rules}
use mathlib.Core.Path.{◌≡◌, sym, ap, ◌∙◌}
use mathlib.Core.List.{List, [], ◌∷◌, map}
use Prim.Native.Nat.{ℕ}
use lib.ListN.{length, get_or}
use Rattle.record.proofs.Signs.{settled}
use Rattle.parts_calls.specs.Numbers.{signed}
use Rattle.parts_calls.proofs.Signs.{machine_signed, seven-words}
use Rattle.parts_calls.proofs.numbers_in.Goals as goal

pub returns : goal.returns
returns c =
    let st = c.args.state in
    let seven : length st.words ≡ 7 = search rules in
    (λ i.
    (settled c.cast_signed.type_inv (c.cast_signed.ensures ∙ machine_signed st.ended) i)
    ∷ (settled c.cast_signed-2.type_inv (c.cast_signed-2.ensures ∙ machine_signed st.count) i)
    ∷ (settled c.cast_signed-3.type_inv (c.cast_signed-3.ensures ∙ machine_signed st.mission) i)
    ∷ (settled c.cast_signed-4.type_inv (c.cast_signed-4.ensures ∙ machine_signed st.curves) i)
    ∷ (settled c.cast_signed-5.type_inv (c.cast_signed-5.ensures ∙ machine_signed st.place) i)
    ∷ (settled c.cast_signed-6.type_inv (c.cast_signed-6.ensures ∙ machine_signed st.erased) i)
    ∷ (settled c.cast_signed-7.type_inv (c.cast_signed-7.ensures ∙ machine_signed (get_or st.words 0 0)) i)
    ∷ (settled c.cast_signed-8.type_inv (c.cast_signed-8.ensures ∙ machine_signed (get_or st.words 1 0)) i)
    ∷ (settled c.cast_signed-9.type_inv (c.cast_signed-9.ensures ∙ machine_signed (get_or st.words 2 0)) i)
    ∷ (settled c.cast_signed-10.type_inv (c.cast_signed-10.ensures ∙ machine_signed (get_or st.words 3 0)) i)
    ∷ (settled c.cast_signed-11.type_inv (c.cast_signed-11.ensures ∙ machine_signed (get_or st.words 4 0)) i)
    ∷ (settled c.cast_signed-12.type_inv (c.cast_signed-12.ensures ∙ machine_signed (get_or st.words 5 0)) i)
    ∷ (settled c.cast_signed-13.type_inv (c.cast_signed-13.ensures ∙ machine_signed (get_or st.words 6 0)) i)
    ∷ [])
    ∙ ap (λ (ws : List ℕ). map signed (st.ended ∷ st.count ∷ st.mission ∷ st.curves ∷ st.place ∷ st.erased ∷ ws)) (sym (seven-words st.words seven))
