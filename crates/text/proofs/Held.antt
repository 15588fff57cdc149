-- From a text that was written to the promise.
--   asked_fits       a text that fits is to be written.      asked-written   what is to be written is the text
--   end_within       the end of a text is within its area.      finished   a text that is held, with zeros behind it
--   text_in          a text that was written into an area, and finished
--   written_is       what was written is the text
--   room-enough      an area that is long enough is not refused.      room_ok, ok_is   so its answer is Ok, and what that says
--   text_in_once     one answer and one area, where there is one such text
use Rattle.std.proofs.Common.{◌≡◌, rules, refl, sym, ap, ◌∙◌, subst, List, [], ◌++◌, ℕ, ◌-◌, ◌≤◌, ◌<◌, arith, ltb, length, take, replicate, length-append, Option, MatchOption, Some, None, Result, Ok, Err, ap₂}
use Rattle.std.specs.Borrow.{MutBor}
use Rattle.std.specs.Option.{ForSome, ok_or, unwrap_or}
use Rattle.std.specs.Result.{IsOk}
use lib.Seq.{take_at}
use borrow.Author.Tests.{lt-ltb, le-ltb, ltb-false}
use Rattle.refusal.specs.declared.Refusal.{Refusal}
use Rattle.refusal.specs.declared.Refusal.TheVariants as refusal
use Rattle.refusal.specs.Answers.{Answer, given, refuse, answer_of, when◌then◌else◌}
use Rattle.refusal.proofs.Answers.{by_test, no_answer, given_once, answer_once}
use Rattle.text.specs.declared.Text.{Text}
use Rattle.text.specs.Promise.{asked, area_after, TextIn}
use Rattle.text.specs.Steps.{Holds, Begins, Writes, Finishes}

pub asked_fits : (room : ℕ) (text : List ℕ) → length text ≤ room → asked room text ≡ given (length text)
unfolding asked when◌then◌else◌
asked_fits room text l = rw (le-ltb room (length text) l) refl

asked_short : (room : ℕ) (text : List ℕ) → room < length text → asked room text ≡ refuse refusal.Room 0
unfolding asked when◌then◌else◌
asked_short room text l = rw (lt-ltb room (length text) l) refl

area_fits : (room : ℕ) (text : List ℕ) → length text ≤ room → area_after room text ≡ text ++ replicate (room - length text) 0
unfolding area_after when◌then◌else◌
area_fits room text l = rw (le-ltb room (length text) l) refl

area_short : (room : ℕ) (text : List ℕ) → room < length text → area_after room text ≡ replicate room 0
unfolding area_after when◌then◌else◌
area_short room text l = rw (lt-ltb room (length text) l) refl

pub asked-written : (room : ℕ) (text : List ℕ) (n : ℕ) → given n ≡ asked room text → (n ≡ length text) × (length text ≤ room)
unfolding asked
asked-written room text n =
    by_test (λ (a : Answer ℕ). given n ≡ a → (n ≡ length text) × (length text ≤ room)) (ltb room (length text)) (λ _ e. no_answer e)
    (λ f e. (given_once e, ltb-false room (length text) f))

module _ (t : Text) where
  abbrev room : ℕ
  room = length t.area.now

  abbrev HoldsBy : Option ℕ → List ℕ → Type 0
  HoldsBy len text = MatchOption len (room < length text) (λ n. (n ≡ length text) × (n ≤ room) × (take n t.area.now ≡ text))

  says : (len : Option ℕ) (text : List ℕ) → HoldsBy len text → answer_of (ok_or len refusal.Room) ≡ asked room text
  says None text h = sym (asked_short room text h)
  says (Some n) text h = ap given h.0 ∙ sym (asked_fits room text (omega (arith, h.0, h.1)))

  leaves : (len : Option ℕ) (text : List ℕ) → HoldsBy len text → take (unwrap_or len 0) t.area.now ++ replicate (room - unwrap_or len 0) 0 ≡ area_after room text
  leaves None text h = ap (λ (k : ℕ). replicate k 0) (omega arith) ∙ sym (area_short room text h)
  leaves (Some n) text h =
      ap₂ (λ (xs : List ℕ) (k : ℕ). xs ++ replicate (room - k) 0) h.2 h.0 ∙ sym (area_fits room text (omega (arith, h.0, h.1)))

  pub end_within : unwrap_or t.len 0 ≤ room
  end_within = within t.len t.inside
    where
      within : (len : Option ℕ) → ForSome len (λ n. n ≤ room) → unwrap_or len 0 ≤ room
      within None i = omega arith
      within (Some n) i = search rules

  pub finished : {k : ℕ} {after : List ℕ} {r : Result ℕ Refusal} → k ≡ unwrap_or t.len 0 → r ≡ ok_or t.len refusal.Room
      → after ≡ take k t.area.now ++ replicate (room - k) 0 → Finishes t after r
  finished e f g = record {
    says = λ text h. ap answer_of f ∙ says t.len text h;
    leaves = λ text h. g ∙ ap (λ (k : ℕ). take k t.area.now ++ replicate (room - k) 0) e ∙ leaves t.len text h;
  }

module _ {Is : List ℕ → Type 0} where
  pub text_in : {area : MutBor (List ℕ)} {begun held : Text} {after : List ℕ} {r : Result ℕ Refusal} (text : List ℕ) → Is text
      → Begins area begun → Writes begun text held → Finishes held after r → TextIn Is area.now after r
  text_in {area} {begun} {held} text is b w f =
      let none : Holds begun [] = rw b.empty (refl, omega arith, refl) in
      let h = w.then_holds [] none in
      let room : length held.area.now ≡ length area.now = w.same_length ∙ ap length b.same_bytes in
      record {
        text = text;
        is = is;
        says = f.says text h ∙ ap (λ (n : ℕ). asked n text) room;
        leaves = f.leaves text h ∙ ap (λ (n : ℕ). area_after n text) room;
      }

  pub written_is : (before after : List ℕ) (n : ℕ) → TextIn Is before after (Ok n) → (n ≤ length after) × Is (take n after)
  written_is before after n h =
      let (long, fits) = asked-written (length before) h.text n h.says in
      let zeros : List ℕ = replicate (length before - length h.text) 0 in
      let a : after ≡ h.text ++ zeros = h.leaves ∙ area_fits (length before) h.text fits in
      (omega (arith, ap length a, length-append h.text zeros), subst Is (sym (ap (take n) a ∙ take_at h.text zeros n (sym long))) h.is)

  pub room-enough : (most : ℕ) → ((text : List ℕ) → Is text → length text ≤ most) → (before after : List ℕ) (r : Refusal) → most ≤ length before
      → TextIn Is before after (Err r) → ⊥
  room-enough most short before after r l h = no_answer (sym (h.says ∙ asked_fits (length before) h.text (omega (arith, short h.text h.is))))

  pub room_ok : (most : ℕ) → ((text : List ℕ) → Is text → length text ≤ most) → (before after : List ℕ) (r : Result ℕ Refusal) → most ≤ length before → TextIn Is before after r → IsOk r
  room_ok most short before after (Ok n) l h = refl
  room_ok most short before after (Err r) l h = absurd (room-enough most short before after r l h)

  pub ok_is : (before after : List ℕ) {r : Result ℕ Refusal} {n : ℕ} → r ≡ Ok n → TextIn Is before after r → (n ≤ length after) × Is (take n after)
  ok_is before after {n = n} e h = written_is before after n (subst (TextIn Is before after) e h)

  pub text_in_once : ((t u : List ℕ) → Is t → Is u → t ≡ u) → (before x y : List ℕ) (r q : Result ℕ Refusal) → TextIn Is before x r → TextIn Is before y q → (r ≡ q) × (x ≡ y)
  text_in_once once before x y r q h k =
      let e = once h.text k.text h.is k.is in
      (answer_once r q (h.says ∙ ap (asked (length before)) e ∙ sym k.says), h.leaves ∙ ap (area_after (length before)) e ∙ sym k.leaves)
