-- The making has one answer: what meets its promises twice is equal.
--   Wrongly            a text that is read as no line: the definitions do not say what is wrong with it, nor where
--   means_once         words mean one thing
--   says_once          a text that says a line says nothing else
--   wrong_or_sound     no text says a line and is wrong
--   Agree, says_alike  what a text says twice is one line, or it is wrong both times
--   all-say_once       some texts say one list of lines
--   takes_once, does_once      a line does one thing: one answer, and one area; so does a text that was read
--   so_far_once        the lines that were taken leave one stage and one area
--   made_once          a text has one sheet: one size, and one area
--   Alike              two reasons that are one, or of which both name a line as wrong
--   stops_once         an end is made of a text at one line and in one way, and it leaves one area
--   refused_once       so a text that is refused has one line and one refusal
--   refused_or_wrong, made_or_stops    none is refused and told wrong, and none with a sheet is either
--   SameAnswer         the same answer; where it names a line as wrong, the same line
--   makes_once         any two answers for a text are the same, and so are the areas
use mathlib.Core.Path.{◌≡◌, refl, sym, ap, ◌∙◌, subst}
use mathlib.Core.List.{List, [], ◌∷◌, ◌++◌, append_assoc}
use mathlib.Core.Logic.{◌⊎◌, inl, inr, ⊎_elim}
use Prim.Native.Nat.{ℕ, suc}
use native.Mathlib.Omega.{arith}
use lib.IntN.{ℤ, pos, nat_abs}
use lib.ListN.{length, get_or, drop, length-append}
use Rattle.curve.specs.declared.Curve.{Curve}
use Rattle.curve.specs.declared.Curve.TheVariants as form
use Rattle.curve.specs.Curves.{points_of}
use Rattle.curve.proofs.Points.{curve_once}
use Rattle.record.specs.Kinds.{numbers_of}
use Rattle.hand.proofs.Handing.{numbers_once as points_once}
use Rattle.reading.specs.Texts.{Words, Numbers}
use Rattle.reading.proofs.Once.{until_once, words_once, lines_once, numbers_once}
use Rattle.sheet.proofs.Once.{start_once, append_once}
use Rattle.refusal.specs.declared.Refusal.{Refusal}
use Rattle.make_sheet.specs.declared.lines.Line.{Line}
use Rattle.make_sheet.specs.declared.lines.Line.TheVariants as line
use Rattle.make_sheet.specs.declared.lines.Why.{Why}
use Rattle.make_sheet.specs.declared.lines.Wrong.{Wrong}
use Rattle.make_sheet.specs.declared.making.Stage.{Stage}
use Rattle.make_sheet.specs.declared.making.Stage.TheVariants as stage
use Rattle.make_sheet.specs.declared.making.Stop.{Stop}
use Rattle.make_sheet.specs.declared.making.Stop.TheVariants as stop
use Rattle.make_sheet.specs.declared.NoSheet.{NoSheet}
use Rattle.make_sheet.specs.declared.NoSheet.TheVariants as none
use Rattle.std.specs.Prelude.{Result, Ok, Err}
use Rattle.make_sheet.specs.Sayings.{curve_word, Means, ReadAs, Sharp, Says, AllSay}
use Rattle.make_sheet.specs.Making.{afterwards, Appended, Takes, Does, SoFar, begun, and_then, size_in, MadeOf, Stops, Makes}
use Rattle.make_sheet.proofs.Sentences.{words_same, no_words}
use Rattle.make_sheet.proofs.Stages.{next_once, not-stopped}

-- ---- what a line says

abbrev pub Wrongly : Result Line Wrong → Type 0
Wrongly r = (w : Wrong) × (r ≡ Err w)

curve-word : (c : Curve) → length (curve_word c) ≡ 2
curve-word (form.Cubic c) = refl
curve-word (form.Quintic c) = refl

amount_once : {ws : List (List ℕ)} {w v : List ℕ} (vs us : List (List ℕ)) (n m : ℕ) → ws ≡ w ∷ vs → ws ≡ v ∷ us → Numbers vs (pos n ∷ []) → Numbers us (pos m ∷ []) → n ≡ m
amount_once vs us n m h k a b =
    ap (λ (l : List ℤ). nat_abs (get_or l 0 (pos 0))) (numbers_once us (pos n ∷ []) (pos m ∷ []) (subst (λ (xs : List (List ℕ)). Numbers xs (pos n ∷ [])) (words_same h k).1 a) b)

pub means_once : (ws : List (List ℕ)) (l k : Line) → Means ws l → Means ws k → l ≡ k
means_once ws line.Nothing line.Nothing a b = refl
means_once ws line.Nothing (line.Mission m) a b = no_words a b.1
means_once ws line.Nothing (line.Curve d) a b = no_words a b.1
means_once ws line.Nothing (line.Erased m) a b = no_words a b.1
means_once ws (line.Mission n) line.Nothing a b = no_words b a.1
means_once ws (line.Mission n) (line.Mission m) a b = ap line.Mission (amount_once a.0 b.0 n m a.1 b.1 a.2 b.2)
means_once ws (line.Mission n) (line.Curve d) a b = absurd (omega (arith, ap length (words_same a.1 b.1).0, curve-word d))
means_once ws (line.Mission n) (line.Erased m) a b = absurd (omega (arith, ap length (words_same a.1 b.1).0))
means_once ws (line.Curve c) line.Nothing a b = no_words b a.1
means_once ws (line.Curve c) (line.Mission m) a b = absurd (omega (arith, ap length (words_same a.1 b.1).0, curve-word c))
means_once ws (line.Curve c) (line.Curve d) a b =
    let numbers = subst (λ (xs : List (List ℕ)). Numbers xs (numbers_of (points_of c))) (words_same a.1 b.1).1 a.2 in
    ap line.Curve (curve_once c d (points_once (points_of c) (points_of d) (numbers_once b.0 (numbers_of (points_of c)) (numbers_of (points_of d)) numbers b.2)))
means_once ws (line.Curve c) (line.Erased m) a b = absurd (omega (arith, ap length (words_same a.1 b.1).0, curve-word c))
means_once ws (line.Erased n) line.Nothing a b = no_words b a.1
means_once ws (line.Erased n) (line.Mission m) a b = absurd (omega (arith, ap length (words_same a.1 b.1).0))
means_once ws (line.Erased n) (line.Curve d) a b = absurd (omega (arith, ap length (words_same a.1 b.1).0, curve-word d))
means_once ws (line.Erased n) (line.Erased m) a b = ap line.Erased (amount_once a.0 b.0 n m a.1 b.1 a.2 b.2)

line_once : {r q : Result Line Wrong} {l k : Line} → r ≡ q → r ≡ Ok l → q ≡ Ok k → l ≡ k
line_once e f g = cc

read_once : (ws : List (List ℕ)) (r : Result Line Wrong) (k : Line) → ReadAs ws r → Means ws k → r ≡ Ok k
read_once ws (Ok l) k a b = ap Ok (means_once ws l k a b)
read_once ws (Err w) k a b = absurd (a k b)

pub says_once : (text : List ℕ) (r : Result Line Wrong) (k : Line) → Says text r → Says text (Ok k) → r ≡ Ok k
says_once text r k (part, until, (ws, words, reads)) (other, until', (vs, words', reads')) =
    let same = until_once Sharp text part other until until' in
    let listed = words_once other ws vs (subst (λ (t : List ℕ). Words t ws) same words) words' in
    read_once vs r k (subst (λ (xs : List (List ℕ)). ReadAs xs r) listed reads) reads'

not_both : {l : Line} {w : Wrong} → Err w ≡ Ok l → ⊥
not_both e = cc

pub wrong_or_sound : (text : List ℕ) (l : Line) (w : Wrong) → Says text (Ok l) → Says text (Err w) → ⊥
wrong_or_sound text l w a b = not_both (says_once text (Err w) l b a)

-- the same line, or both are wrong
abbrev pub Agree : Result Line Wrong → Result Line Wrong → Type 0
Agree r q = (r ≡ q) ⊎ (Wrongly r × Wrongly q)

pub says_alike : (text : List ℕ) (r q : Result Line Wrong) → Says text r → Says text q → Agree r q
says_alike text r (Ok k) a b = inl (says_once text r k a b)
says_alike text (Ok l) (Err v) a b = absurd (wrong_or_sound text l v a b)
says_alike text (Err w) (Err v) a b = inr ((w, refl), (v, refl))

pub all-say_once : (texts : List (List ℕ)) (ls ks : List Line) → AllSay texts ls → AllSay texts ks → ls ≡ ks
all-say_once [] [] [] a b = refl
all-say_once [] [] (k ∷ ks) a b = absurd b
all-say_once [] (l ∷ ls) ks a b = absurd a
all-say_once (t ∷ texts) [] ks a b = absurd a
all-say_once (t ∷ texts) (l ∷ ls) [] a b = absurd b
all-say_once (t ∷ texts) (l ∷ ls) (k ∷ ks) a b =
    let first = line_once (says_once t (Ok l) k a.0 b.0) refl refl in
    let later = all-say_once texts ls ks a.1 b.1 in
    λ i. first i ∷ later i

-- ---- what a line does

module _ (s t u : List ℕ) (r q : Result Stage Stop) where
  kept_once : {p : Result Stage Stop} → (t ≡ s) × (r ≡ p) → (u ≡ s) × (q ≡ p) → (r ≡ q) × (t ≡ u)
  kept_once a b = (a.1 ∙ sym b.1, a.0 ∙ sym b.0)

  appended_once : (c : Curve) → Appended c s t r → Appended c s u q → (r ≡ q) × (t ≡ u)
  appended_once c (a, g, e) (b, h, f) =
      let once = append_once s c t u a b g h in
      (e ∙ ap afterwards once.0 ∙ sym f, once.1)

  pub takes_once : (st : Stage) (l : Line) → Takes st l s t r → Takes st l s u q → (r ≡ q) × (t ≡ u)
  takes_once st line.Nothing a b = kept_once a b
  takes_once stage.Blank (line.Mission n) (a, g, e) (b, h, f) =
      let once = start_once s n t u a b g h in
      (e ∙ ap afterwards once.0 ∙ sym f, once.1)
  takes_once stage.Started (line.Mission n) a b = kept_once a b
  takes_once (stage.Ended size) (line.Mission n) a b = kept_once a b
  takes_once stage.Blank (line.Curve c) a b = appended_once c a b
  takes_once stage.Started (line.Curve c) a b = appended_once c a b
  takes_once (stage.Ended size) (line.Curve c) a b = kept_once a b
  takes_once st (line.Erased n) a b = kept_once a b

  pub does_once : (st : Stage) (x : Result Line Wrong) → Does st x s t r → Does st x s u q → (r ≡ q) × (t ≡ u)
  does_once st (Ok l) a b = takes_once st l a b
  does_once st (Err w) a b = kept_once a b

stop_once : {r q : Stop} {x y : Result Stage Stop} → x ≡ y → x ≡ Err r → y ≡ Err q → r ≡ q
stop_once e f g = cc

refusal_once : {a b : Refusal} → stop.Refused a ≡ stop.Refused b → a ≡ b
refusal_once e = cc

refused-not-wrong : {r : Refusal} {w : Why} → stop.Refused r ≡ stop.Wrong w → ⊥
refused-not-wrong e = cc

-- ---- the lines so far

-- the last line, and those before it
last_once : (ls ks : List Line) (l k : Line) → ls ++ (l ∷ []) ≡ ks ++ (k ∷ []) → (ls ≡ ks) × (l ≡ k)
last_once [] [] l k e = (refl, ap (λ (x : List Line). get_or x 0 l) e)
last_once [] (b ∷ ks) l k e = absurd (omega (arith, ap length e, length-append ks (k ∷ [])))
last_once (a ∷ ls) [] l k e = absurd (omega (arith, ap length e, length-append ls (l ∷ [])))
last_once (a ∷ ls) (b ∷ ks) l k e =
    let first : a ≡ b = ap (λ (x : List Line). get_or x 0 a) e in
    let later = last_once ls ks l k (ap (drop 1) e) in
    (λ i. first i ∷ later.0 i, later.1)

so_far_by : {ls ks : List Line} {st next : Stage} {s t : List ℕ} → SoFar ls st s → SoFar ks next t → ls ≡ ks → (st ≡ next) × (s ≡ t)
so_far_by begun begun e = (refl, refl)
so_far_by begun (and_then {ls = ks} k so h) e = absurd (omega (arith, ap length e, length-append ks (k ∷ [])))
so_far_by (and_then {ls = ls} l so h) begun e = absurd (omega (arith, ap length e, length-append ls (l ∷ [])))
so_far_by (and_then {ls = ls} {st = st} {next = next} {s = s} {t = t} l so h) (and_then {ls = ks} {st = st'} {next = next'} {s = s'} {t = t'} k so' h') e =
    let lines = last_once ls ks l k e in
    let before = so_far_by so so' lines.0 in
    let now = subst (λ (X : Type 0). X) (λ i. Takes (before.0 i) (lines.1 i) (before.1 i) t (Ok next)) h in
    let once = takes_once s' t t' (Ok next) (Ok next') st' k now h' in
    (next_once refl once.0, once.1)

pub so_far_once : (ls : List Line) (st next : Stage) (s t : List ℕ) → SoFar ls st s → SoFar ls next t → (st ≡ next) × (s ≡ t)
so_far_once ls st next s t h k = so_far_by h k refl

-- ---- the sheet

pub made_once : (text area other : List ℕ) (size count : ℕ) → MadeOf text area size → MadeOf text other count → (size ≡ count) × (area ≡ other)
made_once text area other size count h k =
    let lines = lines_once text h.lines k.lines h.text_is k.text_is in
    let say = subst (λ (ts : List (List ℕ)). AllSay ts h.said) lines h.say in
    let said = all-say_once k.lines h.said k.said say k.say in
    let once = so_far_by h.made k.made said in
    (h.size_is ∙ (λ i. size_in (once.0 i) (once.1 i)) ∙ sym k.size_is, once.1)

-- ---- a refusal

-- behind the first lines of some that were taken stands the next, which was taken too
record Reached (ls : List Line) (l : Line) : Type 0 where
  at : Stage
  before : List ℕ
  made : SoFar ls at before
  next : Stage
  area : List ℕ
  takes : Takes at l before area (Ok next)

last_view : (ls : List Line) → (ls ≡ []) ⊎ ((ks : List Line) × (k : Line) × (ls ≡ ks ++ (k ∷ [])))
last_view [] = inl refl
last_view (l ∷ ls) = by (last_view ls)
  where
    by : (ls ≡ []) ⊎ ((ks : List Line) × (k : Line) × (ls ≡ ks ++ (k ∷ []))) → (l ∷ ls ≡ []) ⊎ ((ks : List Line) × (k : Line) × (l ∷ ls ≡ ks ++ (k ∷ [])))
    by (inl e) = inr ([], l, ap (λ (x : List Line). l ∷ x) e)
    by (inr (ks, k, e)) = inr (l ∷ ks, k, ap (λ (x : List Line). l ∷ x) e)

reached : {js : List Line} {st : Stage} {s : List ℕ} (ls ks : List Line) (l : Line) → SoFar js st s → js ≡ ls ++ (l ∷ ks) → Reached ls l
reached ls ks l begun e = absurd (omega (arith, ap length e, length-append ls (l ∷ ks)))
reached ls ks l (and_then {ls = js} {st = st} {next = next} {s = s} {t = t} j so h) e = by (λ xs f. reached ls xs l so f) (last_view ks)
  where
    by : ((xs : List Line) → js ≡ ls ++ (l ∷ xs) → Reached ls l) → (ks ≡ []) ⊎ ((xs : List Line) × (x : Line) × (ks ≡ xs ++ (x ∷ []))) → Reached ls l
    by again (inl none) =
        let lines = last_once js ls j l (e ∙ ap (λ (xs : List Line). ls ++ (l ∷ xs)) none) in
        record {
          at = st;
          before = s;
          made = subst (λ (xs : List Line). SoFar xs st s) lines.0 so;
          next = next;
          area = t;
          takes = subst (λ (x : Line). Takes st x s t (Ok next)) lines.1 h;
        }
    by again (inr (xs, x, some)) =
        let lines = last_once js (ls ++ (l ∷ xs)) j x (e ∙ ap (λ (ys : List Line). ls ++ (l ∷ ys)) some ∙ sym (append_assoc ls (l ∷ xs) (x ∷ []))) in
        again xs lines.0

-- no line is both taken and makes an end of it
never_ends : {A : Type 0} {ls : List Line} {l : Line} (st : Stage) (s t : List ℕ) (r : Stop) → Reached ls l → SoFar ls st s → Takes st l s t (Err r) → A
never_ends {ls = ls} {l = l} st s t r h so k =
    let once = so_far_once ls h.at st h.before s h.made so in
    let now = subst (λ (X : Type 0). X) (λ i. Takes (once.0 i) l (once.1 i) h.area (Ok h.next)) h.takes in
    not-stopped refl (takes_once s h.area t (Ok h.next) (Err r) st l now k).0

-- two texts of one text, as they were read: the same, but for what is wrong with a wrong one, or one of them is before the other
data Compared (ls ks : List Line) (r q : Result Line Wrong) : Type 0 where
  same : ls ≡ ks → Agree r q → Compared ls ks r q
  sooner : (l : Line) (more : List Line) → r ≡ Ok l → ks ≡ ls ++ (l ∷ more) → Compared ls ks r q
  later : (k : Line) (more : List Line) → q ≡ Ok k → ls ≡ ks ++ (k ∷ more) → Compared ls ks r q

compared_more : {ls ks : List Line} {r q : Result Line Wrong} (a b : Line) → a ≡ b → Compared ls ks r q → Compared (a ∷ ls) (b ∷ ks) r q
compared_more a b e (same h f) = same (λ i. e i ∷ h i) f
compared_more a b e (sooner l more is h) = sooner l more is (λ i. sym e i ∷ h i)
compared_more a b e (later k more is h) = later k more is (λ i. e i ∷ h i)

module _ (t u : List ℕ) (more rest : List (List ℕ)) (r q : Result Line Wrong) (says : Says t r) (said : Says u q) where
  compared : (ts us : List (List ℕ)) (ls ks : List Line) → AllSay ts ls → AllSay us ks → ts ++ (t ∷ more) ≡ us ++ (u ∷ rest) → Compared ls ks r q
  compared [] [] [] [] a b e = same refl (says_alike u r q (subst (λ (x : List ℕ). Says x r) (ap (λ (x : List (List ℕ)). get_or x 0 []) e) says) said)
  compared [] [] [] (k' ∷ ks) a b e = absurd b
  compared [] [] (l' ∷ ls) ks a b e = absurd a
  compared [] (v ∷ us) [] [] a b e = absurd b
  compared [] (v ∷ us) [] (k' ∷ ks) a b e =
      sooner k' ks (says_once v r k' (subst (λ (x : List ℕ). Says x r) (ap (λ (x : List (List ℕ)). get_or x 0 []) e) says) b.0) refl
  compared [] (v ∷ us) (l' ∷ ls) ks a b e = absurd a
  compared (v ∷ ts) us [] ks a b e = absurd a
  compared (v ∷ ts) [] (l' ∷ ls) [] a b e =
      later l' ls (says_once v q l' (subst (λ (x : List ℕ). Says x q) (sym (ap (λ (x : List (List ℕ)). get_or x 0 []) e)) said) a.0) refl
  compared (v ∷ ts) [] (l' ∷ ls) (k' ∷ ks) a b e = absurd b
  compared (v ∷ ts) (w ∷ us) (l' ∷ ls) [] a b e = absurd b
  compared (v ∷ ts) (w ∷ us) (l' ∷ ls) (k' ∷ ks) a b e =
      let one = line_once (says_once w (Ok l') k' (subst (λ (x : List ℕ). Says x (Ok l')) (ap (λ (x : List (List ℕ)). get_or x 0 []) e) a.0) b.0) refl refl in
      compared_more l' k' one (compared ts us ls ks a.1 b.1 (ap (drop 1) e))

said-long : (ts : List (List ℕ)) (ls : List Line) → AllSay ts ls → length ts ≡ length ls
said-long [] [] h = refl
said-long [] (l ∷ ls) h = absurd h
said-long (t ∷ ts) [] h = absurd h
said-long (t ∷ ts) (l ∷ ls) h = ap suc (said-long ts ls h.1)

-- the same reason, or both say that a line is wrong
abbrev pub Alike : Stop → Stop → Type 0
Alike r q = (r ≡ q) ⊎ (((w : Why) × (r ≡ stop.Wrong w)) × ((v : Why) × (q ≡ stop.Wrong v)))

pub stops_once : (text area other : List ℕ) (n m : ℕ) (r q : Stop) → Stops text area n r → Stops text other m q → (n ≡ m) × Alike r q × (area ≡ other)
stops_once text area other n m r q h k = by (compared h.here k.here h.more k.more h.read k.read h.says k.says h.lines k.lines h.said k.said h.say k.say (lines_once text _ _ h.text_is k.text_is))
  where
    number : h.said ≡ k.said → n ≡ m
    number ls = omega (arith, h.number_is, k.number_is, said-long h.lines h.said h.say, said-long k.lines k.said k.say, ap length ls)

    one : h.said ≡ k.said → Agree h.read k.read → Alike r q × (area ≡ other)
    one ls (inl l) =
        let before = so_far_by h.made k.made ls in
        let now = subst (λ (X : Type 0). X) (λ i. Does (before.0 i) (l i) (before.1 i) area (Err r)) h.stops in
        let once = does_once k.before area other (Err r) (Err q) k.stage k.read now k.stops in
        (inl (stop_once once.0 refl refl), once.1)
    one ls (inr ((w, e), (v, f))) =
        let first = subst (λ (x : Result Line Wrong). Does h.stage x h.before area (Err r)) e h.stops in
        let second = subst (λ (x : Result Line Wrong). Does k.stage x k.before other (Err q)) f k.stops in
        (inr ((w.why, stop_once first.1 refl refl), (v.why, stop_once second.1 refl refl)), first.0 ∙ (so_far_by h.made k.made ls).1 ∙ sym second.0)

    by : Compared h.said k.said h.read k.read → (n ≡ m) × Alike r q × (area ≡ other)
    by (same ls l) = let (alike, areas) = one ls l in (number ls, alike, areas)
    by (sooner l more is e) =
        never_ends h.stage h.before area r (reached h.said more l k.made e) h.made (subst (λ (x : Result Line Wrong). Does h.stage x h.before area (Err r)) is h.stops)
    by (later l more is e) =
        never_ends k.stage k.before other q (reached k.said more l h.made e) k.made (subst (λ (x : Result Line Wrong). Does k.stage x k.before other (Err q)) is k.stops)

pub refused_once : (text area other : List ℕ) (n m : ℕ) (r q : Refusal) → Stops text area n (stop.Refused r) → Stops text other m (stop.Refused q) → (n ≡ m) × (r ≡ q) × (area ≡ other)
refused_once text area other n m r q h k =
    let (number, alike, areas) = stops_once text area other n m (stop.Refused r) (stop.Refused q) h k in
    (number, ⊎_elim refusal_once (λ w. absurd (refused-not-wrong w.0.1)) alike, areas)

pub refused_or_wrong : (text area other : List ℕ) (n m : ℕ) (r : Refusal) (w : Why) → Stops text area n (stop.Refused r) → Stops text other m (stop.Wrong w) → ⊥
refused_or_wrong text area other n m r w h k =
    let (number, alike, areas) = stops_once text area other n m (stop.Refused r) (stop.Wrong w) h k in
    ⊎_elim refused-not-wrong (λ v. refused-not-wrong v.0.1) alike

-- a text among some that all say a line
among : (t : List ℕ) (more : List (List ℕ)) (r : Result Line Wrong) → Says t r → (ts us : List (List ℕ)) (ls ks : List Line) → AllSay ts ls → AllSay us ks
    → us ≡ ts ++ (t ∷ more) → (l : Line) × (r ≡ Ok l) × ((rest : List Line) × (ks ≡ ls ++ (l ∷ rest)))
among t more r h ts [] ls ks a b e = absurd (omega (arith, ap length e, length-append ts (t ∷ more)))
among t more r h ts (u ∷ us) ls [] a b e = absurd b
among t more r h [] (u ∷ us) [] (k ∷ ks) a b e =
    let one = says_once t r k h (subst (λ (v : List ℕ). Says v (Ok k)) (ap (λ (v : List (List ℕ)). get_or v 0 []) e) b.0) in
    (k, one, (ks, refl))
among t more r h [] (u ∷ us) (l' ∷ ls) (k ∷ ks) a b e = absurd a
among t more r h (v ∷ ts) (u ∷ us) [] (k ∷ ks) a b e = absurd a
among t more r h (v ∷ ts) (u ∷ us) (l' ∷ ls) (k ∷ ks) a b e =
    let one = line_once (says_once v (Ok k) l' (subst (λ (v : List ℕ). Says v (Ok k)) (ap (λ (v : List (List ℕ)). get_or v 0 []) e) b.0) a.0) refl refl in
    let (l, is, (rest, lines)) = among t more r h ts us ls ks a.1 b.1 (ap (drop 1) e) in
    (l, is, (rest, λ i. one i ∷ lines i))

pub made_or_stops : (text area other : List ℕ) (size n : ℕ) (r : Stop) → MadeOf text area size → Stops text other n r → ⊥
made_or_stops text area other size n r h k =
    let (l, is, (rest, e)) = among k.here k.more k.read k.says k.lines h.lines k.said h.said k.say h.say (lines_once text _ _ h.text_is k.text_is) in
    never_ends k.stage k.before other r (reached k.said rest l h.made e) k.made (subst (λ (x : Result Line Wrong). Does k.stage x k.before other (Err r)) is k.stops)

abbrev pub SameAnswer : Result ℕ NoSheet → Result ℕ NoSheet → Type 0
SameAnswer (Ok size) q = Ok size ≡ q
SameAnswer (Err (none.Refused number r)) q = Err (none.Refused number r) ≡ q
SameAnswer (Err (none.Wrong number column w)) q = (at : ℕ) × (v : Why) × (q ≡ Err (none.Wrong number at v))

pub makes_once : (text area other : List ℕ) (r q : Result ℕ NoSheet) → Makes text area r → Makes text other q → SameAnswer r q × (area ≡ other)
makes_once text area other (Ok size) (Ok count) h k = let once = made_once text area other size count h k in (ap Ok once.0, once.1)
makes_once text area other (Ok size) (Err (none.Refused m q)) h k = absurd (made_or_stops text area other size m (stop.Refused q) h k)
makes_once text area other (Ok size) (Err (none.Wrong m c w)) h k = absurd (made_or_stops text area other size m (stop.Wrong w) h k)
makes_once text area other (Err (none.Refused n r)) (Ok count) h k = absurd (made_or_stops text other area count n (stop.Refused r) k h)
makes_once text area other (Err (none.Refused n r)) (Err (none.Refused m q)) h k =
    let once = refused_once text area other n m r q h k in
    (λ i. Err (none.Refused (once.0 i) (once.1 i)), once.2)
makes_once text area other (Err (none.Refused n r)) (Err (none.Wrong m c w)) h k = absurd (refused_or_wrong text area other n m r w h k)
makes_once text area other (Err (none.Wrong n c w)) (Ok count) h k = absurd (made_or_stops text other area count n (stop.Wrong w) k h)
makes_once text area other (Err (none.Wrong n c w)) (Err (none.Refused m q)) h k = absurd (refused_or_wrong text other area m n q w k h)
makes_once text area other (Err (none.Wrong n c w)) (Err (none.Wrong m d v)) h k =
    let (number, alike, areas) = stops_once text area other n m (stop.Wrong w) (stop.Wrong v) h k in
    ((d, v, λ i. Err (none.Wrong (sym number i) d v)), areas)
