-- What a line of the text says.
--   mission_word, erased_word, cubic_word, quintic_word, curve_word   the words that lines begin with
--   Means        what some words mean
--   NoLine       words that mean no line
--   ReadAs       some words as a line: what they mean, or that it is wrong, for they mean no line
--   MeansIn      a text without a comment as a line
--   Says         what a line says: a comment is passed over
--   AllSay       what some lines say, one by one
--   line_in, place_in     what a text says, without the place of what says it, and that place
--   WordsSay, LineSays    a text without a comment, and a line, with the place of what says it
--   NumbersIn    what was taken of a text's numbers: its words are just these, or no such number of numbers
--   NotSoMany, NoAmount, NoCurve    the words of a text are no such numbers
--   AmountIn     the same of one number that counts something, up to a bound
--   MeansBehind, SaysBehind    what stands behind a word
--   IsCurve, CurveBehind       the same of a curve of so many numbers
--   word_of, Named       the word of a form; what names no form is none of the words
--   why_of       what is wrong with a word that is no number
-- A line that is called wrong is wrong: its words mean no line. Which sentence is said of it, and at which column, is open.
use Rattle.std.specs.Prelude.{◌≡◌, List, [], ◌∷◌, ℕ, ◌≤◌, ℤ, pos, length, Option, Some, None, Result, Ok, Err, IfErr}
use Rattle.curve.specs.declared.Curve.{Curve}
use Rattle.curve.specs.Curves.{points_of}
use Rattle.record.specs.declared.kinds.Kind.TheVariants.{Cubic, Quintic}
use Rattle.record.specs.Kinds.{row_of, kind_of, numbers_of}
use Rattle.reading.specs.declared.numbers.NoNumber.{NoNumber}
use Rattle.reading.specs.declared.numbers.NoNumber.TheVariants as none
use Rattle.reading.specs.Texts.{Until, Words, Numbers}
use Rattle.make_sheet.specs.declared.lines.Form.{Form}
use Rattle.make_sheet.specs.declared.lines.Form.TheVariants as form
use Rattle.make_sheet.specs.declared.lines.Line.{Line}
use Rattle.make_sheet.specs.declared.lines.Line.TheVariants as line
use Rattle.make_sheet.specs.declared.lines.Said.{Said}
use Rattle.make_sheet.specs.declared.lines.Why.{Why}
use Rattle.make_sheet.specs.declared.lines.Why.TheVariants as why
use Rattle.make_sheet.specs.declared.lines.Wrong.{Wrong}

-- b"mission"
abbrev pub mission_word : List ℕ
mission_word = 109 ∷ 105 ∷ 115 ∷ 115 ∷ 105 ∷ 111 ∷ 110 ∷ []

-- b"erased"
abbrev pub erased_word : List ℕ
erased_word = 101 ∷ 114 ∷ 97 ∷ 115 ∷ 101 ∷ 100 ∷ []

-- the names of their kinds, b"C3" and b"C5"
abbrev pub cubic_word : List ℕ
cubic_word = (row_of Cubic).name

abbrev pub quintic_word : List ℕ
quintic_word = (row_of Quintic).name

abbrev pub curve_word : Curve → List ℕ
curve_word c = (row_of (kind_of c)).name

abbrev pub Means : List (List ℕ) → Line → Type 0
Means ws line.Nothing = ws ≡ []
Means ws (line.Mission number) = (vs : List (List ℕ)) × (ws ≡ mission_word ∷ vs) × Numbers vs (pos number ∷ []) × (number ≤ 65535)
Means ws (line.Curve c) = (vs : List (List ℕ)) × (ws ≡ curve_word c ∷ vs) × Numbers vs (numbers_of (points_of c))
Means ws (line.Erased count) = (vs : List (List ℕ)) × (ws ≡ erased_word ∷ vs) × Numbers vs (pos count ∷ [])

abbrev pub NoLine : List (List ℕ) → Type 0
NoLine ws = (l : Line) → Means ws l → ⊥

abbrev pub ReadAs : List (List ℕ) → Result Line Wrong → Type 0
ReadAs ws (Ok l) = Means ws l
ReadAs ws (Err w) = NoLine ws

abbrev pub MeansIn : List ℕ → Result Line Wrong → Type 0
MeansIn text r = (ws : List (List ℕ)) × Words text ws × ReadAs ws r

-- '#' is 35
abbrev pub Sharp : ℕ → Type 0
Sharp b = b ≡ 35

abbrev pub Says : List ℕ → Result Line Wrong → Type 0
Says text r = (said : List ℕ) × Until Sharp text said × MeansIn said r

abbrev pub AllSay : List (List ℕ) → List Line → Type 0
AllSay [] [] = Unit {0}
AllSay [] (l ∷ ls) = ⊥
AllSay (text ∷ texts) [] = ⊥
AllSay (text ∷ texts) (l ∷ ls) = Says text (Ok l) × AllSay texts ls

abbrev pub line_in : Result Said Wrong → Result Line Wrong
line_in (Ok s) = Ok s.line
line_in (Err w) = Err w

abbrev pub place_in : Result Said Wrong → ℕ
place_in (Ok s) = s.place
place_in (Err w) = w.place

pub record WordsSay (text : List ℕ) (r : Result Said Wrong) : Type 0 where
  pub place_within : place_in r ≤ length text
  pub means : MeansIn text (line_in r)

pub record LineSays (text : List ℕ) (r : Result Said Wrong) : Type 0 where
  pub place_within : place_in r ≤ length text
  pub says : Says text (line_in r)

-- the words of a text are not so many numbers
abbrev pub NotSoMany : List ℕ → ℕ → Type 0
NotSoMany text room = (vs : List (List ℕ)) × Words text vs × ((xs : List ℤ) → length xs ≡ room → Numbers vs xs → ⊥)

abbrev pub NumbersIn : List ℕ → List ℤ → Result (Unit {0}) Wrong → Type 0
NumbersIn text xs (Ok u) = (vs : List (List ℕ)) × Words text vs × Numbers vs xs
NumbersIn text xs (Err w) = (w.place ≤ length text) × NotSoMany text (length xs)

-- the words of a text are not one number from 0 up to a bound
abbrev pub NoAmount : List ℕ → ℕ → Type 0
NoAmount text most = (vs : List (List ℕ)) × Words text vs × ((n : ℕ) → n ≤ most → Numbers vs (pos n ∷ []) → ⊥)

abbrev pub AmountIn : List ℕ → ℕ → Result ℕ Wrong → Type 0
AmountIn text most (Ok n) = (vs : List (List ℕ)) × Words text vs × Numbers vs (pos n ∷ []) × (n ≤ most)
AmountIn text most (Err w) = (w.place ≤ length text) × NoAmount text most

-- behind a word
abbrev pub MeansBehind : List ℕ → List ℕ → Result Line Wrong → Type 0
MeansBehind word text r = (vs : List (List ℕ)) × Words text vs × ReadAs (word ∷ vs) r

pub record SaysBehind (word text : List ℕ) (r : Result Line Wrong) : Type 0 where
  pub place_within : IfErr r (λ w. w.place ≤ length text)
  pub means : MeansBehind word text r

-- the words of a text are no curve of so many numbers
abbrev pub NoCurve : List ℕ → ℕ → Type 0
NoCurve text room =
    (vs : List (List ℕ)) × Words text vs × ((c : Curve) → length (numbers_of (points_of c)) ≡ room → Numbers vs (numbers_of (points_of c)) → ⊥)

abbrev pub IsCurve : List ℕ → ℕ → Result Line Wrong → Type 0
IsCurve text room (Ok line.Nothing) = ⊥
IsCurve text room (Ok (line.Mission number)) = ⊥
IsCurve text room (Ok (line.Curve c)) = (vs : List (List ℕ)) × Words text vs × Numbers vs (numbers_of (points_of c)) × (length (numbers_of (points_of c)) ≡ room)
IsCurve text room (Ok (line.Erased count)) = ⊥
IsCurve text room (Err w) = NoCurve text room

pub record CurveBehind (text : List ℕ) (room : ℕ) (r : Result Line Wrong) : Type 0 where
  pub place_within : IfErr r (λ w. w.place ≤ length text)
  pub curve : IsCurve text room r

abbrev pub word_of : Form → List ℕ
word_of form.Mission = mission_word
word_of form.Cubic = cubic_word
word_of form.Quintic = quintic_word
word_of form.Erased = erased_word

abbrev pub Named : Option Form → List ℕ → Type 0
Named (Some f) word = word ≡ word_of f
Named None word = (f : Form) → word ≡ word_of f → ⊥

abbrev pub why_of : NoNumber → Why
why_of none.TooLarge = why.TooLarge
why_of none.None = why.NoNumber
