-- What a text of numbers says, read as a whole, and what the program's answers mean.
use Rattle.std.specs.Prelude.{◌≡◌, ℕ, ◌+◌, ◌*◌, ◌^◌, ◌<◌, true, false, cond, List, [], ◌∷◌, ◌++◌, length, Ok, ◌==◌, ◌≢◌}
use Rattle.std.specs.Str.Parse.{IsNumeral, digits_value}
use Rattle.std.specs.Char.{is_ascii_digit}
use Rattle.std.specs.List.{AllByRecursion}
use Rattle.formats.specs.Bytes.{numbers_of}
use Rattle.numbers.specs.Reading.{blank, encoded}
use Rattle.numbers.specs.Writing.{decoded}
use Rattle.numbers.specs.declared.failure.Failure.{Failure}
use Rattle.numbers.specs.declared.failure.Failure.TheVariants.{Arguments, Input, Unwritable, Text, CutShort, Memory}
use Rattle.numbers.specs.declared.refusal.Fault.TheVariants.{TooLarge, Character}
use Rattle.numbers.specs.declared.refusal.Refusal.{Refusal}

-- the text does not begin with a digit
abbrev pub NoDigitFirst : List ℕ → Type 0
NoDigitFirst [] = Unit {0}
NoDigitFirst (c ∷ text) = is_ascii_digit c ≡ false

-- no line ends in these characters
abbrev pub InOneLine : List ℕ → Type 0
InOneLine words = AllByRecursion (λ c. c ≢ 10) words

-- a text says numbers: it has blanks, comments that a number sign (35) begins and a line end or the end of the text ends, and numerals of numbers below 2^32, each as long as its digits go
pub data Says : (text ns : List ℕ) → Type 0 where
  no_more : Says [] []
  gap : {c : ℕ} {text ns : List ℕ} → blank c ≡ true → Says text ns → Says (c ∷ text) ns
  comment : (words : List ℕ) {text ns : List ℕ} → InOneLine words → Says text ns → Says (35 ∷ (words ++ 10 ∷ text)) ns
  last_comment : (words : List ℕ) → InOneLine words → Says (35 ∷ words) []
  numeral : (digits : List ℕ) {text ns : List ℕ} → IsNumeral 10 digits → digits_value 10 digits < 2 ^ 32 → NoDigitFirst text → Says text ns → Says (digits ++ text) (digits_value 10 digits ∷ ns)

-- how many lines end in a text
abbrev pub line_ends : List ℕ → ℕ
line_ends [] = 0
line_ends (c ∷ text) = cond (c == 10) 1 0 + line_ends text

-- the first fault: what stands before this character says numbers, no text that begins so and goes on with it does, and it stands in this line; it is a digit where a number is too large
pub record FirstFault (text : List ℕ) (f : Refusal) : Type 0 where
  pub front : List ℕ
  pub character : ℕ
  pub back : List ℕ
  pub splits : text ≡ front ++ character ∷ back
  pub readable : (ns : List ℕ) × Says front ns
  pub faulty : (rest ns : List ℕ) → Says (front ++ character ∷ rest) ns → ⊥
  pub in_line : f.line ≡ line_ends front + 1
  pub kind : f.fault ≡ cond (is_ascii_digit character) TooLarge Character

-- these bytes, four a number, stand for the numbers that the text says, and it says no others; decoded, they are a text that says the same
pub record BytesFor (text bytes : List ℕ) : Type 0 where
  pub whole : length bytes ≡ 4 * length (numbers_of bytes)
  pub says : Says text (numbers_of bytes)
  pub only : (ns : List ℕ) → Says text ns → ns ≡ numbers_of bytes
  pub back : Says (decoded bytes) (numbers_of bytes)

-- a refusal of a text names its first fault; for want of memory any text may fail
abbrev pub RefusalMeans : Failure → List ℕ → Type 0
RefusalMeans Arguments text = ⊥
RefusalMeans (Input error) text = ⊥
RefusalMeans (Unwritable error) text = ⊥
RefusalMeans (Text f) text = FirstFault text f
RefusalMeans (CutShort n) text = ⊥
RefusalMeans Memory text = Unit {0}

-- this text says the numbers that the bytes stand for, and gives the bytes again
pub record TextFor (bytes text : List ℕ) : Type 0 where
  pub says : Says text (numbers_of bytes)
  pub back : encoded text ≡ Ok bytes

-- bytes are refused where no text gives them; for want of memory any may fail
abbrev pub CutMeans : Failure → List ℕ → Type 0
CutMeans Arguments bytes = ⊥
CutMeans (Input error) bytes = ⊥
CutMeans (Unwritable error) bytes = ⊥
CutMeans (Text f) bytes = ⊥
CutMeans (CutShort n) bytes = (text : List ℕ) → encoded text ≢ Ok bytes
CutMeans Memory bytes = Unit {0}
