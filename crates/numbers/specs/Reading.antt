-- How a text of numbers is read, character by character.
use Rattle.std.specs.Prelude.{ℕ, ◌+◌, ◌-◌, ◌*◌, ◌^◌, Bool, cond, ◌||◌, List, [], ◌∷◌, ◌++◌, Ok, Err, Result, ◌==◌, nat_lt}
use Rattle.std.specs.Char.{is_ascii_digit}
use Rattle.numbers.specs.Writing.{bytes_of}
use Rattle.numbers.specs.declared.refusal.Fault.{Fault}
use Rattle.numbers.specs.declared.refusal.Fault.TheVariants.{TooLarge, Character}
use Rattle.numbers.specs.declared.refusal.Refusal.{Refusal}
use Rattle.numbers.specs.declared.inside.Inside.{Inside}
use Rattle.numbers.specs.declared.inside.Inside.TheVariants.{Nothing, Number, Comment}

-- what stands between numbers: a blank, a tab, and the two characters that end lines
abbrev pub blank : ℕ → Bool
blank c = c == 32 || (c == 9 || (c == 10 || c == 13))

-- the number n and one digit more, as long as that is below 2^32
abbrev pub with_digit : ℕ → ℕ → Result Inside Fault
with_digit n c = cond (nat_lt (n * 10 + (c - 48)) (2 ^ 32)) (Ok (Number (n * 10 + (c - 48)))) (Err TooLarge)

-- what a text is inside of behind a character that stands in no comment: a digit goes on with the number n, a number sign (35) begins a comment
abbrev pub after_number : ℕ → ℕ → Result Inside Fault
after_number n c = cond (is_ascii_digit c) (with_digit n c) (cond (blank c) (Ok Nothing) (cond (c == 35) (Ok Comment) (Err Character)))

-- what a text is inside of behind a character; a line end (10) ends a comment
abbrev pub after : Inside → ℕ → Result Inside Fault
after Nothing c = after_number 0 c
after (Number n) c = after_number n c
after Comment c = Ok (cond (c == 10) Nothing Comment)

-- the number that is complete where the text goes on inside of something else
abbrev pub closed : Inside → Inside → List ℕ
closed Nothing next = []
closed Comment next = []
closed (Number n) Nothing = n ∷ []
closed (Number n) Comment = n ∷ []
closed (Number n) (Number m) = []

-- what stands before the rest of a list, where there is one
abbrev pub before : {E : Type 0} → List ℕ → Result (List ℕ) E → Result (List ℕ) E
before ns (Ok ms) = Ok (ns ++ ms)
before ns (Err e) = Err e

-- how many lines have ended behind a character
abbrev pub ends_after : ℕ → ℕ → ℕ
ends_after ended c = cond (c == 10) (ended + 1) ended

-- one character on: the number that is complete and those of the rest, or a refusal that names the line
abbrev pub onward : ℕ → Inside → Result Inside Fault → (Inside → Result (List ℕ) Refusal) → Result (List ℕ) Refusal
onward ended inside (Ok next) rest = before (closed inside next) (rest next)
onward ended inside (Err f) rest = Err (record { fault = f; line = ended + 1 })

-- the numbers of a text behind so many line ends and inside of something, which ends with the text
unfoldable pub read_from : ℕ → Inside → List ℕ → Result (List ℕ) Refusal
read_from ended inside [] = Ok (closed inside Nothing)
read_from ended inside (c ∷ cs) = onward ended inside (after inside c) (λ next. read_from (ends_after ended c) next cs)

-- the numbers of a text
abbrev pub read : List ℕ → Result (List ℕ) Refusal
read text = read_from 0 Nothing text

-- the bytes of numbers that were read
abbrev pub in_bytes : {E : Type 0} → Result (List ℕ) E → Result (List ℕ) E
in_bytes (Ok ns) = Ok (bytes_of ns)
in_bytes (Err e) = Err e

-- the bytes for a text
abbrev pub encoded : List ℕ → Result (List ℕ) Refusal
encoded text = in_bytes (read text)
