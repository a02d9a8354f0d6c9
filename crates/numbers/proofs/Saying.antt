-- A text that says numbers is read as these. Assumes nothing.
use Rattle.std.proofs.Common.{◌≡◌, ℕ, ◌+◌, ◌-◌, ◌*◌, ◌^◌, ◌<◌, ◌≤◌, Bool, true, false, cond, eqb, List, [], ◌∷◌, ◌++◌, Ok, Err, Result, sym, refl, ap, ◌∙◌, append-nil, arith}
use Rattle.std.proofs.lemmas.Bool.{ne_eqb, lt-ltb}
use Rattle.std.proofs.lemmas.Bool.Decides.{nat_tests}
use Rattle.std.specs.Str.Parse.{AllDigits, IsNumeral, digits_value, digits_value_after}
use Rattle.std.specs.Char.{is_ascii_digit, digit_value}
use Rattle.numbers.specs.Meaning.{NoDigitFirst, InOneLine, Says, no_more, gap, comment, last_comment, numeral}
use Rattle.numbers.specs.Reading.{blank, after_number, after, closed, before, ends_after, onward, read_from}
use Rattle.numbers.specs.declared.inside.Inside.{Inside}
use Rattle.numbers.specs.declared.inside.Inside.TheVariants.{Nothing, Number, Comment}
use Rattle.numbers.specs.declared.refusal.Fault.{Fault}
use Rattle.numbers.specs.declared.refusal.Fault.TheVariants.{Character}

pub before_none : {E : Type 0} (r : Result (List ℕ) E) → before [] r ≡ r
before_none (Ok ns) = refl
before_none (Err e) = refl

-- one character on
pub one_on : (ended : ℕ) (inside next : Inside) (c : ℕ) (text : List ℕ) → after inside c ≡ Ok next → read_from ended inside (c ∷ text) ≡ before (closed inside next) (read_from (ends_after ended c) next text)
unfolding read_from
one_on ended inside next c text e = rw e

-- what a character that is no digit does outside of comments
abbrev pub after_other : ℕ → Result Inside Fault
after_other c = cond (blank c) (Ok Nothing) (cond (eqb c 35) (Ok Comment) (Err Character))

pub after_no_digit : (n c : ℕ) → is_ascii_digit c ≡ false → after_number n c ≡ after_other c
after_no_digit n c e = rw e

pub blank_no_digit : (c : ℕ) → blank c ≡ true → is_ascii_digit c ≡ false
blank_no_digit c e = grind (arith, nat_tests)

pub after_blank : (n c : ℕ) → blank c ≡ true → after_number n c ≡ Ok Nothing
after_blank n c e = after_no_digit n c (blank_no_digit c e) ∙ (rw e)

digit_is : (c : ℕ) → digit_value c < 10 → (is_ascii_digit c ≡ true) × (digit_value c ≡ c - 48)
digit_is c h = grind (arith, nat_tests)

pub value_after_grows : (n : ℕ) (digits : List ℕ) → n ≤ digits_value_after 10 n digits
value_after_grows n [] = omega arith
value_after_grows n (c ∷ digits) = omega (arith, value_after_grows (n * 10 + digit_value c) digits)

-- a digit behind the digits of n
pub after_digit : (n c : ℕ) → digit_value c < 10 → n * 10 + digit_value c < 2 ^ 32 → after_number n c ≡ Ok (Number (n * 10 + digit_value c))
after_digit n c d h =
    let is = digit_is c d in
    let small : n * 10 + (c - 48) < 2 ^ 32 = rw is.1 at h in
    rw (is.1, is.0, lt-ltb (n * 10 + (c - 48)) (2 ^ 32) small)

pub digit_ends_none : (ended c : ℕ) → digit_value c < 10 → ends_after ended c ≡ ended
digit_ends_none ended c d = rw (ne_eqb c 10 (λ e. let no : digit_value 10 < 10 = rw e at d in omega arith))

-- the digits of a number
pub read_digits : (ended n : ℕ) (digits text : List ℕ) → AllDigits 10 digits → digits_value_after 10 n digits < 2 ^ 32 → read_from ended (Number n) (digits ++ text) ≡ read_from ended (Number (digits_value_after 10 n digits)) text
read_digits ended n [] text d h = refl
read_digits ended n (c ∷ digits) text d h =
    let m : ℕ = n * 10 + digit_value c in
    let small : m < 2 ^ 32 = omega (arith, value_after_grows m digits) in
    one_on ended (Number n) (Number m) c (digits ++ text) (after_digit n c d.0 small)
    ∙ before_none _
    ∙ ap (λ k. read_from k (Number m) (digits ++ text)) (digit_ends_none ended c d.0)
    ∙ read_digits ended m digits text d.1 h

-- the number is complete where no digit comes next
pub number_ends : (ended n : ℕ) (text : List ℕ) → NoDigitFirst text → read_from ended (Number n) text ≡ before (n ∷ []) (read_from ended Nothing text)
unfolding read_from
number_ends ended n [] h = refl
number_ends ended n (c ∷ text) h = rw (after_no_digit n c h, after_no_digit 0 c h) (go (blank c) (eqb c 35))
  where
    go : (b d : Bool) →
        onward ended (Number n) (cond b (Ok Nothing) (cond d (Ok Comment) (Err Character))) (λ next. read_from (ends_after ended c) next text)
        ≡ before (n ∷ []) (onward ended Nothing (cond b (Ok Nothing) (cond d (Ok Comment) (Err Character))) (λ next. read_from (ends_after ended c) next text))
    go true d = sym (ap (before (n ∷ [])) (before_none (read_from (ends_after ended c) Nothing text)))
    go false true = sym (ap (before (n ∷ [])) (before_none (read_from (ends_after ended c) Comment text)))
    go false false = refl

-- the words of a comment
pub read_words : (ended : ℕ) (words text : List ℕ) → InOneLine words → read_from ended Comment (words ++ text) ≡ read_from ended Comment text
read_words ended [] text h = refl
read_words ended (c ∷ words) text h =
    let no : eqb c 10 ≡ false = ne_eqb c 10 h.0 in
    let stays : after Comment c ≡ Ok Comment = rw no in
    let same : ends_after ended c ≡ ended = rw no in
    one_on ended Comment Comment c (words ++ text) stays ∙ before_none _ ∙ ap (λ k. read_from k Comment (words ++ text)) same ∙ read_words ended words text h.1

-- the first digit of a number
first_digit : (ended c : ℕ) (text : List ℕ) → digit_value c < 10 → 0 * 10 + digit_value c < 2 ^ 32 → read_from ended Nothing (c ∷ text) ≡ read_from ended (Number (0 * 10 + digit_value c)) text
first_digit ended c text d h =
    one_on ended Nothing (Number (0 * 10 + digit_value c)) c text (after_digit 0 c d h) ∙ before_none _ ∙ ap (λ k. read_from k (Number (0 * 10 + digit_value c)) text) (digit_ends_none ended c d)

pub read_numeral : (ended : ℕ) (digits text ns : List ℕ) → IsNumeral 10 digits → digits_value 10 digits < 2 ^ 32 → NoDigitFirst text → read_from ended Nothing text ≡ Ok ns → read_from ended Nothing (digits ++ text) ≡ Ok (digits_value 10 digits ∷ ns)
read_numeral ended [] text ns d h first e = absurd (omega (arith, d.0))
read_numeral ended (c ∷ digits) text ns d h first e =
    let m : ℕ = 0 * 10 + digit_value c in
    let small : m < 2 ^ 32 = omega (arith, value_after_grows m digits) in
    first_digit ended c (digits ++ text) d.1.0 small ∙ read_digits ended m digits text d.1.1 h ∙ number_ends ended (digits_value 10 (c ∷ digits)) text first ∙ ap (before (digits_value 10 (c ∷ digits) ∷ [])) e

pub read_comment : (ended : ℕ) (words text : List ℕ) → InOneLine words → read_from ended Nothing (35 ∷ (words ++ text)) ≡ read_from ended Comment text
read_comment ended words text h = one_on ended Nothing Comment 35 (words ++ text) refl ∙ before_none _ ∙ read_words ended words text h

pub read_said : (whole ns : List ℕ) → Says whole ns → (ended : ℕ) → read_from ended Nothing whole ≡ Ok ns
unfolding read_from
read_said whole ns no_more ended = refl
read_said whole ns (gap {c} {text} e says) ended = one_on ended Nothing Nothing c text (after_blank 0 c e) ∙ before_none _ ∙ read_said text ns says (ends_after ended c)
read_said whole ns (comment words {text} h says) ended = read_comment ended words (10 ∷ text) h ∙ one_on ended Comment Nothing 10 text refl ∙ before_none _ ∙ read_said text ns says (ended + 1)
read_said whole ns (last_comment words h) ended = ap (λ l. read_from ended Nothing (35 ∷ l)) (sym (append-nil words)) ∙ read_comment ended words [] h
read_said whole ns (numeral digits {text} {ns = ms} d h first says) ended = read_numeral ended digits text ms d h first (read_said text ms says ended)
