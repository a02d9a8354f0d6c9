-- What is read of a text is what it says. Assumes nothing.
use Rattle.std.proofs.Common.{◌≡◌, ℕ, ◌+◌, ◌-◌, ◌*◌, ◌^◌, ◌<◌, Bool, true, false, cond, eqb, ltb, List, [], ◌∷◌, ◌++◌, Ok, Err, Result, sym, refl, ap, ◌∙◌, arith}
use Rattle.std.proofs.lemmas.Bool.{eqb-true, eqb-false, ltb-true}
use Rattle.std.proofs.lemmas.Bool.Decides.{nat_tests}
use Rattle.std.specs.Str.Parse.{AllDigits, digits_value_after}
use Rattle.std.specs.Char.{is_ascii_digit, digit_value}
use Rattle.numbers.specs.Meaning.{NoDigitFirst, InOneLine, Says, no_more, gap, comment, last_comment, numeral}
use Rattle.numbers.specs.Reading.{blank, after, closed, before, ends_after, read_from}
use Rattle.numbers.specs.declared.inside.Inside.{Inside}
use Rattle.numbers.specs.declared.inside.Inside.TheVariants.{Nothing, Number, Comment}
use Rattle.numbers.specs.declared.refusal.Fault.{Fault}
use Rattle.numbers.specs.declared.refusal.Fault.TheVariants.{TooLarge, Character}
use Rattle.numbers.specs.declared.refusal.Refusal.{Refusal}
use Rattle.numbers.proofs.Saying.{one_on, number_ends, after_no_digit}

-- digits go on with the number n, and behind them the text says numbers
pub record DigitsOn (n : ℕ) (text ns : List ℕ) : Type 0 where
  pub digits : List ℕ
  pub rest : List ℕ
  pub others : List ℕ
  pub splits : text ≡ digits ++ rest
  pub all : AllDigits 10 digits
  pub small : digits_value_after 10 n digits < 2 ^ 32
  pub first : NoDigitFirst rest
  pub says : Says rest others
  pub numbers : ns ≡ digits_value_after 10 n digits ∷ others

-- words go on with a comment, up to the text's end or to a line end, behind which the text says numbers
pub data WordsOn (text ns : List ℕ) : Type 0 where
  to_end : InOneLine text → ns ≡ [] → WordsOn text ns
  to_line_end : (words rest : List ℕ) → InOneLine words → text ≡ words ++ 10 ∷ rest → Says rest ns → WordsOn text ns

-- the rest of a text says numbers, inside of something
abbrev pub Goes_on : Inside → (text ns : List ℕ) → Type 0
Goes_on Nothing text ns = Says text ns
Goes_on (Number n) text ns = n < 2 ^ 32 → DigitsOn n text ns
Goes_on Comment text ns = WordsOn text ns

before_ok : {E : Type 0} (ns : List ℕ) (r : Result (List ℕ) E) (ms : List ℕ) → before ns r ≡ Ok ms → (ks : List ℕ) × (r ≡ Ok ks) × (ms ≡ ns ++ ks)
before_ok ns (Ok ks) ms e = (ks, refl, cc)
before_ok ns (Err x) ms e = absurd (cc)

-- one character on, where the text is read
step_ok : (ended : ℕ) (inside next : Inside) (c : ℕ) (text ns : List ℕ) → read_from ended inside (c ∷ text) ≡ Ok ns → after inside c ≡ Ok next →
    (ks : List ℕ) × (read_from (ends_after ended c) next text ≡ Ok ks) × (ns ≡ closed inside next ++ ks)
step_ok ended inside next c text ns e goes = before_ok (closed inside next) (read_from (ends_after ended c) next text) ns (sym (one_on ended inside next c text goes) ∙ e)

pub step_err : (ended : ℕ) (inside : Inside) (f : Fault) (c : ℕ) (text : List ℕ) → after inside c ≡ Err f → read_from ended inside (c ∷ text) ≡ Err (record { fault = f; line = ended + 1 })
unfolding read_from
step_err ended inside f c text e = rw e

not_read : (ended : ℕ) (inside : Inside) (f : Fault) (c : ℕ) (text ns : List ℕ) → read_from ended inside (c ∷ text) ≡ Ok ns → after inside c ≡ Err f → ⊥
not_read ended inside f c text ns e faulty =
    let wrong = step_err ended inside f c text faulty in
    cc

digit_of : (c : ℕ) → is_ascii_digit c ≡ true → (digit_value c < 10) × (digit_value c ≡ c - 48)
digit_of c e = grind (arith, nat_tests)

-- a digit before the digits of a number
more_digits : (n c : ℕ) (text ns : List ℕ) → is_ascii_digit c ≡ true → DigitsOn (n * 10 + (c - 48)) text ns → DigitsOn n (c ∷ text) ns
more_digits n c text ns e on =
    let d = digit_of c e in
    record {
      digits = c ∷ on.digits;
      rest = on.rest;
      others = on.others;
      splits = ap (λ l. c ∷ l) on.splits;
      all = (d.0, on.all);
      small = rw d.1 on.small;
      first = on.first;
      says = on.says;
      numbers = on.numbers ∙ ap (λ v. digits_value_after 10 (n * 10 + v) on.digits ∷ on.others) (sym d.1);
    }

-- the digits of a number that begins here
begun : (c : ℕ) (text ns : List ℕ) → is_ascii_digit c ≡ true → DigitsOn (0 * 10 + (c - 48)) text ns → Says (c ∷ text) ns
begun c text ns e on =
    let d = digit_of c e in
    let same : digits_value_after 10 (0 * 10 + digit_value c) on.digits ≡ digits_value_after 10 (0 * 10 + (c - 48)) on.digits = rw d.1 in
    let says : Says (c ∷ (on.digits ++ on.rest)) (digits_value_after 10 (0 * 10 + digit_value c) on.digits ∷ on.others) = numeral (c ∷ on.digits) (omega arith, (d.0, on.all)) (rw same on.small) on.first on.says in
    rw (on.splits, on.numbers, ← same) says

-- a comment that begins here
commented : (c : ℕ) (text ns : List ℕ) → c ≡ 35 → WordsOn text ns → Says (c ∷ text) ns
commented c text ns sign (to_end h e) = rw (sign, e) (last_comment text h)
commented c text ns sign (to_line_end words rest h e says) = rw (sign, e) (comment words h says)

-- one more word of a comment
more_words : (c : ℕ) (text ns : List ℕ) → (c ≡ 10 → ⊥) → WordsOn text ns → WordsOn (c ∷ text) ns
more_words c text ns stays (to_end h e) = to_end (stays, h) e
more_words c text ns stays (to_line_end words rest h e says) = to_line_end (c ∷ words) rest (stays, h) (ap (λ l. c ∷ l) e) says

module _ (c : ℕ) (text : List ℕ) (rest : (ended : ℕ) (inside : Inside) (ns : List ℕ) → read_from ended inside text ≡ Ok ns → Goes_on inside text ns) where
  -- a digit behind the digits of n
  digit_step : (ended : ℕ) (inside : Inside) (n : ℕ) (ns : List ℕ) → ((m : ℕ) → closed inside (Number m) ≡ []) → after inside c ≡ cond (ltb (n * 10 + (c - 48)) (2 ^ 32)) (Ok (Number (n * 10 + (c - 48)))) (Err TooLarge) →
      read_from ended inside (c ∷ text) ≡ Ok ns → DigitsOn (n * 10 + (c - 48)) text ns
  digit_step ended inside n ns none goes e = go (ltb (n * 10 + (c - 48)) (2 ^ 32)) refl goes
    where
      go : (b : Bool) → ltb (n * 10 + (c - 48)) (2 ^ 32) ≡ b → after inside c ≡ cond b (Ok (Number (n * 10 + (c - 48)))) (Err TooLarge) → DigitsOn (n * 10 + (c - 48)) text ns
      go true small goes =
          let on = step_ok ended inside (Number (n * 10 + (c - 48))) c text ns e goes in
          let all : ns ≡ on.0 = on.2 ∙ ap (λ l. l ++ on.0) (none (n * 10 + (c - 48))) in
          rw all (rest (ends_after ended c) (Number (n * 10 + (c - 48))) on.0 on.1 (ltb-true (n * 10 + (c - 48)) (2 ^ 32) small))
      go false small goes = absurd (not_read ended inside TooLarge c text ns e goes)

  -- a character between numbers
  between_step : (ended : ℕ) (ns : List ℕ) → read_from ended Nothing (c ∷ text) ≡ Ok ns → Says (c ∷ text) ns
  between_step ended ns e = digit (is_ascii_digit c) refl
    where
      other : (b h : Bool) → blank c ≡ b → eqb c 35 ≡ h → after Nothing c ≡ cond b (Ok Nothing) (cond h (Ok Comment) (Err Character)) → Says (c ∷ text) ns
      other true h b_is h_is goes = let on = step_ok ended Nothing Nothing c text ns e goes in rw on.2 (gap b_is (rest (ends_after ended c) Nothing on.0 on.1))
      other false true b_is h_is goes =
          let on = step_ok ended Nothing Comment c text ns e goes in
          rw on.2 (commented c text on.0 (eqb-true c 35 h_is) (rest (ends_after ended c) Comment on.0 on.1))
      other false false b_is h_is goes = absurd (not_read ended Nothing Character c text ns e goes)

      digit : (b : Bool) → is_ascii_digit c ≡ b → Says (c ∷ text) ns
      digit true is = begun c text ns is (digit_step ended Nothing 0 ns (λ m. refl) (rw is) e)
      digit false is = other (blank c) (eqb c 35) refl refl (after_no_digit 0 c is)

  -- a character in a comment
  comment_step : (ended : ℕ) (ns : List ℕ) → read_from ended Comment (c ∷ text) ≡ Ok ns → WordsOn (c ∷ text) ns
  comment_step ended ns e = go (eqb c 10) refl
    where
      go : (b : Bool) → eqb c 10 ≡ b → WordsOn (c ∷ text) ns
      go true is =
          let on = step_ok ended Comment Nothing c text ns e (rw is) in
          to_line_end [] text tt (ap (λ x. x ∷ text) (eqb-true c 10 is)) (rw on.2 (rest (ends_after ended c) Nothing on.0 on.1))
      go false is =
          let on = step_ok ended Comment Comment c text ns e (rw is) in
          more_words c text ns (eqb-false c 10 is) (rw on.2 (rest (ends_after ended c) Comment on.0 on.1))

  -- a character behind the digits of n
  number_step : (ended n : ℕ) (ns : List ℕ) → read_from ended (Number n) (c ∷ text) ≡ Ok ns → n < 2 ^ 32 → DigitsOn n (c ∷ text) ns
  number_step ended n ns e small = go (is_ascii_digit c) refl
    where
      go : (b : Bool) → is_ascii_digit c ≡ b → DigitsOn n (c ∷ text) ns
      go true is = more_digits n c text ns is (digit_step ended (Number n) n ns (λ m. refl) (rw is) e)
      go false is =
          let on = before_ok (n ∷ []) (read_from ended Nothing (c ∷ text)) ns (sym (number_ends ended n (c ∷ text) is) ∙ e) in
          record { digits = []; rest = c ∷ text; others = on.0; splits = refl; all = tt; small = small; first = is; says = between_step ended on.0 on.1; numbers = on.2 }

same_ok : {E : Type 0} (ns ms : List ℕ) → ◌≡◌ {A = Result (List ℕ) E} (Ok ns) (Ok ms) → ms ≡ ns
same_ok ns ms e = cc

pub sound : (text : List ℕ) (ended : ℕ) (inside : Inside) (ns : List ℕ) → read_from ended inside text ≡ Ok ns → Goes_on inside text ns
unfolding read_from
sound [] ended Nothing ns e = rw (same_ok {E = Refusal} [] ns e) no_more
sound [] ended (Number n) ns e = λ small. record { digits = []; rest = []; others = []; splits = refl; all = tt; small = small; first = tt; says = no_more; numbers = same_ok {E = Refusal} (n ∷ []) ns e }
sound [] ended Comment ns e = to_end tt (same_ok {E = Refusal} [] ns e)
sound (c ∷ text) ended Nothing ns e = between_step c text (sound text) ended ns e
sound (c ∷ text) ended (Number n) ns e = number_step c text (sound text) ended n ns e
sound (c ∷ text) ended Comment ns e = comment_step c text (sound text) ended ns e
