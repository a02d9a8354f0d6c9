-- From numbers to bytes and text, and back. Assumes nothing.
use Rattle.std.proofs.Common.{◌≡◌, ℕ, suc, ◌+◌, ◌*◌, ◌/◌, ◌%◌, ◌^◌, ◌<◌, List, [], ◌∷◌, ◌++◌, length, get_or, decimal, refl, subst, append_assoc, arith}
use Rattle.std.proofs.lemmas.Fmt.{decimal_is_IsNumeral}
use Rattle.std.specs.Str.Parse.{digits_value}
use Rattle.std.specs.List.{AllByRecursion}
use Rattle.formats.specs.Bytes.{numbers_of}
use Rattle.numbers.specs.Meaning.{Says, no_more, gap, comment, last_comment, numeral}
use Rattle.numbers.specs.Writing.{bytes_of, lines_of}

-- each number fits four bytes
abbrev pub Small : List ℕ → Type 0
Small ns = AllByRecursion (λ n. n < 2 ^ 32) ns

number_back : (n : ℕ) → n < 2 ^ 32 → n % 256 + n / 256 % 256 * 256 + n / 65536 % 256 * 65536 + n / 16777216 % 256 * 16777216 ≡ n
number_back n h =
    let first : n ≡ n % 256 + n / 256 * 256 = omega arith in
    let second : n / 256 ≡ n / 256 % 256 + n / 65536 * 256 = omega arith in
    let third : n / 65536 ≡ n / 65536 % 256 + n / 16777216 * 256 = omega arith in
    let fourth : n / 16777216 % 256 ≡ n / 16777216 = omega arith in
    omega arith

pub numbers_back : (ns : List ℕ) → Small ns → numbers_of (bytes_of ns) ≡ ns
numbers_back [] h = refl
numbers_back (n ∷ ns) h = rw (number_back n h.0, numbers_back ns h.1)

module _ (a b c d : ℕ) (ha : a < 256) (hb : b < 256) (hc : c < 256) (hd : d < 256) where
  first_back : (a + b * 256 + c * 65536 + d * 16777216) % 256 ≡ a
  first_back = omega arith

  second_back : (a + b * 256 + c * 65536 + d * 16777216) / 256 % 256 ≡ b
  second_back = omega arith

  third_back : (a + b * 256 + c * 65536 + d * 16777216) / 65536 % 256 ≡ c
  third_back = omega arith

  fourth_back : (a + b * 256 + c * 65536 + d * 16777216) / 16777216 % 256 ≡ d
  fourth_back = omega arith

pub bytes_back : (bytes : List ℕ) → length bytes % 4 ≡ 0 → ((i : ℕ) → get_or bytes i 0 < 2 ^ 8) → bytes_of (numbers_of bytes) ≡ bytes
bytes_back [] whole fit = refl
bytes_back (a ∷ []) whole fit = absurd (omega arith)
bytes_back (a ∷ b ∷ []) whole fit = absurd (omega arith)
bytes_back (a ∷ b ∷ c ∷ []) whole fit = absurd (omega arith)
bytes_back (a ∷ b ∷ c ∷ d ∷ bytes) whole fit =
    let rest : bytes_of (numbers_of bytes) ≡ bytes = bytes_back bytes (omega arith) (λ i. fit (suc (suc (suc (suc i))))) in
    let ha : a < 256 = fit 0 in
    let hb : b < 256 = fit 1 in
    let hc : c < 256 = fit 2 in
    let hd : d < 256 = fit 3 in
    rw (first_back a b c d ha hb hc hd, second_back a b c d ha hb hc hd, third_back a b c d ha hb hc hd, fourth_back a b c d ha hb hc hd, rest)

pub small_numbers : (bytes : List ℕ) → ((i : ℕ) → get_or bytes i 0 < 2 ^ 8) → Small (numbers_of bytes)
small_numbers [] fit = tt
small_numbers (a ∷ []) fit = tt
small_numbers (a ∷ b ∷ []) fit = tt
small_numbers (a ∷ b ∷ c ∷ []) fit = tt
small_numbers (a ∷ b ∷ c ∷ d ∷ bytes) fit = (omega (arith, fit 0, fit 1, fit 2, fit 3), small_numbers bytes (λ i. fit (suc (suc (suc (suc i))))))

pub says_small : (text ns : List ℕ) → Says text ns → Small ns
says_small whole ns no_more = tt
says_small whole ns (gap {text} e says) = says_small text ns says
says_small whole ns (comment words {text} h says) = says_small text ns says
says_small whole ns (last_comment words h) = tt
says_small whole ns (numeral digits {text} {ns = ms} d h first says) = (h, says_small text ms says)

-- a line a number says the numbers
pub says_lines : (ns : List ℕ) → Small ns → Says (lines_of ns) ns
says_lines [] h = no_more
says_lines (n ∷ ns) h =
    let reads = decimal_is_IsNumeral n (omega (arith, h.0)) in
    let says : Says (decimal n ++ (10 ∷ lines_of ns)) (digits_value 10 (decimal n) ∷ ns) = numeral (decimal n) reads.0 (rw reads.1 h.0) refl (gap refl (says_lines ns h.1)) in
    rw (append_assoc (decimal n) (10 ∷ []) (lines_of ns)) (subst (λ m. Says (decimal n ++ (10 ∷ lines_of ns)) (m ∷ ns)) reads.1 says)
