-- What the answers mean. Assumes nothing.
use Rattle.std.proofs.Common.{◌≡◌, ℕ, ◌*◌, ◌%◌, ◌^◌, ◌<◌, List, [], ◌∷◌, length, get_or, Ok, Err, Result, sym, refl, ap, ◌∙◌, arith}
use Rattle.formats.specs.Bytes.{numbers_of}
use Rattle.numbers.specs.Meaning.{Says, FirstFault, BytesFor, TextFor}
use Rattle.numbers.specs.Reading.{read, in_bytes, encoded}
use Rattle.numbers.specs.Writing.{bytes_of, decoded}
use Rattle.numbers.specs.declared.inside.Inside.TheVariants.{Nothing}
use Rattle.numbers.specs.declared.refusal.Refusal.{Refusal}
use Rattle.numbers.proofs.Faults.{first_fault}
use Rattle.numbers.proofs.Returning.{numbers_back, bytes_back, small_numbers, says_small, says_lines}
use Rattle.numbers.proofs.Saying.{read_said}
use Rattle.numbers.proofs.Sound.{sound}

in_bytes_ok : (r : Result (List ℕ) Refusal) (bytes : List ℕ) → in_bytes r ≡ Ok bytes → (ns : List ℕ) × (r ≡ Ok ns) × (bytes ≡ bytes_of ns)
in_bytes_ok (Ok ns) bytes e = (ns, refl, cc)
in_bytes_ok (Err f) bytes e = absurd (cc)

in_bytes_err : (r : Result (List ℕ) Refusal) (f : Refusal) → in_bytes r ≡ Err f → r ≡ Err f
in_bytes_err (Ok ns) f e = absurd (cc)
in_bytes_err (Err g) f e = e

same_read : (ns ms : List ℕ) → ◌≡◌ {A = Result (List ℕ) Refusal} (Ok ns) (Ok ms) → ns ≡ ms
same_read ns ms e = cc

length_bytes : (ns : List ℕ) → length (bytes_of ns) ≡ 4 * length ns
length_bytes [] = refl
length_bytes (n ∷ ns) = omega (arith, length_bytes ns)

pub bytes_mean : (text bytes : List ℕ) → encoded text ≡ Ok bytes → BytesFor text bytes
bytes_mean text bytes e =
    let was = in_bytes_ok (read text) bytes e in
    let ns : List ℕ = was.0 in
    let says : Says text ns = sound text 0 Nothing ns was.1 in
    let small = says_small text ns says in
    let back : numbers_of bytes ≡ ns = ap numbers_of was.2 ∙ numbers_back ns small in
    record {
      whole = rw back (ap length was.2 ∙ length_bytes ns);
      says = rw back says;
      only = λ ms h. same_read ms ns (sym (read_said text ms h 0) ∙ was.1) ∙ sym back;
      back = rw back (says_lines ns small);
    }

pub refusal_means : (text : List ℕ) (f : Refusal) → encoded text ≡ Err f → FirstFault text f
refusal_means text f e = first_fault text f (in_bytes_err (read text) f e)

pub text_means : (bytes : List ℕ) → length bytes % 4 ≡ 0 → ((i : ℕ) → get_or bytes i 0 < 2 ^ 8) → TextFor bytes (decoded bytes)
text_means bytes whole fit =
    let says : Says (decoded bytes) (numbers_of bytes) = says_lines (numbers_of bytes) (small_numbers bytes fit) in
    record { says = says; back = ap in_bytes (read_said (decoded bytes) (numbers_of bytes) says 0) ∙ ap (λ l. Ok l) (bytes_back bytes whole fit) }

pub cut_means : (bytes : List ℕ) → (length bytes % 4 ≡ 0 → ⊥) → (text : List ℕ) → encoded text ≡ Ok bytes → ⊥
cut_means bytes part text e =
    let was = in_bytes_ok (read text) bytes e in
    let whole : length bytes ≡ 4 * length was.0 = ap length was.2 ∙ length_bytes was.0 in
    part (omega arith)
