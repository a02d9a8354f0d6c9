-- Numbers read from bytes, one by one. Assumes nothing.
use Rattle.std.proofs.Common.{◌≡◌, ℕ, zero, suc, ◌+◌, ◌*◌, ◌/◌, List, [], ◌∷◌, length, map, get_or, refl, ap, arith}
use Rattle.std.specs.Simd.{first_chunks}
use Rattle.formats.specs.Bytes.{numbers_of}

-- the number that the first four bytes stand for
abbrev pub number_of : List ℕ → ℕ
number_of bytes = get_or bytes 0 0 + get_or bytes 1 0 * 256 + get_or bytes 2 0 * 65536 + get_or bytes 3 0 * 16777216

-- the numbers of whole fours
in_fours : (k : ℕ) (bytes : List ℕ) → length bytes / 4 ≡ k → map number_of (first_chunks 4 k bytes) ≡ numbers_of bytes
in_fours k [] h = let z : k ≡ 0 = omega arith in rw z
in_fours k (a ∷ []) h = let z : k ≡ 0 = omega arith in rw z
in_fours k (a ∷ b ∷ []) h = let z : k ≡ 0 = omega arith in rw z
in_fours k (a ∷ b ∷ c ∷ []) h = let z : k ≡ 0 = omega arith in rw z
in_fours zero (a ∷ b ∷ c ∷ d ∷ bytes) h = absurd (omega arith)
in_fours (suc k) (a ∷ b ∷ c ∷ d ∷ bytes) h = ap (λ ns. number_of (a ∷ b ∷ c ∷ d ∷ []) ∷ ns) (in_fours k bytes (omega arith))

pub whole_fours : (bytes : List ℕ) → map number_of (first_chunks 4 (length bytes / 4) bytes) ≡ numbers_of bytes
whole_fours bytes = in_fours (length bytes / 4) bytes refl
