-- The two forms that numbers are written in: four bytes each, and a line each.
use Rattle.std.specs.Prelude.{ℕ, ◌/◌, ◌%◌, List, [], ◌∷◌, ◌++◌, codes, decimal}
use Rattle.std.specs.List.{flat_map}
use Rattle.formats.specs.Bytes.{numbers_of}

-- the low byte first
abbrev pub four_bytes : ℕ → List ℕ
four_bytes n = (n % 256) ∷ (n / 256 % 256) ∷ (n / 65536 % 256) ∷ (n / 16777216 % 256) ∷ []

-- four bytes a number
abbrev pub bytes_of : List ℕ → List ℕ
bytes_of ns = flat_map four_bytes ns

-- the digits of a number, and a line end
abbrev pub line_of : ℕ → List ℕ
line_of n = decimal n ++ codes "\n"

-- a line a number
abbrev pub lines_of : List ℕ → List ℕ
lines_of ns = flat_map line_of ns

-- the text for bytes
abbrev pub decoded : List ℕ → List ℕ
decoded bytes = lines_of (numbers_of bytes)
