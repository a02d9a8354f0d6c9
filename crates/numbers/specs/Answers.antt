-- Which failure is told of a text or of bytes.
use Rattle.std.specs.Prelude.{◌≡◌, ℕ, ◌%◌, List, length, Err, Result, ◌≢◌}
use Rattle.numbers.specs.declared.failure.Failure.{Failure}
use Rattle.numbers.specs.declared.failure.Failure.TheVariants.{Arguments, Input, Unwritable, Text, CutShort, Memory}
use Rattle.numbers.specs.declared.refusal.Refusal.{Refusal}

-- a text is refused with the refusal that was read; for want of memory any text may fail
abbrev pub Refuses : Failure → Result (List ℕ) Refusal → Type 0
Refuses Arguments read = ⊥
Refuses (Input error) read = ⊥
Refuses (Unwritable error) read = ⊥
Refuses (Text f) read = read ≡ Err f
Refuses (CutShort n) read = ⊥
Refuses Memory read = Unit {0}

-- bytes are refused where their number is no multiple of four, and that number is told
abbrev pub Cut : Failure → List ℕ → Type 0
Cut Arguments bytes = ⊥
Cut (Input error) bytes = ⊥
Cut (Unwritable error) bytes = ⊥
Cut (Text f) bytes = ⊥
Cut (CutShort n) bytes = (n ≡ length bytes) × (length bytes % 4 ≢ 0)
Cut Memory bytes = Unit {0}
