use Rattle.std.proofs.Common.{◌≡◌, ◌≤◌, drop, vec_items}
use Rattle.numbers.specs.Reading.{before, read_from, in_bytes, encoded}
use Rattle.numbers.proofs.text.encode.Given as goal

abbrev pub invariant-loop-c : goal.invariant-loop-c
invariant-loop-c l = (l.ended ≤ l.c-index) × (before (vec_items l.bytes) (in_bytes (read_from l.ended l.inside (drop l.c-index l.text))) ≡ encoded l.text)
