use Rattle.std.proofs.Common.{◌≡◌, ◌++◌, drop, string_bytes}
use Rattle.formats.specs.Lines.{values_text}
use Rattle.formats.proofs.lines.push_values.Given as goal

abbrev pub invariant-loop-value : goal.invariant-loop-value
invariant-loop-value l = string_bytes l.out ++ values_text l.c (drop l.value-index l.values) ≡ string_bytes l.initial.out ++ values_text l.c l.values
