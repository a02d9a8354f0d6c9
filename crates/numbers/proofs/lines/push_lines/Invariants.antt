use Rattle.std.proofs.Common.{◌≡◌, ◌++◌, drop, string_bytes}
use Rattle.numbers.specs.Writing.{lines_of}
use Rattle.numbers.proofs.lines.push_lines.Given as goal

abbrev pub invariant-loop-n : goal.invariant-loop-n
invariant-loop-n l = string_bytes l.out ++ lines_of (drop l.n-index l.numbers) ≡ string_bytes l.initial.out ++ lines_of l.numbers
