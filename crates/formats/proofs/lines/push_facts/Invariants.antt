use Rattle.std.proofs.Common.{◌≡◌, ◌+◌, ◌-◌, ◌*◌, ◌++◌, drop, string_bytes}
use Rattle.relational.specs.Layout.{facts_from}
use Rattle.formats.specs.Lines.{fact_lines}
use Rattle.formats.proofs.lines.push_facts.Given as goal

abbrev pub invariant-loop : goal.invariant-loop
invariant-loop l = (l.rest ≡ drop (6 * l.counter + 1) l.row) × (string_bytes l.out ++ fact_lines l.c (facts_from l.row l.counter (l.count - l.counter)) ≡ string_bytes l.initial.out ++ fact_lines l.c (facts_from l.row 0 l.count))
