use Rattle.std.proofs.Common.{◌≡◌, ◌-◌, ◌++◌, string_bytes}
use Rattle.formats.specs.Lines.{row_lines}
use Rattle.query.specs.Answering.{rows_in}
use Rattle.answer.proofs.report.push_rows.Given as goal

abbrev pub invariant-loop : goal.invariant-loop
invariant-loop l = string_bytes l.out ++ row_lines l.c (rows_in l.width (l.count - l.counter) l.rest) ≡ string_bytes l.initial.out ++ row_lines l.c (rows_in l.width l.count l.rows)
