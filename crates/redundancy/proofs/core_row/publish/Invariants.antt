use Rattle.std.proofs.Common.{◌≡◌, ◌+◌, ◌*◌, ◌∷◌, ◌++◌, map, take, drop}
use Rattle.relational.specs.Represented.{fact_of}
use Rattle.relational.specs.Rows.{facts_rows}
use Rattle.redundancy.proofs.core_row.publish.Given as goal

abbrev pub invariant-loop-i : goal.invariant-loop-i
invariant-loop-i l = l.out ≡ (0 ∷ facts_rows (take l.i (map fact_of l.facts))) ++ drop (6 * l.i + 1) l.initial.out
