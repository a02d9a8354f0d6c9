use Rattle.std.proofs.Common.{◌≤◌, map, get_or}
use Rattle.relational.specs.Represented.{fact_of}
use Rattle.redundancy.proofs.Blocked.{Scanned}
use Rattle.redundancy.proofs.block.gather.Given as goal

abbrev pub invariant-loop-i : goal.invariant-loop-i
invariant-loop-i l = Scanned l.c (map fact_of l.facts) (get_or l.initial.order 0 0) l.order l.k l.end l.i × (l.count ≤ l.end)
