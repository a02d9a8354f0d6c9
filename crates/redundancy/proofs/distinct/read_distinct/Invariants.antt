use Rattle.std.proofs.Common.{◌≡◌, ◌≤◌, ◌++◌, map, drop}
use Rattle.relational.specs.Elements.{elements}
use Rattle.relational.specs.Layout.{facts_in}
use Rattle.relational.specs.Represented.{fact_of}
use Rattle.redundancy.specs.Cores.{distinct_from, distinct}
use Rattle.redundancy.proofs.distinct.read_distinct.Given as goal

abbrev pub invariant-loop-i : goal.invariant-loop-i
invariant-loop-i l =
    (map fact_of (elements l.facts) ++ distinct_from (map fact_of (elements l.facts)) (drop l.i (facts_in l.row l.count)) ≡ distinct (facts_in l.row l.count)) × (l.facts.count ≤ l.i)
