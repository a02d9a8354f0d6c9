use Rattle.std.proofs.Common.{◌≤◌, map}
use Rattle.relational.specs.Elements.{elements}
use Rattle.relational.specs.Represented.{fact_of}
use Rattle.redundancy.proofs.Thinned.{Sparing}
use Rattle.redundancy.proofs.spare.thin.Given as goal

abbrev pub invariant-loop-place : goal.invariant-loop-place
invariant-loop-place l = Sparing l.c (map fact_of (elements l.initial.facts)) l.place (map fact_of (elements l.facts)) × (l.place ≤ l.facts.count)
