use Rattle.std.proofs.Common.{◌≡◌, map}
use Rattle.relational.specs.Elements.{elements}
use Rattle.relational.specs.Represented.{dependency_of}
use Rattle.redundancy.proofs.Removing.{JudgedSoFar}
use Rattle.redundancy.proofs.redundant.judge_each.Given as goal

abbrev pub invariant-loop-asked : goal.invariant-loop-asked
invariant-loop-asked l =
    JudgedSoFar l.c (map dependency_of l.all) (map dependency_of (elements l.left)) l.at l.asked-index (elements l.stays) × (l.stays.count ≡ l.asked-index)
