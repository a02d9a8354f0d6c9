use Rattle.std.proofs.Common.{◌-◌, map, length}
use Rattle.relational.specs.Represented.{fact_of}
use Rattle.redundancy.specs.Blocks.{Arranged}
use Rattle.redundancy.proofs.block.order_block.Given as goal

abbrev pub invariant-loop-k : goal.invariant-loop-k
invariant-loop-k l = Arranged l.c (map fact_of l.facts) l.place l.order l.k l.count

abbrev pub decreases-loop-k : goal.decreases-loop-k
decreases-loop-k l = length l.initial.order - l.k
