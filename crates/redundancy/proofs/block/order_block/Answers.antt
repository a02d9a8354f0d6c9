use Rattle.std.proofs.Common.{arith}
use Rattle.std.proofs.lemmas.List.{length-map}
use Rattle.relational.specs.Represented.{fact_of}
use Rattle.redundancy.proofs.Blocked.{arranged_begin, arranged_end}
use Rattle.redundancy.proofs.block.order_block.Goals as goal

pub loop-k-init : goal.loop-k-init
loop-k-init c =
    arranged_begin _ _ _ c.number_places.new.order _ c.number_places.ensures (omega (arith, length-map c.args.facts.now fact_of)) c.swap.ensures.len (omega (arith, length-map c.args.facts.now fact_of))
    (c.swap.ensures.by_index.0 0) (c.swap.ensures.by_index.1 0) (λ p a b. c.swap.ensures.by_index.2 p 0 a b)

pub returns : goal.returns
returns c = arranged_end _ _ _ _ _ _ c.loop-k.invariant (omega arith)
