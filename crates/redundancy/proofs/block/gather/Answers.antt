use Rattle.std.proofs.Common.{◌<◌, map, length, get_or, sym, subst, arith}
use Rattle.std.proofs.lemmas.List.{length-map}
use Rattle.relational.specs.Instances.{Fact}
use Rattle.relational.specs.Represented.{fact_of}
use Rattle.redundancy.specs.Blocks.{NoSharedNull}
use Rattle.redundancy.proofs.Extended.{stored_at}
use Rattle.redundancy.proofs.Blocked.{fact_at, scan_past, scan_swap}
use Rattle.redundancy.proofs.block.gather.Goals as goal
use Rattle.redundancy.proofs.block.gather.Goals.{then-not-are_apart, else-not-are_apart}

pub loop-i-preserved : goal.loop-i-preserved
loop-i-preserved c =
    let s = c.loop-i.invariant.0 in
    let facts = c.args.facts.now in
    let order = c.loop-i.order in
    let i : get_or order c.loop-i.i 0 < length facts = omega (arith, s.arranged.places c.loop-i.i (omega arith), length-map facts fact_of) in
    let k : get_or order c.args.k 0 < length facts = omega (arith, s.arranged.places c.args.k (omega (arith, s.looking, s.arranged.few)), length-map facts fact_of) in
    elim c.if-not-are_apart.branch [
      | then-not-are_apart w ↦
          rw (w.order-is, w.end-is) (
            scan_swap _ _ _ order _ _ _ s (omega arith) _ w.swap.ensures.len (w.swap.ensures.by_index.0 0) (w.swap.ensures.by_index.1 0) (λ p a b. w.swap.ensures.by_index.2 p 0 a b),
            omega (arith, c.loop-i.invariant.1),
          )
      | else-not-are_apart w ↦
          rw (w.order-is, w.end-is) (
            scan_past _ _ _ order _ _ _ s
                (subst (λ (f : Fact). NoSharedNull c.args.c f (fact_at (map fact_of facts) order c.args.k)) (sym (stored_at facts _ _ i c.index-facts-order.is))
                (subst (λ (g : Fact). NoSharedNull c.args.c (fact_of c.index-facts-order.result) g) (sym (stored_at facts _ _ k c.index-facts-order-in-loop-i.is)) (c.are_apart.ensures.0 w.if-not-are_apart.false))),
            c.loop-i.invariant.1,
          )
    ]
