use Rattle.std.proofs.Common.{map, sym, subst, arith}
use Rattle.std.proofs.lemmas.List.{length-map}
use Rattle.relational.specs.Elements.{elements}
use Rattle.relational.specs.Instances.{Instance}
use Rattle.relational.specs.Represented.{fact_of}
use Rattle.redundancy.specs.Mappings.{Consistent}
use Rattle.redundancy.proofs.Extended.{consistent_none}
use Rattle.redundancy.proofs.Thinned.{block_decides, block_places}
use Rattle.redundancy.proofs.spare.can_spare.Goals as goal

pub search-requires-clause-places : goal.search-requires-clause-places
search-requires-clause-places c =
    block_places c.args.c (map fact_of c.args.facts.now) c.args.place c.order_block-count.new.order c.order_block-count.result _ c.order_block-count.ensures (length-map c.args.facts.now fact_of)

pub search-requires-clause-consistent : goal.search-requires-clause-consistent
search-requires-clause-consistent c = subst (Consistent c.args.c) (sym c.new-pairs.ensures.none) (consistent_none c.args.c)

pub returns : goal.returns
returns c =
    let facts : Instance = map fact_of c.args.facts.now in
    block_decides c.args.c facts c.args.place c.order_block-count.new.order c.order_block-count.result c.order_block-count.ensures (omega (arith, c.requires.within, length-map c.args.facts.now fact_of))
    (elements c.new-pairs.result) c.search.result c.new-pairs.ensures.none c.search.ensures.found
