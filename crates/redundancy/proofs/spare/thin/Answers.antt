use Rattle.std.proofs.Common.{map, sym, refl, ◌∙◌, arith}
use Rattle.std.proofs.lemmas.List.{length-map}
use Rattle.relational.specs.Elements.{elements}
use Rattle.relational.specs.Represented.{fact_of}
use Rattle.redundancy.proofs.Held.{elements_count}
use Rattle.redundancy.proofs.Thinned.{sparing_begin, sparing_end, one_stays, one_goes}
use Rattle.redundancy.proofs.spare.thin.Goals as goal

pub loop-place-init : goal.loop-place-init
loop-place-init c =
    let facts = elements c.args.facts.now in
    (sparing_begin c.args.c (map fact_of facts) c.args.facts.now.count _ refl (sym (length-map facts fact_of ∙ elements_count c.args.facts.now)), omega arith)

pub loop-place-preserved-then-can_spare : goal.loop-place-preserved-then-can_spare
loop-place-preserved-then-can_spare c =
    let inv = c.loop-place.invariant in (
      one_goes c.args.c _ (elements c.loop-place.facts) _ c.loop-place.place c.loop-place-test.true c.as_slice.ensures inv.0 c.can_spare.result c.can_spare.ensures c.if-can_spare.true _ c.remove.ensures.elements,
      omega (arith, inv.1, c.remove.ensures.count),
    )

pub loop-place-preserved : goal.loop-place-preserved
loop-place-preserved c =
    let inv = c.loop-place.invariant in
    (one_stays c.args.c _ (elements c.loop-place.facts) _ c.loop-place.place c.loop-place-test.true c.as_slice.ensures inv.0 c.can_spare.result c.can_spare.ensures c.if-can_spare.false, omega (arith, inv.1))

pub returns : goal.returns
returns c = sparing_end c.args.c (map fact_of (elements c.args.facts.now)) c.loop-place.place _ c.loop-place.invariant.0 (omega arith)
