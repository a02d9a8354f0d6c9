use Rattle.std.proofs.Common.{◌+◌, ◌-◌, ◌*◌, cond, leb, ◌++◌, map, length, take, drop, set, sym, ap, ◌∙◌, arith}
use Rattle.std.proofs.lemmas.List.{length-set, length-map}
use Rattle.relational.specs.Instances.{Fact}
use Rattle.relational.specs.Layout.{fact_row}
use Rattle.relational.specs.Represented.{fact_of}
use Rattle.chase.proofs.Loading.{loads_begin, fact_loaded}
use Rattle.redundancy.specs.Mappings.{no_fact}
use Rattle.redundancy.proofs.Extended.{stored_at}
use Rattle.redundancy.proofs.Written.{stored_short}
use Rattle.redundancy.proofs.core_row.publish.Goals as goal

pub loop-i-init : goal.loop-i-init
loop-i-init c = loads_begin c.args.out.now (map fact_of c.args.facts.now) (omega arith)

pub loop-i-preserved : goal.loop-i-preserved
loop-i-preserved c =
    let facts = c.args.facts.now in
    let before = set c.args.out.now 0 0 in
    let k = length c.loop-i.out - (6 * c.loop-i.i + 1) in
    let part = take k (drop (6 * c.loop-i.i + 1) c.loop-i.out) in
    fact_loaded (map fact_of facts) before c.loop-i.out c.loop-i.i k no_fact c.write.new.row (stored_short facts) (omega (arith, length-map facts fact_of))
    (omega (arith, length-set c.args.out.now 0 0)) c.loop-i.invariant (omega arith)
    (c.write.ensures.after ∙ ap (λ (f : Fact). cond (leb 6 (length part)) (fact_row f ++ drop 6 part) part) (sym (stored_at facts c.loop-i.i _ (omega arith) c.index-facts-i.is)))
