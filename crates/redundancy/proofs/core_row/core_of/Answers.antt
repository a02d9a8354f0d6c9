use Rattle.std.proofs.Common.{map, length, ap, ◌∙◌, arith, ltb-false, ltb-true}
use Rattle.relational.specs.Elements.{elements}
use Rattle.relational.specs.Represented.{fact_of}
use Rattle.std.proofs.lemmas.Result.{err_from_is_err_and}
use Rattle.relational.specs.Layout.{facts_in}
use Rattle.redundancy.proofs.Written.{stored_short, refused_says, refused_means, reading_none, reading_null, reading_room, reading_ok, core_says, core_means, core_left}
use Rattle.redundancy.proofs.core_row.core_of.Goals as goal

pub returns-in_err-facts : goal.returns-in_err-facts
returns-in_err-facts c =
    let p = err_from_is_err_and c.from_residual.result c.from_residual.ensures.1 in
    rw (p.1, p.2)
    (record {
      says = refused_says c.args.c _ _ c.args.out.now (reading_none c.args.instance.now (length c.args.out.now) c.args.c _ c.in_err-facts.ensures.reading);
      means = refused_means c.args.c _ _ c.args.out.now;
    })

pub returns-in_default : goal.returns-in_default
returns-in_default c =
    record {
      says = refused_says c.args.c _ _ c.args.out.now (reading_null c.args.instance.now (length c.args.out.now) c.args.c _ c.in_ok-facts.ensures.reading (omega (arith, ltb-true, ltb-false)));
      means = refused_means c.args.c _ _ c.args.out.now;
    }

pub returns-in_default-len : goal.returns-in_default-len
returns-in_default-len c =
    record {
      says = refused_says c.args.c _ _ c.args.out.now (reading_room c.args.instance.now (length c.args.out.now) c.args.c _ c.in_ok-facts.ensures.reading (omega (arith, ltb-true, ltb-false)) (omega (arith, ltb-true)));
      means = refused_means c.args.c _ _ c.args.out.now;
    }

pub returns : goal.returns
returns c =
    let facts = facts_in c.args.instance.now c.in_ok-facts.facts.count in
    let reading = reading_ok c.args.instance.now (length c.args.out.now) c.args.c facts c.in_ok-facts.ensures.reading (omega (arith, ltb-true, ltb-false)) (omega (arith, ltb-false)) in
    let is =
    ap (map fact_of) c.as_slice.ensures
    ∙ core_left c.args.c facts (map fact_of (elements c.read_distinct-left.result)) (map fact_of (elements c.thin.new.facts)) c.read_distinct-left.ensures c.thin.ensures in
    record {
      says = core_says c.args.c _ facts reading _ is (stored_short _) c.publish.result c.publish.ensures.count c.args.out.now _ c.publish.ensures.after;
      means = core_means c.args.c _ facts reading _ is (stored_short _) c.publish.result c.publish.ensures.count c.args.out.now _ c.publish.ensures.after;
    }
