use Rattle.formats.proofs.Texts.{fact_more, next_fact, facts_all}
use Rattle.formats.proofs.lines.push_facts.Goals as goal

pub loop-preserved : goal.loop-preserved
loop-preserved c = (
  next_fact c.args.row.now c.loop.rest.now _ c.loop.counter c.loop.invariant.0 c.behind-rest-in-loop.ensures,
  fact_more c.args.c _ _ c.args.row.now c.loop.rest.now c.loop.counter c.args.count _ c.loop-test.true c.loop.invariant.0 c.loop.invariant.1 c.in_ok-push_fact.ensures,
)

pub returns : goal.returns
returns c = facts_all c.args.c _ _ c.args.row.now c.loop.counter c.args.count c.loop-test.false c.loop.invariant.1
