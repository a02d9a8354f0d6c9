use Rattle.answer.proofs.Told.{row_more}
use Rattle.answer.proofs.report.push_rows.Goals as goal

pub loop-preserved : goal.loop-preserved
loop-preserved c =
    row_more c.args.c _ _ c.args.width c.min.result c.args.count c.loop.counter c.loop.rest.now _ _ _ c.loop-test.true c.min.ensures c.split_at.ensures.front c.split_at.ensures.back c.loop.invariant c.in_ok-push_row.ensures
