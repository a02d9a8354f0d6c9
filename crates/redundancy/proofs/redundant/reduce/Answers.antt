use Rattle.relational.specs.Requests.{dependencies_of}
use Rattle.redundancy.specs.Reductions.{ReductionMeans}
use Rattle.redundancy.proofs.Asking.{tgds_known}
use Rattle.redundancy.proofs.Reducing.{reduction_refused, reduction_means}
use Rattle.redundancy.proofs.redundant.reduce.Goals as goal

pub returns-in_err-tgds-clause-means : goal.returns-in_err-tgds-clause-means
returns-in_err-tgds-clause-means c = reduction_refused c.args.rules.now c.from_residual.result c.from_residual.ensures.0

pub returns-in-Some-clause-means : goal.returns-in-Some-clause-means
unfolding ReductionMeans
returns-in-Some-clause-means c = tt

pub judge_each-requires-clause-tgds : goal.judge_each-requires-clause-tgds
judge_each-requires-clause-tgds c = (tgds_known c.args.rules.now (dependencies_of c.in_ok-tgds.tgds) c.in_ok-tgds.ensures).1

pub returns-clause-means : goal.returns-clause-means
returns-clause-means c = reduction_means c.args.rules.now c.args.c c.in_ok-tgds.tgds c.judge_each.result c.in_ok-tgds.ensures c.in_default.ensures c.judge_each.ensures
