use Rattle.redundancy.proofs.Tgds.{tgds_never_fail}
use Rattle.redundancy.proofs.laws.tgds_never_fail.Goals as goal

pub returns : goal.returns
returns c = tgds_never_fail
