use Rattle.redundancy.proofs.Tgds.{tgds_only_add}
use Rattle.redundancy.proofs.laws.tgds_only_add.Goals as goal

pub returns : goal.returns
returns c = tgds_only_add
