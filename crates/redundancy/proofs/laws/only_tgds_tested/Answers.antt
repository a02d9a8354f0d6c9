use Rattle.redundancy.proofs.Tgds.{only_tgds_tested}
use Rattle.redundancy.proofs.laws.only_tgds_tested.Goals as goal

pub returns : goal.returns
returns c = only_tgds_tested
