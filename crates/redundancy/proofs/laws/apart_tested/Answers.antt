use Rattle.redundancy.proofs.TwoStages.{apart_tested}
use Rattle.redundancy.proofs.laws.apart_tested.Goals as goal

pub returns : goal.returns
returns c = apart_tested
