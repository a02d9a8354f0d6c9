use Rattle.redundancy.proofs.Retracts.{core_universal}
use Rattle.redundancy.proofs.laws.core_universal.Goals as goal

pub returns : goal.returns
returns c = core_universal
