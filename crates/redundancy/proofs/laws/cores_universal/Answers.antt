use Rattle.redundancy.proofs.Retracts.{cores_universal}
use Rattle.redundancy.proofs.laws.cores_universal.Goals as goal

pub returns : goal.returns
returns c = cores_universal
