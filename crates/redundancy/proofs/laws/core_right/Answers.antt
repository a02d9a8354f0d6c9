use Rattle.redundancy.proofs.Cores.{core_right}
use Rattle.redundancy.proofs.laws.core_right.Goals as goal

pub returns : goal.returns
returns c = core_right
