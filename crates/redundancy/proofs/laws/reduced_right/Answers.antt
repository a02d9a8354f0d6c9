use Rattle.redundancy.proofs.Reduced.{reduced_right}
use Rattle.redundancy.proofs.laws.reduced_right.Goals as goal

pub returns : goal.returns
returns c = reduced_right
