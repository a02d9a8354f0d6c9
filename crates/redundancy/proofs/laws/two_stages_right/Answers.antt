use Rattle.redundancy.proofs.TwoStages.{two_stages_right}
use Rattle.redundancy.proofs.laws.two_stages_right.Goals as goal

pub returns : goal.returns
returns c = two_stages_right
