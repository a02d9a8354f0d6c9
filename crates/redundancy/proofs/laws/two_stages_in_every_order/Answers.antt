use Rattle.redundancy.proofs.TwoStages.{two_stages_in_every_order}
use Rattle.redundancy.proofs.laws.two_stages_in_every_order.Goals as goal

pub returns : goal.returns
returns c = two_stages_in_every_order
