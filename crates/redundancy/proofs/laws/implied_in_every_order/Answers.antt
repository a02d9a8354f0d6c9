use Rattle.redundancy.proofs.Implying.{implied_in_every_order}
use Rattle.redundancy.proofs.laws.implied_in_every_order.Goals as goal

pub returns : goal.returns
returns c = implied_in_every_order
