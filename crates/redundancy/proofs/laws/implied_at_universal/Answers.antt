use Rattle.redundancy.proofs.Implying.{implied_at_universal}
use Rattle.redundancy.proofs.laws.implied_at_universal.Goals as goal

pub returns : goal.returns
returns c = implied_at_universal
