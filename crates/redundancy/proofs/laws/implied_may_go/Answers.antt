use Rattle.redundancy.proofs.Implying.{implied_may_go}
use Rattle.redundancy.proofs.laws.implied_may_go.Goals as goal

pub returns : goal.returns
returns c = implied_may_go
