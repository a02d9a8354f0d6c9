use Rattle.redundancy.proofs.Implying.{implied_where_it_ends}
use Rattle.redundancy.proofs.laws.implied_where_it_ends.Goals as goal

pub returns : goal.returns
returns c = implied_where_it_ends
