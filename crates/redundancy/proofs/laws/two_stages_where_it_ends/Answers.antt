use Rattle.redundancy.proofs.Staged.{two_stages_where_it_ends}
use Rattle.redundancy.proofs.laws.two_stages_where_it_ends.Goals as goal

pub returns : goal.returns
returns c = two_stages_where_it_ends
