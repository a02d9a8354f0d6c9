use Rattle.relational.proofs.Universal.{no_solution_of_more}
use Rattle.relational.proofs.laws.no_solution_of_more.Goals as goal

pub returns : goal.returns
returns c = no_solution_of_more
