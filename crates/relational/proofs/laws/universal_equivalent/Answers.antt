use Rattle.relational.proofs.Universal.{universal_equivalent}
use Rattle.relational.proofs.laws.universal_equivalent.Goals as goal

pub returns : goal.returns
returns c = universal_equivalent
