use Rattle.redundancy.proofs.Pulled.{universal_carried}
use Rattle.redundancy.proofs.laws.universal_carried.Goals as goal

pub returns : goal.returns
returns c = universal_carried
