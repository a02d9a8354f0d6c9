use Rattle.redundancy.proofs.Homomorphisms.{homomorphism_tested}
use Rattle.redundancy.proofs.laws.homomorphism_tested.Goals as goal

pub returns : goal.returns
returns c = homomorphism_tested
