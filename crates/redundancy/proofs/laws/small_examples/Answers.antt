use Rattle.redundancy.proofs.Examples.{small_examples}
use Rattle.redundancy.proofs.laws.small_examples.Goals as goal

pub returns : goal.returns
returns c = small_examples
