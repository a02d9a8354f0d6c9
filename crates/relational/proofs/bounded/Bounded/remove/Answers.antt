use Rattle.std.proofs.Common.{arith}
use Rattle.relational.proofs.Closing.{closed_up}
use Rattle.relational.proofs.bounded.Bounded.remove.Goals as goal

pub returns-clause-elements : goal.returns-clause-elements
returns-clause-elements g c = closed_up c.args.self.now.items c.args.at c.args.self.now.count _ c.requires (omega (arith, c.args.self.now.few, c.args.self.now.full)) c.rotate_left.ensures.after
