use Rattle.std.proofs.Common.{rules}
use Rattle.move_rows.proofs.Zipped.{zip_none, called_once_more}
use Rattle.move_rows.proofs.model.bounded.Goals as goal

pub loop-item-init : goal.loop-item-init
loop-item-init g c = search (rules, zip_none)

pub loop-item-preserved : goal.loop-item-preserved
loop-item-preserved g c = search (rules, called_once_more)
