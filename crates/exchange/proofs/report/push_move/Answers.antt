use Rattle.std.proofs.Common.{rules}
use Rattle.formats.proofs.Texts.{retold}
use Rattle.exchange.proofs.Told.{done_told, impossible_told, refused_told}
use Rattle.exchange.proofs.report.push_move.Goals as goal

pub returns-in-Ok-Some : goal.returns-in-Ok-Some
returns-in-Ok-Some c =
    let t = done_told c.args.c _ c.in-Ok-Some.count _ c.move_facts.new.out (rw c.in-Ok-Some.field-0-is at c.in-Ok-Some.ensures.says) (rw c.in-Ok-Some.field-0-is at c.in-Ok-Some.ensures.means) in
    record { text = retold c.push_facts.result _ _ _ _ t.0 c.push_facts.ensures; means = t.1 }

pub returns-in-Ok-None : goal.returns-in-Ok-None
returns-in-Ok-None c =
    let t = impossible_told c.args.c _ _ c.move_facts.new.out (rw c.in-Ok-None.field-0-is at c.in-Ok-None.ensures.says) (rw c.in-Ok-None.field-0-is at c.in-Ok-None.ensures.means) in
    record { text = rw (← t.0) (search rules); means = t.1 }

pub returns-in-Err : goal.returns-in-Err
returns-in-Err c =
    let t = refused_told c.args.c _ c.in-Err.refusal _ c.move_facts.new.out c.in-Err.ensures.says in
    record { text = rw (← t.0) (search rules); means = t.1 }
