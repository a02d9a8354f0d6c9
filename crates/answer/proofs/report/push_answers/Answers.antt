use Rattle.std.proofs.Common.{ℕ, List, ◌∙◌, ap₂, rules}
use Rattle.query.specs.Answering.{rows_in}
use Rattle.formats.proofs.Texts.{retold}
use Rattle.formats.specs.Lines.{row_lines}
use Rattle.answer.proofs.Told.{done_told, impossible_told, refused_told}
use Rattle.answer.proofs.report.push_answers.Goals as goal

pub returns-in-Ok-Some : goal.returns-in-Ok-Some
returns-in-Ok-Some c =
    let e = c.in-Ok-Some.ensures in
    let t = done_told c.args.facts.now c.args.rules.now c.args.query.now c.args.c c.in-Ok-Some.count c.certain_answers.new.out (rw c.in-Ok-Some.field-0-is at e.result) e.memory (rw c.in-Ok-Some.field-0-is at e.means) in
    let rows = ap₂ {C = List ℕ} (λ (w : ℕ) (xs : List ℕ). row_lines c.args.c (rows_in w c.in-Ok-Some.count xs)) c.split_first-width.ensures.first c.behind.ensures in
    record { text = retold c.push_rows.result _ _ _ _ (rows ∙ t.0) c.push_rows.ensures; means = t.1 }

pub returns-in-Ok-None : goal.returns-in-Ok-None
returns-in-Ok-None c =
    let e = c.in-Ok-None.ensures in
    let t = impossible_told c.args.facts.now c.args.rules.now c.args.query.now c.args.c c.certain_answers.new.out (rw c.in-Ok-None.field-0-is at e.result) e.memory (rw c.in-Ok-None.field-0-is at e.means) in
    record { text = retold c.push_impossible.result _ _ _ _ t.0 c.push_impossible.ensures; means = t.1 }

pub returns-in-Err : goal.returns-in-Err
returns-in-Err c =
    let e = c.in-Err.ensures in
    let t = refused_told c.args.facts.now c.args.rules.now c.args.query.now c.args.c c.in-Err.refusal c.certain_answers.new.out e.result e.memory in
    record { text = rw (← t.0) (search rules); means = t.1 }
