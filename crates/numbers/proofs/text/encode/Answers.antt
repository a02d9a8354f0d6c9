use Rattle.std.proofs.Common.{◌≡◌, ℕ, ◌+◌, Err, get_or, vec_items, ◌∙◌, arith, rules}
use Rattle.numbers.specs.Reading.{after, ends_after}
use Rattle.numbers.specs.declared.failure.Failure.TheVariants.{Text}
use Rattle.numbers.specs.declared.refusal.Refusal.{Refusal}
use Rattle.numbers.proofs.Meant.{bytes_mean, refusal_means}
use Rattle.numbers.proofs.Turns.{InLine, turn, stops, ends, one_ended, none_ended}
use Rattle.numbers.proofs.text.encode.Goals as goal
use Rattle.numbers.proofs.text.encode.Goals.{then-c-eq10, else-c-eq10}

pub returns-in_err-next : goal.returns-in_err-next
returns-in_err-next c =
    let line : ℕ = c.loop-c.ended + 1 in
    let byte : ℕ = get_or c.args.text.now c.loop-c.c-index 0 in
    let f : Refusal = c.in_err-next.field-0.0 in
    let told : InLine line (after c.loop-c.inside byte) c.map_err.result = search rules in
    let made = stops c.args.text.now c.loop-c.c-index c.loop-c.ended c.loop-c.inside _ _ c.loop-c.invariant.1 c.map_err.result f c.loop-c-test.true told c.in_err-next.was in
    let out : c.from_residual.result ≡ Err (Text f) = search rules in
    rw out (record { exact = made; means = refusal_means c.args.text.now f made })

pub loop-c-preserved : goal.loop-c-preserved
loop-c-preserved c =
    let line : ℕ = c.loop-c.ended + 1 in
    let byte : ℕ = get_or c.args.text.now c.loop-c.c-index 0 in
    let told : InLine line (after c.loop-c.inside byte) c.map_err.result = search rules in
    let later : c.if-c-eq10.ended ≡ ends_after c.loop-c.ended byte =
    elim c.if-c-eq10.branch [ then-c-eq10 w ↦ w.ended-is ∙ one_ended c.loop-c.ended byte w.if-c-eq10.true | else-c-eq10 w ↦ w.ended-is ∙ none_ended c.loop-c.ended byte w.if-c-eq10.false ] in
    let same : c.if-c-eq10.inside ≡ c.in_ok-next.next = elim c.if-c-eq10.branch [ then-c-eq10 w ↦ w.inside-is | else-c-eq10 w ↦ w.inside-is ] in (
      elim c.if-c-eq10.branch [ then-c-eq10 w ↦ omega (arith, w.ended-is, c.loop-c.invariant.0) | else-c-eq10 w ↦ omega (arith, w.ended-is, c.loop-c.invariant.0) ],
      turn c.args.text.now c.loop-c.c-index c.loop-c.ended c.loop-c.inside _ _ c.loop-c.invariant.1 c.map_err.result c.in_ok-next.next _ _ _ c.loop-c-test.true told c.in_ok-next.was c.in_ok-push_closed.ensures same later,
    )

pub returns : goal.returns
returns c =
    let made = ends c.args.text.now c.loop-c.c-index c.loop-c.ended c.loop-c.inside _ _ c.loop-c.invariant.1 _ c.loop-c-test.false c.in_ok-push_closed-2.ensures in
    record { exact = made; means = bytes_mean c.args.text.now (vec_items c.push_closed-2.new.bytes) made }
