use Rattle.std.proofs.Common.{◌≡◌, ◌/◌, List, ℕ, [], ◌∷◌, ◌++◌, length, map, take, get_or, sym, ap, ap₂, ◌∙◌, rules, arith}
use Rattle.std.proofs.lemmas.List.{take_more, take_all, map-append}
use Rattle.std.specs.Simd.{first_chunks}
use Rattle.formats.proofs.Reading.{number_of, whole_fours}
use Rattle.formats.proofs.bytes.numbers.Goals as goal

pub loop-four-init : goal.loop-four-init
loop-four-init c = search rules

pub loop-four-preserved : goal.loop-four-preserved
loop-four-preserved c =
    let fours = c.as_chunks.result.0.now in
    let i = c.loop-four.four-index in
    let read : c.from.result ≡ number_of (get_or fours i []) = search rules in
    let more = take_more fours i [] (omega (arith, c.loop-four-test.true)) in
    c.in_ok-push.ensures.items
    ∙ ap₂ (λ (ms : List ℕ) (n : ℕ). ms ++ n ∷ []) c.loop-four.invariant read
    ∙ sym (ap (map number_of) more ∙ map-append number_of (take i fours) (get_or fours i [] ∷ []))

pub returns : goal.returns
returns c =
    let fours = c.as_chunks.result.0.now in
    let bytes = c.args.bytes.now in
    let all : take c.loop-four.four-index fours ≡ fours = take_all c.loop-four.four-index fours (omega (arith, c.loop-four-test.false)) in
    let front : fours ≡ first_chunks 4 (length bytes / 4) bytes = search rules in
    c.loop-four.invariant ∙ ap (map number_of) (all ∙ front) ∙ whole_fours bytes
