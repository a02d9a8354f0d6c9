use Rattle.std.proofs.Common.{◌≡◌, ◌%◌, length, string_bytes, sym, subst, arith, rules}
use Rattle.numbers.specs.Meaning.{TextFor}
use Rattle.numbers.specs.Writing.{decoded}
use Rattle.numbers.proofs.Meant.{text_means, cut_means}
use Rattle.numbers.proofs.lines.decode.Goals as goal

pub returns-then-bytes-ne0-clause-means : goal.returns-then-bytes-ne0-clause-means
returns-then-bytes-ne0-clause-means c = cut_means c.args.bytes.now c.if-bytes-ne0.true

pub returns-clause-means : goal.returns-clause-means
returns-clause-means c =
    let whole : length c.args.bytes.now % 4 ≡ 0 = search rules in
    let text : string_bytes c.push_lines.new.out ≡ decoded c.args.bytes.now = search rules in
    subst (TextFor c.args.bytes.now) (sym text) (text_means c.args.bytes.now whole (λ i. omega (arith, c.type_inv.bytes i)))
