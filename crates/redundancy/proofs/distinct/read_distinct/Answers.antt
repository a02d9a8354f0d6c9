use Rattle.std.proofs.Common.{◌≡◌, ℕ, ◌+◌, ◌*◌, ◌<◌, [], ◌∷◌, ◌++◌, map, length, get_or, drop, Some, None, sym, ap, ◌∙◌, arith}
use Rattle.std.proofs.lemmas.List.{map_push}
use Rattle.relational.specs.Elements.{elements}
use Rattle.relational.specs.Instances.{Fact, Instance}
use Rattle.relational.specs.Layout.{facts_in}
use Rattle.relational.specs.Readings.{fact_at}
use Rattle.relational.specs.Represented.{fact_of}
use Rattle.relational.specs.Tests.{any}
use Rattle.relational.proofs.Rows.{row_at, fact_rest, length_facts_from}
use Rattle.redundancy.specs.Cores.{same_fact, distinct_from}
use Rattle.redundancy.specs.Mappings.{no_fact}
use Rattle.redundancy.proofs.Once.{distinct_old, distinct_new, distinct_all, contained}
use Rattle.redundancy.proofs.distinct.read_distinct.Goals as goal
use Rattle.redundancy.proofs.distinct.read_distinct.Goals.{then-not-contains, else-not-contains}

pub unreachable-requires : goal.unreachable-requires
unreachable-requires c =
    let n = length_facts_from c.args.row.now 0 c.args.count in
    let a = row_at 1 320 (fact_at c.args.row.now) c.args.row.now (facts_in c.args.row.now c.args.count) c.loop-i.i no_fact c.requires.read (omega (arith, n)) in
    let b = fact_rest (6 * c.loop-i.i + 1) c.args.row.now None c.in_default.ensures.value in
    let z : ◌≡◌ {A = ℕ} 0 1 = cc (a, b) in
    omega arith

pub loop-i-preserved : goal.loop-i-preserved
loop-i-preserved c =
    let facts : Instance = facts_in c.args.row.now c.args.count in
    let f : Fact = fact_of c.in-Some.fact in
    let seen : Instance = map fact_of (elements c.loop-i.facts) in
    let n = length_facts_from c.args.row.now 0 c.args.count in
    let l : c.loop-i.i < length facts = omega (arith, n) in
    let a = row_at 1 320 (fact_at c.args.row.now) c.args.row.now facts c.loop-i.i f c.requires.read l in
    let b = fact_rest (6 * c.loop-i.i + 1) c.args.row.now (Some f) c.in-Some.ensures.value in
    let is : get_or facts c.loop-i.i f ≡ f = cc (a, b) in
    let told : c.contains.result ≡ any (same_fact f) seen = c.contains.ensures.value ∙ ap (any _) c.as_slice.ensures ∙ contained c.in-Some.fact (elements c.loop-i.facts) in
    elim c.if-not-contains.branch [
      | then-not-contains w ↦
          let more : map fact_of (elements w.push.new.self) ≡ seen ++ f ∷ [] = ap (map fact_of) w.push.ensures.elements ∙ map_push fact_of (elements c.loop-i.facts) c.in-Some.fact in
          rw w.facts-is (
            ap (λ (gs : Instance). gs ++ distinct_from gs (drop (c.loop-i.i + 1) facts)) more ∙ distinct_new facts seen c.loop-i.i f l is (sym w.if-not-contains.true ∙ told) ∙ c.loop-i.invariant.0,
            omega (arith, c.loop-i.invariant.1, w.push.ensures.count),
          )
      | else-not-contains w ↦
          rw w.facts-is (distinct_old facts seen c.loop-i.i f l is (sym w.if-not-contains.false ∙ told) ∙ c.loop-i.invariant.0, omega (arith, c.loop-i.invariant.1))
    ]

pub returns : goal.returns
returns c =
    let n = length_facts_from c.args.row.now 0 c.args.count in
    distinct_all (facts_in c.args.row.now c.args.count) (map fact_of (elements c.loop-i.facts)) c.loop-i.i (omega (arith, n)) ∙ c.loop-i.invariant.0
