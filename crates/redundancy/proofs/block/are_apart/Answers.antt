use Rattle.std.proofs.Common.{rules}
use borrow.Author.Tests.{tests}
use Rattle.std.proofs.lemmas.Iterator.{YieldsList-from_slice}
use Rattle.std.proofs.lemmas.Iterator.Search.{all_from_yields_List}
use Rattle.relational.specs.Represented.{fact_of}
use Rattle.redundancy.proofs.Blocked.{apart_decides}
use Rattle.redundancy.proofs.block.are_apart.Goals as goal

pub returns : goal.returns
returns c =
    apart_decides c.args.c (fact_of c.args.left.now) (fact_of c.args.right.now) c.all.result
    (all_from_yields_List _ c.all.new.self _ _ c.all.ensures.ran (YieldsList-from_slice (fact_of c.args.left.now).values cc) (λ x b q k. search (rules, tests)))
