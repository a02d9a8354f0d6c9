use Rattle.std.proofs.Common.{◌≡◌, not, ◌∙◌, rules}
use borrow.Author.Tests.{tests}
use Rattle.std.specs.List.{position_from}
use Rattle.std.proofs.lemmas.Iterator.{YieldsList-from_slice}
use Rattle.std.proofs.lemmas.Iterator.Adapters.{position_from-zero}
use Rattle.std.proofs.lemmas.Iterator.Search.{position_from_yields_List}
use Rattle.relational.specs.declared.dependency.Dependency.{Dependency as Stored}
use Rattle.relational.specs.Represented.{dependency_of}
use Rattle.redundancy.specs.Tgds.{is_tgd}
use Rattle.redundancy.proofs.Positions.{first_is}
use Rattle.redundancy.proofs.rules.first_egd.Goals as goal

pub returns : goal.returns
returns c =
    let test = λ (d : Stored). not (is_tgd (dependency_of d)) in
    let found : c.position.result ≡ position_from test 0 c.args.dependencies.now =
    position_from_yields_List test _ _ c.position.result c.position.ensures.ran (YieldsList-from_slice c.args.dependencies.now cc) (λ x b q k. search (rules, tests))
    ∙ position_from-zero test c.args.dependencies.now in
    let same : c.map.result ≡ c.position.result = search rules in
    same ∙ found ∙ first_is is_tgd dependency_of c.args.dependencies.now 0
