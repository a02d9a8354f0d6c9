use Rattle.std.proofs.Common.{◌≡◌, ℕ, ◌+◌, ◌<◌, not, Bool, List, [], ◌∷◌, ◌++◌, map, length, Ok, Result, sym, ap, ◌∙◌, subst, arith}
use Rattle.std.specs.List.{remove}
use Rattle.std.proofs.lemmas.List.{length-map}
use Rattle.std.proofs.lemmas.Result.{err_from_is_err_and}
use Rattle.relational.specs.Elements.{elements}
use Rattle.relational.specs.Instances.{Dependency}
use Rattle.relational.specs.Represented.{dependency_of}
use Rattle.relational.specs.Requests.{dependencies_of}
use Rattle.relational.specs.declared.dependency.Dependency as declared
use Rattle.redundancy.specs.Implications.{implication}
use Rattle.redundancy.specs.Reductions.{reduction_from}
use Rattle.redundancy.specs.Tgds.{OnlyTgds}
use Rattle.redundancy.proofs.Thinned.{removed_map}
use Rattle.redundancy.proofs.Removing.{JudgedSoFar, judging_begins, one_goes, one_stays, one_refused, judging_ends, others_tgds, tgd_at, item_at}
use Rattle.redundancy.proofs.redundant.judge_each.Goals as goal
use Rattle.redundancy.proofs.redundant.judge_each.Goals.{then-implied, else-implied, After-as_slice-all, After-remove, After-judge}

pub loop-asked-init : goal.loop-asked-init
loop-asked-init c =
    let ds = dependencies_of c.args.tgds.now in
    (rw (c.as_slice-all.ensures, c.new-stays.ensures.none) (judging_begins c.args.c ds), c.new-stays.ensures.count)

-- all of them are tgds
all_tgds : (c : After-as_slice-all) → OnlyTgds (map dependency_of c.as_slice-all.result.now)
all_tgds c = subst (λ (ds : List declared.Dependency). OnlyTgds (map dependency_of ds)) (sym c.as_slice-all.ensures) c.requires.tgds

-- what is answered of them is answered of the dependencies
answered : (c : After-as_slice-all) → reduction_from c.args.c [] (map dependency_of c.as_slice-all.result.now) ≡ reduction_from c.args.c [] (dependencies_of c.args.tgds.now)
answered c = ap (λ (ds : List declared.Dependency). reduction_from c.args.c [] (map dependency_of ds)) c.as_slice-all.ensures

-- what is left without the one that is asked about
others : (c : After-remove) → map dependency_of (elements c.remove.new.self) ≡ remove (map dependency_of (elements c.loop-asked.left)) c.loop-asked.at
others c = ap (map dependency_of) c.remove.ensures.elements ∙ removed_map dependency_of (elements c.loop-asked.left) c.loop-asked.at

-- what is told of the one that is asked about
asked_beside : (c : After-judge) → (es : List Dependency) → map dependency_of (elements c.remove.new.self) ≡ es →
    implication c.args.c (map dependency_of c.as_slice.result.now) (dependency_of c.asked-item.result) ≡ implication c.args.c es (dependency_of c.asked-item.result)
asked_beside c es e = ap (λ (ds : List Dependency). implication c.args.c ds (dependency_of c.asked-item.result)) (ap (map dependency_of) c.as_slice.ensures ∙ e)

pub judge-requires-clause-tgds : goal.judge-requires-clause-tgds
judge-requires-clause-tgds c =
    let es = ap (map dependency_of) c.as_slice.ensures ∙ others (goal.at.judge-requires-clause-tgds c).After-remove in
    others_tgds c.args.c (map dependency_of c.as_slice-all.result.now) (map dependency_of (elements c.loop-asked.left)) c.loop-asked.at c.loop-asked.asked-index (elements c.loop-asked.stays) _ c.loop-asked.invariant.0 (all_tgds (goal.at.judge-requires-clause-tgds c).After-as_slice-all) es

pub judge-requires-clause-asked : goal.judge-requires-clause-asked
judge-requires-clause-asked c =
    let items = c.as_slice-all.result.now in
    tgd_at (map dependency_of c.as_slice-all.result.now) c.loop-asked.asked-index (dependency_of c.asked-item.result) _ (all_tgds (goal.at.judge-requires-clause-asked c).After-as_slice-all) (omega (arith, length-map items dependency_of)) (item_at dependency_of items c.loop-asked.asked-index c.asked-item.result (omega arith) c.asked-item.is)

pub returns-in_err-implied : goal.returns-in_err-implied
returns-in_err-implied c =
    let items = c.as_slice-all.result.now in
    let ds = map dependency_of c.as_slice-all.result.now in
    let d = c.asked-item.result in
    let p = err_from_is_err_and c.from_residual.result c.from_residual.ensures.1 in
    let es = others (goal.at.returns-in_err-implied c).After-remove in
    rw (p.1, p.2) (one_refused c.args.c ds (map dependency_of (elements c.loop-asked.left)) c.loop-asked.at c.loop-asked.asked-index (elements c.loop-asked.stays) c.loop-asked.invariant.0 (omega (arith, length-map items dependency_of)) (dependency_of d) (dependency_of d)
    (item_at dependency_of items c.loop-asked.asked-index d (omega arith) c.asked-item.is) _ (c.in_err-implied.ensures ∙ asked_beside (goal.at.returns-in_err-implied c).After-judge _ es) ∙ answered (goal.at.returns-in_err-implied c).After-as_slice-all)

pub loop-asked-preserved : goal.loop-asked-preserved
loop-asked-preserved c =
    let items = c.as_slice-all.result.now in
    let ds = map dependency_of c.as_slice-all.result.now in
    let left = map dependency_of (elements c.loop-asked.left) in
    let at = c.loop-asked.at in
    let i = c.loop-asked.asked-index in
    let d = c.asked-item.result in
    let n : i < length ds = omega (arith, length-map items dependency_of) in
    let inv = c.loop-asked.invariant.0 in
    let es = others (goal.at.loop-asked-preserved c).After-remove in
    let told : ◌≡◌ {A = Result Bool (ℕ × ℕ)} (Ok c.in_ok-implied.implied) (implication c.args.c (remove left at) (dependency_of d)) = c.in_ok-implied.ensures ∙ asked_beside (goal.at.loop-asked-preserved c).After-judge _ es in
    let place = item_at dependency_of items i d (omega arith) c.asked-item.is in (
      elim c.if-implied.branch [
        | then-implied w ↦
            rw (w.left-is, w.at-is)
            (subst (λ (fs : List Bool). JudgedSoFar c.args.c ds (map dependency_of (elements c.remove.new.self)) at (i + 1) fs) (sym (c.push.ensures.elements ∙ ap (λ (b : Bool). elements c.loop-asked.stays ++ not b ∷ []) w.if-implied.true))
            (one_goes c.args.c ds left at i (elements c.loop-asked.stays) inv n (dependency_of d) (dependency_of d) place _ es (ap (λ (b : Bool). Ok b) (sym w.if-implied.true) ∙ told)))
        | else-implied w ↦
            rw (w.left-is, w.at-is)
            (subst (λ (fs : List Bool). JudgedSoFar c.args.c ds left (at + 1) (i + 1) fs) (sym (c.push.ensures.elements ∙ ap (λ (b : Bool). elements c.loop-asked.stays ++ not b ∷ []) w.if-implied.false))
            (one_stays c.args.c ds left at i (elements c.loop-asked.stays) inv n (dependency_of d) (dependency_of d) place (ap (λ (b : Bool). Ok b) (sym w.if-implied.false) ∙ told)))
      ],
      omega (arith, c.push.ensures.count, c.loop-asked.invariant.1),
    )

pub returns : goal.returns
returns c =
    let items = c.as_slice-all.result.now in
    judging_ends c.args.c (map dependency_of c.as_slice-all.result.now) _ c.loop-asked.at c.loop-asked.asked-index (elements c.loop-asked.stays) c.loop-asked.invariant.0 (omega (arith, length-map items dependency_of))
    ∙ answered (goal.at.returns c).After-as_slice-all
