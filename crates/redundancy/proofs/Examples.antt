-- Small examples of homomorphisms, cores, implied tgds and second stages, by computation.
use Rattle.std.proofs.Common.{◌≡◌, ℕ, true, List, [], ◌∷◌, get_or, refl, ap, subst}
use Rattle.std.proofs.lemmas.Bool.{both_ways, eqb-false, ltb-true}
use Rattle.relational.specs.declared.term.Term.TheVariants.{Variable}
use Rattle.relational.specs.Instances.{here, Fact, Instance, Atom, tgd, DependencyBelow}
use Rattle.relational.specs.Solutions.{Homomorphism}
use Rattle.relational.specs.Terms.{term_small, terms_small}
use Rattle.relational.specs.Tests.{every}
use Rattle.relational.proofs.Admitted.{constants_below, dependencies_below}
use Rattle.relational.proofs.Members.{in_within, in_one, within_tail}
use Rattle.relational.proofs.Testing.{every_in}
use Rattle.matching.specs.Bindings.{put}
use Rattle.matching.specs.Matches.{match_terms, match_atom, matches_over, matches}
use Rattle.trigger.specs.Violations.{violation_among, first_from}
use Rattle.trigger.specs.Steps.{State, working, ready, number_terms, number_atoms, mend, steps}
use Rattle.redundancy.specs.Implied.{Implies, Tells, VariablesBelow, frozen_from, has_frozen_head, frozen_start}
use Rattle.redundancy.specs.TwoStages.{Apart, may_follow}
use Rattle.redundancy.specs.Cores.{Core, has_homomorphism, distinct_from, thinned, core}
use Rattle.redundancy.specs.Examples.{fact, atom, single, makes, lists, always, said_twice, SmallExamples}
use Rattle.redundancy.proofs.Tgds.{only_tgds_tested}
use Rattle.redundancy.proofs.Implying.{implied_where_it_ends}
use Rattle.redundancy.proofs.TwoStages.{apart_tested}
use Rattle.redundancy.proofs.Homomorphisms.{homomorphism_tested}
use Rattle.redundancy.proofs.Cores.{core_right}

-- HOMOMORPHISMS
null_goes : Homomorphism 100 (fact 0 1 100 ∷ []) (fact 0 1 5 ∷ [])
unfolding put match_terms match_atom matches_over matches has_homomorphism
null_goes = (homomorphism_tested 100 (fact 0 1 100 ∷ []) (fact 0 1 5 ∷ [])).0 refl

constant_stays : Homomorphism 100 (fact 0 1 4 ∷ []) (fact 0 1 5 ∷ []) → ⊥
unfolding put match_terms match_atom matches_over matches has_homomorphism
constant_stays h = both_ways (has_homomorphism 100 (fact 0 1 4 ∷ []) (fact 0 1 5 ∷ [])) refl ((homomorphism_tested 100 (fact 0 1 4 ∷ []) (fact 0 1 5 ∷ [])).1 h)

-- CORES
folds : core 100 (fact 0 100 101 ∷ fact 0 101 100 ∷ fact 0 102 103 ∷ fact 0 103 102 ∷ []) ≡ fact 0 100 101 ∷ fact 0 101 100 ∷ []
unfolding put match_terms match_atom matches_over matches has_homomorphism distinct_from thinned
folds = refl

stays : core 100 (fact 0 1 2 ∷ fact 0 2 1 ∷ fact 0 3 4 ∷ []) ≡ fact 0 1 2 ∷ fact 0 2 1 ∷ fact 0 3 4 ∷ []
unfolding put match_terms match_atom matches_over matches has_homomorphism distinct_from thinned
stays = refl

repeated : core 100 (fact 0 1 100 ∷ fact 1 2 3 ∷ fact 0 1 5 ∷ fact 1 2 3 ∷ []) ≡ fact 1 2 3 ∷ fact 0 1 5 ∷ []
unfolding put match_terms match_atom matches_over matches has_homomorphism distinct_from thinned
repeated = refl

once_enough : core 100 said_twice ≡ fact 0 1 5 ∷ []
unfolding put match_terms match_atom matches_over matches has_homomorphism distinct_from thinned
once_enough = refl

constant_core : Core 100 said_twice (fact 0 1 5 ∷ [])
constant_core = subst (Core 100 said_twice) once_enough (core_right 100 said_twice).0

-- the null's fact would have to be in what the constant says
whole_no_core : Core 100 said_twice said_twice → ⊥
whole_no_core k =
    let w = k.minimal (fact 0 1 5 ∷ []) (within_tail (fact 0 1 100) (fact 0 1 5 ∷ [])) constant_core.goes in
    let e : fact 0 1 100 ≡ fact 0 1 5 = in_one (in_within said_twice (fact 0 1 5 ∷ []) w (fact 0 1 100) here) in
    eqb-false 100 5 refl (ap (λ (f : Fact). get_or f.values 1 0) e)

-- IMPLIED TGDS
variables_below : (atoms : List Atom) → every (λ (a : Atom). terms_small a.terms) atoms ≡ true → VariablesBelow 16 atoms
unfolding VariablesBelow
variables_below atoms e x m =
    ltb-true x 16 (every_in term_small m.atom.terms (Variable x) (every_in (λ (a : Atom). terms_small a.terms) atoms m.atom e m.among) m.inside)

body : List Atom
body = atom 0 0 1 ∷ []

state : Instance → State
state facts = record { facts = facts; next = 117 }

-- the frozen facts, and what the two add: 116 is a null
two_facts : Instance
two_facts = fact 0 100 101 ∷ fact 1 101 116 ∷ record { relation = 2; values = 101 ∷ [] } ∷ []

two_chased : steps 4 116 (makes ∷ lists ∷ []) (working (frozen_start 100 16 body)) ≡ ready (state two_facts)
unfolding body state two_facts put match_terms match_atom matches_over matches violation_among first_from number_terms number_atoms mend steps
two_chased = refl

always_facts : Instance
always_facts = fact 0 100 101 ∷ fact 3 7 116 ∷ []

always_chased : steps 4 116 (always ∷ []) (working (frozen_start 100 16 body)) ≡ ready (state always_facts)
unfolding body state always_facts put match_terms match_atom matches_over matches violation_among first_from number_terms number_atoms mend steps
always_chased = refl

two_tell : (x : ℕ) → Tells 100 16 (makes ∷ lists ∷ []) body (single 2 x ∷ []) two_facts
unfolding body state DependencyBelow
two_tell x =
    implied_where_it_ends 100 16 4 (makes ∷ lists ∷ []) body (single 2 x ∷ []) (state two_facts) ((only_tgds_tested (makes ∷ lists ∷ [])).0 refl) (dependencies_below 100 (makes ∷ lists ∷ []) 0 refl)
    (constants_below 100 body refl, constants_below 100 (single 2 x ∷ []) refl) (variables_below body refl) two_chased

always_tell : Tells 100 16 (always ∷ []) body (atom 3 2 3 ∷ []) always_facts
unfolding body state DependencyBelow
always_tell =
    implied_where_it_ends 100 16 4 (always ∷ []) body (atom 3 2 3 ∷ []) (state always_facts) ((only_tgds_tested (always ∷ [])).0 refl) (dependencies_below 100 (always ∷ []) 0 refl)
    (constants_below 100 body refl, constants_below 100 (atom 3 2 3 ∷ []) refl) (variables_below body refl) always_chased

through_both : Implies (makes ∷ lists ∷ []) (tgd (atom 0 0 1 ∷ []) (single 2 1 ∷ []))
unfolding body two_facts put match_terms match_atom matches_over matches frozen_from
through_both = (two_tell 1).decided.0 refl

not_the_first : Implies (makes ∷ lists ∷ []) (tgd (atom 0 0 1 ∷ []) (single 2 0 ∷ [])) → ⊥
unfolding body two_facts put match_terms match_atom matches_over matches frozen_from
not_the_first i = both_ways (has_frozen_head 100 16 body (single 2 0 ∷ []) two_facts) refl ((two_tell 0).decided.1 i)

behind_any : Implies (always ∷ []) (tgd (atom 0 0 1 ∷ []) (atom 3 2 3 ∷ []))
unfolding body always_facts put match_terms match_atom matches_over matches frozen_from
behind_any = always_tell.decided.0 refl

-- SECOND STAGES
lists_second : Apart (makes ∷ []) (lists ∷ [])
lists_second = (apart_tested (makes ∷ []) (lists ∷ [])).0 refl

makes_not_second : Apart (lists ∷ []) (makes ∷ []) → ⊥
makes_not_second a = both_ways (every (may_follow (lists ∷ [])) (makes ∷ [])) refl ((apart_tested (lists ∷ []) (makes ∷ [])).1 a)

pub small_examples : SmallExamples
small_examples = (null_goes, constant_stays, folds, stays, repeated, constant_core, whole_no_core, through_both, not_the_first, behind_any, lists_second, makes_not_second)
