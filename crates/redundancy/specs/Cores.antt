-- The core of an instance. Numbers below c are constants, the others are nulls. These are definitions and statements: nothing is assumed.
use Rattle.std.specs.Prelude.{ℕ, zero, suc, ◌-◌, Bool, cond, ◌&&◌, List, [], ◌∷◌, ◌++◌, map, length, Decides, ◌==◌, nat_eq, nat_lt}
use Rattle.std.specs.Cmp.Lexicographic.{pointwise}
use Rattle.std.specs.List.{remove}
use Rattle.relational.specs.declared.term.Term.{Term}
use Rattle.relational.specs.declared.term.Term.TheVariants.{Constant, Variable}
use Rattle.relational.specs.Instances.{In, Within, Fact, Instance, Atom, Dependency, BelowAll, DependenciesBelow}
use Rattle.relational.specs.Solutions.{Homomorphism, Universal}
use Rattle.relational.specs.Tests.{any}
use Rattle.matching.specs.Matches.{matches, not_empty}

-- the term that a value is in a pattern: a null is a variable, by its place among the nulls
abbrev pub as_term : ℕ → ℕ → Term
as_term c n = cond (nat_lt n c) (Constant n) (Variable (n - c))

-- the atom that a fact is in a pattern
abbrev pub as_atom : ℕ → Fact → Atom
as_atom c f = record { relation = f.relation; terms = map (as_term c) f.values }

-- whether there is a homomorphism: the facts of the first, read as atoms, have a match in the second
unfoldable pub has_homomorphism : ℕ → (from to : Instance) → Bool
has_homomorphism c from to = not_empty (matches (map (as_atom c) from) to [])

-- whether two rows of values are the same
abbrev pub same_values : List ℕ → List ℕ → Bool
same_values = pointwise nat_eq

-- whether two facts are the same
abbrev pub same_fact : Fact → Fact → Bool
same_fact f g = f.relation == g.relation && same_values f.values g.values

-- the facts that are not among those seen before them
unfoldable pub distinct_from : (seen facts : Instance) → Instance
distinct_from seen [] = []
distinct_from seen (f ∷ facts) = cond (any (same_fact f) seen) (distinct_from seen facts) (f ∷ distinct_from (seen ++ f ∷ []) facts)

-- each fact once, at its first place
abbrev pub distinct : Instance → Instance
distinct facts = distinct_from [] facts

-- of the first `count` facts of `left`, from the last to the first, each goes without which the instance still goes into the rest
unfoldable pub thinned : (c : ℕ) → Instance → (count : ℕ) → (left : Instance) → Instance
thinned c u zero left = left
thinned c u (suc i) left = thinned c u i (cond (has_homomorphism c u (remove left i)) (remove left i) left)

-- the core: facts that stand twice go, and then those that can be spared
abbrev pub core : ℕ → Instance → Instance
core c u = thinned c u (length (distinct u)) (distinct u)

-- no fact stands twice
abbrev pub Distinct : Instance → Type 0
Distinct [] = Unit {0}
Distinct (f ∷ facts) = (In f facts → ⊥) × Distinct facts

-- v is a core of u: a part into which u goes, and which goes into no part of itself that lacks a fact
pub record Core (c : ℕ) (u v : Instance) : Type 0 where
  pub within : Within v u
  pub goes : Homomorphism c u v
  pub minimal : (part : Instance) → Within part v → Homomorphism c v part → Within v part

-- the test is right: whether an instance goes into another can be decided
abbrev pub HomomorphismTested : Type 0
HomomorphismTested = (c : ℕ) (from to : Instance) → Decides (has_homomorphism c from to) (Homomorphism c from to)

-- the core is one, and no fact stands twice in it
abbrev pub CoreRight : Type 0
CoreRight = (c : ℕ) (u : Instance) → Core c u (core c u) × Distinct (core c u)

-- any core of a universal solution of facts of constants is a universal solution
abbrev pub CoresUniversal : Type 0
CoresUniversal =
    (c : ℕ) (facts : Instance) (ds : List Dependency) (u v : Instance) → BelowAll c facts → DependenciesBelow c ds → Universal c facts ds u → Core c u v → Universal c facts ds v

-- so is the one that is computed
abbrev pub CoreUniversal : Type 0
CoreUniversal =
    (c : ℕ) (facts : Instance) (ds : List Dependency) (u : Instance) → BelowAll c facts → DependenciesBelow c ds → Universal c facts ds u → Universal c facts ds (core c u)
