-- Small examples of homomorphisms, cores, implied tgds and second stages: each of these holds somewhere and fails somewhere. Numbers below 100 are constants.
use Rattle.std.specs.Prelude.{◌≡◌, ℕ, [], ◌∷◌}
use Rattle.relational.specs.declared.term.Term.TheVariants.{Constant, Variable}
use Rattle.relational.specs.Instances.{Fact, Instance, Atom, Dependency, tgd}
use Rattle.relational.specs.Solutions.{Homomorphism}
use Rattle.redundancy.specs.Implied.{Implies}
use Rattle.redundancy.specs.TwoStages.{Apart}
use Rattle.redundancy.specs.Cores.{Core, core}

-- a fact of two values, and an atom of two variables
abbrev pub fact : (relation m n : ℕ) → Fact
fact r m n = record { relation = r; values = m ∷ n ∷ [] }

abbrev pub atom : (relation x y : ℕ) → Atom
atom r x y = record { relation = r; terms = Variable x ∷ Variable y ∷ [] }

-- of(x) for a variable
abbrev pub single : (of x : ℕ) → Atom
single r x = record { relation = r; terms = Variable x ∷ [] }

-- 0(x0 x1) → 1(x1 x2)
abbrev pub makes : Dependency
makes = tgd (atom 0 0 1 ∷ []) (atom 1 1 2 ∷ [])

-- 1(x0 x1) → 2(x0)
abbrev pub lists : Dependency
lists = tgd (atom 1 0 1 ∷ []) (single 2 0 ∷ [])

-- a tgd with an empty body, → 3(7 x0)
abbrev pub always : Dependency
always = tgd [] (record { relation = 3; terms = Constant 7 ∷ Variable 0 ∷ [] } ∷ [])

-- what a null says, and the same of a constant
abbrev pub said_twice : Instance
said_twice = fact 0 1 100 ∷ fact 0 1 5 ∷ []

-- THE TABLE
abbrev pub SmallExamples : Type 0
SmallExamples =
    -- a null goes to a constant
    Homomorphism 100 (fact 0 1 100 ∷ []) (fact 0 1 5 ∷ [])
    -- a constant goes to no other one
    × (Homomorphism 100 (fact 0 1 4 ∷ []) (fact 0 1 5 ∷ []) → ⊥)
    -- two nulls fold onto two others only together: 102 and 103 onto 100 and 101
    × (core 100 (fact 0 100 101 ∷ fact 0 101 100 ∷ fact 0 102 103 ∷ fact 0 103 102 ∷ []) ≡ fact 0 100 101 ∷ fact 0 101 100 ∷ [])
    -- constants stay where they are
    × (core 100 (fact 0 1 2 ∷ fact 0 2 1 ∷ fact 0 3 4 ∷ []) ≡ fact 0 1 2 ∷ fact 0 2 1 ∷ fact 0 3 4 ∷ [])
    -- a fact that stands twice stays where it stood first, and what a null says is not needed where a constant says it
    × (core 100 (fact 0 1 100 ∷ fact 1 2 3 ∷ fact 0 1 5 ∷ fact 1 2 3 ∷ []) ≡ fact 1 2 3 ∷ fact 0 1 5 ∷ [])
    -- what the constant says is a core
    × Core 100 said_twice (fact 0 1 5 ∷ [])
    -- all of it is none
    × (Core 100 said_twice said_twice → ⊥)
    -- whatever has 0(x0 x1) has 2(x1): only both together say so
    × Implies (makes ∷ lists ∷ []) (tgd (atom 0 0 1 ∷ []) (single 2 1 ∷ []))
    -- they do not give 2(x0)
    × (Implies (makes ∷ lists ∷ []) (tgd (atom 0 0 1 ∷ []) (single 2 0 ∷ [])) → ⊥)
    -- what always is there is there behind any body
    × Implies (always ∷ []) (tgd (atom 0 0 1 ∷ []) (atom 3 2 3 ∷ []))
    -- lists may come behind makes
    × Apart (makes ∷ []) (lists ∷ [])
    -- but not makes behind lists, which looks at what it gives
    × (Apart (lists ∷ []) (makes ∷ []) → ⊥)
