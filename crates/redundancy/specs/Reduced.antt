-- Which of a list of dependencies can be left out, in order, each judged beside those that stay. These are definitions and statements: nothing is assumed.
use Rattle.std.specs.Prelude.{◌≡◌, List, [], ◌∷◌, ◌++◌}
use Rattle.relational.specs.Instances.{Within, Instance, Dependency}
use Rattle.relational.specs.Solutions.{Solution}
use Rattle.redundancy.specs.Implied.{Implies}

-- `stay` have been judged and stay, `rest` are still to be judged: a dependency goes if the others imply it; and `result` is what is left in the end
pub data Reduced : (stay rest result : List Dependency) → Type 0 where
  judged : {stay : List Dependency} → Reduced stay [] stay
  goes : {stay rest result : List Dependency} {d : Dependency} → Implies (stay ++ rest) d → Reduced stay rest result → Reduced stay (d ∷ rest) result
  remains : {stay rest result : List Dependency} {d : Dependency} → (Implies (stay ++ rest) d → ⊥) → Reduced (stay ++ d ∷ []) rest result → Reduced stay (d ∷ rest) result

-- what is left has the same solutions, and none of it is implied by the others
pub record Irredundant (ds result : List Dependency) : Type 0 where
  pub within : Within result ds
  pub same : (facts k : Instance) → (Solution facts ds k → Solution facts result k) × (Solution facts result k → Solution facts ds k)
  pub minimal : (before after : List Dependency) (d : Dependency) → result ≡ before ++ d ∷ after → Implies (before ++ after) d → ⊥

-- leaving out one by one is right
abbrev pub ReducedRight : Type 0
ReducedRight = (ds result : List Dependency) → Reduced [] ds result → Irredundant ds result
