-- Which of a list of tgds stay when those go that the others imply: step by step, and what that means. The numbers below c are constants. Refusals, the first that
-- applies: 2: the rules are malformed, or the first of them that is an egd. 3: c is above 2^32, at 80; or a constant that is not below c, at 64 and the place of the
-- rule. 5: a chase was given up after 128 steps, at 128.
use Rattle.std.specs.Prelude.{◌≡◌, ℕ, Bool, true, false, List, [], ◌∷◌, ◌++◌, length, Ok, Err, Result}
use Rattle.relational.specs.Instances.{Dependency}
use Rattle.relational.specs.Readings.{dependencies_reading}
use Rattle.relational.specs.declared.bounded.Bounded.{Bounded}
use Rattle.relational.specs.declared.refusal.Refusal.{Refusal}
use Rattle.relational.specs.Elements.{elements}
use Rattle.redundancy.specs.Implications.{unless_at, tgds_reading, tgds_fault, implication}
use Rattle.redundancy.specs.Reduced.{Reduced, Irredundant}

-- one more flag in front
abbrev pub flagged : Bool → Result (List Bool) (ℕ × ℕ) → Result (List Bool) (ℕ × ℕ)
flagged b (Ok flags) = Ok (b ∷ flags)
flagged b (Err e) = Err e

-- a tgd that is implied goes, another one stays; `gone` and `stayed` have the flags of the others
abbrev pub next_flagged : Result Bool (ℕ × ℕ) → (gone stayed : Result (List Bool) (ℕ × ℕ)) → Result (List Bool) (ℕ × ℕ)
next_flagged (Ok true) gone stayed = flagged false gone
next_flagged (Ok false) gone stayed = flagged true stayed
next_flagged (Err e) gone stayed = Err e

-- `stay` have been judged and stay, `rest` are judged one after the other, each beside those that stay and those still to be judged; a chase that is given up is refused
unfoldable pub reduction_from : ℕ → (stay rest : List Dependency) → Result (List Bool) (ℕ × ℕ)
reduction_from c stay [] = Ok []
reduction_from c stay (d ∷ rest) = next_flagged (implication c (stay ++ rest) d) (reduction_from c stay rest) (reduction_from c (stay ++ d ∷ []) rest)

-- what is answered of tgds that were read
abbrev pub tgds_reduced : ℕ → Result (List Dependency) (ℕ × ℕ) → Result (List Bool) (ℕ × ℕ)
tgds_reduced c (Err e) = Err e
tgds_reduced c (Ok ds) = unless_at 3 (tgds_fault c ds) (reduction_from c [] ds)

-- what is answered of a row of rules
abbrev pub reduction_answered : (rules : List ℕ) (c : ℕ) → Result (List Bool) (ℕ × ℕ)
reduction_answered rules c = tgds_reduced c (tgds_reading rules)

-- those that are flagged
abbrev pub staying : {A : Type 0} → List Bool → List A → List A
staying [] xs = []
staying (b ∷ flags) [] = []
staying (true ∷ flags) (x ∷ xs) = x ∷ staying flags xs
staying (false ∷ flags) (x ∷ xs) = staying flags xs

-- there is a flag for each tgd that was read; those that stay are what is left when they are judged in order: the same instances are solutions, and none of them
-- is implied by the others
pub record Reduces (rules : List ℕ) (flags : List Bool) : Type 0 where
  pub tgds : List Dependency
  pub rules_read : dependencies_reading rules ≡ Ok tgds
  pub each : length flags ≡ length tgds
  pub reduced : Reduced [] tgds (staying flags tgds)
  pub irredundant : Irredundant tgds (staying flags tgds)

-- what an answer means
unfoldable pub ReductionMeans : List ℕ → Result (Bounded Bool 16) Refusal → Type 0
ReductionMeans rules (Ok r) = Reduces rules (elements r)
ReductionMeans rules (Err e) = Unit {0}
