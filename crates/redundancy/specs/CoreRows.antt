-- The core of the instance that a row holds, written to another row: step by step, and what that means. Refusals, the first that applies:
-- 1: the instance is cut short, has more than 320 facts, or one of them is malformed; at that fact, or at 320. 3: c is above 2^32, at 80.
-- 4: the row for the core is shorter than 1,921 numbers, at its length.
use Rattle.std.specs.Prelude.{◌≡◌, ℕ, ◌^◌, cond, List, length, Ok, Err, Result, nat_le, nat_lt}
use Rattle.relational.specs.declared.refusal.Refusal.{Refusal}
use Rattle.relational.specs.Instances.{Instance, Dependency, BelowAll, DependenciesBelow}
use Rattle.relational.specs.Readings.{facts_reading, said}
use Rattle.relational.specs.Rows.{replaced, stored}
use Rattle.relational.specs.Solutions.{Universal}
use Rattle.redundancy.specs.Cores.{core, Core, Distinct}

abbrev pub core_judged : Result Instance (ℕ × ℕ) → (room c : ℕ) → Result Instance (ℕ × ℕ)
core_judged (Err e) room c = Err e
core_judged (Ok facts) room c = cond (nat_lt (2 ^ 32) c) (Err (3, 80)) (cond (nat_le 1921 room) (Ok facts) (Err (4, room)))

-- the instance of a row whose core is to be written to a row of so many numbers, with numbers below c as constants; or its refusal
abbrev pub core_reading : (instance : List ℕ) (room c : ℕ) → Result Instance (ℕ × ℕ)
core_reading instance room c = core_judged (facts_reading 320 instance) room c

-- what is answered: how many facts the core has, which stands in the row and is read again there, and behind it everything is as it was; where it is refused,
-- the row is as it was
unfoldable pub CoreSays : ℕ → Result Instance (ℕ × ℕ) → Result ℕ Refusal → (before after : List ℕ) → Type 0
CoreSays c (Ok facts) (Ok n) before after = (n ≡ length (core c facts)) × (after ≡ replaced before (core c facts)) × (stored after ≡ core c facts)
CoreSays c (Ok facts) (Err e) before after = ⊥
CoreSays c (Err e) (Ok n) before after = ⊥
CoreSays c (Err e) (Err f) before after = (said f ≡ e) × (after ≡ before)

-- of whatever facts of constants and dependencies u is a universal solution, v is one
unfoldable pub UniversalToo : ℕ → (u v : Instance) → Type 0
UniversalToo c u v = (facts : Instance) (ds : List Dependency) → BelowAll c facts → DependenciesBelow c ds → Universal c facts ds u → Universal c facts ds v

-- what stands in the row then: a core of the instance that was read, in which no fact stands twice, and which is a universal solution wherever the instance is one
unfoldable pub CoreMeans : ℕ → Result Instance (ℕ × ℕ) → Result ℕ Refusal → (after : List ℕ) → Type 0
CoreMeans c reading (Ok n) after = (facts : Instance) × (reading ≡ Ok facts) × (n ≡ length (stored after)) × Core c facts (stored after) × Distinct (stored after) × UniversalToo c facts (stored after)
CoreMeans c reading (Err e) after = Unit {0}
