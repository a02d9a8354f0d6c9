-- What fixed memory holds.
use Rattle.std.specs.Prelude.{ℕ, List, take}
use Rattle.relational.specs.declared.bounded.Bounded.{Bounded}

-- the elements that are there
abbrev pub elements : {T : Type 0} {N : ℕ} → Bounded T N → List T
elements b = take b.count b.items
