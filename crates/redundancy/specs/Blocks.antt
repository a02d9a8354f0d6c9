-- Blocks of an instance: facts that are connected through the nulls that they share. Numbers from c on are nulls.
use Rattle.std.specs.Prelude.{◌≡◌, ℕ, ◌<◌, ◌≤◌, List, length, get_or, take, drop, slice_index, slice_index_or}
use Rattle.relational.specs.Instances.{In, Fact, Instance}
use Rattle.redundancy.specs.Mappings.{no_fact, Places}

-- no null stands in both facts
unfoldable pub NoSharedNull : ℕ → Fact → Fact → Type 0
NoSharedNull c f g = (n : ℕ) → In n f.values → In n g.values → n < c

-- an order of all places of which the first `count` hold a given place, and whatever shares a null with one of them
pub record Block (c : ℕ) (facts : Instance) (place : ℕ) (order : List ℕ) (count : ℕ) : Type 0 where
  pub places : Places (length facts) order
  pub all : (i : ℕ) → i < length facts → In i order
  pub few : count ≤ length order
  pub has : In place (take count order)
  pub closed : (i j : ℕ) → In i (drop count order) → In j (take count order) → NoSharedNull c (slice_index_or facts i no_fact) (slice_index_or facts j no_fact)

-- such an order while it is found, by positions: what shares a null with one of the first k has been put among the first `count`
pub record Arranged (c : ℕ) (facts : Instance) (place : ℕ) (order : List ℕ) (k count : ℕ) : Type 0 where
  pub places : (p : ℕ) → p < length order → slice_index order p < length facts
  pub all : (i : ℕ) → i < length facts → (p : ℕ) × (p < length order) × (slice_index order p ≡ i)
  pub some : 0 < count
  pub few : count ≤ length order
  pub first : get_or order 0 0 ≡ place
  pub closed : (p q : ℕ) → count ≤ p → p < length order → q < k → NoSharedNull c (slice_index_or facts (slice_index order p) no_fact) (slice_index_or facts (slice_index order q) no_fact)
