use Rattle.std.proofs.Common.{◌≡◌}
use Rattle.std.specs.List.{FoldsTo, zip}
use Rattle.relational.specs.Elements.{elements}
use Rattle.move_rows.proofs.model.bounded.Given as goal

abbrev pub invariant-loop-item : goal.invariant-loop-item
invariant-loop-item g l = record {
  count : l.made.count ≡ l.item-index;
  called : FoldsTo (λ before call after. goal.F-step g before call.0 call.1 after) l.initial.f (zip l.items (elements l.made)) l.f;
}
